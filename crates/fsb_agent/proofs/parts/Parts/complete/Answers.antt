use Rattle.std.proofs.Common.{◌≡◌, Some, sym, ap, ◌∙◌, arith}
use Rattle.std.specs.Prelude.{slice_get}
use Rattle.std.proofs.lemmas.Option.{slice_get-get_or}
use Rattle.fsb_agent.specs.Parts.{parts_view}
use Rattle.fsb_agent.proofs.Entries.{length-completed}
use Rattle.fsb_agent.proofs.parts.Parts.complete.Goals as goal

pub returns-clause-spare : goal.returns-clause-spare
returns-clause-spare c =
    let items = c.args.self.now.script in
    let there : slice_get c.args.self.now.script c.args.self.now.place ≡ Some c.index-items-self.result =
    slice_get-get_or c.args.self.now.script c.args.self.now.place c.index-items-self.result c.requires.there
    ∙ ap Some (ap (λ xs. Rattle.std.specs.Prelude.slice_index_or xs c.args.self.now.place
    c.index-items-self.result) (sym c.as_slice-items.ensures) ∙ sym c.index-items-self.is) in
    omega (
      arith,
      length-completed (parts_view c.args.self.now) c.args.clock c.index-items-self.result there,
      c.serve_item.ensures.spare,
    )
