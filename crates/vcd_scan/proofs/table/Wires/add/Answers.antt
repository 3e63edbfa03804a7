use Rattle.std.proofs.Common.{ap, ◌∙◌}
use Rattle.vcd_grammar.specs.Words.{same}
use Rattle.vcd_scan.specs.CodePlaces.{first_of}
use Rattle.vcd_scan.proofs.WireLemmas.{first_put}
use Rattle.vcd_scan.proofs.table.Wires.add.Goals as goal

pub invariant_of-self-2 : goal.invariant_of-self-2
invariant_of-self-2 c =
    let size = c.len.ensures ∙ c.reserve.ensures.len ∙ c.args.self.now.wires.ok.0 in
    record {
      of_table = c.args.self.now.of_table;
      placed = λ code. c.in_ok-add.ensures.added code
          ∙ ap (λ o. first_of o (same c.args.code.now code) c.len.result) (c.args.self.now.placed code)
          ∙ first_put c.args.self.now.wires.items _ _ _ c.args.code.now code c.len.result
          c.push_reserved.ensures.items c.reserve.ensures.items c.in_ok-word.ensures size;
    }
