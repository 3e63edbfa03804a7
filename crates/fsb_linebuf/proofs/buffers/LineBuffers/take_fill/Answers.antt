use Rattle.std.proofs.Common.{sym, ap, ◌∙◌, ◌≢◌, ◌<◌, length}
use Rattle.std.specs.List.{position}
use Rattle.std.proofs.lemmas.List.Quantifiers.{all_pairs_remove, position-Some}
use Rattle.fsb_linebuf.specs.Buffers.{is_fill_on}
use Rattle.fsb_linebuf.proofs.buffers.LineBuffers.take_fill.Goals as goal

pub invariant_of-self : goal.invariant_of-self
invariant_of-self c =
    let fills = c.self.inside.fills.items in
    let within : c.in_ok-place.place < length fills =
    (position-Some (is_fill_on c.args.line) fills c.in_ok-place.place c.remove.result
    (ap (λ v. position (is_fill_on c.args.line) v.fills) c.self.view_is ∙ sym c.fill_place.ensures
    ∙ c.in_ok-place.was)).0 in
    rw c.remove.ensures.items
    (all_pairs_remove (λ x y. x.line ≢ y.line) fills c.in_ok-place.place within c.self.invariant)
