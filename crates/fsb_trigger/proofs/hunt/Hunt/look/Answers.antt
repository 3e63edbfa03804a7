use Rattle.std.proofs.Common.{◌≡◌, ℕ, false, is_some, Option, None, Some, List, length, refl, sym, ap, ◌∙◌}
use Rattle.fsb_trigger.specs.Hunt.{kept, steps_in}
use Rattle.fsb_trigger.proofs.Least.{found-stays, least-new}
use Rattle.fsb_trigger.proofs.hunt.Hunt.look.Goals as goal

pub returns-then-is_some-clause-finds : goal.returns-then-is_some-clause-finds
returns-then-is_some-clause-finds c = λ h k.
    let self = c.args.self.now in
    found-stays (steps_in self.trigger) h c.args.sample.now (length (steps_in self.trigger)) self.found
    (sym c.is_some.ensures ∙ c.if-is_some.true) k.finds

not_found : (found : Option (List ℕ)) → is_some found ≡ false → found ≡ None
not_found None e = refl
not_found (Some clocks) e = absurd (let no : ⊥ = cc in no)

pub returns-clause-finds : goal.returns-clause-finds
returns-clause-finds c = λ h k.
    let self = c.args.self.now in
    let steps = steps_in self.trigger in
    let none = not_found self.found (sym c.is_some.ensures ∙ c.if-is_some.false) in
    c.match_at-found.ensures.newest h k.counts (k.keeps none)
    ∙ sym (least-new steps h c.args.sample.now (sym k.finds ∙ ap (kept (length steps)) none))
