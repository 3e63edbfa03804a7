use Rattle.std.proofs.Common.{◌≡◌, Some, None, sym, slice_get, arith}
use Rattle.std.proofs.lemmas.Grind.{common_steps}
use Rattle.fsb_rules.proofs.Queue.{may_first, may_none}
use Rattle.fsb_rules.proofs.in_flight.InFlight.may_answer.Goals as goal

pub returns-then-is_two_before : goal.returns-then-is_two_before
returns-then-is_two_before c = λ h a.
    let e : slice_get c.args.self.now.waiting.items 0 ≡ Some c.in-Some.snooped.now =
    sym (rw (c.in-Some.is, c.as_slice.ensures.value) at c.first.ensures.value) in
    let k = c.chunks.ensures h a.stands.heads in grind (arith, common_steps, may_first a.stands e)

pub returns-else-is_two_before : goal.returns-else-is_two_before
returns-else-is_two_before c = λ h a.
    let e : slice_get c.args.self.now.waiting.items 0 ≡ Some c.in-Some.snooped.now =
    sym (rw (c.in-Some.is, c.as_slice.ensures.value) at c.first.ensures.value) in
    grind (arith, common_steps, may_first a.stands e)

pub returns-in-None : goal.returns-in-None
returns-in-None c = λ h a.
    let e : slice_get c.args.self.now.waiting.items 0 ≡ None =
    sym (rw (c.in-None.is, c.as_slice.ensures.value) at c.first.ensures.value) in
    sym (may_none a.stands e)
