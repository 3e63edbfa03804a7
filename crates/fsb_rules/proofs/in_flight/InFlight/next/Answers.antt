use Rattle.std.proofs.Common.{◌≡◌, None, sym, slice_get}
use Rattle.fsb_rules.proofs.Queue.{may_none}
use Rattle.fsb_rules.proofs.in_flight.InFlight.next.Goals as goal

pub returns-in-None-clause-there : goal.returns-in-None-clause-there
returns-in-None-clause-there c = λ h a.
    let e : slice_get c.args.self.now.waiting.items 0 ≡ None =
    sym (rw (c.in-None.is, c.as_slice.ensures.value) at c.first.ensures.value) in
    sym (may_none a.stands e)
