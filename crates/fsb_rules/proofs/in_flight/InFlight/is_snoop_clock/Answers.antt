use Rattle.std.proofs.Common.{◌≡◌, None, sym, slice_get}
use Rattle.fsb_rules.proofs.Queue.{asks_none}
use Rattle.fsb_rules.proofs.in_flight.InFlight.is_snoop_clock.Goals as goal

pub returns-in-None : goal.returns-in-None
returns-in-None c = λ h a.
    let e : slice_get c.args.self.now.asking.items 0 ≡ None =
    sym (rw (c.in-None.is, c.as_slice.ensures.value) at c.first.ensures.value) in
    sym (asks_none a.stands e)
