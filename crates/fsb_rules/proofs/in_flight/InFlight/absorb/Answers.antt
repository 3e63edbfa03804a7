use Rattle.std.proofs.Common.{sym, ◌∙◌}
use Rattle.fsb_rules.proofs.QueueGoes.{queue_stays}
use Rattle.fsb_rules.proofs.in_flight.InFlight.absorb.Goals as goal

pub returns-else-not-stays : goal.returns-else-not-stays
returns-else-not-stays c = λ h g. queue_stays g (sym (c.stays.ensures h g.in_time.here) ∙ c.if-not-stays.false)
