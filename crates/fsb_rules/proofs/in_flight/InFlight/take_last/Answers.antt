use Rattle.std.proofs.Common.{sym, ◌∙◌}
use Rattle.fsb_rules.proofs.QueueGoes.{last_kept}
use Rattle.fsb_rules.proofs.in_flight.InFlight.take_last.Goals as goal

pub returns-else-responds-clause-last : goal.returns-else-responds-clause-last
returns-else-responds-clause-last c = λ h t. last_kept t (sym c.responds.ensures ∙ c.if-responds.false)
