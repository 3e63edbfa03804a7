use Rattle.std.proofs.Common.{sym, ◌∙◌}
use Rattle.std.proofs.lemmas.Bool.{both_ways}
use Rattle.fsb_rules.proofs.QueueGoes.{last_kept, last_new}
use Rattle.fsb_rules.proofs.QueueRules.{answers_in_time}
use Rattle.fsb_rules.proofs.in_flight.InFlight.last_with.Goals as goal

pub returns-in-Some : goal.returns-in-Some
returns-in-Some c = λ h t. last_new t (sym c.responds.ensures ∙ c.if-responds.true) (c.in-Some.ensures.snooped h t.here)

pub returns-in-None : goal.returns-in-None
returns-in-None c = λ h t.
    absurd (both_ways _ (sym (c.in-None.ensures.there h t.here))
    (answers_in_time t (sym c.responds.ensures ∙ c.if-responds.true)))

pub returns-else-responds : goal.returns-else-responds
returns-else-responds c = λ h t. last_kept t (sym c.responds.ensures ∙ c.if-responds.false)
