use Rattle.std.proofs.Common.{sym, ◌∙◌, arith}
use Rattle.std.proofs.lemmas.Bool.{both_ways}
use Rattle.std.proofs.lemmas.Grind.{common_steps}
use Rattle.fsb_laws.specs.Progress.{response_count}
use Rattle.fsb_rules.proofs.QueueGoes.{moves_told}
use Rattle.fsb_rules.proofs.QueueRules.{answers_in_time}
use Rattle.fsb_rules.proofs.in_flight.InFlight.begins_data.Goals as goal

pub returns-in-Some : goal.returns-in-Some
returns-in-Some c = λ h t.
    moves_told t _ (λ r. let told = c.told_by.ensures h (response_count h) (c.in-Some.ensures.snooped h t.here) in
    grind (arith, common_steps))

pub returns-in-None : goal.returns-in-None
returns-in-None c = λ h t.
    absurd (both_ways _ (sym (c.in-None.ensures.there h t.here))
    (answers_in_time t (sym c.responds.ensures ∙ c.if-responds.true)))
