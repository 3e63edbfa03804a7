use Rattle.std.proofs.Common.{false, [], ◌∷◌, ◌++◌, length, subst, sym, ◌∙◌}
use Rattle.std.proofs.lemmas.Bool.{both_ways}
use Rattle.std.proofs.lemmas.Option.{same_Some}
use Rattle.fsb_laws.specs.Progress.{response_count}
use Rattle.fsb_rules.specs.Endings.{EndsAlone, SaysEnded}
use Rattle.fsb_rules.proofs.Endings.{ended_last, ended_new, ended_none}
use Rattle.fsb_rules.proofs.QueueRules.{answers_in_time}
use Rattle.fsb_rules.proofs.in_flight.InFlight.ended.Goals as goal

pub returns-in-Some : goal.returns-in-Some
returns-in-Some c = λ h t.
    let s = c.in-Some.ensures.snooped h t.here in
    subst (SaysEnded (h ++ c.args.sample.now ∷ []) (length h)) (sym (c.ended_at_once.ensures h (response_count h) s))
    (ended_new t c.response.result c.response.ensures (sym c.responds.ensures ∙ c.if-responds.true) s)

pub returns-in-None : goal.returns-in-None
returns-in-None c = λ h t.
    absurd (both_ways _ (sym (c.in-None.ensures.there h t.here))
    (answers_in_time t (sym c.responds.ensures ∙ c.if-responds.true)))

pub returns-in-Some-last : goal.returns-in-Some-last
returns-in-Some-last c = λ h t.
    let quiet = sym c.responds.ensures ∙ c.if-responds.false in
    let p = ended_last t quiet
    (sym (c.ends_data.ensures h t.here.stands t.here.orderly quiet) ∙ c.if-ends_data.true) in
    subst (λ a. EndsAlone (h ++ c.args.sample.now ∷ []) (length h) (record { request = a; is_deferred = false }))
    (same_Some _ _ (sym p.1 ∙ c.in-Some-last.is)) p.2

pub returns-in-None-last : goal.returns-in-None-last
returns-in-None-last c = λ h t.
    let quiet = sym c.responds.ensures ∙ c.if-responds.false in
    let p = ended_last t quiet
    (sym (c.ends_data.ensures h t.here.stands t.here.orderly quiet) ∙ c.if-ends_data.true) in
    let last = p.1 in absurd (let no : ⊥ = cc in no)

pub returns-else-ends_data : goal.returns-else-ends_data
returns-else-ends_data c = λ h t.
    let quiet = sym c.responds.ensures ∙ c.if-responds.false in
    ended_none t quiet (sym (c.ends_data.ensures h t.here.stands t.here.orderly quiet) ∙ c.if-ends_data.false)
