use Rattle.std.proofs.Common.{◌≡◌, ◌++◌, refl, sym, ap, subst, ◌∙◌, append-nil}
use Rattle.std.specs.Prelude.{IfSome}
use Rattle.std.proofs.lemmas.Result.{on_ok_weaker}
use Rattle.vcd_course.specs.Told.{FitsCourse}
use Rattle.vcd_scan.specs.Told.{rules_in, events_told}
use Rattle.vcd_scan.specs.Lined.{AreLined}
use Rattle.vcd_scan.proofs.machine.Machine.resumes.Goals as goal

pub returns-clause-told : goal.returns-clause-told
returns-clause-told c =
    let old = c.args.self.now in
    let fits : FitsCourse (rules_in old) old.course = record { edge = refl; takes_first = refl; late = refl } in
    on_ok_weaker c.tell.result
    (λ h. h ∙ ap (λ x. events_told old.told.items ++ x)
    (c.switches-event.ensures.told (rules_in old) fits ∙ sym (append-nil _))) c.tell.ensures.told

pub returns-clause-wires : goal.returns-clause-wires
returns-clause-wires c = c.tell.ensures.wires

pub tell-requires-clause-last : goal.tell-requires-clause-last
tell-requires-clause-last c =
    subst (λ s. IfSome c.switches-event.result.0 (λ e. e.stamp ≡ s)) (sym c.switches-event.ensures.stamp)
    c.switches-event.ensures.last

pub tell-requires-clause-switch : goal.tell-requires-clause-switch
tell-requires-clause-switch c = c.switches-event.ensures.switch ∙ sym c.switches-event.ensures.stamp

pub returns-clause-lines : goal.returns-clause-lines
returns-clause-lines c =
    on_ok_weaker c.tell.result
    (λ h. λ text l. h text (subst (λ last. AreLined text (record { last = last; told = c.args.self.now.told.items }))
    (sym c.switches-event.ensures.stamp) l)) c.tell.ensures.lines
