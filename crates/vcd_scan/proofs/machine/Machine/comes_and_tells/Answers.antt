use Rattle.std.proofs.Common.{refl}
use Rattle.vcd_course.specs.Told.{FitsCourse}
use Rattle.vcd_scan.specs.Told.{rules_in, events_told}
use Rattle.vcd_scan.proofs.Events.{told_none, told_some}
use Rattle.vcd_scan.proofs.machine.Machine.comes_and_tells.Goals as goal

pub returns-in-None-clause-told : goal.returns-in-None-clause-told
returns-in-None-clause-told c =
    let old = c.args.self.now in
    let fits : FitsCourse (rules_in old) old.course = record { edge = refl; takes_first = refl; late = refl } in
    told_none (events_told old.told.items) c.comes-event.result _ c.in-None.is
    (c.comes-event.ensures.told (rules_in old) fits)

pub returns-in_ok-push-in-Some-clause-told : goal.returns-in_ok-push-in-Some-clause-told
returns-in_ok-push-in-Some-clause-told c =
    let old = c.args.self.now in
    let fits : FitsCourse (rules_in old) old.course = record { edge = refl; takes_first = refl; late = refl } in
    told_some old.told.items c.push.new.self.items c.in-Some.event c.comes-event.result _ c.in-Some.is
    (c.comes-event.ensures.told (rules_in old) fits) c.in_ok-push-in-Some.ensures.items
