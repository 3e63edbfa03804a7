use Rattle.std.proofs.Common.{refl}
use Rattle.vcd_course.specs.Told.{FitsCourse}
use Rattle.vcd_scan.specs.Told.{rules_in, events_told}
use Rattle.vcd_scan.proofs.Events.{told_nothing}
use Rattle.vcd_scan.proofs.machine.Machine.comes.Goals as goal

pub returns-else-tells-clause-told : goal.returns-else-tells-clause-told
returns-else-tells-clause-told c =
    let old = c.args.self.now in
    let fits : FitsCourse (rules_in old) old.course = record { edge = refl; takes_first = refl; late = refl } in
    told_nothing (events_told old.told.items) _ (c.if-tells.ensures.silent refl (rules_in old) fits)
