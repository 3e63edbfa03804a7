use Rattle.std.proofs.Common.{◌∷◌, [], length-append, arith}
use Rattle.vcd_course.specs.Told.{event_told}
use Rattle.scope_check.proofs.Counting.{parted-few}
use Rattle.scope_explain.proofs.explainer.ExplainerEventWatcher.see.Goals as goal

pub returns-in-Ok-Some-clause-many : goal.returns-in-Ok-Some-clause-many
returns-in-Ok-Some-clause-many c = λ e first es s.
    let full = c.feed.ensures.many e first.marks s.samples s.stands in
    let few = parted-few c.args.self.now.parting first.part es s.samples s.parted in
    omega (arith, full, few, length-append es (event_told c.args.event.now ∷ []))

pub returns-in-Err-clause-many : goal.returns-in-Err-clause-many
returns-in-Err-clause-many c = λ e first es s.
    let full = c.in-Err.ensures.many first.part es s.samples s.parted in
    omega (arith, full, length-append es (event_told c.args.event.now ∷ []))
