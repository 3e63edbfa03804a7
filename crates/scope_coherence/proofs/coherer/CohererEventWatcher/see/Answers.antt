use Rattle.std.proofs.Common.{◌∷◌, ◌++◌, [], length-append, arith, subst}
use Rattle.vcd_course.specs.Told.{event_told}
use Rattle.scope_check.specs.Parting.{HasParted, taken}
use Rattle.scope_check.proofs.Counting.{parted-few}
use Rattle.scope_coherence.proofs.Seeing.{passed-by, judged-by, is-next}
use Rattle.scope_coherence.proofs.coherer.CohererEventWatcher.see.Goals as goal

pub returns-in-Ok-None-clause-seen : goal.returns-in-Ok-None-clause-seen
returns-in-Ok-None-clause-seen c =
    let e = event_told c.args.event.now in
    passed-by c.pass.result c.args.self.now e c.take.new.self c.pass.new.self
    (λ first es s. subst (λ o. HasParted c.take.new.self first.part (es ++ e ∷ []) (s.samples ++ taken o)) c.in-Ok-None.field-0-is
    (c.in-Ok-None.ensures.parted first.part es s.samples s.parted))
    c.pass.ensures.stands

pub returns-in-Ok-None-clause-many : goal.returns-in-Ok-None-clause-many
returns-in-Ok-None-clause-many c = λ full first es s.
    let few = c.pass.ensures.many full first.part first.marks es _ s.samples s.stands in
    omega (arith, few, length-append es (event_told c.args.event.now ∷ []))

pub returns-in-Ok-Some-clause-seen : goal.returns-in-Ok-Some-clause-seen
returns-in-Ok-Some-clause-seen c =
    let e = event_told c.args.event.now in
    judged-by c.judge.result c.args.self.now e c.in-Ok-Some.sample c.take.new.self c.judge.new.self
    (λ first es s. subst (λ o. HasParted c.take.new.self first.part (es ++ e ∷ []) (s.samples ++ taken o)) c.in-Ok-Some.field-0-is
    (c.in-Ok-Some.ensures.parted first.part es s.samples s.parted))
    c.judge.ensures.stands

pub returns-in-Ok-Some-clause-many : goal.returns-in-Ok-Some-clause-many
returns-in-Ok-Some-clause-many c = λ full first es s.
    let e = event_told c.args.event.now in
    let n = subst (λ o. HasParted c.take.new.self first.part (es ++ e ∷ []) (s.samples ++ taken o)) c.in-Ok-Some.field-0-is
    (c.in-Ok-Some.ensures.parted first.part es s.samples s.parted) in
    let few = c.judge.ensures.many full first.part first.marks es _ _ s.samples s.stands
    (is-next s.parted e c.in-Ok-Some.sample n) in
    omega (arith, few, parted-few c.args.self.now.parting first.part es s.samples s.parted, length-append es (e ∷ []))

pub returns-in-Err-clause-many : goal.returns-in-Err-clause-many
returns-in-Err-clause-many c = λ e first es s.
    let full = c.in-Err.ensures.many first.part es s.samples s.parted in
    omega (arith, full, length-append es (event_told c.args.event.now ∷ []))
