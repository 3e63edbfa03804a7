use Rattle.std.proofs.Common.{◌^◌, ◌++◌, ◌∷◌, [], subst, arith}
use Rattle.vcd_course.specs.Told.{event_told}
use Rattle.scope_check.specs.Parting.{HasParted, taken}
use Rattle.scope_check.proofs.Counting.{parted-few}
use Rattle.scope_copy.proofs.Writing.{none-more, more-put, many-behind}
use Rattle.scope_copy.proofs.copier.CopierEventWatcher.see.Goals as goal

pub put-requires : goal.put-requires
put-requires g c = (_, c.requires.2.samples, c.requires.2.written)

pub returns-in-Ok-None-clause-seen : goal.returns-in-Ok-None-clause-seen
returns-in-Ok-None-clause-seen g c = λ first es s.
    let e = event_told c.args.event.now in
    none-more g.D.Sink.tells g.D.Sink.holds g.D.Sink.faults first c.args.self.now es e c.take.new.self s
    (subst (λ o. HasParted c.take.new.self first.part (es ++ e ∷ []) (s.samples ++ taken o)) c.in-Ok-None.field-0-is
    (c.in-Ok-None.ensures.parted first.part es s.samples s.parted))

pub returns-in-Ok-Some-clause-seen : goal.returns-in-Ok-Some-clause-seen
returns-in-Ok-Some-clause-seen g c =
    let e = event_told c.args.event.now in
    let now = c.put.ensures in
    more-put g.D.Sink.tells g.D.Sink.holds g.D.Sink.faults c.put.result c.args.self.now c.put.new.self e
    c.in-Ok-Some.sample c.take.new.self
    (λ first es s. subst (λ o. HasParted c.take.new.self first.part (es ++ e ∷ []) (s.samples ++ taken o))
    c.in-Ok-Some.field-0-is (c.in-Ok-Some.ensures.parted first.part es s.samples s.parted))
    now.same now.parting now.within now.few now.stands now.later now.text

pub returns-in-Ok-Some-clause-many : goal.returns-in-Ok-Some-clause-many
returns-in-Ok-Some-clause-many g c = λ e first es s.
    let full = c.put.ensures.full e first.there s.samples s.written in
    many-behind (10 ^ 18) es _ (omega (arith, full, parted-few c.args.self.now.parting first.part es s.samples s.parted))

pub returns-in-Err-clause-many : goal.returns-in-Err-clause-many
returns-in-Err-clause-many g c = λ e first es s.
    let full = c.in-Err.ensures.many first.part es s.samples s.parted in
    many-behind (10 ^ 18) es _ (omega (arith, full))
