use Rattle.std.proofs.Common.{◌++◌, ◌∷◌, ◌∙◌, [], subst, sym, arith, ap, append-nil}
use Rattle.vcd_course.specs.Told.{event_told}
use Rattle.scope_check.specs.Parting.{HasParted, taken}
use Rattle.scope_check.proofs.Counting.{parted-few}
use Rattle.scope_table.specs.Standing.{start_after}
use Rattle.scope_table.proofs.Starting.{empty-list, many-came}
use Rattle.scope_table.proofs.Writing.{none-more, more-put, many-behind}
use Rattle.scope_table.proofs.tabler.TablerRequestLinesEventWatcher.see.Goals as goal

pub put-requires : goal.put-requires
put-requires g c = (_, _, c.requires.2.samples, c.requires.2.stands)

pub returns-in_ok-self-in-Ok-None-clause-seen : goal.returns-in_ok-self-in-Ok-None-clause-seen
returns-in_ok-self-in-Ok-None-clause-seen g c = λ first es s.
    let e = event_told c.args.event.now in
    let n : HasParted c.take.new.self first.part (es ++ e ∷ []) (s.samples ++ []) =
    subst (λ o. HasParted c.take.new.self first.part (es ++ e ∷ []) (s.samples ++ taken o)) c.in-Ok-None.field-0-is
    (c.in-Ok-None.ensures.parted first.part es s.samples s.parted) in
    let w : HasParted c.take.new.self first.part (es ++ e ∷ []) s.samples =
    subst (λ v. HasParted c.take.new.self first.part (es ++ e ∷ []) v) (append-nil s.samples) n in
    none-more g.D.Sink.tells g.D.Sink.holds g.D.Sink.faults first c.args.self.now es e c.take.new.self _ s n
    (c.in_ok-self-in-Ok-None.ensures.more
    ∙ ap (λ k. start_after c.args.self.now.start k e) (c.count.ensures first.part _ s.samples w))

pub returns-in_err-self-in-Ok-None-clause-many : goal.returns-in_err-self-in-Ok-None-clause-many
returns-in_err-self-in-Ok-None-clause-many g c = λ full first es s.
    let e = event_told c.args.event.now in
    let n : HasParted c.take.new.self first.part (es ++ e ∷ []) (s.samples ++ []) =
    subst (λ o. HasParted c.take.new.self first.part (es ++ e ∷ []) (s.samples ++ taken o)) c.in-Ok-None.field-0-is
    (c.in-Ok-None.ensures.parted first.part es s.samples s.parted) in
    let w : HasParted c.take.new.self first.part (es ++ e ∷ []) s.samples =
    subst (λ v. HasParted c.take.new.self first.part (es ++ e ∷ []) v) (append-nil s.samples) n in
    let many = c.in_err-self-in-Ok-None.ensures.many in
    many-came s.parted e 4294967280 c.args.self.now.start many.1 s.start
    (empty-list s.samples (sym (c.count.ensures first.part _ s.samples w) ∙ many.0))

pub returns-in-Ok-Some-clause-seen : goal.returns-in-Ok-Some-clause-seen
returns-in-Ok-Some-clause-seen g c =
    let e = event_told c.args.event.now in
    let now = c.put.ensures in
    more-put g.D.Sink.tells g.D.Sink.holds g.D.Sink.faults c.put.result c.args.self.now c.put.new.self e
    c.in-Ok-Some.sample c.take.new.self
    (λ first es s. subst (λ o. HasParted c.take.new.self first.part (es ++ e ∷ []) (s.samples ++ taken o))
    c.in-Ok-Some.field-0-is (c.in-Ok-Some.ensures.parted first.part es s.samples s.parted))
    now.same now.parting now.start now.stands now.later now.text

pub returns-in-Ok-Some-clause-many : goal.returns-in-Ok-Some-clause-many
returns-in-Ok-Some-clause-many g c = λ e first es s.
    let full = c.put.ensures.full e first.form first.marks s.samples s.stands in
    many-behind 4294967280 es _ (omega (arith, full, parted-few c.args.self.now.parting first.part es s.samples s.parted))

pub returns-in-Err-clause-many : goal.returns-in-Err-clause-many
returns-in-Err-clause-many g c = λ e first es s.
    let full = c.in-Err.ensures.many first.part es s.samples s.parted in
    many-behind 4294967280 es _ (omega (arith, full))
