use Rattle.std.proofs.Common.{rules, ◌≡◌, ◌∙◌, [], Err, ap, sym, refl}
use Rattle.scope_copy.proofs.Writing.{none-written, rose-back}
use Rattle.scope_copy.proofs.Copies.{put-stop, put-whole, same-stop}
use Rattle.scope_copy.proofs.copy.copy_values.Goals as goal

pub watch_values-requires-clause-ready : goal.watch_values-requires-clause-ready
watch_values-requires-clause-ready g c =
    let now = c.new-copier.ensures in (
      c.new-copier.result,
      [],
      none-written g.D.Sink.tells g.D.Sink.holds g.D.Sink.faults c.new-copier.result _ _ _ now.writer now.there now.part
          now.parted c.in-Ok.ensures.stands,
    )

pub returns-in_err-ended-clause-put : goal.returns-in_err-ended-clause-put
returns-in_err-ended-clause-put g c = λ tells held choice ts text at taken.
    let now = c.new-copier.ensures in
    let same : c.from_residual.result ≡ Err c.in_err-ended.field-0.0 = search rules in
    rw same (put-stop _ _ c.args.part c.args.there _ text _ _
    (c.in_err-ended.ensures.read tells c.new-copier.result [] choice ts text
    (none-written g.D.Sink.tells g.D.Sink.holds g.D.Sink.faults c.new-copier.result _ _ _ now.writer now.there now.part
    now.parted c.in-Ok.ensures.stands) at taken))

pub returns-in_err-ended-clause-write_fault : goal.returns-in_err-ended-clause-write_fault
returns-in_err-ended-clause-write_fault g c = λ e.
    let now = c.new-copier.ensures in
    let same : c.from_residual.result ≡ Err c.in_err-ended.field-0.0 = search rules in
    rose-back g.D.Sink.tells g.D.Sink.holds g.D.Sink.faults c.new-copier.result c.watch_values.new.watcher
    c.args.out.now c.begin.new.sink _ now.now c.in-Ok.ensures.cause.later
    (c.in_err-ended.ensures.write_fault (ap (λ stop. Err stop) (same-stop _ _ (sym same ∙ e))) c.new-copier.result []
    (none-written g.D.Sink.tells g.D.Sink.holds g.D.Sink.faults c.new-copier.result _ _ _ now.writer now.there now.part
    now.parted c.in-Ok.ensures.stands))
    (search rules)

pub returns-clause-put : goal.returns-clause-put
returns-clause-put g c = λ tells held choice ts text at taken.
    let now = c.new-copier.ensures in
    let first = c.new-copier.result in
    let read = c.in_ok-ended.ensures.read tells first [] choice ts text
    (none-written g.D.Sink.tells g.D.Sink.holds g.D.Sink.faults first _ _ _ now.writer now.there now.part now.parted
    c.in-Ok.ensures.stands) at taken in
    put-whole g.D.Sink.tells g.D.Sink.holds g.D.Sink.faults first c.watch_values.new.watcher c.args.out.now
    c.begin.new.sink _ _ c.in_ok-ended.ended c.args.part c.args.there _ text now.part now.there now.now refl read
    (c.count.ensures first.part _ read.shown.samples read.shown.parted) (search rules) held
    (c.in-Ok.ensures.whole held)
