use Rattle.std.proofs.Common.{rules, ◌≡◌, ◌∙◌, [], Err, ap, sym, refl, subst}
use Rattle.request_lines.specs.Standing.{Stands}
use Rattle.scope_table.specs.Standing.{IsStopOfWriting}
use Rattle.scope_table.proofs.Writing.{none-written, parted-as, rose-back, rose-last}
use Rattle.scope_table.proofs.Tables.{put-stop, put-whole, same-stop, write-stop}
use Rattle.scope_table.proofs.answer.table_values.Goals as goal

pub watch_values-requires-clause-ready : goal.watch_values-requires-clause-ready
watch_values-requires-clause-ready g c =
    let now = c.new-tabler.ensures in (
      c.new-tabler.result,
      [],
      none-written g.D.Sink.tells g.D.Sink.holds g.D.Sink.faults c.new-tabler.result _ _ _ now.form now.marks now.part now.start
          now.parted now.stands,
    )

pub returns-in_err-put_names-clause-put : goal.returns-in_err-put_names-clause-put
returns-in_err-put_names-clause-put g c = λ tells held choice ts text at taken.
    let same : c.from_residual.result ≡ Err c.in_err-put_names.field-0.0 = search rules in
    rw same (write-stop _ c.args.part c.args.form c.args.marks _ text _ _ (c.in_err-put_names.ensures.stop _ refl))

pub returns-in_err-ended-clause-put : goal.returns-in_err-ended-clause-put
returns-in_err-ended-clause-put g c = λ tells held choice ts text at taken.
    let now = c.new-tabler.ensures in
    let same : c.from_residual-in_err-ended.result ≡ Err c.in_err-ended.field-0.0 = search rules in
    rw same (put-stop _ _ c.args.part c.args.form c.args.marks _ text _ _
    (c.in_err-ended.ensures.read tells c.new-tabler.result [] choice ts text
    (none-written g.D.Sink.tells g.D.Sink.holds g.D.Sink.faults c.new-tabler.result _ _ _ now.form now.marks now.part now.start
    now.parted now.stands) at taken))

pub returns-in_err-ended-clause-write_fault : goal.returns-in_err-ended-clause-write_fault
returns-in_err-ended-clause-write_fault g c = λ tells choice ts text at taken e.
    let now = c.new-tabler.ensures in
    let same : c.from_residual-in_err-ended.result ≡ Err c.in_err-ended.field-0.0 = search rules in
    rose-back g.D.Sink.tells g.D.Sink.holds g.D.Sink.faults c.new-tabler.result c.watch_values.new.watcher
    c.args.out.now c.put_names.new.out _ now.now c.put_names.ensures.later
    (c.in_err-ended.ensures.write_fault (ap (λ stop. Err stop) (same-stop _ _ (sym same ∙ e))) c.new-tabler.result []
    (none-written g.D.Sink.tells g.D.Sink.holds g.D.Sink.faults c.new-tabler.result _ _ _ now.form now.marks now.part now.start
    now.parted now.stands))
    (search rules)

pub returns-in_err-finish-clause-put : goal.returns-in_err-finish-clause-put
returns-in_err-finish-clause-put g c = λ tells held choice ts text at taken.
    let same : c.from_residual-in_err-finish.result ≡ Err c.in_err-finish.field-0.0 = search rules in
    rw same (write-stop _ c.args.part c.args.form c.args.marks _ text _ _ (c.in_err-finish.ensures.stop _ refl))

pub returns-clause-put : goal.returns-clause-put
returns-clause-put g c = λ tells held choice ts text at taken.
    let now = c.new-tabler.ensures in
    let first = c.new-tabler.result in
    let read = c.in_ok-ended.ensures.read tells first [] choice ts text
    (none-written g.D.Sink.tells g.D.Sink.holds g.D.Sink.faults first _ _ _ now.form now.marks now.part now.start
    now.parted now.stands) at taken in
    let last = c.finish.ensures in
    put-whole g.D.Sink.tells g.D.Sink.holds g.D.Sink.faults first c.watch_values.new.watcher c.finish.new.self c.args.out.now
    c.put_names.new.out _ _ c.in_ok-ended.ended c.args.part c.args.form c.args.marks _ text now.part now.form now.marks now.now
    refl read (c.from.ensures ∙ last.start)
    (c.count.ensures first.part _ read.shown.samples (parted-as last.parting read.shown.parted))
    (c.found.ensures first.form first.marks read.shown.samples
    (subst (λ x. Stands x first.form first.marks read.shown.samples) (sym last.lines) read.shown.stands))
    last.same (search rules) held (c.in_ok-put_names.ensures.text held)
    (λ begun h. c.in_ok-finish.ensures.text held first.form first.marks read.shown.samples begun read.shown.stands h)

pub returns-in_err-put_names-clause-write_fault : goal.returns-in_err-put_names-clause-write_fault
returns-in_err-put_names-clause-write_fault g c = λ tells choice ts text at taken e.
    let same : c.from_residual.result ≡ Err c.in_err-put_names.field-0.0 = search rules in
    c.in_err-put_names.ensures.write_fault (ap (λ stop. Err stop) (same-stop _ _ (sym same ∙ e)))

pub returns-in_err-finish-clause-write_fault : goal.returns-in_err-finish-clause-write_fault
returns-in_err-finish-clause-write_fault g c = λ tells choice ts text at taken e.
    let now = c.new-tabler.ensures in
    let first = c.new-tabler.result in
    let same : c.from_residual-in_err-finish.result ≡ Err c.in_err-finish.field-0.0 = search rules in
    let read = c.in_ok-ended.ensures.read tells first [] choice ts text
    (none-written g.D.Sink.tells g.D.Sink.holds g.D.Sink.faults first _ _ _ now.form now.marks now.part now.start
    now.parted now.stands) at taken in
    rose-last g.D.Sink.tells g.D.Sink.holds g.D.Sink.faults first c.watch_values.new.watcher c.finish.new.self c.args.out.now
    c.put_names.new.out _ _ now.now c.put_names.ensures.later read.shown c.finish.ensures.same
    (c.in_err-finish.ensures.write_fault (ap (λ stop. Err stop) (same-stop _ _ (sym same ∙ e)))) (search rules)

pub returns-in_err-put_names-clause-read_fault : goal.returns-in_err-put_names-clause-read_fault
returns-in_err-put_names-clause-read_fault g c = λ e.
    let same : c.from_residual.result ≡ Err c.in_err-put_names.field-0.0 = search rules in
    absurd (subst (λ x. IsStopOfWriting x) (same-stop _ _ (sym same ∙ e)) (c.in_err-put_names.ensures.stop _ refl))

pub returns-in_err-finish-clause-read_fault : goal.returns-in_err-finish-clause-read_fault
returns-in_err-finish-clause-read_fault g c = λ e.
    let same : c.from_residual-in_err-finish.result ≡ Err c.in_err-finish.field-0.0 = search rules in
    absurd (subst (λ x. IsStopOfWriting x) (same-stop _ _ (sym same ∙ e)) (c.in_err-finish.ensures.stop _ refl))
