use Rattle.std.proofs.Common.{rules, ◌≡◌, Err, [], ap, ◌∙◌}
use Rattle.std.specs.Prelude.{slice_get}
use Rattle.vcd_way.specs.Answers.{events_by}
use Rattle.vcd_joined.specs.Choosing.{choosing}
use Rattle.scope_watch.specs.Watching.{rules_for}
use Rattle.scope_clock.specs.Times.{edge_times}
use Rattle.scope_clock.proofs.Timing.{timed-stop}
use Rattle.scope_clock.proofs.time.time_behind.Goals as goal

pub returns-in_err-watch_values-clause-timed : goal.returns-in_err-watch_values-clause-timed
returns-in_err-watch_values-clause-timed g c = λ tells choice ts text at taken.
    let first = c.new-timer.result in
    let same : c.from_residual.result ≡ Err c.in_err-watch_values.field-0.0 = search rules in
    rw same (timed-stop _ _ _ c.args.clock text
    (λ e. c.in_err-watch_values.ensures.write_fault e first [] c.new-timer.ensures.timed)
    (c.in_err-watch_values.ensures.read tells first [] choice ts text c.new-timer.ensures.timed at taken))

pub returns-clause-timed : goal.returns-clause-timed
returns-clause-timed g c = λ tells choice ts text at taken.
    let first = c.new-timer.result in
    let read = c.in_ok-watch_values.ensures.read tells first [] choice ts text c.new-timer.ensures.timed at taken in
    read.shown.time
    ∙ ap (λ n. slice_get (edge_times (events_by (choosing choice (rules_for c.args.sampling)) text)) n) c.new-timer.ensures.same
