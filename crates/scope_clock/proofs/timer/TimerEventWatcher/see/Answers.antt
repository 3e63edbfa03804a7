use Rattle.std.proofs.Common.{◌∙◌, ◌∷◌, [], ap, arith, length-append, sym}
use Rattle.std.proofs.lemmas.Result.{on_ok_weaker}
use Rattle.vcd_course.specs.Told.{event_told, last_told}
use Rattle.scope_clock.proofs.Timing.{timed-none, told-one, told-hole, told-resumed}
use Rattle.scope_clock.proofs.timer.TimerEventWatcher.see.Goals as goal

pub returns-in-Sampled-clause-seen : goal.returns-in-Sampled-clause-seen
returns-in-Sampled-clause-seen c =
    let event = c.args.event.now in
    on_ok_weaker c.pass.result
    (λ timed first h seen. timed h (event_told event) first.clock seen
    (told-one event.told c.in-Sampled.field-0 (last_told event.stamp) c.in-Sampled.is
    ∙ ap (λ t. t ∷ []) (sym c.time_at.ensures)))
    c.pass.ensures.timed

pub returns-in-Sampled-clause-failed : goal.returns-in-Sampled-clause-failed
returns-in-Sampled-clause-failed c = λ e first h seen. c.pass.ensures.stop e

pub returns-in-Hole-clause-seen : goal.returns-in-Hole-clause-seen
returns-in-Hole-clause-seen c = λ first h seen.
    let event = c.args.event.now in
    timed-none c.args.self.now first.clock h (event_told event) seen (told-hole event.told (last_told event.stamp) c.in-Hole.is)

pub returns-in-Resumed-clause-seen : goal.returns-in-Resumed-clause-seen
returns-in-Resumed-clause-seen c = λ first h seen.
    let event = c.args.event.now in
    timed-none c.args.self.now first.clock h (event_told event) seen
    (told-resumed event.told (last_told event.stamp) c.in-Resumed.is)

pub returns-in-Sampled-clause-many : goal.returns-in-Sampled-clause-many
returns-in-Sampled-clause-many c = λ e first h seen.
    let many = c.pass.ensures.many e h first.clock seen in
    let more = length-append h (event_told c.args.event.now ∷ []) in
    omega (arith, many, more)
