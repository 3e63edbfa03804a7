use Rattle.std.proofs.Common.{refl, arith}
use Rattle.vcd_course.specs.Told.{last_told}
use Rattle.scope_parts.proofs.Holes.{counted_sample, counted_resumed}
use Rattle.scope_check.proofs.Interface.{clocks-few, if-err}
use Rattle.scope_parts.proofs.Clocks.{many-events}
use Rattle.scope_parts.proofs.counts.Counts.count.Goals as goal

pub returns-in_ok-self-in-Sampled-clause-counted : goal.returns-in_ok-self-in-Sampled-clause-counted
returns-in_ok-self-in-Sampled-clause-counted c es h =
    rw c.in-Sampled.is (counted_sample c.args.self.now
    (record c.args.self.now { clocks = c.in_ok-self-in-Sampled.field-0 })
    es c.in-Sampled.field-0 (last_told c.args.event.now.stamp) h c.in_ok-self-in-Sampled.ensures.sum refl refl)

pub returns-in-Resumed-clause-counted : goal.returns-in-Resumed-clause-counted
returns-in-Resumed-clause-counted c es h =
    rw c.in-Resumed.is (counted_resumed c.args.self.now es (last_told c.args.event.now.stamp) h)

pub returns-in_err-self-in-Sampled-clause-many : goal.returns-in_err-self-in-Sampled-clause-many
returns-in_err-self-in-Sampled-clause-many c es h =
    let few = clocks-few es in
    let is = h.clocks in
    if-err _ (many-events c.args.self.now.clocks es c.in_err-self-in-Sampled.ensures.full (omega (arith, few, is)))
