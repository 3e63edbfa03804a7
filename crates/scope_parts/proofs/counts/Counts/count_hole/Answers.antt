use Rattle.std.proofs.Common.{refl, arith}
use Rattle.scope_parts.proofs.Holes.{counted_hole}
use Rattle.scope_check.proofs.Interface.{if-err}
use Rattle.scope_parts.proofs.Clocks.{holes-few, many-events}
use Rattle.scope_parts.proofs.counts.Counts.count_hole.Goals as goal

pub returns-clause-counted : goal.returns-clause-counted
returns-clause-counted c es h =
    counted_hole c.args.self.now
    (record { clocks = c.args.self.now.clocks; holes = c.in_ok-holes.holes; first_hole = c.first_stamp-self.result })
    es c.args.stamp h refl c.in_ok-holes.ensures.sum c.first_stamp-self.ensures

pub returns-in_err-holes-clause-many : goal.returns-in_err-holes-clause-many
returns-in_err-holes-clause-many c es h =
    let few = holes-few es in
    let is = h.holes in
    if-err _ (many-events c.args.self.now.holes es c.in_err-holes.ensures.full (omega (arith, few, is)))
