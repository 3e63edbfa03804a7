use Rattle.std.proofs.Common.{take}
use Rattle.fsb_why.specs.Look.{Stands}
use Rattle.rows_reasons.proofs.found.after.Given as goal

-- it was fed the samples so far
abbrev pub invariant-loop-sample : goal.invariant-loop-sample
invariant-loop-sample l = Stands l.why l.fn.marks (take l.sample-index l.w)
