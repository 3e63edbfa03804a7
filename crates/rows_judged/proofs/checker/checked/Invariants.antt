use Rattle.std.proofs.Common.{take}
use Rattle.fsb_rules.specs.Checker.{Stands}
use Rattle.rows_judged.proofs.checker.checked.Given as goal

-- the checker was fed the samples so far
abbrev pub invariant-loop-sample : goal.invariant-loop-sample
invariant-loop-sample l = Stands l.checker l.fn.marks (take l.sample-index l.w)
