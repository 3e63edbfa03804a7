use Rattle.std.proofs.Common.{take}
use Rattle.fsb_rules.specs.Checker.{Stands}
use Rattle.scope_later.proofs.history.fed.Given as goal

abbrev pub invariant-loop-sample : goal.invariant-loop-sample
invariant-loop-sample l = Stands l.checker l.fn.marks (take l.sample-index l.samples)
