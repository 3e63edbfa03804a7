-- The lines so far are those of the reasons so far.
use Rattle.std.proofs.Common.{◌≡◌, take}
use Rattle.scope_report.specs.Grounds.{lines_named}
use Rattle.scope_report.proofs.reasons.lines_named.Given as goal

abbrev pub invariant-loop-reason : goal.invariant-loop-reason
invariant-loop-reason l = l.named ≡ lines_named (take l.reason-index l.reasons)
