-- No section before the next one is a time scale.
use Rattle.std.proofs.Common.{◌≡◌, drop}
use Rattle.scope_time.specs.Scales.{scale_of}
use Rattle.scope_time.proofs.scale.scale_of.Given as goal

abbrev pub invariant-loop-remark : goal.invariant-loop-remark
invariant-loop-remark l = scale_of (drop l.remark-index l.remarks) ≡ scale_of l.remarks
