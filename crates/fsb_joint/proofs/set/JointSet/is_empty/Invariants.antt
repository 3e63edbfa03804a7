use Rattle.std.proofs.Common.{ℕ, ◌<◌, ◌≡◌, false}
use Rattle.fsb_joint.specs.Sets.{has_bit}
use Rattle.fsb_joint.proofs.set.JointSet.is_empty.Given as goal

-- no bit is 1 so far
abbrev pub invariant-loop-number : goal.invariant-loop-number
invariant-loop-number l = (n : ℕ) → n < l.number → has_bit l.self.mask n ≡ false
