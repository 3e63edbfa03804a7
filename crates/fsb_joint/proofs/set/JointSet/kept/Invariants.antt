use Rattle.std.proofs.Common.{◌&&◌}
use Rattle.fsb_joint.specs.Sets.{has_bit, joint_at}
use Rattle.fsb_joint.specs.Steps.{passes}
use Rattle.fsb_joint.proofs.SetLaws.{IsKept}
use Rattle.fsb_joint.proofs.set.JointSet.kept.Given as goal

-- the mask has the bits so far whose joint states pass
abbrev pub invariant-loop-number : goal.invariant-loop-number
invariant-loop-number l = IsKept (λ n. has_bit l.self.mask n && passes l.test (joint_at n)) l.mask l.number
