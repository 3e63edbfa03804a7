use Rattle.fsb_joint.specs.Sets.{has_bit, joint_at}
use Rattle.fsb_joint.specs.Steps.{leads}
use Rattle.fsb_joint.proofs.SetLaws.{IsReached}
use Rattle.fsb_joint.proofs.set.JointSet.reached.Given as goal

-- the mask has the bits of the joint states to which the step leads so far
abbrev pub invariant-loop-from : goal.invariant-loop-from
invariant-loop-from l = IsReached (has_bit l.self.mask) (λ n m. leads l.step (joint_at n) (joint_at m)) l.mask l.from
