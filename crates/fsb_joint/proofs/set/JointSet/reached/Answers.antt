use Rattle.std.proofs.Common.{ℕ, sym, ◌∙◌, arith}
use Rattle.fsb_joint.specs.Sets.{has_bit, joint_at}
use Rattle.fsb_joint.specs.Steps.{leads}
use Rattle.fsb_joint.proofs.SetLaws.{joints-reached, reached-bits, reached-init, reached-no, reached-yes}
use Rattle.fsb_joint.proofs.set.JointSet.reached.Goals as goal
use Rattle.fsb_joint.proofs.set.JointSet.reached.Goals.{then-has, else-has}

pub loop-from-init : goal.loop-from-init
loop-from-init c = reached-init (has_bit c.args.self.mask) (λ n m. leads c.args.step (joint_at n) (joint_at m))

pub loop-from-preserved : goal.loop-from-preserved
loop-from-preserved c =
    let t = λ (n : ℕ). has_bit c.args.self.mask n in
    let q = λ (n m : ℕ). leads c.args.step (joint_at n) (joint_at m) in
    elim c.if-has.branch [
      | then-has w ↦ rw w.mask-is (reached-yes t q c.loop-from.mask w.row-mask.result.mask c.loop-from.from
          (sym c.has.ensures ∙ w.if-has.true) w.row-mask.ensures c.loop-from.invariant)
      | else-has w ↦ rw w.mask-is (reached-no t q c.loop-from.mask c.loop-from.from
          (sym c.has.ensures ∙ w.if-has.false) c.loop-from.invariant)
    ]

pub returns : goal.returns
returns c =
    joints-reached (leads c.args.step) c.loop-from.mask c.args.self.mask
    (reached-bits (has_bit c.args.self.mask) (λ n m. leads c.args.step (joint_at n) (joint_at m)) c.loop-from.mask
    c.loop-from.from (omega (arith, c.loop-from-test.false, c.loop-from.auto.from-end)) c.loop-from.invariant)
