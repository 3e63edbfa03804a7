use Rattle.std.proofs.Common.{ℕ, ◌&&◌, sym, ◌∙◌, arith}
use Rattle.fsb_joint.specs.Sets.{has_bit, joint_at}
use Rattle.fsb_joint.specs.Steps.{passes}
use Rattle.fsb_joint.proofs.SetLaws.{both, first_off, joints-filter, kept-bits, kept-init, kept-no, kept-yes, second_off}
use Rattle.fsb_joint.proofs.set.JointSet.kept.Goals as goal
use Rattle.fsb_joint.proofs.set.JointSet.kept.Goals.{then-has+then-passes, else-has, else-has-via-then-has+else-passes}
use Rattle.fsb_joint.proofs.set.JointSet.kept.Goals.{else-has-via-else-has}

pub loop-number-init : goal.loop-number-init
loop-number-init c = kept-init (λ n. has_bit c.args.self.mask n && passes c.args.test (joint_at n))

pub loop-number-preserved : goal.loop-number-preserved
loop-number-preserved c =
    let t = λ (n : ℕ). has_bit c.args.self.mask n && passes c.args.test (joint_at n) in
    let k = c.loop-number.number in
    elim c.if-has.branch [
      | then-has+then-passes w ↦ rw w.mask-is (kept-yes t c.loop-number.mask k c.loop-number-test.true
          (both (has_bit c.args.self.mask k) (passes c.args.test (joint_at k)) (sym c.has.ensures ∙ w.if-has.true) (sym w.passes.ensures ∙ w.if-passes.true))
          c.loop-number.invariant)
      | else-has w ↦ rw w.mask-is (kept-no t c.loop-number.mask k
          (elim w.else-has.branch [
            | else-has-via-then-has+else-passes v ↦ second_off (has_bit c.args.self.mask k) (passes c.args.test (joint_at k)) (sym v.passes.ensures ∙ v.if-passes.false)
            | else-has-via-else-has v ↦ first_off (has_bit c.args.self.mask k) (passes c.args.test (joint_at k)) (sym c.has.ensures ∙ v.if-has.false)
          ])
          c.loop-number.invariant)
    ]

pub returns-clause-bits : goal.returns-clause-bits
returns-clause-bits c =
    kept-bits (λ n. has_bit c.args.self.mask n && passes c.args.test (joint_at n)) c.loop-number.mask c.loop-number.number
    (omega (arith, c.loop-number-test.false, c.loop-number.auto.number-end)) c.loop-number.invariant

pub returns-clause-joints : goal.returns-clause-joints
returns-clause-joints c =
    joints-filter (passes c.args.test) c.loop-number.mask c.args.self.mask
    (kept-bits (λ n. has_bit c.args.self.mask n && passes c.args.test (joint_at n)) c.loop-number.mask c.loop-number.number
    (omega (arith, c.loop-number-test.false, c.loop-number.auto.number-end)) c.loop-number.invariant)
