use Rattle.std.proofs.Common.{not, ap, sym, ◌∙◌, arith}
use Rattle.fsb_count.proofs.Interface.{any_where-at, any_where-off}
use Rattle.fsb_joint.specs.Sets.{has_bit}
use Rattle.fsb_joint.proofs.SetLaws.{none-bits}
use Rattle.fsb_joint.proofs.set.JointSet.is_empty.Goals as goal

pub returns-then-has : goal.returns-then-has
returns-then-has c =
    sym (none-bits c.args.self.mask
    ∙ ap not (any_where-at (has_bit c.args.self.mask) 24 c.loop-number.number c.loop-number-test.true
    (sym c.has.ensures ∙ c.if-has.true)))

pub returns : goal.returns
returns c =
    sym (none-bits c.args.self.mask
    ∙ ap not (any_where-off (has_bit c.args.self.mask) 24
    (λ n l. c.loop-number.invariant n (omega (arith, l, c.loop-number-test.false)))))
