use Rattle.std.proofs.Common.{sym, ap, ◌∙◌}
use Rattle.fsb_joint.specs.Sets.{joints_of}
use Rattle.fsb_joint.proofs.LineClocks.{after_begun, begun_step}
use Rattle.fsb_joint.proofs.set.JointSet.after_begin.Goals as goal

pub returns-in-Some : goal.returns-in-Some
returns-in-Some c = λ v line d e.
    c.asking.ensures
    ∙ sym (after_begun v line d (joints_of c.args.self) ∙ ap (λ o. begun_step o (joints_of c.args.self)) (sym e ∙ c.in-Some.is))

pub returns-in-None : goal.returns-in-None
returns-in-None c = λ v line d e.
    sym (after_begun v line d (joints_of c.args.self) ∙ ap (λ o. begun_step o (joints_of c.args.self)) (sym e ∙ c.in-None.is))
