use Rattle.std.proofs.Common.{sym, ap, ◌∙◌}
use Rattle.fsb_joint.specs.Sets.{joints_of}
use Rattle.fsb_joint.proofs.LineClocks.{after_ended, end_step, turn_reply, turn_request, turn_step}
use Rattle.fsb_joint.proofs.set.JointSet.after_snoop_end.Goals as goal

pub returns-then-end : goal.returns-then-end
returns-then-end c = λ v line d e.
    c.replied.ensures
    ∙ sym (after_ended v line d (joints_of c.args.self)
    ∙ ap (λ o. end_step turn_step o (joints_of c.args.self)) (sym e ∙ c.in-Some.is)
    ∙ turn_reply c.in-Some.end (joints_of c.args.self) c.if-end.true)

pub returns-else-end : goal.returns-else-end
returns-else-end c = λ v line d e.
    c.snooped.ensures
    ∙ sym (after_ended v line d (joints_of c.args.self)
    ∙ ap (λ o. end_step turn_step o (joints_of c.args.self)) (sym e ∙ c.in-Some.is)
    ∙ turn_request c.in-Some.end (joints_of c.args.self) c.if-end.false)

pub returns-in-None : goal.returns-in-None
returns-in-None c = λ v line d e.
    sym (after_ended v line d (joints_of c.args.self)
    ∙ ap (λ o. end_step turn_step o (joints_of c.args.self)) (sym e ∙ c.in-None.is))
