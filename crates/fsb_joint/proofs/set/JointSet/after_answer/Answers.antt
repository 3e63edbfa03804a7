use Rattle.std.proofs.Common.{sym, ap, ◌∙◌}
use Rattle.fsb_joint.specs.Sets.{joints_of}
use Rattle.fsb_joint.proofs.LineClocks.{after_answered, answer_reply, answer_request, answer_step, end_step}
use Rattle.fsb_joint.proofs.set.JointSet.after_answer.Goals as goal

pub returns-then-end : goal.returns-then-end
returns-then-end c = λ v line d e.
    sym (after_answered v line d (joints_of c.args.self)
    ∙ ap (λ o. end_step answer_step o (joints_of c.args.self)) (sym e ∙ c.in-Some.is)
    ∙ answer_reply c.in-Some.end (joints_of c.args.self) c.if-end.true)

pub returns-else-end : goal.returns-else-end
returns-else-end c = λ v line d e.
    c.showing.ensures
    ∙ sym (after_answered v line d (joints_of c.args.self)
    ∙ ap (λ o. end_step answer_step o (joints_of c.args.self)) (sym e ∙ c.in-Some.is)
    ∙ answer_request c.in-Some.end (joints_of c.args.self) c.if-end.false)

pub returns-in-None : goal.returns-in-None
returns-in-None c = λ v line d e.
    sym (after_answered v line d (joints_of c.args.self)
    ∙ ap (λ o. end_step answer_step o (joints_of c.args.self)) (sym e ∙ c.in-None.is))
