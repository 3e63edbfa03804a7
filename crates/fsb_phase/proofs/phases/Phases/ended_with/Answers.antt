use Rattle.std.proofs.Common.{true, false, sym, ◌∙◌}
use Rattle.fsb_phase.proofs.Course.{ended, taken}
use Rattle.fsb_phase.proofs.phases.Phases.ended_with.Goals as goal

pub returns-then-has_ended : goal.returns-then-has_ended
returns-then-has_ended c = λ h clock turns k t e.
    c.copied.ensures ∙ c.at.ensures
    ∙ ended (taken k t).1 c.args.transfer true e (sym (c.has_ended.ensures h k.heads) ∙ c.if-has_ended.true)

pub returns-else-has_ended : goal.returns-else-has_ended
returns-else-has_ended c = λ h clock turns k t e.
    ended (taken k t).1 c.args.transfer false e (sym (c.has_ended.ensures h k.heads) ∙ c.if-has_ended.false)
