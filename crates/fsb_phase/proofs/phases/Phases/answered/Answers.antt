use Rattle.std.proofs.Common.{true, false, is_some, Some, sym, ap, ◌∙◌}
use Rattle.fsb_phase.proofs.Entries.{held}
use Rattle.fsb_phase.proofs.Oldest.{head_moving, head_still}
use Rattle.fsb_phase.proofs.phases.Phases.answered.Goals as goal

pub returns-then-is_some : goal.returns-then-is_some
returns-then-is_some c = λ h queue turns oldest n at same.
    head_moving n.stands (held queue turns h n.flight) at
    (sym (c.is_some.ensures ∙ ap is_some (c.chunks.ensures h n.stands.heads)) ∙ c.if-is_some.true)

pub returns-then-responds : goal.returns-then-responds
returns-then-responds c = λ h queue turns oldest n at same.
    ap Some n.clock_is
    ∙ head_still n.stands (held queue turns h n.flight) at true
    (sym (c.is_some.ensures ∙ ap is_some (c.chunks.ensures h n.stands.heads)) ∙ c.if-is_some.false)
    (sym same ∙ c.if-responds.true)

pub returns-else-responds : goal.returns-else-responds
returns-else-responds c = λ h queue turns oldest n at same.
    head_still n.stands (held queue turns h n.flight) at false
    (sym (c.is_some.ensures ∙ ap is_some (c.chunks.ensures h n.stands.heads)) ∙ c.if-is_some.false)
    (sym same ∙ c.if-responds.false)
