use Rattle.std.proofs.Common.{true, false, sym, ap, ◌∙◌}
use Rattle.fsb_trace.specs.Timing.{is_ready_from}
use Rattle.fsb_phase.proofs.Entries.{held}
use Rattle.fsb_phase.proofs.Oldest.{head_ready}
use Rattle.fsb_phase.proofs.phases.Phases.has_ready.Goals as goal

pub returns-then-is_taking : goal.returns-then-is_taking
returns-then-is_taking c = λ h queue turns n at.
    c.is_ready_from.ensures
    ∙ ap (is_ready_from c.args.self.now.from c.args.oldest.now.choice.trdy) (c.from.ensures ∙ n.clock_is)
    ∙ head_ready n.stands (held queue turns h n.flight) at true (sym c.is_taking.ensures ∙ c.if-is_taking.true)

pub returns-else-is_taking : goal.returns-else-is_taking
returns-else-is_taking c = λ h queue turns n at.
    c.if-is_taking.false
    ∙ head_ready n.stands (held queue turns h n.flight) at false (sym c.is_taking.ensures ∙ c.if-is_taking.false)
