use Rattle.std.proofs.Common.{true, false, sym, ◌∙◌}
use Rattle.fsb_phase.proofs.Driven.{snooping_next, snooping_none}
use Rattle.fsb_phase.proofs.phases.Phases.snooping.Goals as goal

pub returns-then-is_due : goal.returns-then-is_due
returns-then-is_due c = λ h turns n.
    snooping_next n c.in-Some.e c.is_due.result true (sym c.open_entry.ensures ∙ c.in-Some.is)
    (c.is_due.ensures h n.stands.heads) c.if-is_due.true

pub returns-else-is_due : goal.returns-else-is_due
returns-else-is_due c = λ h turns n.
    snooping_next n c.in-Some.e c.is_due.result false (sym c.open_entry.ensures ∙ c.in-Some.is)
    (c.is_due.ensures h n.stands.heads) c.if-is_due.false

pub returns-in-None : goal.returns-in-None
returns-in-None c = λ h turns n. snooping_none n (sym c.open_entry.ensures ∙ c.in-None.is)
