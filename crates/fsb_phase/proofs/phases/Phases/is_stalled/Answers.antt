use Rattle.std.proofs.Common.{sym, ap, ◌∙◌}
use Rattle.fsb_trace.specs.Timing.{is_stall_from}
use Rattle.fsb_phase.proofs.Driven.{stalled_next, stalled_next-none}
use Rattle.fsb_phase.proofs.phases.Phases.is_stalled.Goals as goal

pub returns-in-Some : goal.returns-in-Some
returns-in-Some c = λ h queue turns n first.
    let start = c.snoop_start.result in
    c.is_stall_from.ensures ∙ ap (λ k. is_stall_from c.in-Some.e.choice.stall k start) c.from.ensures
    ∙ stalled_next n c.in-Some.e start (sym first ∙ c.in-Some.is) (c.snoop_start.ensures h n.stands.heads)

pub returns-in-None : goal.returns-in-None
returns-in-None c = λ h queue turns n first. stalled_next-none n (sym first ∙ c.in-None.is)
