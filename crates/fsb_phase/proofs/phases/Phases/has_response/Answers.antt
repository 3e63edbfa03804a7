use Rattle.fsb_phase.proofs.Entries.{held}
use Rattle.fsb_phase.proofs.Oldest.{head_response}
use Rattle.fsb_phase.proofs.phases.Phases.has_response.Goals as goal

pub returns : goal.returns
returns c = λ h queue turns n at.
    rw (c.is_response_from.ensures, c.is_taking.ensures, c.ready.ensures h n.stands.heads, n.clock_is)
    (head_response n.stands (held queue turns h n.flight) at)
