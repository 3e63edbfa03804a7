use Rattle.fsb_agent_view.proofs.Standing.{stands-first, stands-next}
use Rattle.fsb_agent_view.proofs.laws.agents_stand_for_their_events.Goals as goal

pub returns-clause-first : goal.returns-clause-first
returns-clause-first c = stands-first

pub returns-clause-next : goal.returns-clause-next
returns-clause-next c = stands-next
