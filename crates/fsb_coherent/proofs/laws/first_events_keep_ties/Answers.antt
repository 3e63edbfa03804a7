use Rattle.fsb_coherent.proofs.FirstEvents.{first-events}
use Rattle.fsb_coherent.proofs.SameEvents.{events-in-two}
use Rattle.fsb_coherent.proofs.laws.first_events_keep_ties.Goals as goal

pub returns-clause-parts : goal.returns-clause-parts
returns-clause-parts c = λ p line n h. events-in-two p line n h.goes_on h.begins

pub returns-clause-tie : goal.returns-clause-tie
returns-clause-tie c = first-events
