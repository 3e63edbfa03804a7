use Rattle.fsb_coherent.proofs.EventsStay.{events_at-same, events_below-same}
use Rattle.fsb_coherent.proofs.laws.events_stay.Goals as goal

pub returns-clause-at : goal.returns-clause-at
returns-clause-at c = events_at-same

pub returns-clause-below : goal.returns-clause-below
returns-clause-below c = events_below-same
