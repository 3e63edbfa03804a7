-- The lemmas of this crate that others draw on; no other name of its proofs is used outside.

-- Lists of events, one after the other; and clocks that keep the tie.
pub use Rattle.fsb_coherent.proofs.Clocks.{may-below, run-append}
-- Who has a line for itself.
pub use Rattle.fsb_coherent.proofs.CoherentRuns.{only_holder, pending_shared}
-- From the facts of a clock to the tie: up to its snoop end, and from there.
pub use Rattle.fsb_coherent.proofs.FirstEvents.{first-events}
pub use Rattle.fsb_coherent.proofs.KeptTies.{facts-keep-ties}
-- The words of a clock over the past up to it.
pub use Rattle.fsb_coherent.proofs.WordsTo.{GoesOnAt, dirty-to, holds-to}
-- How a request is settled at its snoop end, and which grant it makes.
pub use Rattle.fsb_coherent.proofs.SnoopEnds.{grant-made, outcome-made, turn-kept}
pub use Rattle.fsb_coherent.proofs.SnoopLinks.{grant_if}
-- The line behind the response and the hits of a clock.
pub use Rattle.fsb_coherent.proofs.HitSteps.{AfterHits, hits-step}
pub use Rattle.fsb_coherent.proofs.ResponseStep.{AfterResponse, responds-step}
pub use Rattle.fsb_coherent.proofs.TiedBetween.{goes-on}
-- The line of the pure machine behind the snoop end of a clock: the end of the clock, and the accesses that come with
pub use Rattle.fsb_coherent.proofs.Behind.{links_new}
-- The events of a clock, which are told by the past up to it, are those told by the whole past.
pub use Rattle.fsb_coherent.proofs.SameEvents.{events-in-two}
-- The snoop end of a clock, whichever it is: its event may happen, and the line of the machine behind it is that of the
pub use Rattle.fsb_coherent.proofs.SnoopStep.{snoop-step}
-- What makes an agent dirty on a line: its latest grant, and its stores since.
pub use Rattle.fsb_coherent.proofs.DirtyParts.{ended-later, granted-now, some-there, stored-parts}
-- On which lines an agent is dirty, one clock further.
pub use Rattle.fsb_coherent.proofs.DirtySteps.{dirty-by-hits, dirty-more, dirty-none}
-- Tests of the entries of a list.
pub use Rattle.fsb_coherent.proofs.Entries.{any-from, any-there}
-- The events of a line stay when the run goes on.
pub use Rattle.fsb_coherent.proofs.EventsStay.{events_below-same}
