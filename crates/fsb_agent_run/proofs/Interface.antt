-- The lemmas of this crate that others draw on; no other name of its proofs is used outside.

-- The record before any event, its place, and what it answers.
pub use Rattle.fsb_agent_run.proofs.FirstViews.{first-of}
pub use Rattle.fsb_agent_run.proofs.HitsMade.{hit-by}
pub use Rattle.fsb_agent_run.proofs.Places.{placed-at}
pub use Rattle.fsb_agent_run.proofs.StatesTold.{answer-by, come-by, held-by, held-told, sole-by}
pub use Rattle.fsb_agent_run.proofs.WantsMade.{want-by}
pub use Rattle.fsb_agent_run.proofs.LockedWants.{locked-by}
-- Each event of a clock leads on.
pub use Rattle.fsb_agent_run.proofs.HitViews.{handed-view, performed-logged, performed-view}
pub use Rattle.fsb_agent_run.proofs.SentViews.{cancelled-view, sent-view, uncancelled-view, unsent-view}
pub use Rattle.fsb_agent_run.proofs.OwnSnoops.{own-claimed}
pub use Rattle.fsb_agent_run.proofs.OtherSnoops.{other-claimed, other-replied, own-replied, quiet-view}
pub use Rattle.fsb_agent_run.proofs.EndEvents.{arrives-by, comes-to, ended-here, given-up-view, kept-made, line-view}
pub use Rattle.fsb_agent_run.proofs.EndEvents.{ungranted, upgrade-view}
pub use Rattle.fsb_agent_run.proofs.EndViews.{quiet-arrival, quiet-end-view, ungranted-arrival}
pub use Rattle.fsb_agent_run.proofs.ClockEvents.{cancelled-all, clock-view, clocks-view, ended-all, handed-all}
pub use Rattle.fsb_agent_run.proofs.ClockEvents.{sent-all, snooped-all}
-- What an agent completes, and what it owes.
pub use Rattle.fsb_agent_run.proofs.ItemsCompleted.{IsNeedOf, logged-there, steps-need}
pub use Rattle.fsb_agent_run.proofs.EntriesLogged.{arrived-entries, performed-entries, upgrade-entries}
pub use Rattle.fsb_agent_run.proofs.LoggedSteps.{entries-logged}
pub use Rattle.fsb_agent_run.proofs.OwedApart.{owed-apart, owed-few, sent-apart}
-- How a request of a symmetric agent is settled, and who awaits what.
pub use Rattle.fsb_agent_run.proofs.OwnSnoops.{IsSettledAs, settled-as}
pub use Rattle.fsb_agent_run.proofs.GrantsAwaited.{earlier-ended, granted-unawaited, latest-ends, latest-says}
-- What a reply serves is the request that its agent has outstanding on the line; and no grant, no arrival.
pub use Rattle.fsb_agent_run.proofs.AskedNumbers.{served-number}
pub use Rattle.fsb_agent_run.proofs.EndFacts.{own-left, replied-left}
pub use Rattle.fsb_agent_run.proofs.EndViews.{NoGrantEnds, no-arrival, nothing-granted}
-- The bytes that an agent owes, from one moment of a clock to the next, and over its clocks.
pub use Rattle.fsb_agent_run.proofs.FirstOwed.{first-owed}
pub use Rattle.fsb_agent_run.proofs.GiversNamed.{given-named}
pub use Rattle.fsb_agent_run.proofs.BytesHandedOn.{hand-there, handed-owed, kept-at-response}
pub use Rattle.fsb_agent_run.proofs.OwedStages.{IsOwnAt, claimed-out, other-claimed-owed, own-owed-then, replied-out}
pub use Rattle.fsb_agent_run.proofs.OwedSnoopEnds.{other-owed-after, unsettled-owed-after}
pub use Rattle.fsb_agent_run.proofs.OwedEnds.{line-owed, upgrade-owed}
pub use Rattle.fsb_agent_run.proofs.FewOwed.{most-owed, owed-before}
pub use Rattle.fsb_agent_run.proofs.ClockOwed.{clock-owed, clocks-owed}
pub use Rattle.fsb_agent_run.proofs.GrownOwed.{owed-grown}
-- That the calls of an agent may come.
pub use Rattle.fsb_agent_run.proofs.MayCalls.{other-may}
pub use Rattle.fsb_agent_run.proofs.CallsAtStages.{cancelled-seen, own-seen, send-may, tells-grants}
pub use Rattle.fsb_agent_run.proofs.EndsAtStages.{arrives-seen, given-up-seen, upgrade-seen}
-- An agent may see its events of a clock, and stays sound.
pub use Rattle.fsb_agent_run.proofs.SoundEvents.{clock-seen, sound-all, sound-clock}
-- What stands in a list.
pub use Rattle.fsb_agent_run.proofs.Among.{Among, all-among, among-any, among-either, among-filter, among-get}
pub use Rattle.fsb_agent_run.proofs.Among.{found-among, get-among}
-- The pushes and promises of an agent's buffers, one by one and all together.
pub use Rattle.fsb_agent_run.proofs.BufferCounts.{fill-counted}
-- How many fills a line has when one is added, promised or ended.
pub use Rattle.fsb_agent_run.proofs.FillCounts.{come-count}
-- Fills of an agent's buffers, and what a sound agent tells by them of its requests and lines.
pub use Rattle.fsb_agent_run.proofs.FillsTold.{fill_on-without}
-- The requests whose bytes an agent gives in a timely run.
pub use Rattle.fsb_agent_run.proofs.GivenBytes.{claim-given, given, gives-by, same-first, written-kind}
-- The requests of a view, as its agent's run knows them: without one, and with one granted.
pub use Rattle.fsb_agent_run.proofs.OutLists.{among-granted, among-without, kept-of, numbered-among, owing-there}
pub use Rattle.fsb_agent_run.proofs.OutLists.{wanted-of}
-- The outstanding requests of an agent: what each of them is, and how they go on by a clock.
pub use Rattle.fsb_agent_run.proofs.OwedSteps.{owing-is, sent-is}
-- The snoop ends and ends of a run that an agent sees as those of its own requests, or as those of others.
pub use Rattle.fsb_agent_run.proofs.OwnEvents.{is_settled_for}
-- A line of which an agent has an open or deferred request is not awaited by it: at a snoop end of its own request
-- it awaits nothing on the line.
pub use Rattle.fsb_agent_run.proofs.OwnLines.{settled-unawaited}
-- A line on which an agent is dirty is promised to nobody.
pub use Rattle.fsb_agent_run.proofs.PromisesFree.{dirty-unpromised}
-- What is promised in a timely run: to whom, and that it has no response as long as the promise stands.
pub use Rattle.fsb_agent_run.proofs.PromisesTold.{awaits-by, promised-at}
