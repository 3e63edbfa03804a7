-- The lemmas of this crate that others draw on; no other name of its proofs is used outside.

-- A part holds at each clock exactly where its test passes.
pub use Rattle.fsb_timely.proofs.EachClock.{keeps-at, keeps-all}
-- What an agent has and does at a clock rests on the past below that clock.
pub use Rattle.fsb_timely.proofs.GoingOn.{Alike, going-alike, holds_line-same, is_exclusive-same, last-same}
pub use Rattle.fsb_timely.proofs.GoingOn.{latest_grant-same, rival-same}
-- The moments of a run, and what the whole trace says.
pub use Rattle.fsb_timely.proofs.Moments.{moment-at, moment-snooped, moment_of, number-found, number-says}
pub use Rattle.fsb_timely.proofs.Moments.{run_to-agrees, snoop_of, snooped-there}
pub use Rattle.fsb_timely.proofs.Beginnings.{length-moments}
pub use Rattle.fsb_timely.proofs.Next.{each_clock-more, past-goes_on, past-same, timely-more}
-- The snoop ends of a run, in its moments and in its whole trace.
pub use Rattle.fsb_timely.proofs.TiedMoments.{snoop-tied, tied-snoop}
-- What an agent wants at a clock rests on the past up to that clock, and stays where it owes no more.
pub use Rattle.fsb_timely.proofs.Completing.{timely-want-stays}
pub use Rattle.fsb_timely.proofs.GoingDirty.{below_le, done_after, done_below, is_dirty-alike}
pub use Rattle.fsb_timely.proofs.GoingWants.{is_held_back-alike, owed-same, want_of-alike}
-- The entries of an agent of a timely run are the accesses of its script up to its next item.
pub use Rattle.fsb_timely.proofs.FollowedScripts.{at, below, below-more, same-list, steps-completed}
-- Where an agent is in its script rests on the entries below the clock.
pub use Rattle.fsb_timely.proofs.GoingScripts.{is_hit-alike, is_idling-alike, is_met-alike, next_item-alike}
pub use Rattle.fsb_timely.proofs.GoingScripts.{next_number-alike, window-alike}
-- What an agent holds, one clock further.
pub use Rattle.fsb_timely.proofs.Holding.{holds_line-more, is_ended-more, is_exclusive-more, latest_grant-more}
-- The entries that a timely run has at a clock: each agent's are of its next item there, by a hit or an arrival.
pub use Rattle.fsb_timely.proofs.LoggedItems.{logged-next, logs-item, not-behind, whole-completions}
-- What the moment of a clock has of the request that begins there and of the one that is cancelled, the whole trace
-- says.
pub use Rattle.fsb_timely.proofs.MomentFields.{begun-told, cancelled-told}
-- A clock is the snoop end of one live request at most.
pub use Rattle.fsb_timely.proofs.OneEnd.{one_end}
-- The outstanding requests, one clock further.
pub use Rattle.fsb_timely.proofs.Outstanding.{is_outstanding-more}
-- What is settled, and who claims what, rests on the samples so far.
pub use Rattle.fsb_timely.proofs.Settled.{claim_at-agree, line_of-agree, settled_by-agree}
-- What it says that something has held since a gain.
pub use Rattle.fsb_timely.proofs.Since.{holds_line-says, last_where-found, last_where-from}
-- What an agent wants is a line that none of its outstanding requests is for.
pub use Rattle.fsb_timely.proofs.Wanted.{find-passes, missing-parts, want_of-new}
-- The past of a timely run goes on from its past up to each clock, so what is said of a clock is said of the whole
-- past.
pub use Rattle.fsb_timely.proofs.WholePast.{is_arrival-alike, is_brought-alike, past-begins}
-- Where an agent is in its script, one clock further.
pub use Rattle.fsb_timely.proofs.Items.{done-same, is_logged-more, next_number-same}
-- The last clock of a run: up to it the run is itself.
pub use Rattle.fsb_timely.proofs.LastClock.{moments-grow, past-before, run-ends}
-- The turns of the snoop ends come in the order of the live requests.
pub use Rattle.fsb_timely.proofs.TurnOrder.{turns-quiet, turns-snooped}
-- A want stays where its agent completes its next item: the rest of the window is the first part of the next one.
pub use Rattle.fsb_timely.proofs.WindowSteps.{done-before, done-now}
-- Below each clock an agent's entries are the accesses of its script up to its next item there.
pub use Rattle.fsb_timely.proofs.ScriptPlaces.{follows-script}
