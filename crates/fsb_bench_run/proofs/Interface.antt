-- The lemmas of this crate that others draw on; no other name of its proofs is used outside.

-- The first bench of a plan, by its agents, stands for its run, and so does a bench after each clock, which it may
-- take.
pub use Rattle.fsb_bench_run.proofs.FirstStands.{first-is, first-stands, plan-keeps}
pub use Rattle.fsb_bench_run.proofs.MayGo.{may-go}
pub use Rattle.fsb_bench_run.proofs.StandsNext.{bench-goes-on}
-- The run with one more clock: it grows from the bench's, has entries of that clock, and is timely.
pub use Rattle.fsb_bench_run.proofs.NextRun.{AreOfClock, entries-now, grows-to}
pub use Rattle.fsb_bench_run.proofs.LogsNow.{reaches-step, timely-now}
pub use Rattle.fsb_bench_run.proofs.StepEntries.{step-with}
-- The sample of a clock has ADS# exactly where a request begins there.
pub use Rattle.fsb_bench_run.proofs.DrivenLines.{ads-driven}
-- A request that has begun stays as a run grows, and what it is.
pub use Rattle.fsb_bench_run.proofs.BegunEvents.{AgentsAre, begun-claim, told-each, views-cancelled}
pub use Rattle.fsb_bench_run.proofs.BegunRequests.{begun-is, begun-request}
pub use Rattle.fsb_bench_run.proofs.BegunStays.{before-growth, begun-stays}
pub use Rattle.fsb_bench_run.proofs.SnoopResult.{begun-reply-kind}
-- The agents of a bench after what is told to them, at the stages of its clock, and after it.
pub use Rattle.fsb_bench_run.proofs.AgentsTold.{fetched-from, some-of, told-at}
pub use Rattle.fsb_bench_run.proofs.FirstEntries.{bench-hits, first-entries}
pub use Rattle.fsb_bench_run.proofs.HitEntries.{HasHitsFirst, agents-found}
pub use Rattle.fsb_bench_run.proofs.HitsCompleted.{AgentsFound}
pub use Rattle.fsb_bench_run.proofs.ArrivalMade.{arrival-unhit}
pub use Rattle.fsb_bench_run.proofs.OwingKept.{cancelled-buffers, performed-buffers, started-buffers}
pub use Rattle.fsb_bench_run.proofs.SnoopViews.{answered-agents, some-lines, views-answered}
pub use Rattle.fsb_bench_run.proofs.AgentsOwing.{owed-answered}
pub use Rattle.fsb_bench_run.proofs.AgentsNext.{agents-next}
-- What a bench decides and hears of a snoop end is that of its run.
pub use Rattle.fsb_bench_run.proofs.SnoopCases.{snoop-cases}
pub use Rattle.fsb_bench_run.proofs.SnoopHeard.{IsClaimHeard, IsReplyHeard, IsSnoopHeard, answered-of, claim-told}
pub use Rattle.fsb_bench_run.proofs.SnoopHeard.{hears-snoop, reply-serves}
-- The request that responds, and the one that ends.
pub use Rattle.fsb_bench_run.proofs.ResponsesDriven.{code-now, sample-grown}
pub use Rattle.fsb_bench_run.proofs.RespondsFirst.{responds-first}
pub use Rattle.fsb_bench_run.proofs.RespondingNow.{IsResponding, responding-of, responding-settled}
pub use Rattle.fsb_bench_run.proofs.EndPlaces.{IsEnding, ending-of, head-ends}
pub use Rattle.fsb_bench_run.proofs.EndHeard.{itself-served}
pub use Rattle.fsb_bench_run.proofs.EndCases.{end-cases, ending-heard, head-settled, queue-answered}
pub use Rattle.fsb_bench_run.proofs.OwnCompletes.{made-by, settled-or-replied}
-- The entries of the queue, and what the hits leave of the bus.
pub use Rattle.fsb_bench_run.proofs.QueueNext.{orderly-run}
pub use Rattle.fsb_bench_run.proofs.SnoopEntry.{clock-there, rank-rises}
pub use Rattle.fsb_bench_run.proofs.SameBus.{same-performed}
-- Parts of an answer that is there.
pub use Rattle.fsb_bench_run.proofs.StartingNow.{and-some}
-- Which requests of others are open at a bench's clock: those of the queue that have no outcome.
pub use Rattle.fsb_bench_run.proofs.OpenNow.{one-number}
-- The run with one more clock of a bench, where these entries are logged there.
pub use Rattle.fsb_bench_run.proofs.RunWith.{run_with}
-- The last clock of a run that has grown by it: what is said of it is said of the whole run.
pub use Rattle.fsb_bench_run.proofs.ThisClock.{holds-now}
