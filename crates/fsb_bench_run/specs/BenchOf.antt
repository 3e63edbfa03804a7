-- The bench that stands for its run.
use Rattle.std.specs.Prelude.{◌≡◌, ℕ, true, is_some, List, length, map, Option, Some, slice_get}
use Rattle.std.specs.List.{filter}
use Rattle.std.specs.Option.{option_and_then, option_map}
use Rattle.fsb_count.specs.Clocks.{all_where, last_where}
use Rattle.fsb_encode.specs.declared.request.Request.{Request}
use Rattle.fsb_signal.specs.declared.lines.TheConstants.Lines.{ADS}
use Rattle.fsb_signal.specs.Samples.{line_at}
use Rattle.fsb_trace.specs.declared.who.Who.{Who}
use Rattle.fsb_trace.specs.declared.who.Who.TheVariants.{Symmetric}
use Rattle.fsb_trace.specs.Requests.{live_clock_of, live_number_of}
use Rattle.fsb_trace.specs.Winner.{winner_at}
use Rattle.fsb_queue.specs.declared.entry.Entry.{Entry}
use Rattle.fsb_timely.specs.BusLock.{is_begun_by, is_locked_request}
use Rattle.fsb_timely.specs.Moments.{served_number}
use Rattle.fsb_timely.specs.Runs.{Run, past_of, past_to, run_to}
use Rattle.fsb_timely.specs.Starts.{would_begin}
use Rattle.fsb_timely.specs.Timely.{Timely}
use Rattle.fsb_lawful.specs.Beginning.{KeepsBounds}
use Rattle.fsb_phase_run.specs.Holds.{HoldsRequests}
use Rattle.fsb_bridge.specs.Deferrals.{Bridged}
use Rattle.fsb_bridge_run.specs.RunDeferrals.{HasDeferrals}
use Rattle.fsb_agent_view.specs.AgentViews.{AgentView}
use Rattle.fsb_agent_view.specs.Sound.{IsSound}
use Rattle.fsb_agent_run.specs.BytesOwed.{HasBytesOwed}
use Rattle.fsb_agent_run.specs.Stages.{IsViewOf}
use Rattle.fsb_bench_view.specs.declared.beginning.Latest.{Latest}
use Rattle.fsb_bench_view.specs.declared.beginning.Started.{Started}
use Rattle.fsb_bench_view.specs.declared.snoop.Served.{Served}
use Rattle.fsb_bench_view.specs.BusViews.{BenchView}
use Rattle.fsb_bench_view.specs.MaySteps.{HasFlightOf, run_turns}
use Rattle.fsb_bench_run.specs.LocksHeld.{kept_into}

-- the agent begins this request at q: a request begins there, the agent is the winner, and this is what it would begin
pub record IsBegunAt (r : Run) (q : ℕ) (who : Who) (request : Request) : Type 0 where
  pub begins : line_at ADS r.trace q ≡ true
  pub winner : winner_at r.trace q ≡ Some who
  pub wanted : would_begin (run_to r q) (past_to (past_of r) q) q who ≡ Some request

-- the record is agent a of the run as the next clock finds it: it is sound, and owes what a owes
pub record IsAgentNext (r : Run) (a : ℕ) (v : AgentView) : Type 0 where
  pub view : IsViewOf (past_of r) a (length r.trace) v
  pub sound : IsSound v
  pub owed : HasBytesOwed (past_of r) a (length r.trace) (length r.trace) (length r.trace) v

-- the four agents of the run, by their numbers
pub record HasAgentsOf (agents : List AgentView) (r : Run) : Type 0 where
  pub four : length agents ≡ 4
  pub each : (a : ℕ) (v : AgentView) → slice_get agents a ≡ Some v → IsAgentNext r a v

-- each entry has the agent and the request that began at its clock
pub record HasBegun (queue : List Entry) (r : Run) : Type 0 where
  pub begun : (k : ℕ) (e : Entry) → slice_get queue k ≡ Some e → IsBegunAt r e.clock e.who e.request

-- the bridge has the plan's window and the deferrals of the run that wait for their replies at the next clock
pub record HasBridgeOf (bridge : Bridged) (r : Run) : Type 0 where
  pub window : bridge.window ≡ r.plan.bridge
  pub deferrals : HasDeferrals bridge.waiting r (length r.trace)

-- the request that began last is the last one of the run
pub record IsLatestOf (latest : Option Latest) (r : Run) : Type 0 where
  pub clock : option_map (λ last. last.clock) latest ≡ last_where (line_at ADS r.trace) (length r.trace)
  pub begun : (last : Latest) → latest ≡ Some last → IsBegunAt r last.clock last.who last.request

-- the requests that have begun, in order: of each its first clock, and whether it is a locked one of its agent
pub record HasStarted (started : List Started) (r : Run) : Type 0 where
  pub clocks : map (λ start. start.clock) started ≡ all_where (line_at ADS r.trace) (length r.trace)
  pub locked : (k a : ℕ) (start : Started) → slice_get started k ≡ Some start
      → is_begun_by (past_of r) a start.clock ≡ true → start.locked ≡ is_locked_request (past_of r) a start.clock

-- the live request that the one beginning at q serves, by its first clock
abbrev pub clock_served : Run → ℕ → Option ℕ
clock_served r q =
    option_and_then (live_clock_of r.trace) (served_number r.trace (run_turns r) (live_number_of r.trace q))

-- the request of this entry serves this one: itself, or for a reply the deferred one, which an agent began
pub record IsServed (r : Run) (e : Entry) (served : Served) : Type 0 where
  pub first : clock_served r e.clock ≡ Some served.first
  pub begun : IsBegunAt r served.first (Symmetric served.agent) served.request

-- the entries that have their snoop ends
abbrev pub settled_entries : List Entry → List Entry
settled_entries queue = filter (λ e. is_some e.outcome) queue

-- of each entry with its snoop end, in order, the request that it serves
pub record HasServed (served : List Served) (queue : List Entry) (r : Run) : Type 0 where
  pub count : length served ≡ length (settled_entries queue)
  pub each : (k : ℕ) (e : Entry) (s : Served) → slice_get (settled_entries queue) k ≡ Some e
      → slice_get served k ≡ Some s → IsServed r e s

-- the bench stands for its run: that is timely, its plan keeps the bounds, and what the bench has is what the run has at
-- its next clock. Of memory and of the bytes that move it says nothing
pub record IsBenchOf (v : BenchView) : Type 0 where
  pub timely : Timely v.run
  pub bounds : KeepsBounds v.run.plan
  pub agents : HasAgentsOf v.bus.agents v.run
  pub flight : HasFlightOf v.bus.queue v.run
  pub requests : HoldsRequests v.bus.queue v.run
  pub entries : HasBegun v.bus.queue v.run
  pub bridge : HasBridgeOf v.bus.bridge v.run
  pub latest : IsLatestOf v.bus.latest v.run
  pub started : HasStarted v.bus.started v.run
  pub served : HasServed v.bus.served v.bus.queue v.run
  pub kept : v.bus.kept ≡ kept_into (past_of v.run) (length v.run.trace)
