-- When a bench may take a clock: what the calls of the step ask for.
use Rattle.std.specs.Prelude.{◌≡◌, ◌<◌, ℕ, ◌==◌, Bool, true, false, List, length, Some, slice_get}
use Rattle.fsb_agent_view.specs.AgentViews.{AgentView}
use Rattle.fsb_agent_view.specs.Arriving.{may_arrive, may_end_upgrade, may_give_up}
use Rattle.fsb_agent_view.specs.Snooping.{may_commit}
use Rattle.fsb_agent_view.specs.Wanting.{may_send}
use Rattle.fsb_encode.specs.Request.{is_lawful_request}
use Rattle.fsb_flight.specs.GoesOn.{Rising}
use Rattle.fsb_phase.specs.FitQueue.{HoldsInFlight, is_too_soon}
use Rattle.fsb_phase.specs.declared.drive.Phased.{Phased}
use Rattle.fsb_queue.specs.declared.entry.Entry.{Entry}
use Rattle.fsb_signal.specs.Samples.{response_of}
use Rattle.fsb_timely.specs.Moments.{turns_in}
use Rattle.fsb_timely.specs.Runs.{Run, past_of}
use Rattle.fsb_trace.specs.Outcome.{does_take}
use Rattle.fsb_trace.specs.declared.outcome.Outcome.{Outcome}
use Rattle.fsb_trace.specs.declared.outcome.Outcome.TheVariants as outcomes
use Rattle.fsb_trace.specs.declared.who.Who.TheVariants.{Symmetric}
use Rattle.fsb_bench_view.specs.declared.beginning.Latest.{Latest}
use Rattle.fsb_bench_view.specs.declared.beginning.Starting.{Starting}
use Rattle.fsb_bench_view.specs.declared.decided.Decided.{Decided}
use Rattle.fsb_bench_view.specs.declared.decided.Ending.{Ending}
use Rattle.fsb_bench_view.specs.declared.snoop.Served.{Served}
use Rattle.fsb_bench_view.specs.declared.snoop.SnoopSettled.{SnoopSettled}
use Rattle.fsb_bench_view.specs.BusViews.{BenchView, BusView, next_clock_of}
use Rattle.fsb_bench_view.specs.BenchSteps.{step_decided, step_drive, step_performed, step_phased, step_sample}
use Rattle.fsb_bench_view.specs.BusEvents.{heard_answer, heard_cancel, heard_ending, heard_start}

-- the turns of a run's live requests, as numbers
abbrev pub run_turns : Run → List ℕ
run_turns run = turns_in (past_of run).moments

-- there is an agent of this number
abbrev pub HasAgent : BusView → ℕ → Type 0
HasAgent bus agent = agent < length bus.agents

-- the agent of this number passes the test
abbrev pub AgentMay : BusView → ℕ → (AgentView → Bool) → Type 0
AgentMay bus agent test = (v : AgentView) → slice_get bus.agents agent ≡ Some v → test v ≡ true

-- the words of a clock come from lawful requests, and so do the chunks
pub record HasLawfulWords (bus : BusView) : Type 0 where
  pub latest : (latest : Latest) → bus.latest ≡ Some latest → is_lawful_request latest.request ≡ true
  pub served : (served : Served) → slice_get bus.served 0 ≡ Some served → served.request.chunk < 4

-- the request may begin at the clock: it is lawful, and its agent may send it
pub record MayStart (bus : BusView) (clock : ℕ) (starting : Starting) : Type 0 where
  pub lawful : is_lawful_request starting.request ≡ true
  pub known : (agent : ℕ) → starting.who ≡ Symmetric agent → HasAgent bus agent
  pub sends : (agent : ℕ) → starting.who ≡ Symmetric agent → AgentMay bus agent (λ v. may_send v clock clock)

-- the request of the entry may be cancelled: its agent may give it up
pub record MayCancel (bus : BusView) (entry : Entry) : Type 0 where
  pub known : (agent : ℕ) → entry.who ≡ Symmetric agent → HasAgent bus agent
  pub gives_up : (agent : ℕ) → entry.who ≡ Symmetric agent → AgentMay bus agent (λ v. may_give_up v entry.clock)

-- the bus may take the snoop end: each agent may see it, and there is room for the deferral and for what is served
pub record MaySnoop (bus : BusView) (s : SnoopSettled) : Type 0 where
  pub commits : (n : ℕ) → AgentMay bus n (λ v. may_commit v s.served.first (n == s.served.agent) s.outcome)
  pub deferrals : s.outcome ≡ outcomes.Deferred → length bus.bridge.waiting < 16
  pub served : length bus.served < 8

-- the agent may hear of the end of its request with this outcome
abbrev pub may_end_with : ℕ → Outcome → AgentView → Bool
may_end_with first outcomes.Granted v = may_arrive v first
may_end_with first outcomes.Handed v = may_arrive v first
may_end_with first outcomes.Retried v = may_give_up v first
may_end_with first outcomes.Deferred v = true
may_end_with first outcomes.Written v = may_give_up v first
may_end_with first outcomes.Replied v = may_arrive v first
may_end_with first outcomes.Failed v = true
may_end_with first outcomes.Upgraded v = may_end_upgrade v first

-- the bus may take the end: the agent may hear of it, and memory has the line, where it takes one. `named` says which
-- lines memory has
pub record MayEnd (named : ℕ → Bool) (bus : BusView) (ending : Ending) : Type 0 where
  pub known : HasAgent bus ending.served.agent
  pub ends : AgentMay bus ending.served.agent (may_end_with ending.served.first ending.outcome)
  pub puts : does_take ending.outcome ≡ true → named ending.served.request.line ≡ true

-- the bus may take what the clock brings: this was decided, and the phases tell this of the clock
pub record MayHear (named : ℕ → Bool) (bus : BusView) (clock : ℕ) (decided : Decided) (phased : Phased) : Type 0 where
  pub starts : (starting : Starting) → decided.starting ≡ Some starting → MayStart bus clock starting
  pub cancels : (entry : Entry) → decided.cancelled ≡ Some entry → MayCancel (heard_start bus clock decided) entry
  pub snoops : (s : SnoopSettled) → decided.snooped ≡ Some s → MaySnoop (heard_cancel bus clock decided) s
  pub ends : (ending : Ending) → heard_ending bus clock decided phased ≡ Some ending
      → MayEnd named (heard_answer bus clock decided) ending

-- the sample may be the next: RS# is what is driven, and the requests keep their distance
pub record MaySample (v : BenchView) (hold : Bool) : Type 0 where
  pub answers : response_of (step_sample v hold) ≡ (step_drive v).rs
  pub spaced : is_too_soon v.run.trace (step_sample v hold) ≡ false

-- the queue holds the requests in flight of the run, and their numbers rise
pub record HasFlightOf (queue : List Entry) (run : Run) : Type 0 where
  pub flight : HoldsInFlight queue (run_turns run) run.trace
  pub rising : Rising queue

-- the bench may take a clock, where BNR# is asked for or not
pub record MayStep (named : ℕ → Bool) (v : BenchView) (hold : Bool) : Type 0 where
  pub flight : HasFlightOf v.bus.queue v.run
  pub words : HasLawfulWords (step_performed v)
  pub sample : MaySample v hold
  pub hears : MayHear named (step_performed v) (next_clock_of v) (step_decided v hold) (step_phased v hold)
