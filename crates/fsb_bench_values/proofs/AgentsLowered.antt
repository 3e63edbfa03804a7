-- The agents of a bench from the hits of its clock to what ends there: each has its lines from before, as far as
-- they have come.
use Rattle.fsb_bench_values.proofs.Words
use Words.{ℕ, ◌+◌, ◌≡◌, ◌||◌, Bool, Option, Some, None, List, [], ◌∷◌, fold, if◌then◌else◌, sym, ap, subst, ◌∙◌, arith}
use Words.{◌==◌, slice_get, option_map_or, AgentEvent, GivenUp, HandedOn, Sent, agent_after, AgentView, Entry, Who}
use Words.{Symmetric, Priority, Starting, BytesFrom, Memory, Agents, SnoopSettled, step_answered, step_cancelled}
use Words.{step_decided, step_drive, step_fetched, step_performed, step_snooped, step_started, answered_by}
use Words.{bus_answered, bus_cancelled, bus_snooped, bus_started, cancelled_event, snooped_event, starting_event}
use Words.{BenchView, BusView, next_clock_of, bus_fetched, bytes_source, agents_told, for_all, some-of, told-at}
use Rattle.fsb_bench_values.proofs.LoweredViews.{IsLowered, lowered-committed, lowered-given, lowered-handed}
use Rattle.fsb_bench_values.proofs.LoweredViews.{lowered-same, lowered-sent, lowered-twice}

-- the agent of this number before
pub record WasAgent (old : List AgentView) (a : ℕ) (w : AgentView) : Type 0 where
  pub before : AgentView
  pub at : slice_get old a ≡ Some before
  pub lowered : IsLowered before w

-- each agent was there before, and has its lines from then
pub record AreLowered (old new : List AgentView) : Type 0 where
  pub each : (a : ℕ) (w : AgentView) → slice_get new a ≡ Some w → WasAgent old a w

all-lowered : (agents : List AgentView) → AreLowered agents agents
all-lowered agents = record { each = λ a w at. record { before = w; at = at; lowered = lowered-same w } }

pub both-lowered : (old middle new : List AgentView) → AreLowered old middle → AreLowered middle new
    → AreLowered old new
both-lowered old middle new j k = record {
  each = λ a w at.
      let later = k.each a w at in
      let first = j.each a later.before later.at in
      record {
        before = first.before;
        at = first.at;
        lowered = lowered-twice first.before later.before w first.lowered later.lowered;
      };
}

told-lowered : (events : ℕ → List AgentEvent) (agents : List AgentView)
    → ((a : ℕ) (w : AgentView) → IsLowered w (fold agent_after w (events a)))
    → AreLowered agents (agents_told events 0 agents)
told-lowered events agents leads = record {
  each = λ a w at.
      let t = some-of (λ v. fold agent_after v (events (0 + a))) (slice_get agents a) w
      (sym (told-at events 0 agents a) ∙ at) in
      let none_more : 0 + a ≡ a = omega arith in
      record {
        before = t.0;
        at = t.1;
        lowered = subst (IsLowered t.0) (sym (t.2 ∙ ap (λ m. fold agent_after t.0 (events m)) none_more)) (leads a t.0);
      };
}

-- an event of one agent alone
for-one : (event : AgentEvent) (b : Bool) (w : AgentView) → IsLowered w (agent_after w event)
    → IsLowered w (fold agent_after w (if b then event ∷ [] else []))
for-one event b w h1 = grind arith

-- what is handed on
fetched : (bus : BusView) (o : Option BytesFrom) → AreLowered bus.agents (bus_fetched bus o).agents
fetched bus None = all-lowered bus.agents
fetched bus (Some (Memory line)) = all-lowered bus.agents
fetched bus (Some (Agents number)) =
    told-lowered (for_all (HandedOn number)) bus.agents (λ a w. lowered-handed w number)

pub fetched-lowered : (v : BenchView) → AreLowered v.bus.agents (step_fetched v).agents
fetched-lowered v = fetched v.bus (bytes_source v.bus (step_drive v))

-- what begins, what is cancelled, and the snoop end
starts : (clock : ℕ) (who : Who) (agents : List AgentView)
    → AreLowered agents (agents_told (starting_event clock who) 0 agents)
starts clock (Symmetric agent) agents =
    told-lowered (starting_event clock (Symmetric agent)) agents
    (λ a w. for-one (Sent clock clock) (a == agent) w (lowered-sent w clock clock))
starts clock Priority agents = told-lowered (starting_event clock Priority) agents (λ a w. lowered-same w)

started : (bus : BusView) (clock : ℕ) (o : Option Starting)
    → AreLowered bus.agents (option_map_or (bus_started bus clock) o bus).agents
started bus clock None = all-lowered bus.agents
started bus clock (Some starting) = starts clock starting.who bus.agents

cancels : (first : ℕ) (who : Who) (agents : List AgentView)
    → AreLowered agents (agents_told (cancelled_event first who) 0 agents)
cancels first (Symmetric agent) agents =
    told-lowered (cancelled_event first (Symmetric agent)) agents
    (λ a w. for-one (GivenUp first) (a == agent) w (lowered-given w first))
cancels first Priority agents = told-lowered (cancelled_event first Priority) agents (λ a w. lowered-same w)

cancelled : (bus : BusView) (o : Option Entry) → AreLowered bus.agents (option_map_or (bus_cancelled bus) o bus).agents
cancelled bus None = all-lowered bus.agents
cancelled bus (Some entry) = cancels entry.clock entry.who bus.agents

snooped : (bus : BusView) (o : Option SnoopSettled)
    → AreLowered bus.agents (option_map_or (bus_snooped bus) o bus).agents
snooped bus None = all-lowered bus.agents
snooped bus (Some s) =
    told-lowered (snooped_event s) bus.agents
    (λ a w. lowered-committed w s.served.first (a == s.served.agent) s.served.request (s.hit || s.hitm) s.outcome)

answered : (bus : BusView) (clock : ℕ) (o : Option Entry)
    → AreLowered bus.agents (option_map_or (bus_answered bus clock) o bus).agents
answered bus clock None = all-lowered bus.agents
answered bus clock (Some entry) = all-lowered bus.agents

-- up to the snoop end of the clock
pub cancelled-lowered : (v : BenchView) (hold : Bool)
    → AreLowered (step_performed v).agents (step_cancelled v hold).agents
cancelled-lowered v hold =
    both-lowered (step_performed v).agents (step_started v hold).agents (step_cancelled v hold).agents
    (started (step_performed v) (next_clock_of v) (step_decided v hold).starting)
    (cancelled (step_started v hold) (step_decided v hold).cancelled)

-- and up to what ends there
pub answered-lowered : (v : BenchView) (hold : Bool)
    → AreLowered (step_performed v).agents (step_answered v hold).agents
answered-lowered v hold =
    both-lowered (step_performed v).agents (step_snooped v hold).agents (step_answered v hold).agents
    (both-lowered (step_performed v).agents (step_cancelled v hold).agents (step_snooped v hold).agents
    (cancelled-lowered v hold) (snooped (step_cancelled v hold) (step_decided v hold).snooped))
    (answered (step_snooped v hold) (next_clock_of v) (answered_by (step_snooped v hold) (step_drive v)))
