-- The snoop end that a clock is.
use Rattle.std.specs.Prelude.{ℕ, ◌+◌, ◌/◌, ◌==◌, ◌||◌, Bool, true, false, is_none, if◌then◌else◌, List, [], ◌∷◌, Option, Some, None, slice_get}
use Rattle.std.specs.List.{find}
use Rattle.std.specs.Option.{option_and_then, option_map}
use Rattle.fsb_agent_view.specs.AgentViews.{AgentView, answer_by}
use Rattle.fsb_bridge.specs.Deferrals.{deferral_of_id, is_covered, is_waited_for}
use Rattle.fsb_bridge.specs.declared.deferral.Deferral.{Deferral}
use Rattle.fsb_encode.specs.declared.request.Request.{Request}
use Rattle.fsb_hazard.specs.Choice.{effective_turn}
use Rattle.fsb_hazard.specs.declared.choice.Turn.{Turn}
use Rattle.fsb_hazard.specs.declared.choice.Turn.TheVariants.{Keep, Retry, Defer}
use Rattle.fsb_line.specs.declared.state.Answer.{Answer}
use Rattle.fsb_line.specs.declared.state.Answer.TheVariants as answers
use Rattle.fsb_phase.specs.declared.drive.Drive.{Drive}
use Rattle.fsb_queue.specs.declared.entry.Entry.{Entry}
use Rattle.fsb_trace.specs.Outcome.{outcome_by_kind}
use Rattle.fsb_trace.specs.declared.outcome.Outcome.{Outcome}
use Rattle.fsb_trace.specs.declared.outcome.Outcome.TheVariants.{Handed, Retried, Deferred, Replied}
use Rattle.fsb_trace.specs.declared.who.Who.{Who}
use Rattle.fsb_trace.specs.declared.who.Who.TheVariants.{Symmetric, Priority}
use Rattle.fsb_bench_view.specs.declared.beginning.Started.{Started}
use Rattle.fsb_bench_view.specs.declared.snoop.SnoopSettled.{SnoopSettled}
use Rattle.fsb_bench_view.specs.BusViews.{BusView}

-- of two answers the stronger one
abbrev pub stronger : Answer → Answer → Answer
stronger answers.Clean other = other
stronger answers.Hit answers.Clean = answers.Hit
stronger answers.Hit answers.Hit = answers.Hit
stronger answers.Hit answers.Modified = answers.Modified
stronger answers.Modified other = answers.Modified

-- the strongest answer at a snoop end of the line that an agent gives besides this one, where the first of the agents has
-- the number n
abbrev pub answer_besides : ℕ → ℕ → ℕ → List AgentView → Answer
answer_besides agent line n [] = answers.Clean
answer_besides agent line n (v ∷ vs) =
    let rest = answer_besides agent line (n + 1) vs in
    if n == agent then rest else stronger (answer_by v line) rest

-- the answer is that a line is Modified
abbrev pub is_modified_answer : Answer → Bool
is_modified_answer answers.Clean = false
is_modified_answer answers.Hit = false
is_modified_answer answers.Modified = true

-- the answer is that a line is held, and not Modified
abbrev pub is_hit_answer : Answer → Bool
is_hit_answer answers.Clean = false
is_hit_answer answers.Hit = true
is_hit_answer answers.Modified = false

-- how a request is settled: handed over at HITM#, else by its turn, else by its kind
abbrev pub snoop_outcome : Bool → Turn → Request → Outcome
snoop_outcome true turn request = Handed
snoop_outcome false Keep request = outcome_by_kind (Some request)
snoop_outcome false Retry request = Retried
snoop_outcome false (Defer later) request = Deferred

-- the turn of a request that counts
abbrev pub turn_counted : BusView → Entry → Turn
turn_counted bus entry =
    let line = entry.request.line in
    effective_turn entry.choice.turn entry.request (is_covered bus.bridge.window line) (is_waited_for line bus.bridge.waiting)

-- the snoop end of this agent's request, where the others answer this
abbrev pub snooping_with : ℕ → Entry → Turn → Answer → SnoopSettled
snooping_with agent entry turn answer = record {
  entry = entry;
  served = record { first = entry.clock; agent = agent; request = entry.request };
  hit = is_hit_answer answer;
  hitm = is_modified_answer answer;
  turn = turn;
  outcome = snoop_outcome (is_modified_answer answer) turn entry.request;
}

-- the snoop end of this agent's request
abbrev pub snooping_of : BusView → ℕ → Entry → SnoopSettled
snooping_of bus agent entry =
    snooping_with agent entry (turn_counted bus entry) (answer_besides agent entry.request.line 0 bus.agents)

-- the snoop end of a reply to this deferral, where the deferred request has begun so
abbrev pub snooped_reply : Entry → Deferral → Started → SnoopSettled
snooped_reply entry deferral begun = record {
  entry = entry;
  served = record { first = begun.clock; agent = deferral.request.did / 16; request = deferral.request };
  hit = deferral.shared;
  hitm = false;
  turn = Keep;
  outcome = Replied;
}

-- the snoop end of a reply to this deferral
abbrev pub snooped_for : BusView → Entry → Deferral → Option SnoopSettled
snooped_for bus entry deferral = option_map (snooped_reply entry deferral) (slice_get bus.started deferral.number)

-- the snoop end of the request of an entry
abbrev pub snooped_entry : BusView → Entry → Who → Option SnoopSettled
snooped_entry bus entry (Symmetric agent) = Some (snooping_of bus agent entry)
snooped_entry bus entry Priority =
    option_and_then (snooped_for bus entry) (deferral_of_id entry.request.did bus.bridge.waiting)

-- the oldest request in flight without a snoop end
abbrev pub first_open : List Entry → Option Entry
first_open queue = find (λ entry. is_none entry.outcome) queue

-- the snoop end that the clock is
abbrev pub snooping_by : BusView → Drive → Option SnoopSettled
snooping_by bus drive =
    if drive.stall || is_none drive.snoop then None
    else option_and_then (λ entry. snooped_entry bus entry entry.who) (first_open bus.queue)
