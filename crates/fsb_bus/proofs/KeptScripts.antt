-- What is told of begins, cancellations and snoop ends moves no agent on in its script.
use Rattle.std.proofs.Common.{◌≡◌, ℕ, ◌+◌, Bool, true, false, List, [], ◌∷◌, ◌++◌, ◌==◌, ◌||◌, if◌then◌else◌, length}
use Rattle.std.proofs.Common.{Option, Some, None, suc, refl, sym, ap, ◌∙◌, fold}
use Rattle.std.proofs.lemmas.List.Sums.{sum_by-cons}
use Rattle.std.specs.Option.{option_map_or}
use Rattle.fsb_agent_view.specs.AgentEvents.{AgentEvent, GivenUp, Sent, agent_after}
use Rattle.fsb_agent_view.specs.AgentViews.{AgentView, line_state_by}
use Rattle.fsb_agent_view.specs.OwnRequests.{new_request, request_numbered, requests_granted}
use Rattle.fsb_agent_view.specs.Snooping.{committed, granted_by, kind_asks, no_bytes, own_settled, upgraded_by}
use Rattle.fsb_agent_view.specs.Snooping.{with_fill}
use Rattle.fsb_agent_view.specs.Wanting.{sent, sets_cleared_for, want_by}
use Rattle.fsb_agent_view.specs.declared.want.OwnRequest.{OwnRequest}
use Rattle.fsb_agent_view.specs.declared.want.Want.{Want}
use Rattle.fsb_encode.specs.declared.request.Request.{Request}
use Rattle.fsb_line.specs.States.{asks_line, granted, is_held}
use Rattle.fsb_line.specs.declared.state.Mesi.TheVariants.{Modified}
use Rattle.fsb_cache.specs.Sets.{copies, sets_filled}
use Rattle.fsb_queue.specs.declared.entry.Entry.{Entry}
use Rattle.fsb_trace.specs.declared.outcome.Outcome.{Outcome}
use Rattle.fsb_trace.specs.declared.outcome.Outcome.TheVariants.{Granted, Handed, Retried, Deferred, Written, Replied}
use Rattle.fsb_trace.specs.declared.outcome.Outcome.TheVariants.{Failed, Upgraded}
use Rattle.fsb_trace.specs.declared.who.Who.{Who}
use Rattle.fsb_trace.specs.declared.who.Who.TheVariants.{Symmetric, Priority}
use Rattle.fsb_bench_view.specs.declared.beginning.Starting.{Starting}
use Rattle.fsb_bench_view.specs.declared.decided.Decided.{Decided}
use Rattle.fsb_bench_view.specs.declared.snoop.SnoopSettled.{SnoopSettled}
use Rattle.fsb_bench_view.specs.BusEvents.{answered_by, bus_answered, bus_cancelled, bus_snooped, bus_started}
use Rattle.fsb_bench_view.specs.BusEvents.{cancelled_event, heard_answer, heard_cancel, heard_snoop, heard_start}
use Rattle.fsb_bench_view.specs.BusEvents.{snooped_event, starting_event}
use Rattle.fsb_bench_view.specs.BusViews.{BusView}
use Rattle.fsb_bench_view.specs.ToldAgents.{agents_told, for_one}
use Rattle.fsb_bus.specs.LogRoom.{accesses_left, accesses_left_of}

left-sent : (v : AgentView) (clock number : ℕ) → accesses_left (sent v clock number) ≡ accesses_left v
left-sent v clock number = go (want_by v clock)
  where
    go : (want : Option Want)
        → accesses_left
        (elim want as (λ _. AgentView) [
          | None ↦ v
          | Some want ↦ record v {
            lines = sets_cleared_for v.lines want.request.line;
            outs = v.outs ++ new_request number want.request ∷ [];
          }
        ])
        ≡ accesses_left v
    go None = refl
    go (Some want) = refl

left-granted : (v : AgentView) (out : OwnRequest) (shared : Bool)
    → accesses_left (granted_by v out shared) ≡ accesses_left v
left-granted v out shared = go (asks_line (kind_asks out.request.kind))
  where
    go : (asks : Bool)
        → accesses_left
        (elim asks as (λ _. AgentView) [
          | false ↦ v
          | true ↦ record v {
            lines = sets_filled v.lines out.request.line (granted (kind_asks out.request.kind) shared) no_bytes;
            buffers = with_fill v.buffers out.request.line out.number;
            outs = requests_granted out.number None v.outs;
          }
        ])
        ≡ accesses_left v
    go false = refl
    go true = refl

left-upgraded : (v : AgentView) (out : OwnRequest) → accesses_left (upgraded_by v out) ≡ accesses_left v
left-upgraded v out = go (is_held (line_state_by v out.request.line))
  where
    go : (held : Bool)
        → accesses_left
        (elim held as (λ _. AgentView) [
          | false ↦ v
          | true ↦ record v {
            lines = sets_filled v.lines out.request.line Modified (copies v.lines out.request.line);
            buffers = with_fill v.buffers out.request.line out.number;
            outs = requests_granted out.number (Some (copies v.lines out.request.line)) v.outs;
          }
        ])
        ≡ accesses_left v
    go false = refl
    go true = refl

left-own : (v : AgentView) (out : OwnRequest) (shared : Bool) (outcome : Outcome)
    → accesses_left (own_settled v out shared outcome) ≡ accesses_left v
left-own v out shared Granted = left-granted v out shared
left-own v out shared Handed = left-granted v out true
left-own v out shared Retried = refl
left-own v out shared Deferred = refl
left-own v out shared Written = refl
left-own v out shared Replied = left-granted v out shared
left-own v out shared Failed = refl
left-own v out shared Upgraded = left-upgraded v out

left-out : (v : AgentView) (shared : Bool) (outcome : Outcome) (out : Option OwnRequest)
    → accesses_left (option_map_or (λ out. own_settled v out shared outcome) out v) ≡ accesses_left v
left-out v shared outcome None = refl
left-out v shared outcome (Some out) = left-own v out shared outcome

left-committed : (v : AgentView) (number : ℕ) (mine : Bool) (request : Request) (shared : Bool) (outcome : Outcome)
    → accesses_left (committed v number mine request shared outcome) ≡ accesses_left v
left-committed v number true request shared outcome = left-out v shared outcome (request_numbered number v.outs)
left-committed v number false request shared outcome = refl

-- the events leave each agent where it is in its script
KeepScripts : (ℕ → List AgentEvent) → Type 0
KeepScripts events = (n : ℕ) (v : AgentView) → accesses_left (fold agent_after v (events n)) ≡ accesses_left v

told-left : (events : ℕ → List AgentEvent) (n : ℕ) (agents : List AgentView) → KeepScripts events
    → accesses_left_of (agents_told events n agents) ≡ accesses_left_of agents
unfolding KeepScripts
told-left events n [] keep = refl
told-left events n (v ∷ vs) keep =
    sum_by-cons accesses_left (fold agent_after v (events n)) (agents_told events (n + 1) vs)
    ∙ ap (λ k. k + accesses_left_of (agents_told events (n + 1) vs)) (keep n v)
    ∙ ap (λ k. accesses_left v + k) (told-left events (n + 1) vs keep)
    ∙ sym (sum_by-cons accesses_left v vs)

pub told-count : (events : ℕ → List AgentEvent) (n : ℕ) (agents : List AgentView)
    → length (agents_told events n agents) ≡ length agents
told-count events n [] = refl
told-count events n (v ∷ vs) = ap suc (told-count events (n + 1) vs)

one-keeps : (a : ℕ) (e : AgentEvent) → ((v : AgentView) → accesses_left (agent_after v e) ≡ accesses_left v)
    → KeepScripts (for_one a e)
unfolding KeepScripts
one-keeps a e keep n v = go (n == a)
  where
    go : (is : Bool) → accesses_left (fold agent_after v (if is then e ∷ [] else [])) ≡ accesses_left v
    go true = keep v
    go false = refl

starting-keeps : (clock : ℕ) (who : Who) → KeepScripts (starting_event clock who)
unfolding KeepScripts
starting-keeps clock (Symmetric agent) = one-keeps agent (Sent clock clock) (λ v. left-sent v clock clock)
starting-keeps clock Priority = λ n v. refl

cancelled-keeps : (first : ℕ) (who : Who) → KeepScripts (cancelled_event first who)
unfolding KeepScripts
cancelled-keeps first (Symmetric agent) = one-keeps agent (GivenUp first) (λ v. refl)
cancelled-keeps first Priority = λ n v. refl

snooped-keeps : (s : SnoopSettled) → KeepScripts (snooped_event s)
unfolding KeepScripts
snooped-keeps s n v = left-committed v s.served.first (n == s.served.agent) s.served.request (s.hit || s.hitm) s.outcome

-- what a bus has of its agents' scripts, and how many agents there are
pub record KeepsAgents (old new : BusView) : Type 0 where
  pub left : accesses_left_of new.agents ≡ accesses_left_of old.agents
  pub count : length new.agents ≡ length old.agents

starting-kept : (bus : BusView) (clock : ℕ) (starting : Option Starting)
    → KeepsAgents bus (option_map_or (bus_started bus clock) starting bus)
starting-kept bus clock None = record { left = refl; count = refl }
starting-kept bus clock (Some starting) = record {
  left = told-left (starting_event clock starting.who) 0 bus.agents (starting-keeps clock starting.who);
  count = told-count (starting_event clock starting.who) 0 bus.agents;
}

cancelled-kept : (bus : BusView) (entry : Option Entry) → KeepsAgents bus (option_map_or (bus_cancelled bus) entry bus)
cancelled-kept bus None = record { left = refl; count = refl }
cancelled-kept bus (Some entry) = record {
  left = told-left (cancelled_event entry.clock entry.who) 0 bus.agents (cancelled-keeps entry.clock entry.who);
  count = told-count (cancelled_event entry.clock entry.who) 0 bus.agents;
}

snooped-kept : (bus : BusView) (s : Option SnoopSettled) → KeepsAgents bus (option_map_or (bus_snooped bus) s bus)
snooped-kept bus None = record { left = refl; count = refl }
snooped-kept bus (Some s) = record {
  left = told-left (snooped_event s) 0 bus.agents (snooped-keeps s);
  count = told-count (snooped_event s) 0 bus.agents;
}

answered-kept : (bus : BusView) (clock : ℕ) (entry : Option Entry)
    → KeepsAgents bus (option_map_or (bus_answered bus clock) entry bus)
answered-kept bus clock None = record { left = refl; count = refl }
answered-kept bus clock (Some entry) = record { left = refl; count = refl }

kept-more : (x y z : BusView) → KeepsAgents x y → KeepsAgents y z → KeepsAgents x z
kept-more x y z one other = record { left = other.left ∙ one.left; count = other.count ∙ one.count }

pub start-kept : (bus : BusView) (clock : ℕ) (decided : Decided) → KeepsAgents bus (heard_start bus clock decided)
start-kept bus clock decided = starting-kept bus clock decided.starting

pub cancel-kept : (bus : BusView) (clock : ℕ) (decided : Decided) → KeepsAgents bus (heard_cancel bus clock decided)
cancel-kept bus clock decided =
    kept-more bus (heard_start bus clock decided) (heard_cancel bus clock decided) (start-kept bus clock decided)
    (cancelled-kept (heard_start bus clock decided) decided.cancelled)

pub snoop-kept : (bus : BusView) (clock : ℕ) (decided : Decided) → KeepsAgents bus (heard_snoop bus clock decided)
snoop-kept bus clock decided =
    kept-more bus (heard_cancel bus clock decided) (heard_snoop bus clock decided) (cancel-kept bus clock decided)
    (snooped-kept (heard_cancel bus clock decided) decided.snooped)

pub answer-kept : (bus : BusView) (clock : ℕ) (decided : Decided) → KeepsAgents bus (heard_answer bus clock decided)
answer-kept bus clock decided =
    let before = heard_snoop bus clock decided in
    kept-more bus before (heard_answer bus clock decided) (snoop-kept bus clock decided)
    (answered-kept before clock (answered_by before decided.drive))
