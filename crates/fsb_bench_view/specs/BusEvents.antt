-- What a clock brings to the bus: a request that begins, one that is cancelled, a snoop end, a response, an end.
use Rattle.std.specs.Prelude.{ℕ, ◌==◌, Bool, true, false, ◌||◌, is_none, if◌then◌else◌, List, [], ◌∷◌, ◌++◌, drop, length, map, Option, Some, None, slice_get}
use Rattle.std.specs.Option.{option_and_then, option_map, option_map_or}
use Rattle.fsb_access.specs.declared.log.Done.{Done}
use Rattle.fsb_agent_view.specs.AgentEvents.{AgentEvent, Arrived, Committed, GivenUp, HandedOn, Performed, Sent, UpgradeEnded, agent_after}
use Rattle.fsb_agent_view.specs.AgentViews.{AgentView}
use Rattle.fsb_agent_view.specs.Arriving.{arrived_entries, upgrade_entries}
use Rattle.fsb_bridge.specs.Deferrals.{new_waiting, waiting_without, with_answer, with_reply}
use Rattle.fsb_bridge.specs.declared.deferral.Waiting.{Waiting}
use Rattle.fsb_count.specs.Options.{is_some_and}
use Rattle.fsb_hazard.specs.declared.choice.Choice.{Choice}
use Rattle.fsb_hazard.specs.declared.choice.Turn.{Turn}
use Rattle.fsb_hazard.specs.declared.choice.Turn.TheVariants.{Keep, Retry, Defer}
use Rattle.fsb_phase.specs.declared.drive.Drive.{Drive}
use Rattle.fsb_phase.specs.declared.drive.Phased.{Phased}
use Rattle.fsb_queue.specs.declared.entry.Entry.{Entry}
use Rattle.fsb_trace.specs.Outcome.{is_deferral}
use Rattle.fsb_trace.specs.declared.outcome.Outcome.{Outcome}
use Rattle.fsb_trace.specs.declared.outcome.Outcome.TheVariants.{Granted, Handed, Retried, Deferred, Written, Replied, Failed, Upgraded}
use Rattle.fsb_trace.specs.declared.who.Who.{Who}
use Rattle.fsb_trace.specs.declared.who.Who.TheVariants.{Symmetric, Priority}
use Rattle.fsb_bench_view.specs.declared.beginning.Starting.{Starting}
use Rattle.fsb_bench_view.specs.declared.decided.Decided.{Decided}
use Rattle.fsb_bench_view.specs.declared.decided.Ending.{Ending}
use Rattle.fsb_bench_view.specs.declared.snoop.SnoopSettled.{SnoopSettled}
use Rattle.fsb_bench_view.specs.BusViews.{BusView}
use Rattle.fsb_bench_view.specs.BytesFetched.{head_outcome}
use Rattle.fsb_bench_view.specs.ToldAgents.{agents_told, for_all, for_none, for_one}

-- the bus after the hits of the clock
abbrev pub bus_performed : BusView → ℕ → BusView
bus_performed bus clock = record bus { agents = agents_told (for_all (Performed clock)) 0 bus.agents }

-- the bus with these deferrals
abbrev pub with_waiting : BusView → List Waiting → BusView
with_waiting bus waiting = record bus { bridge = record bus.bridge { waiting = waiting } }

-- what the agents hear of a request that begins: its own agent has sent it
abbrev pub starting_event : ℕ → Who → ℕ → List AgentEvent
starting_event clock (Symmetric agent) = for_one agent (Sent clock clock)
starting_event clock Priority = for_none

-- the deferrals after a request began: a reply is under way
abbrev pub waiting_started : ℕ → Who → List Waiting → List Waiting
waiting_started did (Symmetric agent) waiting = waiting
waiting_started did Priority waiting = map (with_reply did true) waiting

-- the bus after this request began at the clock
abbrev pub bus_started : BusView → ℕ → Starting → BusView
bus_started bus clock starting = record bus {
  agents = agents_told (starting_event clock starting.who) 0 bus.agents;
  bridge = record bus.bridge { waiting = waiting_started starting.request.did starting.who bus.bridge.waiting };
  latest = Some record { clock = clock; who = starting.who; request = starting.request };
  started = bus.started ++ record { clock = clock; locked = starting.locked } ∷ [];
}

-- the entry of a request that begins at the clock, for which this was chosen
abbrev pub entry_started : BusView → ℕ → Starting → Choice → Entry
entry_started bus clock starting choice = record {
  number = length bus.started;
  clock = clock;
  who = starting.who;
  request = starting.request;
  choice = choice;
  outcome = None;
}

-- what the agents hear of a request that is cancelled: its own agent gives it up
abbrev pub cancelled_event : ℕ → Who → ℕ → List AgentEvent
cancelled_event first (Symmetric agent) = for_one agent (GivenUp first)
cancelled_event first Priority = for_none

-- the deferrals after a request was cancelled: a reply is not under way any more
abbrev pub waiting_cancelled : ℕ → Who → List Waiting → List Waiting
waiting_cancelled did (Symmetric agent) waiting = waiting
waiting_cancelled did Priority waiting = map (with_reply did false) waiting

-- the bus after an address error cancelled the request of this entry
abbrev pub bus_cancelled : BusView → Entry → BusView
bus_cancelled bus entry = record bus {
  agents = agents_told (cancelled_event entry.clock entry.who) 0 bus.agents;
  bridge = record bus.bridge { waiting = waiting_cancelled entry.request.did entry.who bus.bridge.waiting };
}

-- what the agents hear of a snoop end: every agent hears it, and one of them has asked
abbrev pub snooped_event : SnoopSettled → ℕ → List AgentEvent
snooped_event s n = Committed s.served.first (n == s.served.agent) s.served.request (s.hit || s.hitm) s.outcome ∷ []

-- the deferrals with that of a request whose turn this is
abbrev pub waiting_with : SnoopSettled → Turn → List Waiting → List Waiting
waiting_with s Keep waiting = waiting
waiting_with s Retry waiting = waiting
waiting_with s (Defer later) waiting = waiting ++ new_waiting s.entry.number s.entry.request s.hit later ∷ []

-- the deferrals after a snoop end with this outcome
abbrev pub waiting_snooped : SnoopSettled → Outcome → List Waiting → List Waiting
waiting_snooped s Granted waiting = waiting
waiting_snooped s Handed waiting = waiting
waiting_snooped s Retried waiting = waiting
waiting_snooped s Deferred waiting = waiting_with s s.turn waiting
waiting_snooped s Written waiting = waiting
waiting_snooped s Replied waiting = waiting_without s.entry.request.did waiting
waiting_snooped s Failed waiting = waiting
waiting_snooped s Upgraded waiting = waiting

-- the bus after a snoop end
abbrev pub bus_snooped : BusView → SnoopSettled → BusView
bus_snooped bus s = record bus {
  agents = agents_told (snooped_event s) 0 bus.agents;
  bridge = record bus.bridge { waiting = waiting_snooped s s.outcome bus.bridge.waiting };
  served = bus.served ++ s.served ∷ [];
}

-- the oldest request in flight, if it responds at this clock with an outcome that passes
abbrev pub responding_with : (Outcome → Bool) → BusView → Drive → Option Entry
responding_with passes bus drive =
    if drive.rs == 0 then None
    else option_and_then (λ entry. if is_some_and entry.outcome passes then Some entry else None) (slice_get bus.queue 0)

-- the request whose response Deferred the clock is
abbrev pub answered_by : BusView → Drive → Option Entry
answered_by bus drive = responding_with is_deferral bus drive

-- the bus after the response Deferred to the request of this entry
abbrev pub bus_answered : BusView → ℕ → Entry → BusView
bus_answered bus clock entry = with_waiting bus (map (with_answer entry.number clock) bus.bridge.waiting)

-- the end of a request that the clock is
abbrev pub ending_by : BusView → Phased → Option Ending
ending_by bus phased =
    if is_none phased.ended then None
    else option_and_then
    (λ served. option_map (λ outcome. record { served = served; outcome = outcome }) (head_outcome bus)) (slice_get bus.served 0)

-- what happens to the agent whose request ends with this outcome, where these bytes have moved
abbrev pub end_event : ℕ → ℕ → List ℕ → Outcome → Option AgentEvent
end_event clock first bytes Granted = Some (Arrived clock first bytes)
end_event clock first bytes Handed = Some (Arrived clock first bytes)
end_event clock first bytes Retried = Some (GivenUp first)
end_event clock first bytes Deferred = None
end_event clock first bytes Written = Some (GivenUp first)
end_event clock first bytes Replied = Some (Arrived clock first bytes)
end_event clock first bytes Failed = None
end_event clock first bytes Upgraded = Some (UpgradeEnded clock first)

-- what the agents hear of an end: it is told to the agent whose request is served
abbrev pub ended_event : ℕ → List ℕ → Ending → ℕ → List AgentEvent
ended_event clock bytes ending n =
    option_map_or (λ event. for_one ending.served.agent event n) (end_event clock ending.served.first bytes ending.outcome) []

-- the memory with these bytes of a line
abbrev pub memory_with : (ℕ → List ℕ) → ℕ → List ℕ → ℕ → List ℕ
memory_with memory line bytes other = if other == line then bytes else memory other

-- the memory after an end with this outcome, where these bytes of the line have moved
abbrev pub memory_ended : (ℕ → List ℕ) → ℕ → List ℕ → Outcome → ℕ → List ℕ
memory_ended memory line bytes Granted = memory
memory_ended memory line bytes Handed = memory_with memory line bytes
memory_ended memory line bytes Retried = memory
memory_ended memory line bytes Deferred = memory
memory_ended memory line bytes Written = memory_with memory line bytes
memory_ended memory line bytes Replied = memory
memory_ended memory line bytes Failed = memory
memory_ended memory line bytes Upgraded = memory

-- the bus after an end
abbrev pub bus_ended : BusView → ℕ → Ending → BusView
bus_ended bus clock ending = record bus {
  agents = agents_told (ended_event clock bus.moved ending) 0 bus.agents;
  memory = memory_ended bus.memory ending.served.request.line bus.moved ending.outcome;
  served = drop 1 bus.served;
}

-- the entries of an agent to which this happens with an end
abbrev pub entries_of_event : AgentView → AgentEvent → List Done
entries_of_event v (Performed clock) = []
entries_of_event v (Sent clock number) = []
entries_of_event v (Committed number mine request shared outcome) = []
entries_of_event v (HandedOn number) = []
entries_of_event v (Arrived clock number bytes) = arrived_entries v clock number bytes
entries_of_event v (UpgradeEnded clock number) = upgrade_entries v clock number
entries_of_event v (GivenUp number) = []

-- the agent after the end of its request with this outcome, where these bytes have moved
abbrev pub agent_ended : ℕ → ℕ → List ℕ → Outcome → AgentView → AgentView
agent_ended clock first bytes outcome v = option_map_or (agent_after v) (end_event clock first bytes outcome) v

-- the entries of what that completes
abbrev pub entries_ended : ℕ → ℕ → List ℕ → Outcome → AgentView → List Done
entries_ended clock first bytes outcome v = option_map_or (entries_of_event v) (end_event clock first bytes outcome) []

-- the entries of what an end completes, of these agents
abbrev pub end_entries_of : List AgentView → ℕ → List ℕ → Ending → List Done
end_entries_of agents clock bytes ending =
    option_map_or (entries_ended clock ending.served.first bytes ending.outcome) (slice_get agents ending.served.agent) []

-- the entries of what an end completes
abbrev pub end_entries : BusView → ℕ → Ending → List Done
end_entries bus clock ending = end_entries_of bus.agents clock bus.moved ending

-- the bus after what begins at the clock, if something does
abbrev pub heard_start : BusView → ℕ → Decided → BusView
heard_start bus clock decided = option_map_or (bus_started bus clock) decided.starting bus

-- and after what is cancelled, if something is
abbrev pub heard_cancel : BusView → ℕ → Decided → BusView
heard_cancel bus clock decided =
    let before = heard_start bus clock decided in
    option_map_or (bus_cancelled before) decided.cancelled before

-- and after the snoop end, if there is one
abbrev pub heard_snoop : BusView → ℕ → Decided → BusView
heard_snoop bus clock decided =
    let before = heard_cancel bus clock decided in
    option_map_or (bus_snooped before) decided.snooped before

-- and after the response Deferred, if there is one
abbrev pub heard_answer : BusView → ℕ → Decided → BusView
heard_answer bus clock decided =
    let before = heard_snoop bus clock decided in
    option_map_or (bus_answered before clock) (answered_by before decided.drive) before

-- the end of a request that the clock is
abbrev pub heard_ending : BusView → ℕ → Decided → Phased → Option Ending
heard_ending bus clock decided phased = ending_by (heard_answer bus clock decided) phased

-- the bus after all that the clock brings: this was decided, and the phases tell this of the clock
abbrev pub bus_heard : BusView → ℕ → Decided → Phased → BusView
bus_heard bus clock decided phased =
    let before = heard_answer bus clock decided in
    option_map_or (bus_ended before clock) (heard_ending bus clock decided phased) before

-- the entries of what that completes
abbrev pub heard_entries : BusView → ℕ → Decided → Phased → List Done
heard_entries bus clock decided phased =
    option_map_or (end_entries (heard_answer bus clock decided) clock) (heard_ending bus clock decided phased) []
