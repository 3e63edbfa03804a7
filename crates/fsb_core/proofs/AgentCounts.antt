-- What a clock brings leaves how many agents there are; a request that begins is one more.
use Rattle.std.proofs.Common.{◌≡◌, ℕ, ◌+◌, List, [], ◌∷◌, length, Option, Some, None, suc, refl, sym, ap, ◌∙◌, add-zero}
use Rattle.std.proofs.lemmas.List.{length-append}
use Rattle.std.proofs.lemmas.List.Sums.{sum_by-cons}
use Rattle.std.specs.Option.{option_map_or}
use Rattle.fsb_agent_view.specs.AgentEvents.{AgentEvent, HandedOn}
use Rattle.fsb_agent_view.specs.AgentViews.{AgentView}
use Rattle.fsb_agent_view.specs.Arriving.{handed_on}
use Rattle.fsb_bench_view.specs.BusEvents.{answered_by, bus_answered, bus_cancelled, bus_ended, bus_heard, bus_snooped}
use Rattle.fsb_bench_view.specs.BusEvents.{bus_started, cancelled_event, ended_event, heard_answer, heard_cancel}
use Rattle.fsb_bench_view.specs.BusEvents.{heard_ending, heard_snoop, heard_start, snooped_event, starting_event}
use Rattle.fsb_bench_view.specs.BusViews.{BusView}
use Rattle.fsb_bench_view.specs.BytesFetched.{bus_fetched}
use Rattle.fsb_bench_view.specs.ToldAgents.{agents_told, for_all}
use Rattle.fsb_bench_view.specs.declared.beginning.Starting.{Starting}
use Rattle.fsb_bench_view.specs.declared.decided.BytesFrom.{BytesFrom}
use Rattle.fsb_bench_view.specs.declared.decided.BytesFrom.TheVariants.{Memory, Agents}
use Rattle.fsb_bench_view.specs.declared.decided.Decided.{Decided}
use Rattle.fsb_bench_view.specs.declared.decided.Ending.{Ending}
use Rattle.fsb_bench_view.specs.declared.snoop.SnoopSettled.{SnoopSettled}
use Rattle.fsb_hazard.specs.declared.choice.Choice.{Choice}
use Rattle.fsb_phase.specs.declared.drive.Phased.{Phased}
use Rattle.fsb_queue.specs.declared.entry.Entry.{Entry}
use Rattle.fsb_bus.specs.LogRoom.{accesses_left, accesses_left_of}

pub told-count : (events : ℕ → List AgentEvent) (n : ℕ) (agents : List AgentView)
    → length (agents_told events n agents) ≡ length agents
told-count events n [] = refl
told-count events n (v ∷ vs) = ap suc (told-count events (n + 1) vs)

pub fetch-count : (bus : BusView) (from : Option BytesFrom) → length (bus_fetched bus from).agents ≡ length bus.agents
fetch-count bus None = refl
fetch-count bus (Some (Memory line)) = refl
fetch-count bus (Some (Agents number)) = told-count (for_all (HandedOn number)) 0 bus.agents

-- to hand bytes on completes nothing
handed-left : (number n : ℕ) (agents : List AgentView)
    → accesses_left_of (agents_told (for_all (HandedOn number)) n agents) ≡ accesses_left_of agents
handed-left number n [] = refl
handed-left number n (v ∷ vs) =
    sum_by-cons accesses_left (handed_on v number) (agents_told (for_all (HandedOn number)) (n + 1) vs)
    ∙ ap (λ x. accesses_left v + x) (handed-left number (n + 1) vs)
    ∙ sym (sum_by-cons accesses_left v vs)

pub fetch-left : (bus : BusView) (from : Option BytesFrom)
    → accesses_left_of (bus_fetched bus from).agents ≡ accesses_left_of bus.agents
fetch-left bus None = refl
fetch-left bus (Some (Memory line)) = refl
fetch-left bus (Some (Agents number)) = handed-left number 0 bus.agents

start-count : (bus : BusView) (clock : ℕ) (starting : Option Starting)
    → length (option_map_or (bus_started bus clock) starting bus).agents ≡ length bus.agents
start-count bus clock None = refl
start-count bus clock (Some s) = told-count (starting_event clock s.who) 0 bus.agents

cancel-count : (bus : BusView) (cancelled : Option Entry)
    → length (option_map_or (bus_cancelled bus) cancelled bus).agents ≡ length bus.agents
cancel-count bus None = refl
cancel-count bus (Some e) = told-count (cancelled_event e.clock e.who) 0 bus.agents

snoop-count : (bus : BusView) (snooped : Option SnoopSettled)
    → length (option_map_or (bus_snooped bus) snooped bus).agents ≡ length bus.agents
snoop-count bus None = refl
snoop-count bus (Some s) = told-count (snooped_event s) 0 bus.agents

answer-count : (bus : BusView) (clock : ℕ) (answered : Option Entry)
    → length (option_map_or (bus_answered bus clock) answered bus).agents ≡ length bus.agents
answer-count bus clock None = refl
answer-count bus clock (Some e) = refl

end-count : (bus : BusView) (clock : ℕ) (ending : Option Ending)
    → length (option_map_or (bus_ended bus clock) ending bus).agents ≡ length bus.agents
end-count bus clock None = refl
end-count bus clock (Some e) = told-count (ended_event clock bus.moved e) 0 bus.agents

pub heard-count : (bus : BusView) (clock : ℕ) (decided : Decided) (phased : Phased)
    → length (bus_heard bus clock decided phased).agents ≡ length bus.agents
heard-count bus clock decided phased =
    end-count (heard_answer bus clock decided) clock (heard_ending bus clock decided phased)
    ∙ answer-count (heard_snoop bus clock decided) clock (answered_by (heard_snoop bus clock decided) decided.drive)
    ∙ snoop-count (heard_cancel bus clock decided) decided.snooped
    ∙ cancel-count (heard_start bus clock decided) decided.cancelled
    ∙ start-count bus clock decided.starting

start-starts : (bus : BusView) (clock : ℕ) (choice : Choice) (starting : Option Starting)
    → length (option_map_or (bus_started bus clock) starting bus).started
    ≡ length bus.started + length (option_map_or (λ first. choice ∷ []) starting [])
start-starts bus clock choice None = sym (add-zero (length bus.started))
start-starts bus clock choice (Some s) = length-append bus.started (record { clock = clock; locked = s.locked } ∷ [])

cancel-starts : (bus : BusView) (cancelled : Option Entry)
    → (option_map_or (bus_cancelled bus) cancelled bus).started ≡ bus.started
cancel-starts bus None = refl
cancel-starts bus (Some e) = refl

snoop-starts : (bus : BusView) (snooped : Option SnoopSettled)
    → (option_map_or (bus_snooped bus) snooped bus).started ≡ bus.started
snoop-starts bus None = refl
snoop-starts bus (Some s) = refl

answer-starts : (bus : BusView) (clock : ℕ) (answered : Option Entry)
    → (option_map_or (bus_answered bus clock) answered bus).started ≡ bus.started
answer-starts bus clock None = refl
answer-starts bus clock (Some e) = refl

end-starts : (bus : BusView) (clock : ℕ) (ending : Option Ending)
    → (option_map_or (bus_ended bus clock) ending bus).started ≡ bus.started
end-starts bus clock None = refl
end-starts bus clock (Some e) = refl

-- one request more has begun where one begins, as one more choice is made
pub heard-starts : (bus : BusView) (clock : ℕ) (decided : Decided) (phased : Phased) (choice : Choice)
    → length (bus_heard bus clock decided phased).started
    ≡ length bus.started + length (option_map_or (λ first. choice ∷ []) decided.starting [])
heard-starts bus clock decided phased choice =
    ap length
    (end-starts (heard_answer bus clock decided) clock (heard_ending bus clock decided phased)
    ∙ answer-starts (heard_snoop bus clock decided) clock (answered_by (heard_snoop bus clock decided) decided.drive)
    ∙ snoop-starts (heard_cancel bus clock decided) decided.snooped
    ∙ cancel-starts (heard_start bus clock decided) decided.cancelled)
    ∙ start-starts bus clock choice decided.starting
