-- A bench has four agents at each stage of its next clock.
use Rattle.fsb_bench_run.proofs.Words
use Words.{ℕ, ◌<◌, ◌≡◌, Bool, Option, List, length, ◌∙◌, arith, option_map_or, slice_get_within, AgentView, Ending}
use Words.{step_answered, step_cancelled, step_decided, step_ended, step_ending, step_performed, step_started}
use Words.{bus_ended, BenchView, BusView, next_clock_of, IsBenchOf}
use Rattle.fsb_bench_run.proofs.AgentsNow.{length-told}
use Rattle.fsb_bench_run.proofs.ArrivalsTold.{answered-four, cancelled-many, started-many}
use Rattle.fsb_bench_run.proofs.BegunEvents.{AgentsAre}
use Rattle.fsb_bench_run.proofs.StartsMay.{performed-four}

-- the numbers of four agents
few-of : (agents : List AgentView) → length agents ≡ 4 → AgentsAre (λ a w. a < 4) agents
few-of agents four a w at = let within = slice_get_within agents a w at in omega (arith, within, four)

pub cancelled-few : (v : BenchView) (hold : Bool) → IsBenchOf v
    → AgentsAre (λ a w. a < 4) (step_cancelled v hold).agents
cancelled-few v hold b =
    few-of (step_cancelled v hold).agents
    (cancelled-many (step_started v hold) (step_decided v hold).cancelled
    ∙ started-many (step_performed v) (next_clock_of v) (step_decided v hold).starting ∙ performed-four v b)

pub answered-few : (v : BenchView) (hold : Bool) → IsBenchOf v → AgentsAre (λ a w. a < 4) (step_answered v hold).agents
answered-few v hold b = few-of (step_answered v hold).agents (answered-four v hold b)

ended-many : (bus : BusView) (clock : ℕ) (o : Option Ending)
    → length (option_map_or (bus_ended bus clock) o bus).agents ≡ length bus.agents
ended-many bus clock o = grind (arith, length-told)

pub ended-four : (v : BenchView) (hold : Bool) → IsBenchOf v → length (step_ended v hold).agents ≡ 4
ended-four v hold b =
    ended-many (step_answered v hold) (next_clock_of v) (step_ending v hold) ∙ answered-four v hold b
