-- The entries of the end of a bench's clock are what the run completes by arrivals there.
use Rattle.fsb_bench_run.proofs.Words
use Words.{ℕ, ◌+◌, ◌≡◌, Bool, Option, List, [], length, map, sym, ap, ◌∙◌, arith, inl, inr, option_map_or, Done, Choice}
use Words.{get-there, Entry, Reaches, winner-four, completed_if, is_arrival, past_of, Starting, SnoopSettled}
use Words.{step_answered, step_cancelled, step_decided, step_drive, step_ending, step_performed, step_snooped}
use Words.{step_started, answered_by, bus_answered, bus_cancelled, bus_snooped, bus_started, end_entries, entries_ended}
use Words.{BenchView, BusView, next_clock_of, IsBenchOf}
use Rattle.fsb_bench_run.proofs.AgentsNow.{length-told}
use Rattle.fsb_bench_run.proofs.ArrivalsNow.{arrivals-none, one-list, quiet-completes}
use Rattle.fsb_bench_run.proofs.CompletionsNow.{arrivals_at}
use Rattle.fsb_bench_run.proofs.EndCases.{end-cases}
use Rattle.fsb_bench_run.proofs.EntriesNow.{completed_of}
use Rattle.fsb_bench_run.proofs.OwnCompletes.{others-quiet, own-completes}
use Rattle.fsb_bench_run.proofs.RunWith.{run_with}
use Rattle.fsb_bench_run.proofs.SnoopViews.{views-answered}
use Rattle.fsb_bench_run.proofs.StartsMay.{performed-four}
use Rattle.fsb_bench_run.proofs.StepWith.{IsStepWith}

-- the agents before the end are four
pub started-many : (bus : BusView) (clock : ℕ) (o : Option Starting)
    → length (option_map_or (bus_started bus clock) o bus).agents ≡ length bus.agents
started-many bus clock o = grind (arith, length-told)

pub cancelled-many : (bus : BusView) (o : Option Entry)
    → length (option_map_or (bus_cancelled bus) o bus).agents ≡ length bus.agents
cancelled-many bus o = grind (arith, length-told)

snooped-many : (bus : BusView) (o : Option SnoopSettled)
    → length (option_map_or (bus_snooped bus) o bus).agents ≡ length bus.agents
snooped-many bus o = grind (arith, length-told)

answered-many : (bus : BusView) (clock : ℕ) (o : Option Entry)
    → length (option_map_or (bus_answered bus clock) o bus).agents ≡ length bus.agents
answered-many bus clock o = grind arith

pub answered-four : (v : BenchView) (hold : Bool) → IsBenchOf v → length (step_answered v hold).agents ≡ 4
answered-four v hold b =
    answered-many (step_snooped v hold) (next_clock_of v) (answered_by (step_snooped v hold) (step_drive v))
    ∙ snooped-many (step_cancelled v hold) (step_decided v hold).snooped
    ∙ cancelled-many (step_started v hold) (step_decided v hold).cancelled
    ∙ started-many (step_performed v) (next_clock_of v) (step_decided v hold).starting ∙ performed-four v b

-- what the end of the clock completes, if there is one
pub arrivals-told : (v : BenchView) (hold : Bool) (choice : Choice) (entries : List Done)
    → IsStepWith v hold choice entries
    → Reaches (run_with v hold choice entries) (next_clock_of v + 1)
    → map completed_of (option_map_or (end_entries (step_answered v hold) (next_clock_of v)) (step_ending v hold) [])
    ≡ arrivals_at (past_of (run_with v hold choice entries)) (next_clock_of v)
arrivals-told v hold choice entries k h =
    let s = run_with v hold choice entries in
    let p = past_of s in
    let n = next_clock_of v in
    let bus = step_answered v hold in
    elim (end-cases v hold choice entries k h) [
      | inr c ↦
          ap (λ o. map completed_of (option_map_or (end_entries bus n) o [])) c.ending
          ∙ sym (arrivals-none s n h c.nothing)
      | inl c ↦
          let a : ℕ = c.served.agent in
          let few = winner-four v.run.trace c.served.first a c.serves.begun.winner in
          let four = answered-four v hold k.bench in
          let w = get-there bus.agents a (omega (arith, few, four)) in
          let view = views-answered v hold choice entries k h a w.0 w.1 in
          ap (λ o. map completed_of (option_map_or (end_entries bus n) o [])) c.ending
          ∙ ap (λ o. map completed_of
          (option_map_or (entries_ended n c.served.first bus.moved c.heard.end.outcome) o [])) w.1
          ∙ own-completes s n c.served c.entry.outcome bus.moved w.0 h c.heard view
          ∙ sym (one-list (λ b. completed_if p n (is_arrival p b n) b) a few
          (λ b off. quiet-completes s n b h (others-quiet s n b c.served c.entry.outcome h c.heard off)))
    ]
