-- The entries of a bench's clock begin with those of the hits, and an agent with a hit has no other ones: it has
-- completed its
-- item there, so what ends completes nothing more.
use Rattle.fsb_bench_run.proofs.Words
use Words.{ℕ, ◌≡◌, ◌⊎◌, Bool, true, false, nat_eq, Option, Some, None, List, [], ◌∷◌, fold, refl, ap, ◌∙◌, arith}
use Words.{list_any, option_map_or, eqb-true, Step, AgentEvent, agent_after, AgentView, is_finished_at, met_entries}
use Words.{is_hit_by, performed, AtHand, entries_at_hand, hand_after, committed, OwnRequest, hit-by, placed-at}
use Words.{is_dirty_below, Request, Choice, Entry, is_hit, past_of, is_done_at, Outcome, Starting, Decided, Ending}
use Words.{SnoopSettled, step_answered, step_decided, step_ending, step_entries, step_performed, step_phased, step_run}
use Words.{answered_by, bus_answered, bus_cancelled, bus_snooped, bus_started, end_entries, heard_answer, heard_cancel}
use Words.{heard_entries, heard_snoop, heard_start, BenchView, BusView, next_clock_of, agents_told, IsBenchOf}
use Words.{HasHitsOf}
use Rattle.std.proofs.Common.{slice_get}
use Rattle.fsb_bench_run.proofs.AgentsTold.{fetched-from, performed-from, told-at}
use Rattle.fsb_bench_run.proofs.HitEntries.{HasHitsFirst, hits-told}
use Rattle.fsb_bench_run.proofs.NextRun.{entries-now, grows-to}

-- an agent keeps its number, and what it completed last
record KeepsPlace (u w : AgentView) : Type 0 where
  pub number : w.number ≡ u.number
  pub finished : w.finished ≡ u.finished

-- each of the agents does
record KeepsPlaces (us ws : List AgentView) : Type 0 where
  pub each : (a : ℕ) (w : AgentView) → slice_get ws a ≡ Some w
      → (u : AgentView) × (slice_get us a ≡ Some u) × KeepsPlace u w

all-kept : (us : List AgentView) → KeepsPlaces us us
all-kept us = record { each = λ a w e. (w, e, record { number = refl; finished = refl }) }

kept-twice : (us vs ws : List AgentView) → KeepsPlaces us vs → KeepsPlaces vs ws → KeepsPlaces us ws
kept-twice us vs ws h k = grind arith

told-kept : (events : ℕ → List AgentEvent) (us : List AgentView)
    → ((j : ℕ) (u : AgentView) → KeepsPlace u (fold agent_after u (events j)))
    → KeepsPlaces us (agents_told events 0 us)
told-kept events us keeps = grind (arith, told-at)

committed-kept : (u : AgentView) (number : ℕ) (mine : Bool) (request : Request) (shared : Bool) (outcome : Outcome)
    → KeepsPlace u (committed u number mine request shared outcome)
committed-kept u number mine request shared outcome = grind arith

-- up to the end of the clock the agents keep their places
start-kept : (bus : BusView) (clock : ℕ) (o : Option Starting)
    → KeepsPlaces bus.agents (option_map_or (bus_started bus clock) o bus).agents
start-kept bus clock o = grind (arith, all-kept, told-kept)

cancel-kept : (bus : BusView) (o : Option Entry)
    → KeepsPlaces bus.agents (option_map_or (bus_cancelled bus) o bus).agents
cancel-kept bus o = grind (arith, all-kept, told-kept)

snoop-kept : (bus : BusView) (o : Option SnoopSettled)
    → KeepsPlaces bus.agents (option_map_or (bus_snooped bus) o bus).agents
snoop-kept bus o = grind (arith, all-kept, told-kept, committed-kept)

answer-kept : (bus : BusView) (clock : ℕ) (o : Option Entry)
    → KeepsPlaces bus.agents (option_map_or (bus_answered bus clock) o bus).agents
answer-kept bus clock o = grind (arith, all-kept)

heard-kept : (bus : BusView) (clock : ℕ) (decided : Decided)
    → KeepsPlaces bus.agents (heard_answer bus clock decided).agents
heard-kept bus clock decided =
    let started = heard_start bus clock decided in
    let cancelled = heard_cancel bus clock decided in
    let snooped = heard_snoop bus clock decided in
    kept-twice bus.agents snooped.agents (heard_answer bus clock decided).agents
    (kept-twice bus.agents cancelled.agents snooped.agents
    (kept-twice bus.agents started.agents cancelled.agents (start-kept bus clock decided.starting)
    (cancel-kept started decided.cancelled))
    (snoop-kept cancelled decided.snooped))
    (answer-kept snooped clock (answered_by snooped decided.drive))

-- an agent with another number, or that has completed an item at the clock, has no entry by an end
abbrev HasNone : ℕ → ℕ → AgentView → Type 0
HasNone a clock w = (nat_eq w.number a ≡ false) ⊎ (is_finished_at w.finished clock ≡ true)

none-other : (a b clock : ℕ) (hand : AtHand) (steps : List Step) → nat_eq b a ≡ false
    → list_any (is_done_at a clock) (entries_at_hand b clock hand steps) ≡ false
unfolding is_done_at
none-other a b clock hand [] e = refl
none-other a b clock hand (step ∷ steps) e = rw e (none-other a b clock (hand_after hand step.access) steps e)

none-met : (a clock : ℕ) (w : AgentView) (out : OwnRequest) (bytes : List ℕ) → HasNone a clock w
    → list_any (is_done_at a clock) (met_entries w clock out bytes) ≡ false
none-met a clock w out bytes h1 = grind (arith, none-other)

none-arrived : (a clock : ℕ) (w : AgentView) (bytes : List ℕ) → HasNone a clock w → (o : Option OwnRequest)
    → list_any (is_done_at a clock) (option_map_or (λ out. met_entries w clock out bytes) o []) ≡ false
none-arrived a clock w bytes h None = refl
none-arrived a clock w bytes h (Some out) = none-met a clock w out bytes h

-- one of two agents
abbrev either : Bool → AgentView → AgentView → AgentView
either b u w = elim b [ true ↦ u | false ↦ w ]

-- after its hit an agent has completed an item at the clock
performed-number : (u : AgentView) (clock : ℕ) → (performed u clock).number ≡ u.number
performed-number u clock = grind arith

performed-finished : (u : AgentView) (clock : ℕ) → is_hit_by u clock ≡ true
    → is_finished_at (performed u clock).finished clock ≡ true
performed-finished u clock hit = grind arith

answered-none : (v : BenchView) (hold : Bool) (a b : ℕ) (w : AgentView) → IsBenchOf v
    → is_hit (past_of v.run) a (next_clock_of v) ≡ true → slice_get (step_answered v hold).agents b ≡ Some w
    → HasNone a (next_clock_of v) w
answered-none v hold a b w bench hit at =
    let p = past_of v.run in
    let n = next_clock_of v in
    let k = (heard-kept (step_performed v) n (step_decided v hold)).each b w at in
    let f = performed-from v b k.0 k.1 in
    let old = fetched-from v b f.0 f.1 in
    let view = old.view p n (bench.agents.each b old.before old.at).view in
    let same : is_hit_by f.0 n ≡ is_hit p b n =
    hit-by p b n (λ line. is_dirty_below p b line n) f.0 view.agent (placed-at p b n f.0 view.placed) view.lines in
    let number : w.number ≡ b =
    k.2.number ∙ ap (λ (u : AgentView). u.number) f.2 ∙ performed-number f.0 n ∙ view.agent.number in
    grind (arith, eqb-true, performed-finished)

none-of-ending : (a clock : ℕ) (bus : BusView) (o : Option Ending)
    → ((b : ℕ) (w : AgentView) → slice_get bus.agents b ≡ Some w → HasNone a clock w)
    → list_any (is_done_at a clock) (option_map_or (end_entries bus clock) o []) ≡ false
none-of-ending a clock bus o h1 = grind (arith, none-arrived, none-met)

pub first-entries : (v : BenchView) (hold : Bool) → IsBenchOf v → HasHitsFirst v (step_entries v hold)
first-entries v hold b = record {
  others = heard_entries (step_performed v) (next_clock_of v) (step_decided v hold) (step_phased v hold);
  split = refl;
  now = entries-now v hold;
  apart = λ a hit. none-of-ending a (next_clock_of v) (step_answered v hold) (step_ending v hold)
      (λ k w e. answered-none v hold a k w b hit e);
}

-- so they are those of the bench's own longer run
pub bench-hits : (v : BenchView) (hold : Bool) (choice : Choice) → IsBenchOf v → HasHitsOf v (step_run v hold choice)
bench-hits v hold choice b = hits-told v hold choice (step_entries v hold) b (grows-to v hold choice b)
    (first-entries v hold b)
