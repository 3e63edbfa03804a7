-- The run with one more clock of a bench goes on from the run.
use Rattle.fsb_bench_run.proofs.Words
use Words.{ℕ, if◌then◌else◌, ◌+◌, ◌≡◌, Bool, true, false, nat_eq, is_some, Option, Some, None, List, [], ◌∷◌, ◌++◌}
use Words.{length, refl, sym, ap, ◌∙◌, arith, list_all, option_map_or, eq-eqb, length-append, Step, Done, AgentView}
use Words.{is_arrival_by, met_entries, with_bytes, completed_entries, AtHand, entries_at_hand, hand_after, OwnRequest}
use Words.{count_where, count_where-failed, count_where-passed, count_where-same, Choice, line_at-old, one_more, ADS}
use Words.{line_at, GrowsTo, IsNext, IsWhole, requests_below, Trace, Outcome, Starting, step_decided, step_entries}
use Words.{step_performed, step_run, step_sample, end_event, entries_ended, entries_of_event, BenchView, next_clock_of}
use Words.{hit_entries, IsBenchOf}
use Rattle.fsb_bench_run.proofs.DrivenLines.{ads-driven, line-new}

-- all of these entries are of this clock
abbrev pub AreOfClock : ℕ → List Done → Type 0
AreOfClock clock entries = list_all (λ (done : Done). nat_eq done.clock clock) entries ≡ true

pub of-both : (clock : ℕ) (xs ys : List Done) → AreOfClock clock xs → AreOfClock clock ys → AreOfClock clock (xs ++ ys)
of-both clock [] ys h k = k
of-both clock (x ∷ xs) ys h k = grind (arith, of-both clock xs ys)

of-steps : (agent clock : ℕ) (hand : AtHand) (steps : List Step)
    → AreOfClock clock (entries_at_hand agent clock hand steps)
of-steps agent clock hand [] = refl
of-steps agent clock hand (step ∷ steps) =
    rw (eq-eqb clock clock refl) (of-steps agent clock (hand_after hand step.access) steps)

of-hit-if : (v : AgentView) (clock : ℕ) (b : Bool)
    → AreOfClock clock (elim b [ true ↦ completed_entries v clock | false ↦ [] ])
of-hit-if v clock b = grind (arith, of-steps)

of-hits : (clock : ℕ) (agents : List AgentView) → AreOfClock clock (hit_entries clock agents)
of-hits clock [] = refl
of-hits clock (v ∷ vs) = grind (arith, of-both, of-hit-if, of-hits clock vs)

of-met : (v : AgentView) (clock : ℕ) (out : OwnRequest) (bytes : List ℕ)
    → AreOfClock clock (met_entries v clock out bytes)
of-met v clock out bytes = of-hit-if (with_bytes v out.request.line bytes) clock (is_arrival_by v clock out)

of-outcome : (v : AgentView) (clock first : ℕ) (bytes : List ℕ) (o : Outcome)
    → AreOfClock clock (option_map_or (entries_of_event v) (end_event clock first bytes o) [])
of-outcome v clock first bytes o = grind (arith, of-met)

of-end : (clock first : ℕ) (bytes : List ℕ) (outcome : Outcome) (o : Option AgentView)
    → AreOfClock clock (option_map_or (entries_ended clock first bytes outcome) o [])
of-end clock first bytes outcome None = refl
of-end clock first bytes outcome (Some v) = of-outcome v clock first bytes outcome

pub entries-now : (v : BenchView) (hold : Bool) → AreOfClock (next_clock_of v) (step_entries v hold)
entries-now v hold = grind (arith, of-both, of-hits, of-end)

pub next-run : (v : BenchView) (hold : Bool) (choice : Choice) → IsNext v.run (step_run v hold choice)
next-run v hold choice = record {
  sample = step_sample v hold;
  hold = hold;
  choices = option_map_or (λ (starting : Starting). choice ∷ []) (step_decided v hold).starting [];
  entries = step_entries v hold;
  same_plan = refl;
  more_trace = refl;
  more_holds = refl;
  more_choices = refl;
  more_log = refl;
  at_end = entries-now v hold;
}

one-if : (choice : Choice) (o : Option Starting) (k m : ℕ) (b : Bool) → b ≡ is_some o
    → m ≡ (if b then k + 1 else k)
    → k + length (option_map_or (λ (starting : Starting). choice ∷ []) o []) ≡ m
one-if choice o k m b h1 h2 = grind arith

counted : (w : Trace) (n : ℕ) (b : Bool) → line_at ADS w n ≡ b
    → count_where (line_at ADS w) (n + 1)
    ≡ (if b then count_where (line_at ADS w) n + 1 else count_where (line_at ADS w) n)
counted w n b h1 = grind (arith, count_where-passed, count_where-failed)

-- what begins shows on ADS#
pub begins-now : (v : BenchView) (hold : Bool) (choice : Choice)
    → line_at ADS (step_run v hold choice).trace (next_clock_of v) ≡ is_some (step_decided v hold).starting
begins-now v hold choice =
    line-new v hold choice ADS
    ∙ ads-driven (step_performed v) (next_clock_of v) v.run.plan.profile (step_decided v hold)

pub whole-run : (v : BenchView) (hold : Bool) (choice : Choice) → IsBenchOf v → IsWhole (step_run v hold choice)
unfolding requests_below
whole-run v hold choice b =
    let r = v.run in
    let s = step_run v hold choice in
    let n = next_clock_of v in
    let x = step_sample v hold in
    let size : length s.trace ≡ n + 1 = length-append r.trace (x ∷ []) in
    let holds : length s.holds ≡ length r.holds + 1 = length-append r.holds (hold ∷ []) in
    let one = b.timely.one_hold in
    let choices = length-append r.choices
    (option_map_or (λ (starting : Starting). choice ∷ []) (step_decided v hold).starting []) in
    let old : count_where (line_at ADS r.trace) n ≡ count_where (line_at ADS s.trace) n =
    grind (arith, count_where-same, line_at-old, one_more) in
    let began = begins-now v hold choice in
    let more = counted s.trace n (is_some (step_decided v hold).starting) began in
    record {
      one_hold = omega arith;
      one_choice =
          choices
          ∙ ap (λ k. k + length
          (option_map_or (λ (starting : Starting). choice ∷ []) (step_decided v hold).starting []))
          (b.timely.one_choice ∙ old)
          ∙ one-if choice (step_decided v hold).starting (count_where (line_at ADS s.trace) n)
          (count_where (line_at ADS s.trace) (n + 1)) (is_some (step_decided v hold).starting) refl more
          ∙ ap (count_where (line_at ADS s.trace)) (sym size);
    }

pub grows-to : (v : BenchView) (hold : Bool) (choice : Choice) → IsBenchOf v → GrowsTo v.run (step_run v hold choice)
grows-to v hold choice b =
    record { timely = b.timely; next = next-run v hold choice; whole = whole-run v hold choice b }
