-- The log of a bench's clock has what is completed there. What the end of the clock completes is told of a timely run:
-- so of the run with the accesses of the arrivals as its entries, in which the end is the same, and so are the
-- arrivals.
use Rattle.fsb_bench_run.proofs.Words
use Words.{ℕ, ◌+◌, ◌≡◌, ◌||◌, Bool, true, false, nat_eq, Option, Some, None, List, [], ◌∷◌, ◌++◌, map, refl, sym, ap}
use Words.{◌∙◌, inl, inr, arith, list_any, option_map_or, both_ways, cases_Bool, eqb-true, false_from_ne_true}
use Words.{map-append, list_any-append, Item, Done, Step, steps_of_item, Choice, Reaches, Completed, completed_if}
use Words.{completed_of_item, is_arrival, logs_completions, next_accesses, of_all_agents, GrowsTo, is_hit, Past}
use Words.{past_of, is_done_at, next_item, next_number, Timely, holds_at, is_hit-alike, past-goes_on, Starting}
use Words.{step_answered, step_decided, step_ending, step_entries, step_fetched, step_run, step_sample, end_entries}
use Words.{BenchView, next_clock_of, hit_entries, IsBenchOf}
use Rattle.fsb_bench_run.proofs.ArrivalMade.{arrival-unhit}
use Rattle.fsb_bench_run.proofs.ArrivalsAlike.{arrivals-same, whole-before}
use Rattle.fsb_bench_run.proofs.ArrivalsTold.{arrivals-told}
use Rattle.fsb_bench_run.proofs.CompletionsNow.{arrivals_at, completed-entries, entry_at, logs-completions}
use Rattle.fsb_bench_run.proofs.EntriesNow.{completed_of}
use Rattle.fsb_bench_run.proofs.HitEntries.{HasHitsFirst, agents-found, hits-told}
use Rattle.fsb_bench_run.proofs.NextRun.{AreOfClock, entries-now, grows-to, of-both, whole-run}
use Rattle.fsb_bench_run.proofs.RunWith.{run_with}
use Rattle.fsb_bench_run.proofs.SnoopViews.{reaches-now}
use Rattle.fsb_bench_run.proofs.StepEntries.{step-with}
use Rattle.fsb_bench_run.proofs.StepWith.{IsStepWith}
use Rattle.fsb_bench_run.proofs.TimelyNext.{timely-next}

first-of-clock : (n : ℕ) (xs ys : List Done) → AreOfClock n (xs ++ ys) → AreOfClock n xs
first-of-clock n [] ys h = refl
first-of-clock n (x ∷ xs) ys h = grind (arith, first-of-clock n xs ys)

-- the entries at a clock of accesses are of that clock
made-of-clock : (n : ℕ) (xs : List Completed) → AreOfClock n (map (entry_at n) xs)
made-of-clock n [] = refl
made-of-clock n (x ∷ xs) = grind (arith, made-of-clock n xs)

-- and of their agents
none-of-steps : (a b n : ℕ) (steps : List Step) → nat_eq b a ≡ false
    → list_any (is_done_at a n) (map (entry_at n)
    (map {B = Completed} (λ step. record { agent = b; step = step }) steps)) ≡ false
unfolding is_done_at
none-of-steps a b n [] other = refl
none-of-steps a b n (step ∷ steps) other = rw other (none-of-steps a b n steps other)

none-of-item : (a b n m : ℕ) (o : Option Item) → nat_eq b a ≡ false
    → list_any (is_done_at a n) (map (entry_at n) (option_map_or (completed_of_item b m) o [])) ≡ false
unfolding completed_of_item
none-of-item a b n m None other = refl
none-of-item a b n m (Some item) other = none-of-steps a b n (steps_of_item m item) other

none-of-next : (p : Past) (a b n : ℕ) → nat_eq b a ≡ false
    → list_any (is_done_at a n) (map (entry_at n) (next_accesses p b n)) ≡ false
unfolding next_accesses
none-of-next p a b n other = by (next_number p b n)
  where
    by : (o : Option ℕ) → list_any (is_done_at a n)
        (map (entry_at n) (option_map_or (λ m. option_map_or (completed_of_item b m) (next_item p b n) []) o
        [])) ≡ false
    by None = refl
    by (Some m) = none-of-item a b n m (next_item p b n) other

-- an agent without an arrival has no entry by one
none-of-one : (p : Past) (a b n : ℕ) → is_arrival p a n ≡ false
    → list_any (is_done_at a n) (map (entry_at n) (completed_if p n (is_arrival p b n) b)) ≡ false
unfolding completed_if
none-of-one p a b n none = elim (cases_Bool (nat_eq b a)) [
  | inl own ↦
      let off : is_arrival p b n ≡ false = ap (λ c. is_arrival p c n) (eqb-true b a own) ∙ none in
      λ i. list_any (is_done_at a n) (map (entry_at n) (elim (off i) [ true ↦ next_accesses p b n | false ↦ [] ]))
  | inr other ↦ by (is_arrival p b n) other
]
  where
    by : (arrives : Bool) → nat_eq b a ≡ false → list_any (is_done_at a n)
        (map (entry_at n) (elim arrives [ true ↦ next_accesses p b n | false ↦ [] ])) ≡ false
    by true other = none-of-next p a b n other
    by false other = refl

none-of-both : (a n : ℕ) (xs ys : List Completed) → list_any (is_done_at a n) (map (entry_at n) xs) ≡ false
    → list_any (is_done_at a n) (map (entry_at n) ys) ≡ false
    → list_any (is_done_at a n) (map (entry_at n) (xs ++ ys)) ≡ false
none-of-both a n xs ys h k =
    ap (list_any (is_done_at a n)) (map-append (entry_at n) xs ys)
    ∙ list_any-append (is_done_at a n) (map (entry_at n) xs) (map (entry_at n) ys)
    ∙ (λ i. h i || k i)

none-arrived : (p : Past) (a n : ℕ) → is_arrival p a n ≡ false
    → list_any (is_done_at a n) (map (entry_at n) (arrivals_at p n)) ≡ false
unfolding of_all_agents
none-arrived p a n none =
    let list : ℕ → List Completed = λ b. completed_if p n (is_arrival p b n) b in
    none-of-both a n (list 0 ++ list 1 ++ list 2) (list 3)
    (none-of-both a n (list 0 ++ list 1) (list 2)
    (none-of-both a n (list 0) (list 1) (none-of-one p a 0 n none) (none-of-one p a 1 n none))
    (none-of-one p a 2 n none))
    (none-of-one p a 3 n none)

-- the entries of the hits, and the accesses of the arrivals
abbrev arrived_entries_at : BenchView → Bool → Choice → List Done
arrived_entries_at v hold choice =
    map (entry_at (next_clock_of v)) (arrivals_at (past_of (step_run v hold choice)) (next_clock_of v))

abbrev told_entries : BenchView → Bool → Choice → List Done
told_entries v hold choice =
    hit_entries (next_clock_of v) (step_fetched v).agents ++ arrived_entries_at v hold choice

told-first : (v : BenchView) (hold : Bool) (choice : Choice) → IsBenchOf v → HasHitsFirst v (told_entries v hold choice)
told-first v hold choice b =
    let r = step_run v hold choice in
    let p = past_of r in
    let n = next_clock_of v in
    let hits = hit_entries n (step_fetched v).agents in
    let grows = grows-to v hold choice b in
    record {
      others = arrived_entries_at v hold choice;
      split = refl;
      now = of-both n hits (arrived_entries_at v hold choice)
          (first-of-clock n hits (option_map_or (end_entries (step_answered v hold) n) (step_ending v hold) [])
          (entries-now v hold))
          (made-of-clock n (arrivals_at p n));
      apart = λ a hit.
          let same = is_hit-alike n (past_of v.run) p a n (past-goes_on v.run r grows.next (whole-before v b.timely))
          (omega arith) in
          none-arrived p a n (false_from_ne_true (is_arrival p a n) (λ t.
          both_ways (is_hit p a n) (arrival-unhit p a n t) (sym same ∙ hit)));
    }

told-grows : (v : BenchView) (hold : Bool) (choice : Choice) → IsBenchOf v
    → GrowsTo v.run (run_with v hold choice (told_entries v hold choice))
told-grows v hold choice b =
    let whole = whole-run v hold choice b in
    record {
      timely = b.timely;
      next = record {
        sample = step_sample v hold;
        hold = hold;
        choices = option_map_or (λ (starting : Starting). choice ∷ []) (step_decided v hold).starting [];
        entries = told_entries v hold choice;
        same_plan = refl;
        more_trace = refl;
        more_holds = refl;
        more_choices = refl;
        more_log = refl;
        at_end = (told-first v hold choice b).now;
      };
      whole = record { one_hold = whole.one_hold; one_choice = whole.one_choice };
    }

told-with : (v : BenchView) (hold : Bool) (choice : Choice) → IsBenchOf v
    → IsStepWith v hold choice (told_entries v hold choice)
told-with v hold choice b =
    let grows = told-grows v hold choice b in
    record {
      bench = b;
      grows = grows;
      hits = hits-told v hold choice (told_entries v hold choice) b grows (told-first v hold choice b);
    }

-- the run with these entries is timely, so the end of the clock completes what arrives there
ends-told : (v : BenchView) (hold : Bool) (choice : Choice) → IsBenchOf v
    → map completed_of (option_map_or (end_entries (step_answered v hold) (next_clock_of v)) (step_ending v hold) [])
    ≡ arrivals_at (past_of (run_with v hold choice (told_entries v hold choice))) (next_clock_of v)
ends-told v hold choice b =
    let n = next_clock_of v in
    let entries = told_entries v hold choice in
    let others = arrived_entries_at v hold choice in
    let s = run_with v hold choice entries in
    let k = told-with v hold choice b in
    let logged = logs-completions v hold choice entries others k (agents-found v s b k.grows) refl
    (told-first v hold choice b).now
    (completed-entries n (arrivals_at (past_of (step_run v hold choice)) n)
    ∙ arrivals-same v hold choice (step_entries v hold) entries (grows-to v hold choice b) k.grows) in
    arrivals-told v hold choice entries k
    (reaches-now v hold choice entries k (timely-next v hold choice entries k logged))

pub logs-now : (v : BenchView) (hold : Bool) (choice : Choice) → IsBenchOf v
    → holds_at logs_completions (step_run v hold choice) (next_clock_of v) ≡ true
logs-now v hold choice b =
    let n = next_clock_of v in
    let grows = grows-to v hold choice b in
    logs-completions v hold choice (step_entries v hold)
    (option_map_or (end_entries (step_answered v hold) n) (step_ending v hold) [])
    (step-with v hold choice b) (agents-found v (step_run v hold choice) b grows) refl (entries-now v hold)
    (ends-told v hold choice b
    ∙ arrivals-same v hold choice (told_entries v hold choice) (step_entries v hold) (told-grows v hold choice b) grows)

-- so the longer run is timely
pub timely-now : (v : BenchView) (hold : Bool) (choice : Choice) → IsBenchOf v → Timely (step_run v hold choice)
timely-now v hold choice b =
    timely-next v hold choice (step_entries v hold) (step-with v hold choice b) (logs-now v hold choice b)

pub reaches-step : (v : BenchView) (hold : Bool) (choice : Choice) → IsBenchOf v
    → Reaches (step_run v hold choice) (next_clock_of v + 1)
reaches-step v hold choice b =
    reaches-now v hold choice (step_entries v hold) (step-with v hold choice b) (timely-now v hold choice b)
