-- Completions at a bench's next clock: the entries of the hits are those that the run completes by hits; what is
-- left is
-- that the others are those of the arrival.
use Rattle.fsb_bench_run.proofs.Words
use Words.{ℕ, ◌≡◌, Bool, true, List, [], ◌∷◌, ◌++◌, map, nat_eq, refl, ap, ◌∙◌, list_all, map-append, Done, Choice}
use Words.{Completed, completed_at, completed_if, entries_at, is_arrival, logs_completions, of_all_agents, Past}
use Words.{past_of, holds_at, step_fetched, BenchView, next_clock_of, hit_entries}
use Rattle.fsb_bench_run.proofs.EntriesNow.{completed-from, completed_of, entries-there}
use Rattle.fsb_bench_run.proofs.HitsCompleted.{AgentsFound, hits-completed}
use Rattle.fsb_bench_run.proofs.RunWith.{run_with}
use Rattle.fsb_bench_run.proofs.StepWith.{IsStepWith}
use Rattle.fsb_bench_run.proofs.ThisClock.{holds-now}

-- what the agents of a run complete at a clock by arrivals
abbrev pub arrivals_at : Past → ℕ → List Completed
arrivals_at p n = of_all_agents (λ a. completed_if p n (is_arrival p a n) a)

-- the entries of a clock are what is completed there, where those beside the hits' are what arrivals complete
pub completions-now : (v : BenchView) (hold : Bool) (choice : Choice) (entries : List Done)
    (others : List Done) → IsStepWith v hold choice entries → AgentsFound v (run_with v hold choice entries)
    → entries ≡ hit_entries (next_clock_of v) (step_fetched v).agents ++ others
    → list_all (λ (done : Done). nat_eq done.clock (next_clock_of v)) entries ≡ true
    → map completed_of others ≡ arrivals_at (past_of (run_with v hold choice entries)) (next_clock_of v)
    → logs_completions (run_with v hold choice entries) (past_of (run_with v hold choice entries))
    (next_clock_of v) ≡ true
unfolding logs_completions completed_at past_of
completions-now v hold choice entries others k found split at told =
    let s = run_with v hold choice entries in
    let p = past_of s in
    let n = next_clock_of v in
    let hits = hits-completed v s found in
    completed-from (entries_at p n) (completed_at p n)
    (entries-there p n v.run.log entries refl k.bench.timely.in_time at
    ∙ ap (map completed_of) split ∙ map-append completed_of (hit_entries n (step_fetched v).agents) others
    ∙ (λ i. hits i ++ told i))

pub logs-completions : (v : BenchView) (hold : Bool) (choice : Choice) (entries : List Done)
    (others : List Done) → IsStepWith v hold choice entries → AgentsFound v (run_with v hold choice entries)
    → entries ≡ hit_entries (next_clock_of v) (step_fetched v).agents ++ others
    → list_all (λ (done : Done). nat_eq done.clock (next_clock_of v)) entries ≡ true
    → map completed_of others ≡ arrivals_at (past_of (run_with v hold choice entries)) (next_clock_of v)
    → holds_at logs_completions (run_with v hold choice entries) (next_clock_of v) ≡ true
logs-completions v hold choice entries others k found split at told =
    holds-now logs_completions v.run (run_with v hold choice entries) k.grows
    (completions-now v hold choice entries others k found split at told)

-- an entry at a clock of what is completed there, of value 0
abbrev pub entry_at : ℕ → Completed → Done
entry_at n x = record {
  clock = n;
  agent = x.agent;
  item = x.step.item;
  part = x.step.part;
  access = x.step.access;
  value = 0;
}

pub completed-entries : (n : ℕ) (xs : List Completed) → map completed_of (map (entry_at n) xs) ≡ xs
completed-entries n [] = refl
completed-entries n (x ∷ xs) = ap (λ ys. x ∷ ys) (completed-entries n xs)
