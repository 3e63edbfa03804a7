-- What arrivals complete at a bench's clock: nothing where nothing ends, and of the agent whose request ends alone.
use Rattle.fsb_bench_run.proofs.Words
use Words.{ℕ, ◌+◌, ◌<◌, ◌≡◌, ◌≢◌, List, [], append-nil, ◌∙◌, arith, NothingEndsFor, no-arrival, nothing-granted}
use Words.{Reaches, Completed, completed_if, is_arrival, of_all_agents, Run, past_of}
use Rattle.fsb_bench_run.proofs.CompletionsNow.{arrivals_at}

-- an agent for which nothing ends completes nothing by an arrival
pub quiet-completes : (s : Run) (n a : ℕ) → Reaches s (n + 1) → NothingEndsFor (past_of s) a n
    → completed_if (past_of s) n (is_arrival (past_of s) a n) a ≡ []
unfolding completed_if
quiet-completes s n a h quiet = grind (arith, no-arrival, nothing-granted)

-- the lists of all agents, of which one alone is not empty
pub one-list : (list : ℕ → List Completed) (a : ℕ) → a < 4 → ((b : ℕ) → b ≢ a → list b ≡ [])
    → of_all_agents list ≡ list a
unfolding of_all_agents
one-list list a h1 h2 = grind (arith, append-nil)

-- where nothing ends for any agent, arrivals complete nothing
pub arrivals-none : (s : Run) (n : ℕ) → Reaches s (n + 1) → ((a : ℕ) → NothingEndsFor (past_of s) a n)
    → arrivals_at (past_of s) n ≡ []
arrivals-none s n h quiet =
    one-list (λ a. completed_if (past_of s) n (is_arrival (past_of s) a n) a) 0 (omega arith)
    (λ b off. quiet-completes s n b h (quiet b)) ∙ quiet-completes s n 0 h (quiet 0)
