-- The entries of a clock's hits are what the run completes by them there.
use Rattle.fsb_bench_run.proofs.Words
use Words.{ℕ, ◌≡◌, Some, List, ◌++◌, length, map, append-nil, append_assoc, arith, slice_get, map-append, AgentView}
use Words.{performed_entries, IsViewOf, hit-by, placed-at, is_dirty_below, Completed, completed_if, of_all_agents}
use Words.{is_hit, Run, past_of, step_fetched, BenchView, next_clock_of, hit_entries}
use Rattle.fsb_bench_run.proofs.EntriesNow.{completed_of, hit-completes}
use Rattle.fsb_bench_run.proofs.SnoopAnswers.{is-four}

-- the agents before the hits are as the run says that the next clock finds them
pub record AgentsFound (v : BenchView) (s : Run) : Type 0 where
  pub four : length (step_fetched v).agents ≡ 4
  pub views : (a : ℕ) (w : AgentView) → slice_get (step_fetched v).agents a ≡ Some w
      → IsViewOf (past_of s) a (next_clock_of v) w

-- what one agent completes by its hit
one-completes : (v : BenchView) (s : Run) (a : ℕ) (w : AgentView) → AgentsFound v s
    → slice_get (step_fetched v).agents a ≡ Some w
    → map completed_of (performed_entries w (next_clock_of v))
    ≡ completed_if (past_of s) (next_clock_of v) (is_hit (past_of s) a (next_clock_of v)) a
one-completes v s a w k at =
    let p = past_of s in
    let n = next_clock_of v in
    let view = k.views a w at in
    hit-completes p a n w view (hit-by p a n (λ line. is_dirty_below p a line n) w view.agent
    (placed-at p a n w view.placed) view.lines)

left-four : (a b c d : List Completed) → a ++ (b ++ (c ++ d)) ≡ ((a ++ b) ++ c) ++ d
left-four a b c d = simp append_assoc

pub hits-completed : (v : BenchView) (s : Run) → AgentsFound v s
    → map completed_of (hit_entries (next_clock_of v) (step_fetched v).agents)
    ≡ of_all_agents (λ a. completed_if (past_of s) (next_clock_of v) (is_hit (past_of s) a (next_clock_of v)) a)
unfolding of_all_agents
hits-completed v s k =
    let vs = (step_fetched v).agents in
    let q = is-four vs k.four in
    grind (arith, one-completes, append-nil, map-append, left-four)
