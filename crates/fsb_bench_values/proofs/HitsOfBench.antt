-- The hits of a bench's clock are served, and leave each agent with the bytes of the one byte memory behind them.
use Rattle.fsb_bench_values.proofs.Words
use Words.{ℕ, ◌+◌, ◌≡◌, Bool, true, Some, sym, subst, ◌∙◌, arith, slice_get, and_parts, both_ways, AgentView, has_come}
use Words.{line_state_by, IsViewOf, held-by, sole-by, is_dirty_below, is_sole, alone-in-run, holds_line, is_exclusive}
use Words.{bytes_now, Past, Run, past_of, step_answered, step_cancelled, step_fetched, step_performed, BenchView}
use Words.{next_clock_of, IsBenchOf, fetched-from, HasBytesOf, IsAgentBytes, state_now}
use Rattle.fsb_bench_values.proofs.AgentsLowered.{answered-lowered, cancelled-lowered, fetched-lowered}
use Rattle.fsb_bench_values.proofs.HitBytes.{state_hit}
use Rattle.fsb_bench_values.proofs.HitsServed.{AreAgentsAt, AreApart, AreNumbered, HitsServed, hits-served}
use Rattle.fsb_bench_values.proofs.ItemsServed.{IsAgentAt, lawful-items}
use Rattle.fsb_bench_values.proofs.LoweredViews.{lowered-at}

-- the bytes of the log are those of its state
pub copies-now : (r : Run) (a : ℕ) (w : AgentView) → IsAgentBytes r a w → IsAgentAt (state_now r) a w
unfolding bytes_now
copies-now r a w k = record { last = k.last; copies = k.copies }

-- the views of the agents that perform their hits
pub fetched-view : (v : BenchView) (a : ℕ) (w : AgentView) → IsBenchOf v → slice_get (step_fetched v).agents a ≡ Some w
    → IsViewOf (past_of v.run) a (next_clock_of v) w
fetched-view v a w b at =
    let old = fetched-from v a w at in
    old.view (past_of v.run) (next_clock_of v) (b.agents.each a old.before old.at).view

fetched-numbered : (v : BenchView) → IsBenchOf v → AreNumbered 0 (step_fetched v).agents
unfolding past_of
fetched-numbered v b j w at =
    let view = fetched-view v j w b at in
    let same : j ≡ 0 + j = omega arith in
    record {
      number = view.agent.number ∙ same;
      lawful = lawful-items (past_of v.run) j v.run.plan.cache w view.agent b.bounds.lawful_scripts;
    }

fetched-apart : (v : BenchView) → IsBenchOf v → AreApart (step_fetched v).agents
fetched-apart v b = record {
  alone = λ i j u w line first second other own held.
      let p : Past = past_of v.run in
      let n = next_clock_of v in
      let one = fetched-view v i u b first in
      let two = fetched-view v j w b second in
      let sole = (and_parts (is_sole (line_state_by w line)) (has_come w line) own).0 in
      let exclusive : is_exclusive p j line n ≡ true =
      sym (sole-by p j n n (λ l. is_dirty_below p j l n) w line two.lines) ∙ sole in
      let holds : holds_line p i line n ≡ true =
      sym (held-by p i n n (λ l. is_dirty_below p i l n) u line one.lines) ∙ held in
      both_ways (holds_line p i line n)
      (alone-in-run v.run j i line n b.timely b.bounds (omega arith) exclusive other) holds;
}

fetched-at : (v : BenchView) → HasBytesOf v → AreAgentsAt (state_now v.run) 0 (step_fetched v).agents
fetched-at v h j w at =
    let was = (fetched-lowered v).each j w at in
    let same : j ≡ 0 + j = omega arith in
    subst (λ n. IsAgentAt (state_now v.run) n w) same
    (lowered-at (state_now v.run) j was.before w was.lowered (copies-now v.run j was.before
    (h.agents j was.before was.at)))

-- so the hits are served
pub hits-of-bench : (v : BenchView) → IsBenchOf v → HasBytesOf v
    → HitsServed (state_now v.run) 0 (next_clock_of v) (step_fetched v).agents
hits-of-bench v b h =
    hits-served (state_now v.run) 0 (next_clock_of v) (step_fetched v).agents (fetched-numbered v b) (fetched-apart v b)
    (fetched-at v h)

-- the agents behind their hits, and behind what comes before the end of the clock
pub performed-at : (v : BenchView) (a : ℕ) (w : AgentView) → IsBenchOf v → HasBytesOf v
    → slice_get (step_performed v).agents a ≡ Some w → IsAgentAt (state_hit v) a w
performed-at v a w b h at =
    let none_more : 0 + a ≡ a = omega arith in
    subst (λ n. IsAgentAt (state_hit v) n w) none_more ((hits-of-bench v b h).agents a w at)

pub cancelled-at : (v : BenchView) (hold : Bool) (a : ℕ) (w : AgentView) → IsBenchOf v → HasBytesOf v
    → slice_get (step_cancelled v hold).agents a ≡ Some w → IsAgentAt (state_hit v) a w
cancelled-at v hold a w b h at =
    let was = (cancelled-lowered v hold).each a w at in
    lowered-at (state_hit v) a was.before w was.lowered (performed-at v a was.before b h was.at)

pub answered-at : (v : BenchView) (hold : Bool) (a : ℕ) (w : AgentView) → IsBenchOf v → HasBytesOf v
    → slice_get (step_answered v hold).agents a ≡ Some w → IsAgentAt (state_hit v) a w
answered-at v hold a w b h at =
    let was = (answered-lowered v hold).each a w at in
    lowered-at (state_hit v) a was.before w was.lowered (performed-at v a was.before b h was.at)
