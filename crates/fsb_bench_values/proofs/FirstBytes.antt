-- The first bench of a plan has the bytes of its run, which is empty.
use Rattle.fsb_bench_values.proofs.Words
use Words.{ℕ, zero, suc, ◌%◌, ◌≡◌, true, [], Option, Some, None, get_or, length, replicate, refl, sym, ap, subst, ◌∙◌}
use Words.{arith, slice_get, first-is, Held, held_at, states, is_moved_below, any_where, count_where, last_where}
use Words.{Invalid, is_held, Carried, bytes_put, line_bytes, number_put, put_clock, Run, past_of, live_count}
use Words.{line_state_by, HasBytesOf, IsAgentBytes}
use Rattle.fsb_script.specs.Plans.{PlanView}
use Rattle.fsb_bench_view.specs.FirstBench.{first_agent, first_bench}

-- the run of no clock
abbrev empty : PlanView → Run
empty plan = (first_bench plan).run

none-at : {X : Type 0} (k : ℕ) (x : X) → slice_get [] k ≡ Some x → ⊥
none-at k x e = cc

-- an empty cache holds no line
none-in : (n i : ℕ) → get_or (replicate {A = Option Held} n None) i None ≡ None
none-in zero i = refl
none-in (suc n) zero = refl
none-in (suc n) (suc i) = none-in n i

invalid : (plan : PlanView) (a line : ℕ) → line_state_by (first_agent plan a) line ≡ Invalid
unfolding states held_at
invalid plan a line = rw (none-in plan.cache (line % length (replicate {A = Option Held} plan.cache None))) refl

unheld : (plan : PlanView) (a line : ℕ) → is_held (line_state_by (first_agent plan a) line) ≡ true → ⊥
unheld plan a line e = let e' = sym (ap is_held (invalid plan a line)) ∙ e in cc

first-agent : (plan : PlanView) (a : ℕ) → IsAgentBytes (empty plan) a (first_agent plan a)
first-agent plan a = record {
  last = refl;
  copies = λ line held. absurd (unheld plan a line held);
  kept = λ k out bytes at. absurd (none-at k out at);
  pushes = λ k push claim at. absurd (none-at k push at);
}

-- no data are on the bus, and nothing was put into memory
unmoved : (plan : PlanView) (line : ℕ) → is_moved_below (past_of (empty plan)) line 0 ≡ true → ⊥
unfolding is_moved_below any_where
unmoved plan line e = cc

unput : (plan : PlanView) (line : ℕ) → put_clock (empty plan) line ≡ None
unfolding put_clock number_put live_count count_where last_where
unput plan line = refl

first-memory : (plan : PlanView) (line : ℕ) → (first_bench plan).bus.memory line ≡ bytes_put (empty plan) line
unfolding bytes_put line_bytes
first-memory plan line = rw (unput plan line, bytes_put) refl

pub first-bytes : (plan : PlanView) → HasBytesOf (first_bench plan)
first-bytes plan = record {
  served = refl;
  agents = λ a w at.
      let is = first-is plan a w at in
      subst (λ v. IsAgentBytes (empty plan) a v) is.1 (first-agent plan a);
  moved = λ line e. absurd (unmoved plan line e);
  memory = λ line. first-memory plan line;
}

pub first-carried : (plan : PlanView) → Carried (empty plan)
first-carried plan = record { at = λ c l. absurd (omega (arith, l)) }
