-- Which upgrades were won below a clock, one clock further.
use Rattle.fsb_agent_run.proofs.Words
use Words.{ℕ, ◌+◌, ◌<◌, ◌≤◌, ◌≡◌, ◌≢◌, Bool, false, ◌&&◌, Option, Some, None, is_some, length, refl, subst, inl, inr}
use Words.{arith, cases_lt, first_where, is_some_and, any_where-none, first_where-at, first_where-found}
use Words.{first_where-none, first_where-off, Past, SnoopEnd, snooped_at, is_snoop_of, is_upgraded, Run, past_of}
use Words.{snoop_end_below, is_snooped_below, some-there, answers-in-order, none-before, unsnooped-below, Reaches}
use Words.{snoop-below, is_won_below}

-- a clock that does not pass changes nothing
first-still : (test : ℕ → Bool) (n : ℕ) → test n ≡ false → first_where test (n + 1) ≡ first_where test n
first-still test n off = by (first_where test n) refl
  where
    by : (o : Option ℕ) → first_where test n ≡ o → first_where test (n + 1) ≡ o
    by (Some k) e =
        let found = first_where-found test n k e in
        let below = found.0 in
        first_where-at test (n + 1) k (omega arith) found.1 found.2
    by None e =
        first_where-off test (n + 1) (λ k l. elim (cases_lt k n) [
          | inl m ↦ first_where-none test n e k m
          | inr m ↦ let same : n ≡ k = omega arith in subst (λ j. test j ≡ false) same off
        ])

-- no snoop end at n is that of the request
pub won-still : (p : Past) (n q : ℕ) → is_some_and (snooped_at p n) (is_snoop_of q) ≡ false
    → is_won_below p (n + 1) q ≡ is_won_below p n q
unfolding is_won_below snoop_end_below
won-still p n q off = grind (arith, first-still)

pub other-snoop : (p : Past) (n q : ℕ) (s : SnoopEnd) → snooped_at p n ≡ Some s → s.first ≢ q
    → is_some_and (snooped_at p n) (is_snoop_of q) ≡ false
unfolding is_snoop_of
other-snoop p n q s there apart = grind (arith, some-there)

pub no-snoop : (p : Past) (n q : ℕ) → snooped_at p n ≡ None → is_some_and (snooped_at p n) (is_snoop_of q) ≡ false
unfolding is_some_and
no-snoop p n q none = rw none refl

-- the snoop end at n is
pub won-now : (r : Run) (n : ℕ) (s : SnoopEnd) → Reaches r (n + 1) → snooped_at (past_of r) n ≡ Some s
    → is_won_below (past_of r) (n + 1) s.first ≡ (is_upgraded s.outcome && is_some s.grant)
unfolding is_won_below is_some_and
won-now r n s h there = grind (arith, snoop-below)

none-passes : (p : Past) (n q : ℕ)
    → ((k : ℕ) → k < n → is_some_and (snooped_at p k) (is_snoop_of q) ≡ false) → is_won_below p n q ≡ false
unfolding is_won_below snoop_end_below is_some_and
none-passes p n q none = grind (arith, first_where-off)

-- below its snoop end nothing is won
pub won-before : (r : Run) (n : ℕ) (s : SnoopEnd) → Reaches r (n + 1) → snooped_at (past_of r) n ≡ Some s
    → is_won_below (past_of r) n s.first ≡ false
won-before r n s h there =
    none-passes (past_of r) n s.first
    (λ k l. none-before (past_of r) (length r.trace) n k s (answers-in-order r h.timely) there l)

-- nor by what has just begun
pub won-fresh : (r : Run) (n q : ℕ) → n ≤ q + 3 → is_won_below (past_of r) n q ≡ false
unfolding is_snooped_below
won-fresh r n q l =
    none-passes (past_of r) n q
    (any_where-none (λ t. is_some_and (snooped_at (past_of r) t) (is_snoop_of q)) n (unsnooped-below r n q l))

-- where the snoop end of a request is known below n
pub won-known : (p : Past) (n q : ℕ) (s : SnoopEnd) → snoop_end_below p n q ≡ Some s
    → is_won_below p n q ≡ (is_upgraded s.outcome && is_some s.grant)
unfolding is_won_below is_some_and
won-known p n q s e = rw e refl
