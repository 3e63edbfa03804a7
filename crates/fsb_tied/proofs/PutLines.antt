-- The last live request that put a line into memory, one clock on.
use Rattle.fsb_tied.proofs.Words
use Words.{ℕ, zero, suc, ◌+◌, ◌<◌, ◌≡◌, Bool, true, false, ◌&&◌, nat_eq, Option, Some, None, refl, ap, ◌∙◌, arith}
use Words.{last_where, is_before, is_some_and, last_where-failed, last_where-passed, does_take, live_count, end_of}
use Words.{live_claim_of, Run, past_of, settled_of, is_put_below, number_put_below}

-- live request i, with this end, is for the line and memory takes its data
abbrev pub takes_line : Run → ℕ → ℕ → Bool
takes_line r line i =
    is_some_and (live_claim_of r.trace i) (λ claim. nat_eq claim.line line)
    && is_some_and (settled_of r (past_of r) i) does_take

pub number-stays : (r : Run) (line n : ℕ) → ((i : ℕ) → end_of r.trace i ≡ Some n → takes_line r line i ≡ true → ⊥)
    → number_put_below r line (n + 1) ≡ number_put_below r line n
unfolding number_put_below is_put_below is_before is_some_and
number-stays r line n none = grind arith

last-is : (test : ℕ → Bool) (count i : ℕ) → i < count → test i ≡ true → ((j : ℕ) → i < j → test j ≡ false)
    → last_where test count ≡ Some i
last-is test zero i l t later = absurd (omega arith)
last-is test (suc m) i l t later = grind (arith, last_where-failed, last_where-passed, last-is test m i)

-- where request i puts the line, and later ones have not ended, it is the last one
pub number-put : (r : Run) (line n i : ℕ) → i < live_count r.trace → takes_line r line i ≡ true
    → is_before (end_of r.trace i) n ≡ true → ((j : ℕ) → i < j → is_before (end_of r.trace j) n ≡ false)
    → number_put_below r line n ≡ Some i
unfolding number_put_below is_put_below
number-put r line n i l takes ended later =
    last-is (is_put_below r (past_of r) line n) (live_count r.trace) i l
    (ap (λ b. b && is_before (end_of r.trace i) n) takes ∙ ended)
    (λ j more. ap (λ b. takes_line r line j && b) (later j more) ∙ none (takes_line r line j))
  where
    none : (b : Bool) → (b && false) ≡ false
    none b = grind arith

nothing-before : (o : Option ℕ) → is_before o 0 ≡ false
unfolding is_before is_some_and
nothing-before o = grind arith

-- below the first clock nothing is put
pub none-put : (r : Run) (line : ℕ) → number_put_below r line 0 ≡ None
unfolding number_put_below is_put_below
none-put r line = none-last (is_put_below r (past_of r) line 0) (live_count r.trace)
    (λ i. ap (λ b. takes_line r line i && b) (nothing-before (end_of r.trace i)) ∙ none (takes_line r line i))
  where
    none : (b : Bool) → (b && false) ≡ false
    none b = grind arith

    none-last : (test : ℕ → Bool) (count : ℕ) → ((i : ℕ) → test i ≡ false) → last_where test count ≡ None
    none-last test zero fails = (unfold last_where in refl)
    none-last test (suc m) fails = last_where-failed test m (fails m) ∙ none-last test m fails
