-- At which clocks of a run requests begin, as the run grows.
use Rattle.fsb_bench_run.proofs.Words
use Words.{ℕ, zero, suc, ◌<◌, ◌≡◌, Bool, true, false, Some, [], ◌∷◌, ◌++◌, length, add-one, append-nil, refl, ◌∙◌}
use Words.{arith, all_where, last_where, all_where-failed, all_where-passed, last_where-failed, last_where-passed}
use Words.{agree-grown, longer, ADS, line_at, GrowsTo, Run, line_at-agree}

-- the last clock below n of two tests that agree there
pub last-same : (p q : ℕ → Bool) (n : ℕ) → ((c : ℕ) → c < n → p c ≡ q c) → last_where p n ≡ last_where q n
unfolding last_where
last-same p q zero same = refl
last-same p q (suc n) same = grind (arith, last-same p q n)

pub last-below : (p : ℕ → Bool) (n c : ℕ) → last_where p n ≡ Some c → c < n
unfolding last_where
last-below p zero c e = absurd (let no : ⊥ = cc in no)
last-below p (suc n) c e = by (p n) refl (last-below p n c) e
  where
    by : (b : Bool) → p n ≡ b → (last_where p n ≡ Some c → c < n) → last_where p (suc n) ≡ Some c → c < suc n
    by b h1 h2 h3 = grind arith

-- all clocks below n of two tests that agree there
pub all-same : (p q : ℕ → Bool) (n : ℕ) → ((c : ℕ) → c < n → p c ≡ q c) → all_where p n ≡ all_where q n
unfolding all_where
all-same p q zero same = refl
all-same p q (suc n) same = grind (arith, all-same p q n)

-- ADS# at the clocks of the run
pub ads-old : (r s : Run) → GrowsTo r s → (c : ℕ) → c < length r.trace → line_at ADS s.trace c ≡ line_at ADS r.trace c
ads-old r s grows c l = grind (arith, line_at-agree, agree-grown)

pub size-suc : (r s : Run) → GrowsTo r s → length s.trace ≡ suc (length r.trace)
size-suc r s grows = longer r s grows ∙ add-one (length r.trace)

pub last-more : (r s : Run) (b : Bool) → GrowsTo r s → line_at ADS s.trace (length r.trace) ≡ b
    → last_where (line_at ADS s.trace) (length s.trace)
    ≡ (elim b [ true ↦ Some (length r.trace) | false ↦ last_where (line_at ADS r.trace) (length r.trace) ])
last-more r s b h1 h2 = grind (arith, size-suc, last_where-passed, last_where-failed, last-same, ads-old)

pub all-more : (r s : Run) (b : Bool) → GrowsTo r s → line_at ADS s.trace (length r.trace) ≡ b
    → all_where (line_at ADS s.trace) (length s.trace)
    ≡ all_where (line_at ADS r.trace) (length r.trace) ++ (elim b [ true ↦ length r.trace ∷ [] | false ↦ [] ])
all-more r s b h1 h2 = grind (arith, longer, all_where-passed, all-same, ads-old, all_where-failed, append-nil)
