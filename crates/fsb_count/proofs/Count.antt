-- How many clocks pass.
use Rattle.std.proofs.Common.{ℕ, zero, suc, ◌+◌, ◌-◌, ◌<◌, ◌≤◌, ◌≡◌, Bool, true, false, cond, refl, ap, ◌∙◌, arith}
use Rattle.std.proofs.Common.{add-one, add-zero}
use Rattle.fsb_count.specs.Clocks.{count_where, AgreeBelow}

-- one more clock
pub count_where-more : (p : ℕ → Bool) (n : ℕ) → count_where p (n + 1) ≡ count_where p n + cond (p n) 1 0
unfolding count_where
count_where-more p n = rw add-one refl

-- a clock that passes counts
pub count_where-passed : (p : ℕ → Bool) (n : ℕ) → p n ≡ true → count_where p (n + 1) ≡ count_where p n + 1
count_where-passed p n t = count_where-more p n ∙ ap (λ b. count_where p n + cond b 1 0) t

-- a clock that does not pass does not count
pub count_where-failed : (p : ℕ → Bool) (n : ℕ) → p n ≡ false → count_where p (n + 1) ≡ count_where p n
count_where-failed p n f = count_where-more p n ∙ ap (λ b. count_where p n + cond b 1 0) f ∙ add-zero _

-- tests that agree below n
pub count_where-same : (p q : ℕ → Bool) (n : ℕ) → AgreeBelow n p q → count_where p n ≡ count_where q n
unfolding count_where
count_where-same p q zero a = refl
count_where-same p q (suc n) a =
    let less : AgreeBelow n p q = record { same = λ c l. a.same c (omega arith) } in
    rw (count_where-same p q n less, a.same n (omega arith)) refl

count_where-upto : (p : ℕ → Bool) (n k : ℕ) → count_where p n ≤ count_where p (n + k)
count_where-upto p n zero = rw add-zero (omega arith)
count_where-upto p n (suc k) =
    let one : count_where p (n + k + 1) ≡ count_where p (n + k) + cond (p (n + k)) 1 0 = count_where-more p (n + k) in
    let ih : count_where p n ≤ count_where p (n + k) = count_where-upto p n k in
    let e : n + suc k ≡ n + k + 1 = omega arith in
    rw e (omega arith)

-- more clocks, no fewer that pass
pub count_where-mono : (p : ℕ → Bool) (n m : ℕ) → n ≤ m → count_where p n ≤ count_where p m
count_where-mono p n m l = let e : n + (m - n) ≡ m = omega arith in rw e at (count_where-upto p n (m - n))

-- a clock that passes counts from the next clock on
pub count_where-above : (p : ℕ → Bool) (n m : ℕ) → n < m → p n ≡ true → count_where p n < count_where p m
count_where-above p n m l t =
    let one = count_where-passed p n t in
    let rest = count_where-mono p (n + 1) m (omega arith) in
    omega arith
