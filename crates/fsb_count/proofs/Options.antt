-- What a test says of a number that may not be reached.
use Rattle.std.proofs.Common.{ℕ, ◌≡◌, Bool, true, false, cond, Option, Some, None, is_some, is_none, refl, ap, arith}
use Rattle.std.proofs.Common.{◌+◌, ◌<◌, ◌||◌}
use Rattle.std.proofs.lemmas.Bool.{eqb-true, eq-eqb, le-ltb, ltb-true, lt-ltb}
use Rattle.fsb_count.specs.Options.{is_some_and, is_before, is_at}
use Rattle.fsb_count.proofs.Bools.{nat_lt-more}

-- what is not some is none
pub is_some-none : {A : Type 0} (o : Option A) → is_some o ≡ false → o ≡ None
is_some-none None e = refl
is_some-none (Some a) e = absurd (let no : ⊥ = cc in no)

-- what is none is none
pub is_none-none : {A : Type 0} (o : Option A) → is_none o ≡ true → o ≡ None
is_none-none None e = refl
is_none-none (Some a) e = absurd (let no : ⊥ = cc in no)

-- no test passes where nothing is reached
pub is_some_and-none : {A : Type 0} (test : A → Bool) → is_some_and None test ≡ false
unfolding is_some_and
is_some_and-none test = refl

-- a number that is not reached is not before
pub is_before-none : (n : ℕ) → is_before None n ≡ false
unfolding is_before is_some_and
is_before-none n = refl

-- n itself, reached or not, is not before n
pub is_before-if : (n : ℕ) (b : Bool) → is_before (cond b (Some n) None) n ≡ false
unfolding is_before is_some_and
is_before-if n true = le-ltb n n (omega arith)
is_before-if n false = refl

-- a number that is before n is reached
pub is_before-parts : (o : Option ℕ) (n : ℕ) → is_before o n ≡ true → (m : ℕ) × (o ≡ Some m) × (m < n)
unfolding is_before is_some_and
is_before-parts None n t = absurd (let no : ⊥ = cc in no)
is_before-parts (Some m) n t = (m, refl, ltb-true m n t)

-- a number below n is before n
pub is_before-from : (o : Option ℕ) (m n : ℕ) → o ≡ Some m → m < n → is_before o n ≡ true
unfolding is_before is_some_and
is_before-from o m n e l = rw (e, lt-ltb m n l) refl

-- a number that is before the next one is before n, or is n
pub is_before-more : (o : Option ℕ) (n : ℕ) → is_before o (n + 1) ≡ (is_before o n || is_at o n)
unfolding is_before is_at is_some_and
is_before-more None n = refl
is_before-more (Some m) n = nat_lt-more m n

-- the number that is at n is n
pub is_at-some : (o : Option ℕ) (n : ℕ) → is_at o n ≡ true → o ≡ Some n
unfolding is_at is_some_and
is_at-some None n t = absurd (let no : ⊥ = cc in no)
is_at-some (Some m) n t = ap (λ k. Some k) (eqb-true m n t)

-- n is at n
pub is_at-from : (o : Option ℕ) (n : ℕ) → o ≡ Some n → is_at o n ≡ true
unfolding is_at is_some_and
is_at-from o n e = rw e (eq-eqb n n refl)

-- a number that is not reached is at no n
pub is_at-off : (o : Option ℕ) (n : ℕ) → o ≡ None → is_at o n ≡ false
unfolding is_at is_some_and
is_at-off o n e = rw e refl

-- n is at n where it is reached
pub is_at-if : (n : ℕ) (b : Bool) → is_at (cond b (Some n) None) n ≡ b
unfolding is_at is_some_and
is_at-if n true = eq-eqb n n refl
is_at-if n false = refl
