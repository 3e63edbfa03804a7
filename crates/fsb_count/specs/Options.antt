-- Words on a number that may not be reached: a condition that needs it is false where it is not.
use Rattle.std.specs.Prelude.{ℕ, Bool, false, Option, Some, None, nat_lt, nat_eq, max}

-- the value is reached and passes the test
unfoldable pub is_some_and : {A : Type 0} → Option A → (A → Bool) → Bool
is_some_and None test = false
is_some_and (Some x) test = test x

-- the number is reached and below n
unfoldable pub is_before : Option ℕ → ℕ → Bool
is_before number n = is_some_and number (λ m. nat_lt m n)

-- the number is reached and is n
unfoldable pub is_at : Option ℕ → ℕ → Bool
is_at number n = is_some_and number (λ m. nat_eq m n)

-- the greater of two numbers, where both are reached
unfoldable pub greater_of : Option ℕ → Option ℕ → Option ℕ
greater_of None n = None
greater_of (Some m) None = None
greater_of (Some m) (Some n) = Some (max m n)
