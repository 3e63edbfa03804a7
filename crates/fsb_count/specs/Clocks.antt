-- Words over a test of a clock, which look at the clocks below n. Clocks are counted from 0.
use Rattle.std.specs.Prelude.{◌≡◌, ◌<◌, ℕ, zero, suc, ◌+◌, Bool, true, false, not, ◌&&◌, nat_le, if◌then◌else◌, List, [], ◌∷◌, ◌++◌, Option, Some, None, slice_get}

-- the first clock below n that passes
unfoldable pub first_where : (ℕ → Bool) → ℕ → Option ℕ
first_where test zero = None
first_where test (suc n) = elim (first_where test n) [ Some c ↦ Some c | None ↦ if test n then Some n else None ]

-- the last clock below n that passes
unfoldable pub last_where : (ℕ → Bool) → ℕ → Option ℕ
last_where test zero = None
last_where test (suc n) = elim (test n) [ true ↦ Some n | false ↦ last_where test n ]

-- some clock below n passes
unfoldable pub any_where : (ℕ → Bool) → ℕ → Bool
any_where test zero = false
any_where test (suc n) = elim (any_where test n) [ true ↦ true | false ↦ test n ]

-- every clock below n passes
unfoldable pub each_where : (ℕ → Bool) → ℕ → Bool
each_where test zero = true
each_where test (suc n) = each_where test n && test n

-- how many clocks below n pass
unfoldable pub count_where : (ℕ → Bool) → ℕ → ℕ
count_where test zero = 0
count_where test (suc n) = count_where test n + (if test n then 1 else 0)

-- all clocks below n that pass, in order
unfoldable pub all_where : (ℕ → Bool) → ℕ → List ℕ
all_where test zero = []
all_where test (suc n) = all_where test n ++ (if test n then n ∷ [] else [])

-- the k-th clock below n that passes, from 0
unfoldable pub nth_where : (ℕ → Bool) → ℕ → ℕ → Option ℕ
nth_where test k n = slice_get (all_where test n) k

-- the test from the clock on, and none before it
unfoldable pub from_clock : ℕ → (ℕ → Bool) → ℕ → Bool
from_clock first test c = nat_le first c && test c

-- there was a gain at a clock below n, and since the last one no loss
unfoldable pub holds_since : (ℕ → Bool) → (ℕ → Bool) → ℕ → Bool
holds_since gain loss n =
    elim (last_where gain n) [ None ↦ false | Some c ↦ not (any_where (from_clock (c + 1) loss) n) ]

-- two tests give the same at each clock below n
pub record AgreeBelow (n : ℕ) (p q : ℕ → Bool) : Type 0 where
  pub same : (c : ℕ) → c < n → p c ≡ q c
