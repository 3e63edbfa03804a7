-- Sixteen bytes at a time.
use Rattle.std.specs.Prelude.{◌≡◌, ◌<◌, ◌≤◌, ◌+◌, ◌==◌, ℕ, Bool, true, false, if◌then◌else◌, List, slice_index}
use Rattle.std.specs.Int.{w64, trailing_zeros}

-- the place of the lowest bit that is set, and n where none is
abbrev pub first_set : ℕ → ℕ → ℕ
first_set mask n = if mask == 0 then n else trailing_zeros w64 mask

-- of the sixteen bytes from a place on, so many pass the test, and then one fails it, unless all pass
pub record IsRunOf (test : ℕ → Bool) (bytes : List ℕ) (at run : ℕ) : Type 0 where
  pub few : run ≤ 16
  pub passes : (k : ℕ) → at ≤ k → k < at + run → test (slice_index bytes k) ≡ true
  pub stops : run < 16 → test (slice_index bytes (at + run)) ≡ false
