-- Sixteen bytes at a time.
use Rattle.std.specs.Prelude.{◌≡◌, ◌<◌, ◌≤◌, ◌+◌, ◌==◌, ◌||◌, ℕ, Bool, true, false, if◌then◌else◌, List, take, slice_index}
use Rattle.std.specs.List.{list_all}
use Rattle.std.specs.Int.{w64, trailing_zeros}
use Rattle.vcd_grammar.specs.Levels.{bits_from, is_low}

-- the place of the lowest bit that is set, and n where none is
abbrev pub first_set : ℕ → ℕ → ℕ
first_set mask n = if mask == 0 then n else trailing_zeros w64 mask

-- the digit 0 or 1
abbrev pub is_binary : ℕ → Bool
is_binary b = (b == 48) || (b == 49)

-- of the sixteen bytes from a place on, so many pass the test, and then one fails it, unless all pass
pub record IsRunOf (test : ℕ → Bool) (bytes : List ℕ) (at run : ℕ) : Type 0 where
  pub few : run ≤ 16
  pub passes : (k : ℕ) → at ≤ k → k < at + run → test (slice_index bytes k) ≡ true
  pub stops : run < 16 → test (slice_index bytes (at + run)) ≡ false

-- the text begins with so many digits 0 and 1, 64 at most, and this number has a bit for each that is 0, the first
-- one's the highest
pub record BeginsWithBinary (text : List ℕ) (count low : ℕ) : Type 0 where
  pub few : count ≤ 64
  pub digits : list_all is_binary (take count text) ≡ true
  pub value : bits_from is_low 0 (take count text) ≡ low
