-- When a model has the same as a cache and a memory, and which line is the first that differs.
use Rattle.std.specs.Prelude.{◌≡◌, ◌<◌, ℕ, List, Option, Some, None, slice_get}
use Rattle.fsb_cache.specs.Sets.{CacheSets, states}
use Rattle.fsb_line.specs.declared.state.Mesi.{Mesi}
use Rattle.fsb_memory.specs.Controller.{LineMap, line_in}

-- the model has the state of the line in the cache, and the first byte of it in memory
pub record HasSame (model : List Mesi) (bytes : List ℕ) (cache : CacheSets) (memory : LineMap)
    (line : ℕ) : Type 0 where
  pub state : slice_get model line ≡ Some (states cache line)
  pub byte : slice_get bytes line ≡ slice_get (line_in memory line) 0

-- it has the same of each line below n
abbrev pub HasSameBelow : List Mesi → List ℕ → CacheSets → LineMap → ℕ → Type 0
HasSameBelow model bytes cache memory n = (line : ℕ) → line < n
    → HasSame model bytes cache memory line

-- the first of the lines 0 to 7 of which it has not the same; none, where it has the same of all
abbrev pub IsFirstApart : List Mesi → List ℕ → CacheSets → LineMap → Option ℕ → Type 0
IsFirstApart model bytes cache memory None = HasSameBelow model bytes cache memory 8
IsFirstApart model bytes cache memory (Some line) = (line < 8)
    × HasSameBelow model bytes cache memory line × ¬ HasSame model bytes cache memory line
