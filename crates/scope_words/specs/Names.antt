-- Lines of the bus by their names, with commas between.
use Rattle.std.specs.Prelude.{◌≡◌, ◌<◌, ℕ, false, Option, List, map}
use Rattle.std.specs.List.{All}
use Rattle.fsb_trigger.specs.Grammar.{all_there, parts}
use Rattle.scope_pick.specs.Names.{line_named}
use Rattle.scope_pick.specs.Scopes.{is_listed}

-- the lines that a word names: each part between commas is the name of one
unfoldable pub lines_in : List ℕ → Option (List ℕ)
lines_in word = all_there (map line_named (parts 44 word))

-- numbers of lines of the bus
abbrev pub Lines : List ℕ → Type 0
Lines lines = All (λ line. line < 22) lines

-- numbers of lines that a clock samples: all but its own
abbrev pub SampledLines : List ℕ → Type 0
SampledLines lines = Lines lines × (is_listed lines 0 ≡ false)
