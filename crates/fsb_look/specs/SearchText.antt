-- The text of a search, and a line of a text.
use Rattle.std.specs.Prelude.{ℕ, ◌-◌, List, [], ◌∷◌, ◌++◌, Option, Some, None, codes, length, slice_get}
use Rattle.std.specs.Fmt.{decimal}
use Rattle.std.specs.List.{flat_map}
use Rattle.std.specs.Option.{option_map_or}

-- a clock behind a comma
abbrev pub behind_text : ℕ → List ℕ
behind_text clock = codes "," ++ decimal clock

-- clocks divided by commas
abbrev pub clock_list_text : List ℕ → List ℕ
clock_list_text [] = []
clock_list_text (clock ∷ rest) = decimal clock ++ flat_map behind_text rest

-- the last of the clocks
abbrev pub last_text : List ℕ → List ℕ
last_text clocks = option_map_or decimal (slice_get clocks (length clocks - 1)) []

-- the line of a match: `found clock=<clock> steps=<clocks>`; its clock is that of the last step
abbrev pub found_text : List ℕ → List ℕ
found_text clocks = codes "found clock=" ++ last_text clocks ++ codes " steps=" ++ clock_list_text clocks ++ codes "\n"

-- the line where there is no match: `none clocks=<clocks>`
abbrev pub none_text : ℕ → List ℕ
none_text clocks = codes "none clocks=" ++ decimal clocks ++ codes "\n"

-- the line of a search of so many clocks
abbrev pub search_text : Option (List ℕ) → ℕ → List ℕ
search_text None clocks = none_text clocks
search_text (Some found) clocks = found_text found

-- a line, where there is one
abbrev pub line_text : Option (List ℕ) → List ℕ
line_text None = []
line_text (Some line) = line
