-- The codes that a header declares, and the lines that have them.
use Rattle.std.specs.Prelude.{ℕ, List, [], ◌∷◌, ◌++◌, Option, Some, None, if◌then◌else◌}
use Rattle.vcd_grammar.specs.Words.{same}

-- a code that was declared, and the numbers of the lines that have it, in the order of their declarations; a code may be
-- that of several lines, and of other variables
pub record Code : Type 0 where
  pub code : List ℕ
  pub lines : List ℕ

-- the codes with one more variable's; its line, if it is one, is put behind those that have the code already
abbrev pub with_code : List Code → List ℕ → List ℕ → List Code
with_code [] code line = record { code = code; lines = line } ∷ []
with_code (c ∷ cs) code line =
    if same code c.code then record { code = c.code; lines = c.lines ++ line } ∷ cs else c ∷ with_code cs code line

-- the lines of a code, where it was declared
abbrev pub lines_of : List Code → List ℕ → Option (List ℕ)
lines_of [] code = None
lines_of (c ∷ cs) code = if same code c.code then Some c.lines else lines_of cs code
