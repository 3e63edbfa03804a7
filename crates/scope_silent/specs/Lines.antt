-- The lines of a dump, one after another.
use Rattle.std.specs.Prelude.{ℕ, Bool, List, [], ◌∷◌, map}
use Rattle.vcd_grammar.specs.Judging.{is_declared}

-- which lines of the signal table, from the first to the last, are among these
abbrev pub there_in : List ℕ → List Bool
there_in lines =
    map (is_declared lines) (0 ∷ 1 ∷ 2 ∷ 3 ∷ 4 ∷ 5 ∷ 6 ∷ 7 ∷ 8 ∷ 9 ∷ 10 ∷ 11 ∷ 12 ∷ 13 ∷ 14 ∷ 15 ∷ 16 ∷ 17 ∷ 18 ∷ 19 ∷ 20 ∷ 21 ∷ [])
