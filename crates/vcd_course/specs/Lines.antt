-- The digits of the lines, as they lie in rows of bytes.
use Rattle.std.specs.Prelude.{◌≡◌, ◌≤◌, ◌==◌, ℕ, Bool, false, List, [], ◌∷◌, take, get_or}
use Rattle.std.specs.List.{list_any}
use Rattle.fsb_signal.specs.Table.{TableEntry}
use Rattle.vcd_grammar.specs.Values.{Values}

-- rows of bytes as the digits of lines: of each row as many as the line has bits
unfoldable pub values_in : List TableEntry → List (List ℕ) → Values
values_in [] rows = []
values_in (e ∷ es) [] = []
values_in (e ∷ es) (row ∷ rows) = take e.width row ∷ values_in es rows

-- the row of a line
abbrev pub row_at : List (List ℕ) → ℕ → List ℕ
row_at rows line = get_or rows line []

-- the line is one of these
abbrev pub is_listed : List ℕ → ℕ → Bool
is_listed lines line = list_any (λ k. k == line) lines

-- where the list has room for all that was put into it, each line that is not listed has the same row
-- in both
abbrev pub SameUnlessListed : ℕ → List ℕ → List (List ℕ) → List (List ℕ) → Type 0
SameUnlessListed count changed before inside =
    count ≤ 32 → (line : ℕ) → is_listed (take count changed) line ≡ false
    → row_at before line ≡ row_at inside line
