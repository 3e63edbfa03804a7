-- Which line of the bus a variable's name stands for.
use Rattle.std.specs.Prelude.{ℕ, Bool, false, nat_eq, nat_le, ◌-◌, ◌&&◌, not, List, [], ◌∷◌, Option, codes, length, take, drop, slice_get, Some, None, if◌then◌else◌}
use Rattle.std.specs.List.{position, starts_with, ends_with}
use Rattle.std.specs.Cmp.Lexicographic.{pointwise}
use Rattle.std.specs.Str.{str_to_ascii_lowercase}
use Rattle.fsb_signal.specs.Table.{table, TableEntry}

-- the name without a backslash before it and one after it
unfoldable pub without_escape : List ℕ → List ℕ
without_escape name =
    let front = if starts_with nat_eq name (92 ∷ []) then drop 1 name else name in
    if ends_with nat_eq front (92 ∷ []) then take (length front - 1) front else front

-- the two texts are the same but for the case of their letters
unfoldable pub are_same_letters : List ℕ → List ℕ → Bool
are_same_letters a b = pointwise nat_eq (str_to_ascii_lowercase a) (str_to_ascii_lowercase b)

-- the text ends with these letters, in either case
unfoldable pub ends_with_letters : List ℕ → List ℕ → Bool
ends_with_letters text letters =
    nat_le (length letters) (length text)
    && are_same_letters (drop (length text - length letters) text) letters

-- how many bytes at the end say that the wire is active low: `#`, or one of `_n`, `_l`, `_b`
unfoldable pub low_mark : List ℕ → ℕ
low_mark name =
    if ends_with nat_eq name (codes "#") then 1
    else if ends_with_letters name (codes "_n") then 2
    else if ends_with_letters name (codes "_l") then 2
    else if ends_with_letters name (codes "_b") then 2
    else 0

-- the name without that mark
unfoldable pub stem : List ℕ → List ℕ
stem name = take (length name - low_mark name) name

-- the name has that mark
unfoldable pub has_low_mark : List ℕ → Bool
has_low_mark name = not (nat_eq (low_mark name) 0)

-- the names are alike: their stems are, and both have a mark or neither
unfoldable pub are_alike : List ℕ → List ℕ → Bool
are_alike a b =
    are_same_letters (stem a) (stem b)
    && (if has_low_mark a then has_low_mark b else not (has_low_mark b))

-- the line of the bus that the name stands for
unfoldable pub line_named : List ℕ → Option ℕ
line_named name = position (λ e. are_alike (without_escape name) e.name) table

-- the name, escaped or not, is that of the entry
unfoldable pub is_name_of : List ℕ → Option TableEntry → Bool
is_name_of name None = false
is_name_of name (Some e) = pointwise nat_eq (without_escape name) e.name

-- the name is the very name of the line
unfoldable pub is_exact_name : ℕ → List ℕ → Bool
is_exact_name line name = is_name_of name (slice_get table line)
