-- The texts by which a user names lines, variables and bits.
use Rattle.std.specs.Prelude.{ℕ, Bool, nat_eq, not, ◌+◌, ◌-◌, ◌&&◌, ◌||◌, List, [], ◌∷◌, length, take, drop, Option, Some, None, if◌then◌else◌}
use Rattle.std.specs.List.{filter, position, list_any, starts_with, ends_with}
use Rattle.std.specs.Cmp.Lexicographic.{pointwise}
use Rattle.scope_pick.specs.declared.variable.Range.{Range}
use Rattle.scope_pick.specs.Names.{line_named}
use Rattle.scope_pick.specs.Splits.{index_in, after_last, before_last}

-- the byte stands in the text
unfoldable pub has_byte : ℕ → List ℕ → Bool
has_byte byte text = list_any (λ b. nat_eq b byte) text

-- what a text `LINE=[!]TARGET` says
pub record Said : Type 0 where
  pub line : ℕ
  pub inverted : Bool
  pub target : List ℕ

-- the text stands behind the equals sign, perhaps behind an exclamation mark
unfoldable pub said_of : Option ℕ → List ℕ → Option Said
said_of None text = None
said_of (Some line) text =
    let inverted = starts_with nat_eq text (33 ∷ []) in
    let target = if inverted then drop 1 text else text in
    if nat_eq (length target) 0 then None
    else Some (record { line = line; inverted = inverted; target = target })

-- the first equals sign parts the line's name from the rest
unfoldable pub said_at : List ℕ → Option ℕ → Option Said
said_at text None = None
said_at text (Some place) = said_of (line_named (take place text)) (drop (place + 1) text)

-- what the user says by a text; nothing where it names no line or no variable
unfoldable pub said : List ℕ → Option Said
said text = said_at text (position (λ b. nat_eq b 61) text)

-- the scope that a text names: its path, or a dot for the root
unfoldable pub scope_path : List ℕ → List ℕ
scope_path text = if pointwise nat_eq text (46 ∷ []) then [] else text

-- a byte that an escaped name has beside its letters: a backslash, or the space that ends it in Verilog
unfoldable pub is_escape : ℕ → Bool
is_escape byte = nat_eq byte 92 || nat_eq byte 32

-- a path without those bytes
unfoldable pub bare_path : List ℕ → List ℕ
bare_path path = filter (λ b. not (is_escape b)) path

-- a path from its first other byte on
abbrev pub bare_from : List ℕ → List ℕ
bare_from [] = []
bare_from (byte ∷ path) = if is_escape byte then bare_from path else byte ∷ path

-- the paths are the same, whichever of their names are escaped
unfoldable pub is_same_path : List ℕ → List ℕ → Bool
is_same_path a b = pointwise nat_eq (bare_path a) (bare_path b)

-- two indices, where both are numbers
unfoldable pub range_with : Option ℕ → Option ℕ → Option Range
range_with None right = None
range_with (Some left) None = None
range_with (Some left) (Some right) = Some (record { left = left; right = right })

-- the indices between two brackets: `i` or `i:j`
unfoldable pub range_inside : List ℕ → Option Range
range_inside text =
    if has_byte 58 text then range_with (index_in (before_last 58 text)) (index_in (after_last 58 text))
    else range_with (index_in text) (index_in text)

-- a text without its last byte
abbrev pub but_last : List ℕ → List ℕ
but_last text = take (length text - 1) text

-- the bits that a text names at its end, as `[35:3]`
unfoldable pub bits_named : List ℕ → Option Range
bits_named text =
    if ends_with nat_eq text (93 ∷ []) && has_byte 91 text
    then range_inside (after_last 91 (but_last text)) else None

-- the text before them
unfoldable pub before_bits : List ℕ → List ℕ
before_bits text = before_last 91 text
