-- Words of the bus that a dump declares bit by bit: `A_n[3]`, `A_n(3)`, `A_n_3`.
use Rattle.std.specs.Prelude.{ℕ, Bool, false, nat_eq, nat_le, ◌+◌, ◌-◌, ◌*◌, ◌&&◌, ◌||◌, not, List, [], ◌∷◌, length, take, drop, reverse, Option, Some, None, is_some, if◌then◌else◌}
use Rattle.std.specs.List.{position, find, filter_map, list_all, list_any, enumerate_from, ends_with}
use Rattle.scope_pick.specs.declared.variable.Variable.{Variable}
use Rattle.scope_pick.specs.declared.variable.Written.{Written}
use Rattle.scope_pick.specs.declared.variable.Written.TheVariants.{Absent, Numbers, Unreadable}
use Rattle.scope_pick.specs.declared.split.Bit.{Bit}
use Rattle.scope_pick.specs.declared.split.BitName.{BitName}
use Rattle.scope_pick.specs.Names.{line_named, is_exact_name, without_escape}
use Rattle.scope_pick.specs.Places.{line_width, lowest_index, is_multi_bit}
use Rattle.scope_pick.specs.Numbering.{is_wire_kind, scope_number, wire_number}

-- a decimal digit
unfoldable pub is_index_digit : ℕ → Bool
is_index_digit b = nat_le 48 b && nat_le b 57

-- the digits go on from a number and stay below a hundred million
unfoldable pub fits_on : ℕ → ℕ → Bool
fits_on n b = is_index_digit b && nat_le n 9999999

-- the number that decimal digits make of the number before them
abbrev pub index_from : ℕ → List ℕ → Option ℕ
index_from n [] = Some n
index_from n (b ∷ bs) = if fits_on n b then index_from (n * 10 + (b - 48)) bs else None

-- the number that a word is: digits alone, one or more
unfoldable pub index_in : List ℕ → Option ℕ
index_in word = if nat_eq (length word) 0 then None else index_from 0 word

-- a text from the place on that is so far from its end
abbrev pub from_end : List ℕ → Option ℕ → List ℕ
from_end text None = text
from_end text (Some count) = drop (length text - count) text

-- what stands behind the last such byte of a text; all of it where there is none
unfoldable pub after_last : ℕ → List ℕ → List ℕ
after_last byte text = from_end text (position (λ b. nat_eq b byte) (reverse text))

-- what stands before the last such byte of a text; nothing where there is none
unfoldable pub before_last : ℕ → List ℕ → List ℕ
before_last byte text = take (length text - (length (after_last byte text) + 1)) text

-- the byte before an index: `[` and `(` where the name ends with the other one, else `_`
unfoldable pub opener : List ℕ → ℕ
opener name =
    if ends_with nat_eq name (93 ∷ []) then 91
    else if ends_with nat_eq name (41 ∷ []) then 40
    else 95

-- the name without the byte that closes an index
unfoldable pub unclosed : List ℕ → List ℕ
unclosed name = if nat_eq (opener name) 95 then name else take (length name - 1) name

-- the index at the end of a name
unfoldable pub index_of : List ℕ → Option ℕ
index_of name = index_in (after_last (opener name) (unclosed name))

-- the name without its index
unfoldable pub indexed : List ℕ → List ℕ
indexed name = before_last (opener name) (unclosed name)

-- the bit of this number of the word that a name stands for
unfoldable pub bit_called : List ℕ → Option ℕ → ℕ → Option BitName
bit_called name None number = None
bit_called name (Some line) number =
    if is_multi_bit line then Some (record { line = line; number = number; exact = is_exact_name line name })
    else None

-- the bit that a name with an index stands for
unfoldable pub bit_by_name : List ℕ → Option BitName
bit_by_name name =
    elim (index_of name) [
      | None ↦ None
      | Some number ↦ bit_called (indexed name) (line_named (indexed name)) number
    ]

-- the bit that a name and a range of one index stand for
unfoldable pub bit_by_range : List ℕ → Written → Option BitName
bit_by_range name Absent = None
bit_by_range name Unreadable = None
bit_by_range name (Numbers range) =
    if nat_eq range.left range.right then bit_called name (line_named name) range.left else None

-- the bit of a word that a variable's name and range stand for
unfoldable pub bit_name : List ℕ → Written → Option BitName
bit_name name range =
    elim (bit_by_range name range) [
      | Some bit ↦ Some bit
      | None ↦ bit_by_name (without_escape name)
    ]

-- the i-th variable as a bit of a word, if it has one bit and is named like one
unfoldable pub bit_at : List Variable → ℕ → Variable → Option Bit
bit_at vs i v =
    elim (bit_name v.name.items v.range) [
      | None ↦ None
      | Some b ↦
          if nat_eq v.width 1 && is_wire_kind v.kind.items then
          Some (record {
            index = i;
            line = b.line;
            number = b.number;
            exact = b.exact;
            scope = scope_number vs i v;
            wire = wire_number vs i v;
          })
          else None
    ]

-- all variables that are bits of words, in the order of the header
unfoldable pub bits : List Variable → List Bit
bits vs = filter_map (λ p. bit_at vs p.0 p.1) (enumerate_from 0 vs)

-- the two are bits of one word, of one scope, and both have its own name or neither
unfoldable pub is_of_word : Bit → Bit → Bool
is_of_word b c = nat_eq c.scope b.scope && nat_eq c.line b.line && (c.exact && b.exact || not c.exact && not b.exact)

-- the bit of this number of the same word
unfoldable pub is_bit_of : Bit → ℕ → Bit → Bool
is_bit_of b number c = is_of_word b c && nat_eq c.number number

-- the first bit of this number of the same word
unfoldable pub bit_in : List Bit → Bit → ℕ → Option Bit
bit_in bs b number = find (is_bit_of b number) bs

-- another wire stands for the same bit
unfoldable pub is_other_bit : Bit → Bit → Bool
is_other_bit c e = is_bit_of c c.number e && not (nat_eq e.wire c.wire)

-- the word has this bit, on one wire
unfoldable pub has_bit : List Bit → Bit → ℕ → Bool
has_bit bs b number =
    elim (bit_in bs b number) [ None ↦ false | Some c ↦ not (list_any (is_other_bit c) bs) ]

-- the numbers of the bits of the widest word
abbrev pub bit_numbers : List ℕ
bit_numbers =
    0 ∷ 1 ∷ 2 ∷ 3 ∷ 4 ∷ 5 ∷ 6 ∷ 7 ∷ 8 ∷ 9 ∷ 10 ∷ 11 ∷ 12 ∷ 13 ∷ 14 ∷ 15
    ∷ 16 ∷ 17 ∷ 18 ∷ 19 ∷ 20 ∷ 21 ∷ 22 ∷ 23 ∷ 24 ∷ 25 ∷ 26 ∷ 27 ∷ 28 ∷ 29 ∷ 30 ∷ 31
    ∷ 32 ∷ 33 ∷ 34 ∷ 35 ∷ 36 ∷ 37 ∷ 38 ∷ 39 ∷ 40 ∷ 41 ∷ 42 ∷ 43 ∷ 44 ∷ 45 ∷ 46 ∷ 47
    ∷ 48 ∷ 49 ∷ 50 ∷ 51 ∷ 52 ∷ 53 ∷ 54 ∷ 55 ∷ 56 ∷ 57 ∷ 58 ∷ 59 ∷ 60 ∷ 61 ∷ 62 ∷ 63 ∷ []

-- the word has all its bits, numbered from this number on
unfoldable pub has_bits_from : List Bit → Bit → ℕ → Bool
has_bits_from bs b base =
    list_all (λ k. nat_le (line_width b.line) k || has_bit bs b (base + k)) bit_numbers

-- the number of the word's lowest bit, where it has all of them: the table's, or else 0
unfoldable pub base_of : List Bit → Bit → Option ℕ
base_of bs b =
    if has_bits_from bs b (lowest_index b.line) then Some (lowest_index b.line)
    else if has_bits_from bs b 0 then Some 0
    else None

-- the bit belongs to a word that has all its bits
unfoldable pub is_joined : List Bit → Bit → Bool
is_joined bs b = is_some (base_of bs b)

-- the bit is the first of its word in the header
unfoldable pub is_first_bit : List Bit → Bit → Bool
is_first_bit bs b =
    elim (find (is_of_word b) bs) [ None ↦ false | Some c ↦ nat_eq c.index b.index ]
