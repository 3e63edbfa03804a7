-- Words that are declared bit by bit, by the name that a user gives them.
use Rattle.std.specs.Prelude.{ℕ, Bool, true, false, nat_eq, nat_le, nat_lt, not, ◌+◌, ◌-◌, ◌&&◌, ◌||◌, List, Option, Some, None, is_some, slice_get, if◌then◌else◌}
use Rattle.std.specs.List.{position, list_any, list_all}
use Rattle.std.specs.Cmp.Lexicographic.{pointwise}
use Rattle.scope_pick.specs.declared.variable.Variable.{Variable}
use Rattle.scope_pick.specs.declared.variable.Range.{Range}
use Rattle.scope_pick.specs.declared.variable.Written.{Written}
use Rattle.scope_pick.specs.declared.variable.Written.TheVariants.{Absent, Numbers, Unreadable}
use Rattle.scope_pick.specs.Names.{without_escape}
use Rattle.scope_pick.specs.Numbering.{is_same_wire, is_wire_kind}
use Rattle.scope_pick.specs.Places.{line_width, lowest_index, is_range_of}
use Rattle.scope_pick.specs.Splits.{bit_numbers, index_of, indexed}
use Rattle.scope_wiring.specs.declared.meaning.Meaning.{Meaning}
use Rattle.scope_wiring.specs.declared.meaning.Meaning.TheVariants.{Nothing, Several, Lacking, Whole, Bits, Word, WordBits}

-- the names are the same, escaped or not
unfoldable pub is_same_name : List ℕ → List ℕ → Bool
is_same_name a b = pointwise nat_eq (without_escape a) (without_escape b)

-- the variable stands in the scope and has the name, escaped or not
unfoldable pub is_called : List ℕ → List ℕ → Variable → Bool
is_called scope name v = pointwise nat_eq v.scope.items scope && is_same_name v.name.items name

-- ---- bits of a word

-- the one index that is written behind a name
unfoldable pub single_index : Written → Option ℕ
single_index Absent = None
single_index Unreadable = None
single_index (Numbers range) = if nat_eq range.left range.right then Some range.left else None

-- the index at the end of a name, where the word's name stands before it
unfoldable pub index_in_name : List ℕ → List ℕ → Option ℕ
index_in_name word name = if is_same_name (indexed name) word then index_of name else None

-- the name is this one, or this one with an index behind it
unfoldable pub is_name_or_bit : List ℕ → List ℕ → Bool
is_name_or_bit word name = is_same_name name word || is_some (index_in_name word (without_escape name))

-- the index of a bit of this word: behind the word's name as a range, or else in the bit's own name
unfoldable pub index_called : List ℕ → List ℕ → Written → Option ℕ
index_called word name range =
    if is_same_name name word then single_index range else index_in_name word (without_escape name)

-- the index of the variable, if it is a bit of the word of this name in the scope
unfoldable pub index_in_word : List ℕ → List ℕ → Variable → Option ℕ
index_in_word scope word v =
    if pointwise nat_eq v.scope.items scope && nat_eq v.width 1 && is_wire_kind v.kind.items
    then index_called word v.name.items v.range else None

-- it is one
unfoldable pub is_in_word : List ℕ → List ℕ → Variable → Bool
is_in_word scope word v = is_some (index_in_word scope word v)

-- the index is this one
unfoldable pub is_index : ℕ → Option ℕ → Bool
is_index number None = false
is_index number (Some index) = nat_eq index number

-- the variable is the bit of this index
unfoldable pub is_bit : List ℕ → List ℕ → ℕ → Variable → Bool
is_bit scope word number v = is_index number (index_in_word scope word v)

-- the index is this one, or above it
unfoldable pub is_index_from : ℕ → Option ℕ → Bool
is_index_from number None = false
is_index_from number (Some index) = nat_le number index

-- the variable is a bit of this index, or of one above it
unfoldable pub is_bit_from : List ℕ → List ℕ → ℕ → Variable → Bool
is_bit_from scope word number v = is_index_from number (index_in_word scope word v)

-- the first variable that is the bit of this index
unfoldable pub first_bit : List Variable → List ℕ → List ℕ → ℕ → Option ℕ
first_bit vs scope word number = position (is_bit scope word number) vs

-- another variable is the bit of this index too, on another wire
unfoldable pub is_other_bit : List ℕ → List ℕ → ℕ → Variable → Variable → Bool
is_other_bit scope word number v w = is_bit scope word number w && not (is_same_wire w v)

-- there is such a variable beside this one
unfoldable pub has_other_bit : List Variable → List ℕ → List ℕ → ℕ → Option Variable → Bool
has_other_bit vs scope word number None = false
has_other_bit vs scope word number (Some v) = list_any (is_other_bit scope word number v) vs

-- the bit of this index stands on several wires
unfoldable pub is_doubled : List Variable → List ℕ → List ℕ → ℕ → Bool
is_doubled vs scope word number =
    elim (first_bit vs scope word number) [
      | None ↦ false
      | Some i ↦ has_other_bit vs scope word number (slice_get vs i)
    ]

-- ---- words

-- the scope has a bit of the word
unfoldable pub has_word : List Variable → List ℕ → List ℕ → Bool
has_word vs scope word = list_any (is_in_word scope word) vs

-- the variable has the name and is no bit of a word
unfoldable pub is_whole_called : List ℕ → List ℕ → Variable → Bool
is_whole_called scope name v = is_called scope name v && not (is_in_word scope name v)

-- the scope has such a variable
unfoldable pub has_whole : List Variable → List ℕ → List ℕ → Bool
has_whole vs scope name = list_any (is_whole_called scope name) vs

-- in the scope the name is that of a word alone, which is declared bit by bit
unfoldable pub is_word : List Variable → List ℕ → List ℕ → Bool
is_word vs scope name = has_word vs scope name && not (has_whole vs scope name)

-- the index in the word of a line's bit, by the bit's number in the line, which is counted from 0 at the lowest one
unfoldable pub index_at : Range → ℕ → ℕ
index_at range k = if nat_le range.right range.left then range.right + k else range.right - k

-- one of the first so many bits of the range, counted from the lowest, stands on several wires
unfoldable pub has_doubled : List Variable → List ℕ → List ℕ → ℕ → Range → Bool
has_doubled vs scope word width range =
    list_any (λ k. nat_lt k width && is_doubled vs scope word (index_at range k)) bit_numbers

-- the word has the bit of this index
unfoldable pub has_bit : List Variable → List ℕ → List ℕ → ℕ → Bool
has_bit vs scope word number = is_some (first_bit vs scope word number)

-- the word has the first so many bits of the range, counted from the lowest
unfoldable pub has_bits : List Variable → List ℕ → List ℕ → ℕ → Range → Bool
has_bits vs scope word width range =
    list_all (λ k. nat_le width k || has_bit vs scope word (index_at range k)) bit_numbers

-- the word has a bit of this index, or of one above it
unfoldable pub has_bit_from : List Variable → List ℕ → List ℕ → ℕ → Bool
has_bit_from vs scope word number = list_any (is_bit_from scope word number) vs

-- what these bits of the word are as the line
unfoldable pub word_at : List Variable → ℕ → List ℕ → List ℕ → Range → Meaning
word_at vs line scope word range =
    if not (is_range_of (line_width line) range) then Lacking
    else if has_doubled vs scope word (line_width line) range then Several
    else if has_bits vs scope word (line_width line) range then Word range
    else Lacking

-- the indices of as many bits as the line has, from this one on
unfoldable pub range_from : ℕ → ℕ → Range
range_from line lowest = record { left = lowest + line_width line - 1; right = lowest }

-- it lacks bits
unfoldable pub is_lacking : Meaning → Bool
is_lacking Nothing = false
is_lacking Several = false
is_lacking Lacking = true
is_lacking (Whole i) = false
is_lacking (Bits i range) = false
is_lacking (Word range) = false
is_lacking (WordBits range) = false

-- what the word is as the line: its indices are the table's; or, where bits of these are lacking and the word has no
-- index as great as the line's width, they go from one less than the width down to 0
unfoldable pub word_meant : List Variable → ℕ → List ℕ → List ℕ → Meaning
word_meant vs line scope word =
    let named = word_at vs line scope word (range_from line (lowest_index line)) in
    if is_lacking named && not (has_bit_from vs scope word (line_width line))
    then word_at vs line scope word (range_from line 0) else named

-- the same bits, where the user names them
unfoldable pub as_named : Meaning → Meaning
as_named Nothing = Nothing
as_named Several = Several
as_named Lacking = Lacking
as_named (Whole i) = Whole i
as_named (Bits i range) = Bits i range
as_named (Word range) = WordBits range
as_named (WordBits range) = WordBits range
