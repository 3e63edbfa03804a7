-- The sections of a header, and the variables that they declare.
use Rattle.std.specs.Prelude.{ℕ, ◌+◌, ◌-◌, ℤ, pos, neg_ℤ, Bool, false, not, ◌&&◌, ◌==◌, nat_le, nat_lt, if◌then◌else◌, List, [], ◌∷◌, ◌++◌, length, take, drop, reverse, slice_get, codes, Option, Some, None, option_map}
use Rattle.std.specs.List.{take_while}
use Rattle.std.specs.Option.{option_map_or}
use Rattle.vcd_grammar.specs.Digits.{is_number, number_from, number_up_to}
use Rattle.vcd_grammar.specs.Words.{same, is_code_word}

-- a section so far: the word that opens it, its place, and the words after it
pub record DumpSection : Type 0 where
  pub place : ℕ
  pub keyword : List ℕ
  pub words : List (List ℕ)

-- a section with one more word
abbrev pub with_word : DumpSection → List ℕ → DumpSection
with_word section word = record section { words = section.words ++ word ∷ [] }

-- the word of this number after the keyword, from 0 on; there is none past the last one
abbrev pub word_of_section : DumpSection → ℕ → List ℕ
word_of_section section number = option_map_or (λ word. word) (slice_get section.words number) []

-- a variable, as a header declares it: the place of its `$var`; its type, its width, its code, and
-- its reference; the words after the reference; and the scopes that it stands in, the outermost
-- first
pub record Declaration : Type 0 where
  pub place : ℕ
  pub kind : List ℕ
  pub width : ℕ
  pub code : List ℕ
  pub reference : List ℕ
  pub after : List (List ℕ)
  pub path : List (List ℕ)

-- words as one, with nothing between them
abbrev pub as_one : List (List ℕ) → List ℕ
as_one [] = []
as_one (word ∷ words) = word ++ as_one words

-- the declaration that a section is in these scopes, where its width is a number
abbrev pub declaration_with : List (List ℕ) → DumpSection → Option ℕ → Option Declaration
declaration_with path section None = None
declaration_with path section (Some width) =
    if nat_le 4 (length section.words) && is_code_word (word_of_section section 2) then
    Some (record {
      place = section.place;
      kind = word_of_section section 0;
      width = width;
      code = word_of_section section 2;
      reference = word_of_section section 3;
      after = drop 4 section.words;
      path = path;
    })
    else None

-- the declaration that a section is in these scopes: it has four words or more, its width is a
-- number up to the widest, and each byte of its code is 33 to 126
unfoldable pub declaration_of : ℕ → List (List ℕ) → DumpSection → Option Declaration
declaration_of widest path section =
    declaration_with path section (number_up_to widest (word_of_section section 1))

-- ---- the name and the range of a variable

-- the ends of a range, in their order; `[3]` has 3 for both
pub record Ends : Type 0 where
  pub first : ℤ
  pub last : ℤ

-- the range of a variable. It may stand there and be none of numbers; then the variable is no line
pub data Range : Type 0 where
  NoRange : Range
  Ranges : Ends → Range
  Unreadable : Range

-- the name of a variable and its range
pub record RangedName : Type 0 where
  pub name : List ℕ
  pub range : Range

-- the number that a word is, where it is one
abbrev pub whole_number : List ℕ → Option ℕ
whole_number word = if is_number word then Some (number_from 0 word) else None

-- the same, perhaps with a minus sign
abbrev pub signed_number : List ℕ → Option ℤ
signed_number [] = None
signed_number (b ∷ bs) =
    if b == 45 then option_map (λ n. neg_ℤ (pos n)) (whole_number bs)
    else option_map pos (whole_number (b ∷ bs))

-- two ends, where both are numbers
abbrev pub ends_with : Option ℤ → Option ℤ → Option Ends
ends_with (Some first) (Some last) = Some (record { first = first; last = last })
ends_with _ _ = None

-- the ends that stand between two brackets: `i` or `i:j`
abbrev pub ends_in : List ℕ → Option Ends
ends_in inside =
    let first = take_while (λ b. not (b == 58)) inside in
    let last = if length first == length inside then first else drop (length first + 1) inside in
    ends_with (signed_number first) (signed_number last)

-- the bytes after the last `[` of a text; all of them, where there is none
abbrev pub after_bracket : List ℕ → List ℕ
after_bracket text = reverse (take_while (λ b. not (b == 91)) (reverse text))

-- the range at the end of a text: its last `[i]` or `[i:j]`, with nothing after it
abbrev pub ends_at_end : List ℕ → Option Ends
ends_at_end text =
    let last = after_bracket text in
    let count = length last - 1 in
    let has_both = nat_lt (length last) (length text) && same (codes "]") (drop count last) in
    if has_both then ends_in (take count last) else None

-- a text without the backslash at its very end
abbrev pub without_backslash : List ℕ → List ℕ
without_backslash text =
    let count = length text - 1 in
    if same (92 ∷ []) (drop count text) then take count text else text

-- the name and the range of a text with these ends at its end; without them the whole is the name
abbrev pub ranged : List ℕ → Option Ends → RangedName
ranged text None = record { name = text; range = NoRange }
ranged text (Some ends) =
    let count = length text - (length (after_bracket text) + 1) in
    record { name = take count text; range = Ranges ends }

-- the same, where the words after a reference are to be the range
abbrev pub ranged_by_words : List ℕ → List ℕ → Option Ends → RangedName
ranged_by_words reference text None = record { name = reference; range = Unreadable }
ranged_by_words reference text (Some ends) = ranged text (Some ends)

-- a word that begins with a bracket
abbrev pub is_bracketed : List ℕ → Bool
is_bracketed [] = false
is_bracketed (b ∷ bs) = b == 91

-- the name and the range of a variable. The range is the last `[i]` or `[i:j]` at the end of the
-- reference and the words after it, if these begin with `[`; its ends may be negative. A backslash
-- at the very end is dropped first. The name is all that stands before the range
unfoldable pub ranged_name : Declaration → RangedName
ranged_name d =
    let alone = without_backslash d.reference in
    let text = without_backslash (d.reference ++ as_one d.after) in
    if is_bracketed (as_one d.after) then ranged_by_words d.reference text (ends_at_end text)
    else ranged alone (ends_at_end alone)

-- ---- the sections that were read past

-- the first section of this keyword, as one word
abbrev pub text_of_section : List ℕ → List DumpSection → Option (List ℕ)
text_of_section keyword [] = None
text_of_section keyword (section ∷ sections) =
    if same keyword section.keyword then Some (as_one section.words) else text_of_section keyword sections

-- the unit of time, as it is written: `1ps`
abbrev pub timescale_in : List DumpSection → Option (List ℕ)
timescale_in sections = text_of_section (codes "$timescale") sections
