-- Which variable a user's text means.
use Rattle.std.specs.Prelude.{ℕ, Bool, false, nat_eq, nat_lt, not, ◌&&◌, option_map, List, Option, Some, None, slice_get, if◌then◌else◌}
use Rattle.std.specs.List.{position, list_any}
use Rattle.scope_pick.specs.declared.variable.Variable.{Variable}
use Rattle.scope_pick.specs.declared.variable.Range.{Range}
use Rattle.scope_pick.specs.declared.variable.Written.{Written}
use Rattle.scope_pick.specs.declared.variable.Written.TheVariants.{Absent, Numbers, Unreadable}
use Rattle.scope_pick.specs.Numbering.{is_same_wire}
use Rattle.scope_pick.specs.Places.{is_multi_bit}
use Rattle.scope_pick.specs.Splits.{after_last, before_last}
use Rattle.scope_wiring.specs.declared.meaning.Meaning.{Meaning}
use Rattle.scope_wiring.specs.declared.meaning.Meaning.TheVariants.{Nothing, Several, Lacking, Whole, Bits, Word, WordBits}
use Rattle.scope_wiring.specs.declared.home.Home.{Home}
use Rattle.scope_wiring.specs.declared.home.Home.TheVariants.{Nowhere, At, Refused}
use Rattle.scope_wiring.specs.Homes.{scope_named}
use Rattle.scope_wiring.specs.NamedWords.{is_called, is_word, word_at, word_meant, as_named}
use Rattle.scope_wiring.specs.Texts.{has_byte, bits_named, before_bits}

-- the first variable of the name in the scope
unfoldable pub first_called : List Variable → List ℕ → List ℕ → Option ℕ
first_called vs scope name = position (is_called scope name) vs

-- the name stands for another wire too
unfoldable pub is_other_called : List ℕ → List ℕ → Variable → Variable → Bool
is_other_called scope name v w = is_called scope name w && not (is_same_wire w v)

-- the scope has a variable of the name on another wire than this one's
unfoldable pub has_other_called : List Variable → List ℕ → List ℕ → Option Variable → Bool
has_other_called vs scope name None = list_any (is_called scope name) vs
has_other_called vs scope name (Some v) = list_any (is_other_called scope name v) vs

-- the whole variable that the name means, if there is one
unfoldable pub whole_meant : List Variable → List ℕ → List ℕ → Meaning
whole_meant vs scope name =
    elim (first_called vs scope name) [
      | None ↦ Nothing
      | Some i ↦ if has_other_called vs scope name (slice_get vs i) then Several else Whole i
    ]

-- these bits of what is meant
unfoldable pub with_bits : Range → Meaning → Meaning
with_bits range Nothing = Nothing
with_bits range Several = Several
with_bits range Lacking = Lacking
with_bits range (Whole i) = Bits i range
with_bits range (Bits i other) = Bits i range
with_bits range (Word other) = Nothing
with_bits range (WordBits other) = Nothing

-- the range is written behind the variable's name
unfoldable pub has_range : Range → Written → Bool
has_range range Absent = false
has_range range Unreadable = false
has_range range (Numbers r) = nat_eq r.left range.left && nat_eq r.right range.right

-- the variable stands in the scope and has the name and the range
unfoldable pub is_ranged : List ℕ → List ℕ → Range → Variable → Bool
is_ranged scope name range v = is_called scope name v && has_range range v.range

-- the first such variable
unfoldable pub first_ranged : List Variable → List ℕ → List ℕ → Range → Option ℕ
first_ranged vs scope name range = position (is_ranged scope name range) vs

-- another such variable, on another wire
unfoldable pub is_other_ranged : List ℕ → List ℕ → Range → Variable → Variable → Bool
is_other_ranged scope name range v w = is_ranged scope name range w && not (is_same_wire w v)

-- the scope has such a variable on another wire than this one's
unfoldable pub has_other_ranged : List Variable → List ℕ → List ℕ → Range → Option Variable → Bool
has_other_ranged vs scope name range None = list_any (is_ranged scope name range) vs
has_other_ranged vs scope name range (Some v) = list_any (is_other_ranged scope name range v) vs

-- these bits of the variable with the name, or of the word of this name
unfoldable pub picked_bits : List Variable → ℕ → List ℕ → List ℕ → Range → Meaning
picked_bits vs line scope name range =
    if nat_lt line 22 && is_word vs scope name then as_named (word_at vs line scope name range)
    else with_bits range (whole_meant vs scope name)

-- the variable with the name and the range, or else these bits
unfoldable pub ranged_meant : List Variable → ℕ → List ℕ → List ℕ → Range → Meaning
ranged_meant vs line scope name range =
    elim (first_ranged vs scope name range) [
      | None ↦ picked_bits vs line scope name range
      | Some i ↦ if has_other_ranged vs scope name range (slice_get vs i) then Several else Whole i
    ]

-- what the text means, where it ends with bits
unfoldable pub bits_meant : List Variable → ℕ → List ℕ → List ℕ → Meaning
bits_meant vs line scope text =
    elim (bits_named text) [
      | None ↦ Nothing
      | Some range ↦ ranged_meant vs line scope (before_bits text) range
    ]

-- this, or else what the text means with bits at its end
unfoldable pub or_bits : List Variable → ℕ → List ℕ → List ℕ → Meaning → Meaning
or_bits vs line scope text Nothing = bits_meant vs line scope text
or_bits vs line scope text Several = Several
or_bits vs line scope text Lacking = Lacking
or_bits vs line scope text (Whole i) = Whole i
or_bits vs line scope text (Bits i range) = Bits i range
or_bits vs line scope text (Word range) = Word range
or_bits vs line scope text (WordBits range) = WordBits range

-- what a name means in the scope: a word of this name that is declared bit by bit, where the line has several bits; or
-- else the variable of this name, or the one of this name and range, or bits
unfoldable pub meant_in : List Variable → ℕ → List ℕ → List ℕ → Meaning
meant_in vs line scope text =
    if is_multi_bit line && is_word vs scope text then word_meant vs line scope text
    else or_bits vs line scope text (whole_meant vs scope text)

-- the path of the scope of this number
unfoldable pub path_at : List Variable → Option ℕ → Option (List ℕ)
path_at vs None = None
path_at vs (Some scope) = option_map (λ v. v.scope.items) (slice_get vs scope)

-- the scope that is judged, if there is one
unfoldable pub judged_in : Home → Option ℕ
judged_in Nowhere = None
judged_in (At scope) = Some scope
judged_in (Refused cause) = None

-- the number of the scope in which a text is looked for: one with a dot in its own, another one in the one that is judged
unfoldable pub scope_sought : List Variable → Home → List ℕ → Option ℕ
scope_sought vs home text =
    if has_byte 46 text then scope_named vs (before_last 46 text) else judged_in home

-- the path of that scope
unfoldable pub path_sought : List Variable → Home → List ℕ → Option (List ℕ)
path_sought vs home text = path_at vs (scope_sought vs home text)

-- the name that a text has for a variable: what stands behind its last dot
unfoldable pub name_sought : List ℕ → List ℕ
name_sought text = after_last 46 text

-- what a text means for a line
unfoldable pub meaning_of : List Variable → Home → ℕ → List ℕ → Meaning
meaning_of vs home line text =
    elim (path_sought vs home text) [
      | None ↦ Nothing
      | Some scope ↦ meant_in vs line scope (name_sought text)
    ]
