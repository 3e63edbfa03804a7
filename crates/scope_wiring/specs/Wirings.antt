-- What is taken of a dump's variables as the lines of the bus.
use Rattle.std.specs.Prelude.{ℕ, Bool, false, nat_eq, nat_le, nat_lt, not, ◌-◌, ◌&&◌, ◌||◌, List, [], ◌∷◌, ◌++◌, Option, Some, None, is_some, slice_get, if◌then◌else◌}
use Rattle.std.specs.List.{filter, filter_map, flat_map, list_any, enumerate_from}
use Rattle.scope_pick.specs.declared.variable.Variable.{Variable}
use Rattle.scope_pick.specs.declared.variable.Range.{Range}
use Rattle.scope_pick.specs.declared.wires.Named.{Named}
use Rattle.scope_pick.specs.declared.split.Bit.{Bit}
use Rattle.scope_pick.specs.Names.{line_named}
use Rattle.scope_pick.specs.Places.{line_width}
use Rattle.scope_pick.specs.Splits.{bits, bit_at, bit_in, base_of, bit_numbers}
use Rattle.scope_pick.specs.Scopes.{lines, found_in, is_listed}
use Rattle.vcd_way.specs.declared.tap.Tap.{Tap}
use Rattle.scope_wiring.specs.declared.cause.Cause.{Cause}
use Rattle.scope_wiring.specs.declared.cause.Cause.TheVariants.{NoVariable, SeveralVariables, CannotBe, LacksBits}
use Rattle.scope_wiring.specs.declared.home.Home.{Home}
use Rattle.scope_wiring.specs.declared.home.Home.TheVariants.{Nowhere, At, Refused}
use Rattle.scope_wiring.specs.declared.meaning.Meaning.{Meaning}
use Rattle.scope_wiring.specs.declared.meaning.Meaning.TheVariants.{Nothing, Several, Lacking, Whole, Bits, Word, WordBits}
use Rattle.scope_wiring.specs.declared.text.LineOption.{LineOption}
use Rattle.scope_wiring.specs.declared.wire.Wire.{Wire}
use Rattle.scope_wiring.specs.Meanings.{meaning_of, name_sought, path_sought}
use Rattle.scope_wiring.specs.NamedWords.{first_bit, index_at}
use Rattle.scope_wiring.specs.Settling.{options_cause}
use Rattle.scope_wiring.specs.Taps.{tap_of, tap_named, bit_tap}
use Rattle.scope_wiring.specs.Texts.{before_bits}

-- a tap of the variable of this index, if there is one
unfoldable pub wire_if : ℕ → Option Tap → Option Wire
wire_if i None = None
wire_if i (Some tap) = Some (record { index = i; tap = tap })

-- ---- lines that the user names

-- the variable of this index as the line that the option names
unfoldable pub whole_wire : LineOption → ℕ → Option Variable → Option Wire
whole_wire o i None = None
whole_wire o i (Some v) = wire_if i (tap_of o.line v o.inverted)

-- bits of it
unfoldable pub bits_wire : LineOption → ℕ → Range → Option Variable → Option Wire
bits_wire o i range None = None
bits_wire o i range (Some v) = wire_if i (tap_named o.line v o.inverted range)

-- the variable of this index as the bit of this number of the line that the option names
unfoldable pub bit_wired : LineOption → ℕ → Option ℕ → Option Wire
bit_wired o k None = None
bit_wired o k (Some i) = Some (record { index = i; tap = bit_tap o.line k o.inverted })

-- the bit of this number, in a word of these indices
unfoldable pub word_wire : List Variable → LineOption → List ℕ → List ℕ → Range → ℕ → Option Wire
word_wire vs o scope word range k =
    if nat_lt k (line_width o.line) then bit_wired o k (first_bit vs scope word (index_at range k)) else None

-- the line's bits, in a word of these indices
unfoldable pub word_wires : List Variable → LineOption → Range → List ℕ → Option (List ℕ) → List Wire
word_wires vs o range word None = []
word_wires vs o range word (Some scope) =
    if nat_lt o.line 22 then filter_map (word_wire vs o scope word range) bit_numbers else []

-- the one wire, if there is one
unfoldable pub single : Option Wire → List Wire
single None = []
single (Some w) = w ∷ []

-- what the option takes, where its text means this
unfoldable pub wires_meant : List Variable → Home → LineOption → Meaning → List Wire
wires_meant vs home o Nothing = []
wires_meant vs home o Several = []
wires_meant vs home o Lacking = []
wires_meant vs home o (Whole i) = single (whole_wire o i (slice_get vs i))
wires_meant vs home o (Bits i range) = single (bits_wire o i range (slice_get vs i))
wires_meant vs home o (Word range) =
    word_wires vs o range (name_sought o.target.items) (path_sought vs home o.target.items)
wires_meant vs home o (WordBits range) =
    word_wires vs o range (before_bits (name_sought o.target.items)) (path_sought vs home o.target.items)

-- what the option takes
unfoldable pub wires_named : List Variable → Home → LineOption → List Wire
wires_named vs home o = wires_meant vs home o (meaning_of vs home o.line o.target.items)

-- what is wrong with the option of this number, where its text means this
unfoldable pub cause_meant : List Variable → ℕ → LineOption → Meaning → Option Cause
cause_meant vs k o Nothing = Some (NoVariable k)
cause_meant vs k o Several = Some (SeveralVariables k)
cause_meant vs k o Lacking = Some (LacksBits k)
cause_meant vs k o (Whole i) =
    if is_some (whole_wire o i (slice_get vs i)) then None else Some (CannotBe k)
cause_meant vs k o (Bits i range) =
    if is_some (bits_wire o i range (slice_get vs i)) then None else Some (LacksBits k)
cause_meant vs k o (Word range) = None
cause_meant vs k o (WordBits range) = None

-- what is wrong with it
unfoldable pub option_cause : List Variable → Home → ℕ → LineOption → Option Cause
option_cause vs home k o = cause_meant vs k o (meaning_of vs home o.line o.target.items)

-- what is wrong with the first option that names nothing, or what cannot be its line
unfoldable pub first_cause : List Variable → Home → List LineOption → Option Cause
first_cause vs home os =
    slice_get (filter_map (λ p. option_cause vs home p.0 p.1) (enumerate_from 0 os)) 0

-- no scope is to be told, or an option is wrong there
unfoldable pub cause_at : List Variable → List LineOption → Home → Option Cause
cause_at vs os Nowhere = first_cause vs Nowhere os
cause_at vs os (At scope) = first_cause vs (At scope) os
cause_at vs os (Refused cause) = Some cause

-- why the wires are not picked: first the options by themselves, then the scope, then what they name
unfoldable pub cause_with : List Variable → List LineOption → List ℕ → List ℕ → Home → Option Cause
cause_with vs os without settled home =
    elim (options_cause settled without) [
      | Some cause ↦ Some cause
      | None ↦ cause_at vs os home
    ]

-- ---- lines that are found in the scope

-- the line is found at the variable of this index
unfoldable pub is_taken : ℕ → Option Named → Bool
is_taken i None = false
is_taken i (Some e) = nat_eq e.index i && not e.is_split

-- the variable as the line, if the line is to be found in the scope and is found here
unfoldable pub line_wire : List Named → List ℕ → ℕ → ℕ → Variable → Option ℕ → Option Wire
line_wire ns settled scope i v None = None
line_wire ns settled scope i v (Some line) =
    if not (is_listed settled line) && is_taken i (found_in ns scope line)
    then wire_if i (tap_of line v false) else None

-- the word is found bit by bit, and this is a bit of it
unfoldable pub is_word_taken : Bit → Option Named → Bool
is_word_taken b None = false
is_word_taken b (Some e) =
    e.is_split && nat_eq e.scope b.scope && (e.exact && b.exact || not e.exact && not b.exact)

-- the bit is the first of its number
unfoldable pub is_first : Bit → Option Bit → Bool
is_first b None = false
is_first b (Some c) = nat_eq c.index b.index

-- the bit as one of its word, whose lowest bit has the base's number
unfoldable pub bit_from : Bit → Option ℕ → Option Wire
bit_from b None = None
bit_from b (Some base) =
    if nat_le base b.number && nat_lt (b.number - base) (line_width b.line)
    then Some (record { index = b.index; tap = bit_tap b.line (b.number - base) false }) else None

-- the bit as one of its word, if the word is to be found in the scope and is found bit by bit
unfoldable pub bit_wire : List Bit → List Named → List ℕ → ℕ → Option Bit → Option Wire
bit_wire bs ns settled scope None = None
bit_wire bs ns settled scope (Some b) =
    if not (is_listed settled b.line) && is_word_taken b (found_in ns scope b.line)
    && is_first b (bit_in bs b b.number)
    then bit_from b (base_of bs b) else None

-- the first wire, or else the other
abbrev pub first_some : Option Wire → Option Wire → Option Wire
first_some (Some w) other = Some w
first_some None other = other

-- what is taken of the i-th variable as a line of the scope
unfoldable pub wire_in : List Variable → List Bit → List Named → List ℕ → ℕ → ℕ → Variable → Option Wire
wire_in vs bs ns settled scope i v =
    first_some (line_wire ns settled scope i v (line_named v.name.items)) (bit_wire bs ns settled scope (bit_at vs i v))

-- what is taken of it in the scope that is judged
unfoldable pub wire_at : List Variable → List Bit → List Named → List ℕ → Home → ℕ → Variable → Option Wire
wire_at vs bs ns settled Nowhere i v = None
wire_at vs bs ns settled (At scope) i v = wire_in vs bs ns settled scope i v
wire_at vs bs ns settled (Refused cause) i v = None

-- ---- all of them

-- what the options take
unfoldable pub option_wires : List Variable → Home → List LineOption → List Wire
option_wires vs home os = flat_map (wires_named vs home) os

-- what is found in the scope, in the order of the header
unfoldable pub found_wires : List Variable → List Bit → List Named → List ℕ → Home → List Wire
found_wires vs bs ns settled home =
    filter_map (λ p. wire_at vs bs ns settled home p.0 p.1) (enumerate_from 0 vs)

-- the wires of the bus
unfoldable pub wires_with : List Variable → List LineOption → List Named → List ℕ → Home → List Wire
wires_with vs os ns settled home =
    option_wires vs home os ++ found_wires vs (bits vs) ns settled home

-- a wire is the line, or a bit of it
unfoldable pub is_wired : List Wire → ℕ → Bool
is_wired ws line = list_any (λ (w : Wire). nat_eq w.tap.line line) ws

-- the lines without a wire: they read as never asserted
unfoldable pub absent_lines : List Wire → List ℕ
absent_lines ws = filter (λ n. not (is_wired ws n)) lines
