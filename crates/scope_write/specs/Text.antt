-- The text of a dump of picked lines: value by value what each sample has, with x where it is unknown. The entries that
-- every dump must declare are written, and those others that are there.
use Rattle.std.specs.Prelude.{ℕ, ◌+◌, ◌*◌, Bool, true, false, not, ◌&&◌, ◌||◌, ◌==◌, if◌then◌else◌, suc, zero, List, [], ◌∷◌, ◌++◌, codes, decimal, slice_get, Option, Some, None}
use Rattle.std.specs.Int.{bit_at}
use Rattle.std.specs.Option.{option_map_or}
use Rattle.fsb_signal.specs.declared.sample.Sample.{Sample}
use Rattle.fsb_signal.specs.Samples.{known_sample}
use Rattle.fsb_signal.specs.Table.{table}
use Rattle.fsb_signal.specs.DumpText.{texts_from, dump_code_of, width_of, digit_of, value_of, declaration_text}

-- the sample that asserts exactly what is unknown in another
abbrev pub unknowns : Sample → Sample
unknowns s = known_sample s.unknown.0 s.req.unknown s.addr.unknown s.dbus.unknown

-- what is unknown on the entry of this number, as a number with 1 for unknown
abbrev pub unknown_of : Sample → ℕ → ℕ
unknown_of s number = value_of (unknowns s) number

-- every dump must declare the entry of this number
abbrev pub is_needed : ℕ → Bool
is_needed number = option_map_or (λ e. e.needed) (slice_get table number) false

-- the entry of this number is there
abbrev pub is_there : List Bool → ℕ → Bool
is_there there number = option_map_or (λ t. t) (slice_get there number) false

-- the entry of this number is written
unfoldable pub is_written : List Bool → ℕ → Bool
is_written there number = is_needed number || is_there there number

-- ---- a value

-- the digit of a line: `x` where it is unknown, `0` where it is asserted, `1` where it is neither
abbrev pub shown_digit : ℕ → ℕ → ℕ
shown_digit asserted unknown = if unknown == 1 then 120 else digit_of asserted

-- the digits of the lines of a word, from the highest to the lowest
abbrev pub shown_digits : ℕ → ℕ → ℕ → List ℕ
shown_digits zero asserted unknown = []
shown_digits (suc width) asserted unknown =
    shown_digit (bit_at asserted width) (bit_at unknown width) ∷ shown_digits width asserted unknown

-- a line of a value: of a single line its digit and code; of a word `b`, all its digits, a space and the code
unfoldable pub shown_text : ℕ → ℕ → ℕ → List ℕ
shown_text number asserted unknown =
    if width_of number == 1 then shown_digits 1 asserted unknown ++ dump_code_of number ∷ 10 ∷ []
    else
    codes "b" ++ shown_digits (width_of number) asserted unknown ++ codes " " ++ dump_code_of number ∷ 10 ∷ []

-- the value of an entry of a sample
abbrev pub shown_value : Sample → ℕ → List ℕ
shown_value s number = shown_text number (value_of s number) (unknown_of s number)

-- the entry is the same in two samples
abbrev pub is_same : Sample → Sample → ℕ → Bool
is_same before now number =
    (value_of before number == value_of now number) && (unknown_of before number == unknown_of now number)

-- the entry has changed since the sample before; in the first sample each has
abbrev pub has_changed : Option Sample → Sample → ℕ → Bool
has_changed None now number = true
has_changed (Some before) now number = not (is_same before now number)

-- the value of an entry that is written and has changed, and nothing else
unfoldable pub shown_change : List Bool → Option Sample → Sample → ℕ → List ℕ
shown_change there before now number =
    if is_written there number && has_changed before now number then shown_value now number else []

-- ---- the text

-- the declaration of an entry that is written
unfoldable pub shown_declaration : List Bool → ℕ → List ℕ
shown_declaration there number = if is_written there number then declaration_text number else []

-- the header, which has no values: a line is unknown until it gets one
unfoldable pub shown_header : List Bool → List ℕ
shown_header there =
    codes "$version p6scope 1 $end\n$timescale 1 ns $end\n$scope module fsb $end\n"
    ++ texts_from (shown_declaration there) 0 22 ++ codes "$upscope $end\n$enddefinitions $end\n"

-- the text of a clock: the time of its falling edge, the edge, the values that have changed, and the rising edge
unfoldable pub shown_clock : List Bool → ℕ → Option Sample → Sample → List ℕ
shown_clock there clock before now =
    codes "#" ++ decimal (10 * clock) ++ codes "\n0!\n" ++ texts_from (shown_change there before now) 1 21
    ++ codes "#" ++ decimal (10 * clock + 5) ++ codes "\n1!\n"

-- the texts of the clocks of some samples, of which the first is that of clock `clock` and follows `before`
unfoldable pub shown_clocks : List Bool → ℕ → Option Sample → List Sample → List ℕ
shown_clocks there clock before [] = []
shown_clocks there clock before (now ∷ w) =
    shown_clock there clock before now ++ shown_clocks there (clock + 1) (Some now) w

-- the whole text
unfoldable pub shown_dump : List Bool → List Sample → List ℕ
shown_dump there w = shown_header there ++ shown_clocks there 0 None w
