-- The text of a wave: the control lines drawn over a range of clocks, and the words of its requests and of its data.
use Rattle.std.specs.Prelude.{ℕ, ◌+◌, ◌-◌, ◌*◌, Bool, false, ◌||◌, if◌then◌else◌, min, List, [], ◌∷◌, ◌++◌, Option, codes, length, map, replicate, slice_get}
use Rattle.std.specs.Fmt.{decimal}
use Rattle.std.specs.List.{flat_map, range_with_len}
use Rattle.std.specs.Option.{option_map_or}
use Rattle.fsb_count.specs.Clocks.{all_where}
use Rattle.fsb_io.specs.NumberText.{hexadecimal}
use Rattle.fsb_signal.specs.ControlLines.{line_names, line_with}
use Rattle.fsb_signal.specs.declared.lines.Lines.{Lines}
use Rattle.fsb_signal.specs.declared.lines.TheConstants.Lines.{ADS, DRDY}
use Rattle.fsb_signal.specs.declared.sample.Sample.{Sample}
use Rattle.fsb_signal.specs.Samples.{has_line, has_unknown, is_known_word}

-- the sample of each clock, where there is one
abbrev pub Clocks : Type 0
Clocks = ℕ → Option Sample

-- the clock of the first sample that a wave looks at: the one before the range
abbrev pub first_kept : ℕ → ℕ
first_kept from = from - 1

-- how many clocks of the range a trace of n samples reaches
abbrev pub reached : ℕ → ℕ → ℕ → ℕ
reached from to n = min (to + 1) n - from

-- a control line, and its name as it is drawn
pub record NamedLine : Type 0 where
  pub name : List ℕ
  pub line : Lines

-- a name, filled with spaces to six places
abbrev pub drawn_name : List ℕ → List ℕ
drawn_name name = name ++ replicate (6 - length name) 32

-- the line of this name and of these bits
abbrev pub drawn_line : List ℕ × ℕ → NamedLine
drawn_line entry = record { name = drawn_name entry.0; line = line_with entry.1 }

-- the 21 control lines in the order of their bits
abbrev pub control_lines : List NamedLine
control_lines = map drawn_line line_names

-- a line in a sample: `#` asserted, `?` unknown, `.` neither
unfoldable pub mark_of : Lines → Sample → ℕ
mark_of line s = if has_line s line then 35 else if has_unknown s line then 63 else 46

-- the same at a clock
unfoldable pub mark_at : Clocks → Lines → ℕ → ℕ
mark_at clocks line c = option_map_or (mark_of line) (clocks c) 46

-- a control line: its name filled with spaces to six places, then one character for each of n clocks
unfoldable pub drawing : Clocks → ℕ → ℕ → NamedLine → List ℕ
drawing clocks from n named =
    named.name ++ map (mark_at clocks named.line) (range_with_len from n) ++ codes "\n"

-- the line is asserted at a clock
unfoldable pub asserts_at : Clocks → Lines → ℕ → Bool
asserts_at clocks line c = option_map_or (λ s. has_line s line) (clocks c) false

-- ADS# is at clock c or at the one before it; clock 0 has none before it, and there c - 1 is 0 too
unfoldable pub has_request : Clocks → ℕ → Bool
has_request clocks c = asserts_at clocks ADS c || asserts_at clocks ADS (c - 1)

-- a number in hexadecimal, or `?` where it is not known
abbrev pub known_text : Bool → ℕ → List ℕ
known_text known value = if known then hexadecimal value else codes "?"

-- the line of a clock of a request: `A <clock> <address> <request>`; the address is the address word times 8
unfoldable pub request_text : ℕ → Sample → List ℕ
request_text c s =
    codes "A " ++ decimal c ++ codes " "
    ++ known_text (is_known_word s.addr) (8 * s.addr.bits) ++ codes " "
    ++ known_text (is_known_word s.req) s.req.bits ++ codes "\n"

-- the line of a clock of data: `D <clock> <data>`
unfoldable pub data_text : ℕ → Sample → List ℕ
data_text c s =
    codes "D " ++ decimal c ++ codes " "
    ++ known_text (is_known_word s.dbus) s.dbus.bits ++ codes "\n"

-- the last line: `clocks=<n>`
unfoldable pub clock_count_text : ℕ → List ℕ
clock_count_text n = codes "clocks=" ++ decimal n ++ codes "\n"

-- the text of a clock, by its sample
unfoldable pub text_at : (ℕ → Sample → List ℕ) → Clocks → ℕ → List ℕ
text_at text clocks c = option_map_or (text c) (clocks c) []

-- the 21 drawings over n clocks
unfoldable pub drawings : Clocks → ℕ → ℕ → List (List ℕ)
drawings clocks from n = map (drawing clocks from n) control_lines

-- a line of text for each of the n clocks from `from` on that passes the test
unfoldable pub texts_where : (ℕ → Bool) → (ℕ → List ℕ) → ℕ → ℕ → List (List ℕ)
texts_where test text from n = map (λ j. text (from + j)) (all_where (λ j. test (from + j)) n)

-- the lines of the clocks with ADS# at them or before them
abbrev pub requests : Clocks → ℕ → ℕ → List (List ℕ)
requests clocks from n = texts_where (has_request clocks) (text_at request_text clocks) from n

-- the lines of the clocks with DRDY#
abbrev pub transfers : Clocks → ℕ → ℕ → List (List ℕ)
transfers clocks from n = texts_where (asserts_at clocks DRDY) (text_at data_text clocks) from n

-- the lines of data, and the count of clocks of a trace of `all` samples
unfoldable pub lines_behind : Clocks → ℕ → ℕ → ℕ → List (List ℕ)
lines_behind clocks from n all = transfers clocks from n ++ clock_count_text all ∷ []

-- the lines of requests, and those behind them
unfoldable pub lines_below : Clocks → ℕ → ℕ → ℕ → List (List ℕ)
lines_below clocks from n all = requests clocks from n ++ lines_behind clocks from n all

-- the lines of a wave over n clocks from `from` on, of a trace of `all` samples: the drawings, the lines of requests,
-- the lines of data and the count of clocks, each with its line feed
unfoldable pub lines_over : Clocks → ℕ → ℕ → ℕ → List (List ℕ)
lines_over clocks from n all = drawings clocks from n ++ lines_below clocks from n all

-- the lines of the wave of a trace over the clocks from `from` to `to`
abbrev pub wave_lines : List Sample → ℕ → ℕ → List (List ℕ)
wave_lines w from to = lines_over (slice_get w) from (reached from to (length w)) (length w)

-- the text of the wave of a trace: its lines, one after another
abbrev pub wave_text : List Sample → ℕ → ℕ → List ℕ
wave_text w from to = flat_map (λ line. line) (wave_lines w from to)
