-- The text of a written dump: a value change dump of a list of samples, in profile 1 or 2. Profile 2 has the parity
-- lines too, the last two entries of the table.
use Rattle.std.specs.Prelude.{ℕ, ◌+◌, ◌-◌, ◌*◌, ◌==◌, if◌then◌else◌, suc, zero, List, [], ◌∷◌, ◌++◌, codes, decimal, slice_get, slice_index}
use Rattle.std.specs.Int.{bit_at}
use Rattle.std.specs.Option.{option_map_or}
use Rattle.fsb_signal.specs.declared.lines.TheConstants.Lines.{BREQ0, BREQ1, BREQ2, BREQ3, BPRI, LOCK, BNR, ADS, AERR, HIT, HITM, DEFER, TRDY, DBSY, DRDY, RP}
use Rattle.fsb_signal.specs.declared.sample.Sample.{Sample}
use Rattle.fsb_signal.specs.Samples.{bit_of, response_of, address_parity_of, idle}
use Rattle.fsb_signal.specs.Table.{table}

-- the texts f from, f (from + 1) and so on, n of them, one after another
unfoldable pub texts_from : (ℕ → List ℕ) → ℕ → ℕ → List ℕ
texts_from f from zero = []
texts_from f from (suc n) = texts_from f from n ++ f (from + n)

-- how many entries of the table a dump of this profile has
abbrev pub entries_in : ℕ → ℕ
entries_in profile = if profile == 2 then 22 else 20

-- the code of an entry in a dump: one printable byte, from 33 on
abbrev pub dump_code_of : ℕ → ℕ
dump_code_of number = 33 + number

-- how many lines the entry of this number has
abbrev pub width_of : ℕ → ℕ
width_of number = option_map_or (λ e. e.width) (slice_get table number) 0

-- the name of the entry of this number
abbrev pub name_of : ℕ → List ℕ
name_of number = option_map_or (λ e. e.name) (slice_get table number) []

-- what a sample asserts on each entry of the table, as a number with 1 for asserted; BCLK is no part of a sample
abbrev pub values_of : Sample → List ℕ
values_of s =
    0 ∷ bit_of s BREQ0 ∷ bit_of s BREQ1 ∷ bit_of s BREQ2 ∷ bit_of s BREQ3 ∷ bit_of s BPRI ∷ bit_of s LOCK
    ∷ bit_of s BNR ∷ bit_of s ADS ∷ s.req.bits ∷ s.addr.bits ∷ bit_of s AERR ∷ bit_of s HIT ∷ bit_of s HITM
    ∷ bit_of s DEFER ∷ response_of s ∷ bit_of s TRDY ∷ bit_of s DBSY ∷ bit_of s DRDY ∷ s.dbus.bits
    ∷ address_parity_of s ∷ bit_of s RP ∷ []

-- what a sample asserts on the entry of this number
unfoldable pub value_of : Sample → ℕ → ℕ
value_of s number = slice_index (values_of s) number

-- the digit of a line: `0` where it is asserted, `1` where it is not
abbrev pub digit_of : ℕ → ℕ
digit_of bit = if bit == 1 then 48 else 49

-- the digits of the lines of a word, from the highest to the lowest
abbrev pub digits_of : ℕ → ℕ → List ℕ
digits_of zero value = []
digits_of (suc width) value = digit_of (bit_at value width) ∷ digits_of width value

-- a line of a value: of a single line its digit and code; of a word `b`, all its digits, a space and the code
unfoldable pub value_text : ℕ → ℕ → List ℕ
value_text number value =
    if width_of number == 1 then digits_of 1 value ++ dump_code_of number ∷ 10 ∷ []
    else codes "b" ++ digits_of (width_of number) value ++ codes " " ++ dump_code_of number ∷ 10 ∷ []

-- the number of the lowest line of an entry; the address begins with A3
abbrev pub lowest_of : ℕ → ℕ
lowest_of number = if number == 10 then 3 else 0

-- the lines of a word as its declaration names them, from the highest to the lowest
unfoldable pub range_text : ℕ → List ℕ
range_text number =
    if width_of number == 1 then []
    else
    codes "[" ++ decimal (lowest_of number + width_of number - 1) ++ codes ":" ++ decimal (lowest_of number)
    ++ codes "] "

-- the line that declares an entry
unfoldable pub declaration_text : ℕ → List ℕ
declaration_text number =
    codes "$var wire " ++ decimal (width_of number) ++ codes " " ++ dump_code_of number ∷ [] ++ codes " "
    ++ name_of number ++ codes " " ++ range_text number ++ codes "$end\n"

-- the value of an entry of a sample
abbrev pub sample_value_text : Sample → ℕ → List ℕ
sample_value_text s number = value_text number (value_of s number)

-- the value of an entry where it differs from that of the sample before, and nothing where it does not
unfoldable pub change_text : Sample → Sample → ℕ → List ℕ
change_text before now number =
    if value_of before number == value_of now number then [] else sample_value_text now number

-- the text up to the end of the first block of values: the declarations, and the first sample with BCLK at 0
unfoldable pub header_text : ℕ → Sample → List ℕ
header_text profile first =
    codes "$version p6bench 1 $end\n$timescale 1 ns $end\n$scope module fsb $end\n"
    ++ texts_from declaration_text 0 (entries_in profile)
    ++ codes "$upscope $end\n$enddefinitions $end\n#0\n$dumpvars\n0!\n"
    ++ texts_from (sample_value_text first) 1 (entries_in profile - 1)
    ++ codes "$end\n"

-- the time of a clock's falling edge, the edge, and the values that differ from those of the clock before
abbrev pub falling_text : ℕ → ℕ → Sample → Sample → List ℕ
falling_text profile clock before now =
    codes "#" ++ decimal (10 * clock) ++ codes "\n0!\n"
    ++ texts_from (change_text before now) 1 (entries_in profile - 1)

-- the text of a clock; clock 0 has its values in the header, so it is its rising edge alone
unfoldable pub clock_text : ℕ → ℕ → Sample → Sample → List ℕ
clock_text profile clock before now =
    (if clock == 0 then [] else falling_text profile clock before now)
    ++ codes "#" ++ decimal (10 * clock + 5) ++ codes "\n1!\n"

-- the texts of the clocks of a list of samples, of which the first is that of clock `clock` and follows `before`
unfoldable pub clocks_text : ℕ → ℕ → Sample → List Sample → List ℕ
clocks_text profile clock before [] = []
clocks_text profile clock before (now ∷ w) =
    clock_text profile clock before now ++ clocks_text profile (clock + 1) now w

-- the whole text of a dump of a list of samples; the text of no samples has the idle sample's values in its header
unfoldable pub dump_text : ℕ → List Sample → List ℕ
dump_text profile [] = header_text profile idle
dump_text profile (first ∷ w) = header_text profile first ++ clocks_text profile 0 first (first ∷ w)
