-- Small dumps of other kinds, with what they tell, worked out by hand: what the definitions make of them is that.
use Rattle.std.specs.Prelude.{◌≡◌, ℕ, ◌+◌, ◌-◌, ◌++◌, [], ◌∷◌, length, map, List, true, false, if◌then◌else◌, Option, Some}
use Rattle.std.specs.Prelude.{None, codes, option_map, replicate, ℤ, pos, neg_ℤ}
use Rattle.std.proofs.Common.{refl}
use Rattle.vcd_grammar.specs.declared.fault.VcdFault.{VcdFault}
use Rattle.vcd_grammar.specs.declared.fault.VcdCause.TheVariants as causes
use Rattle.vcd_grammar.specs.Tokens.{ended_at, grown_at, tokens_of}
use Rattle.vcd_grammar.specs.Digits.{number_up_to, time_in, extended}
use Rattle.vcd_grammar.specs.Words.{same, header_word, is_read_past, name_in}
use Rattle.vcd_grammar.specs.Levels.{level_of, control_of, bits_without}
use Rattle.vcd_grammar.specs.Values.{sample_at}
use Rattle.vcd_way.specs.Declarations.{Declaration, NoRange, Ranges, Unreadable, RangedName}
use Rattle.vcd_way.specs.Declarations.{declaration_of, ranged_name, timescale_in}
use Rattle.vcd_way.specs.declared.tap.BitRun.{BitRun}
use Rattle.vcd_way.specs.declared.tap.Part.TheVariants as pieces
use Rattle.vcd_way.specs.declared.tap.Tap.{Tap}
use Rattle.vcd_way.specs.declared.tap.Edge.TheVariants as sides
use Rattle.vcd_way.specs.Ways.{Keeps, ValueRules, Way}
use Rattle.vcd_way.specs.Pieces.{time_at, line_number}
use Rattle.vcd_way.specs.Events.{DumpEvent, Sampled, Hole, Resumed, with_part}
use Rattle.vcd_way.specs.Steps.{value_word_by, step}
use Rattle.vcd_way.specs.Answers.{EarlyEnd, state_of, first_fault_by, early_end_by, events_so_far_by, events_by, header_by}
use Rattle.vcd_way.specs.Wide.{wide_digit, wide_rules}

-- a way for these rows: `clk` is the clock; `ads` is ADS_n, active high; `addr` has 36 bits, active high, of which all but
-- the lowest three are A_n
abbrev taps_for : Declaration → List Tap
taps_for d =
    if same (codes "clk") (name_in d.reference) then
    record { line = 0; width = d.width; part = pieces.Whole; inverted = false } ∷ []
    else (if same (codes "ads") (name_in d.reference) then
    record { line = 8; width = d.width; part = pieces.Whole; inverted = true } ∷ []
    else (if same (codes "addr") (name_in d.reference) then
    record {
      line = 10;
      width = d.width;
      part = pieces.Bits (record { count = 33; low = 3; lowest = 0; is_turned = false });
      inverted = true;
    } ∷ []
    else []))

-- what stands for a code
abbrev taps_in : List Declaration → List ℕ → Option (List Tap)
taps_in [] code = None
taps_in (d ∷ ds) code = if same code d.code then Some (taps_for d) else taps_in ds code

abbrev row_way : ValueRules → Way (List Declaration)
row_way rules = record {
  start = [];
  declares = λ ds d. Keeps (ds ++ d ∷ []) [];
  closes = λ ds. Keeps ds (0 ∷ 8 ∷ 10 ∷ []);
  lines = λ ds. 0 ∷ 8 ∷ 10 ∷ [];
  taps = taps_in;
  rules = rules;
}

abbrev wide : Way (List Declaration)
wide = row_way wide_rules

-- the time of an event, of the end of a hole a 1, and of a sample the control lines, the address, and of each what is unknown
abbrev numbers_of : DumpEvent → List ℕ
numbers_of (Sampled s stamp) = time_at stamp ∷ s.lines.0 ∷ s.unknown.0 ∷ s.addr.bits ∷ s.addr.unknown ∷ []
numbers_of (Hole stamp) = time_at stamp ∷ []
numbers_of (Resumed stamp) = time_at stamp ∷ 1 ∷ []

abbrev header : List ℕ
header =
    codes "VCD info: opened\n$timescale 1 ns $end\n$scope module tb $end\n$scope module bus $end\n"
    ++ codes "$var wire 1 ! clk $end\n$var wire 1 a ads $end\n$var wire 36 A addr [35:0] $end\n$upscope $end\n"
    ++ codes "$var wire 8 m state[7:0] $end\n$upscope $end\n$enddefinitions $end\n"

-- digits of VHDL, a variable that is no line, a hole, and a file that ends early
abbrev text : List ℕ
text = header
    ++ codes "#0 0! ua b101000 A bq m\n#5 1!\n#7 ha\n#10 0!\n#15 1!\n$dumpoff x! xa bx A $end\n"
    ++ codes "#30 $dumpon 0! 1a b- A $end #35 1!\n#40 0! b10"

pub told : map numbers_of (events_by wide text)
    ≡ (5 ∷ 0 ∷ 128 ∷ 5 ∷ 0 ∷ [])
    ∷ (15 ∷ 128 ∷ 0 ∷ 5 ∷ 0 ∷ [])
    ∷ (15 ∷ [])
    ∷ (30 ∷ 1 ∷ [])
    ∷ (35 ∷ 128 ∷ 0 ∷ 0 ∷ 8589934591 ∷ []) ∷ []
unfolding first_fault_by events_by events_so_far_by ended_at grown_at number_up_to time_in extended header_word
    value_word_by is_read_past level_of control_of bits_without sample_at step declaration_of wide_digit
told = refl

pub told-fault : first_fault_by wide text ≡ None
unfolding first_fault_by ended_at grown_at number_up_to time_in extended header_word value_word_by is_read_past step
    declaration_of wide_digit
told-fault = refl

pub told-early : early_end_by wide text
    ≡ Some (record { fault = record { place = length text; cause = causes.Cut }; open_from = Some (length text - 3) })
unfolding early_end_by ended_at grown_at number_up_to time_in extended header_word value_word_by is_read_past step
    declaration_of wide_digit
told-early = refl

-- the scopes, the ranges, and the unit of time
pub scopes : map (λ (d : Declaration). d.path) (header_by wide text)
    ≡ (codes "tb" ∷ codes "bus" ∷ []) ∷ (codes "tb" ∷ codes "bus" ∷ []) ∷ (codes "tb" ∷ codes "bus" ∷ [])
    ∷ (codes "tb" ∷ []) ∷ []
unfolding header_by ended_at grown_at number_up_to time_in extended header_word value_word_by is_read_past step
    declaration_of wide_digit
scopes = refl

-- a name without a range; and with the range of these ends
abbrev plain : List ℕ → RangedName
plain name = record { name = name; range = NoRange }

abbrev from_to : List ℕ → ℤ → ℤ → RangedName
from_to name first last = record { name = name; range = Ranges (record { first = first; last = last }) }

pub ranges : map ranged_name (header_by wide text)
    ≡ plain (codes "clk") ∷ plain (codes "ads") ∷ from_to (codes "addr") (pos 35) (pos 0)
    ∷ from_to (codes "state") (pos 7) (pos 0) ∷ []
unfolding ranged_name header_by ended_at grown_at number_up_to time_in extended header_word value_word_by is_read_past step
    declaration_of wide_digit
ranges = refl

-- a variable of this reference, with these words after it
abbrev referred : List ℕ → List (List ℕ) → Declaration
referred reference after = record {
  place = 0;
  kind = codes "wire";
  width = 1;
  code = codes "!";
  reference = reference;
  after = after;
  path = [];
}

-- as Icarus, GHDL and Yosys write them
pub names : map ranged_name
    (referred (92 ∷ codes "gen[0].ADS_n") []
    ∷ referred (92 ∷ codes "A_n[1]") (codes "[32:0]" ∷ [])
    ∷ referred (92 ∷ codes "D_n[3]" ++ 92 ∷ []) []
    ∷ referred (92 ∷ codes "ADS_n" ++ 92 ∷ []) []
    ∷ referred (codes "neg") (codes "[-1:-4]" ∷ [])
    ∷ referred (codes "a_n[6:3]") []
    ∷ referred (codes "A_n[3][0:0]") []
    ∷ referred (codes "A_n") (codes "[34" ∷ codes ":" ∷ codes "-1]" ∷ [])
    ∷ referred (codes "A_n") (codes "[W:0]" ∷ [])
    ∷ referred (codes "A_n[W:0]") []
    ∷ referred (codes "clk") (codes "wire" ∷ []) ∷ [])
    ≡ plain (92 ∷ codes "gen[0].ADS_n")
    ∷ from_to (92 ∷ codes "A_n[1]") (pos 32) (pos 0)
    ∷ from_to (92 ∷ codes "D_n") (pos 3) (pos 3)
    ∷ plain (92 ∷ codes "ADS_n")
    ∷ from_to (codes "neg") (neg_ℤ (pos 1)) (neg_ℤ (pos 4))
    ∷ from_to (codes "a_n") (pos 6) (pos 3)
    ∷ from_to (codes "A_n[3]") (pos 0) (pos 0)
    ∷ from_to (codes "A_n") (pos 34) (neg_ℤ (pos 1))
    ∷ record { name = codes "A_n"; range = Unreadable }
    ∷ plain (codes "A_n[W:0]")
    ∷ plain (codes "clk") ∷ []
unfolding ranged_name
names = refl

pub unit : timescale_in (state_of wide (tokens_of header)).remarks ≡ Some (codes "1ns")
unfolding ended_at grown_at number_up_to time_in extended header_word value_word_by is_read_past step declaration_of
    wide_digit
unit = refl

-- the line of the file in which a place stands
pub place : map (line_number (codes "a\nb\n")) (0 ∷ 1 ∷ 2 ∷ 4 ∷ []) ≡ 1 ∷ 1 ∷ 2 ∷ 3 ∷ []
place = refl

-- a hole whose values the dump leaves out
pub hole : map numbers_of
    (events_by wide (header ++ codes "#0 0! 0a b0 A\n#5 1!\n$dumpoff $end\n#20 1!\n#25 0!\n#30 1!\n"))
    ≡ (5 ∷ 0 ∷ 0 ∷ 0 ∷ 0 ∷ []) ∷ (5 ∷ []) ∷ (30 ∷ 0 ∷ 128 ∷ 0 ∷ 8589934591 ∷ []) ∷ []
unfolding first_fault_by events_by events_so_far_by ended_at grown_at number_up_to time_in extended header_word
    value_word_by is_read_past level_of control_of bits_without sample_at step declaration_of wide_digit
hole = refl

-- changes of the hole's own time that stand behind it: the clock does not rise out of it
pub resumed : map numbers_of
    (events_by wide
    (header ++ codes "#0 0! 0a b0 A\n#5 1!\n#20 $dumpoff x! xa $end 0!\n#35 $dumpon 1! 1a $end\n#40 0!\n#45 1!\n"))
    ≡ (5 ∷ 0 ∷ 0 ∷ 0 ∷ 0 ∷ []) ∷ (20 ∷ []) ∷ (35 ∷ 1 ∷ []) ∷ (45 ∷ 128 ∷ 0 ∷ 0 ∷ 8589934591 ∷ []) ∷ []
unfolding first_fault_by events_by events_so_far_by ended_at grown_at number_up_to time_in extended header_word
    value_word_by is_read_past level_of control_of bits_without sample_at step declaration_of wide_digit
resumed = refl

-- the block that stands open at an early end does not count
pub early : events_by wide (header ++ codes "#0 0! 0a b0 A\n#5 1! b10") ≡ []
unfolding first_fault_by events_by events_so_far_by ended_at grown_at number_up_to time_in extended header_word
    value_word_by is_read_past level_of control_of bits_without sample_at step declaration_of wide_digit
early = refl

-- a text that ends in a section: the same, but where the section holds a stamp it is cut
abbrev open_section : List ℕ → List ℕ
open_section words = header ++ codes "#0 0! 0a b0 A\n#5 1!\n#10 0!\n$comment " ++ words

pub unended : events_by wide (open_section (codes "all well\n"))
    ≡ events_by wide (header ++ codes "#0 0! 0a b0 A\n#5 1!\n#10 0!\n")
unfolding first_fault_by events_by events_so_far_by ended_at grown_at number_up_to time_in extended header_word
    value_word_by is_read_past level_of control_of bits_without sample_at step declaration_of wide_digit
unended = refl

pub unended-from : option_map (λ (e : EarlyEnd). e.open_from) (early_end_by wide (open_section (codes "all well\n")))
    ≡ Some (Some (length header + 27))
unfolding early_end_by ended_at grown_at number_up_to time_in extended header_word value_word_by is_read_past step
    declaration_of wide_digit
unended-from = refl

pub swallowed : first_fault_by wide (open_section (codes "all well\n#15 1!\n"))
    ≡ Some (record { place = length header + 52; cause = causes.Cut })
unfolding first_fault_by ended_at grown_at number_up_to time_in extended header_word value_word_by is_read_past step
    declaration_of wide_digit
swallowed = refl

-- ---- faults

-- behind the header at time 0
abbrev fault_of : List ℕ → Option VcdFault
fault_of more = first_fault_by wide (header ++ more)

abbrev texts : List (List ℕ)
texts = codes "#0 qa\n" ∷ codes "#0 qm\n" ∷ codes "#0 bq A\n" ∷ codes "#0 b1111111111111111111111111111111111111 A\n"
    ∷ codes "#0 1?\n" ∷ codes "#5 #4\n" ∷ codes "#5 #4" ∷ codes "#0 b m\n" ∷ codes "#0 b A\n" ∷ []

pub faults : map fault_of texts
    ≡ Some (record { place = length header + 3; cause = causes.Token }) ∷ None
    ∷ Some (record { place = length header + 3; cause = causes.Token })
    ∷ Some (record { place = length header + 3; cause = causes.Width })
    ∷ Some (record { place = length header + 3; cause = causes.Code })
    ∷ Some (record { place = length header + 3; cause = causes.TimeBack }) ∷ None ∷ None
    ∷ Some (record { place = length header + 3; cause = causes.Token }) ∷ []
unfolding first_fault_by ended_at grown_at number_up_to time_in extended header_word value_word_by is_read_past step
    declaration_of wide_digit
faults = refl

-- a variable of two million bits, and one of none
pub any_width : first_fault_by wide
    (codes "$var reg 2000000 w big $end\n$var wire 0 n no $end\n$enddefinitions $end\n#0 bx w\nb n\n0n\n") ≡ None
unfolding first_fault_by ended_at grown_at number_up_to time_in extended header_word value_word_by is_read_past step
    declaration_of wide_digit
any_width = refl

-- a value that is too long for a token: of no line it is read past, of a line too wide
abbrev behind_long : List ℕ → Option VcdFault
behind_long code =
    let long = step wide (state_of wide (tokens_of header)) (record { place = 300; word = 98 ∷ replicate 70000 48 }) in
    (step wide long.state (record { place = 70301; word = code })).state.fault

pub long : map behind_long (codes "m" ∷ codes "A" ∷ [])
    ≡ None ∷ Some (record { place = 300; cause = causes.Width }) ∷ []
unfolding ended_at grown_at number_up_to time_in extended header_word value_word_by is_read_past step declaration_of
    wide_digit
long = refl

-- ---- edges

-- a clock that is high at first, and ADS# that comes with its second edge
abbrev clocked : List ℕ
clocked = header ++ codes "#0 1! 0a b0 A\n#5 0!\n#10 1! 1a\n#15 0!\n"

-- by default; with its first edge; with ADS# behind the edge; and by the falling edge
abbrev rulings : List ValueRules
rulings = wide_rules ∷ record wide_rules { takes_first = true } ∷ record wide_rules { late = 8 ∷ [] }
    ∷ record wide_rules { edge = sides.Falling } ∷ []

pub edges : map (λ m. map numbers_of (events_by (row_way m) clocked)) rulings
    ≡ ((10 ∷ 0 ∷ 0 ∷ 0 ∷ 0 ∷ []) ∷ [])
    ∷ ((0 ∷ 0 ∷ 0 ∷ 0 ∷ 0 ∷ []) ∷ (10 ∷ 0 ∷ 0 ∷ 0 ∷ 0 ∷ []) ∷ [])
    ∷ ((10 ∷ 128 ∷ 0 ∷ 0 ∷ 0 ∷ []) ∷ [])
    ∷ ((5 ∷ 0 ∷ 0 ∷ 0 ∷ 0 ∷ []) ∷ (15 ∷ 128 ∷ 0 ∷ 0 ∷ 0 ∷ []) ∷ []) ∷ []
unfolding first_fault_by events_by events_so_far_by ended_at grown_at number_up_to time_in extended header_word
    value_word_by is_read_past level_of control_of bits_without sample_at step declaration_of wide_digit
edges = refl

-- with the first edge: a clock that is x before it, of ADS# and the address the one known before and the other not; and a
-- dump without a stamp before its first block, which is at time 0
pub first_edges : map (λ more. map numbers_of (events_by (row_way (record wide_rules { takes_first = true })) (header ++ more)))
    (codes "#0 x! 0a\n#5 1! 1a b1000 A\n#10 0!\n#15 1!\n" ∷ codes "1! 0a b0 A\n#5 0!\n#10 1! 1a\n" ∷ [])
    ≡ ((5 ∷ 0 ∷ 0 ∷ 1 ∷ 0 ∷ []) ∷ (15 ∷ 128 ∷ 0 ∷ 1 ∷ 0 ∷ []) ∷ [])
    ∷ ((0 ∷ 0 ∷ 0 ∷ 0 ∷ 0 ∷ []) ∷ (10 ∷ 0 ∷ 0 ∷ 0 ∷ 0 ∷ []) ∷ []) ∷ []
unfolding first_fault_by events_by events_so_far_by ended_at grown_at number_up_to time_in extended header_word
    value_word_by is_read_past level_of control_of bits_without sample_at step declaration_of wide_digit
first_edges = refl

-- ---- parts of a line

-- bits 1 and 2 of a variable for bits 0 and 1 of a line; turned round; and for its bits 1 and 2
abbrev parts : List BitRun
parts = record { count = 2; low = 1; lowest = 0; is_turned = false }
    ∷ record { count = 2; low = 1; lowest = 0; is_turned = true }
    ∷ record { count = 2; low = 1; lowest = 1; is_turned = false } ∷ []

pub put : map (λ run. with_part (pieces.Bits run) (codes "abcd") (codes "wxyz")) parts
    ≡ codes "wxbc" ∷ codes "wxcb" ∷ codes "wbcz" ∷ []
put = refl
