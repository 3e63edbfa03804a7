-- Texts, written out, and what the definitions say of them, by computation.
use Rattle.std.specs.Prelude.{◌≡◌, ◌++◌, [], ◌∷◌, ◌+◌, length, map, List, ℕ, Option, Some, None, codes}
use Rattle.std.specs.Fmt.{digits}
use Rattle.std.proofs.Common.{refl}
use Rattle.fsb_signal.specs.declared.sample.Sample.{Sample}
use Rattle.fsb_signal.specs.Parity.{marks_in}
use Rattle.fsb_signal.specs.Table.{signal_number}
use Rattle.fsb_signal.specs.DumpText.{dump_text, header_text, texts_from, declaration_text, range_text, value_text}
use Rattle.fsb_signal.specs.DumpText.{value_of}
use Rattle.vcd_grammar.specs.declared.fault.VcdFault.{VcdFault}
use Rattle.vcd_grammar.specs.declared.fault.VcdCause.{VcdCause}
use Rattle.vcd_grammar.specs.declared.fault.VcdCause.TheVariants as causes
use Rattle.vcd_grammar.specs.Tokens.{ended_at, grown_at}
use Rattle.vcd_grammar.specs.Digits.{number_up_to, time_in, extended}
use Rattle.vcd_grammar.specs.Words.{header_word, value_word, is_read_past, is_foreign_type}
use Rattle.vcd_grammar.specs.Levels.{level_of, control_of, bits_without}
use Rattle.vcd_grammar.specs.Values.{sample_at}
use Rattle.vcd_grammar.specs.Judging.{turn, drafted, declared, closed}
use Rattle.vcd_grammar.specs.Reading.{first_fault, samples_of, marks_of}

-- the header of a dump as a simulator writes it
abbrev simulator_header : List ℕ
simulator_header =
    codes "$date today $end\n"
    ++ codes "$version some simulator $end\n"
    ++ codes "$timescale 1ps $end\n"
    ++ codes "$scope module tb $end\n"
    ++ codes "$scope module bus $end\n"
    ++ codes "$var reg 1 a BCLK $end\n"
    ++ codes "$var wire 1 b BREQ0_n $end\n"
    ++ codes "$var wire 1 c ADS_n $end\n"
    ++ codes "$var wire 5 d REQ_n[4:0] $end\n"
    ++ codes "$var wire 33 e A_n [35:3] $end\n"
    ++ codes "$var wire 1 f HIT_n $end\n"
    ++ codes "$var wire 1 g HITM_n $end\n"
    ++ codes "$var wire 3 h RS_n [2:0] $end\n"
    ++ codes "$var wire 1 i TRDY_n $end\n"
    ++ codes "$var wire 1 j DBSY_n $end\n"
    ++ codes "$var wire 1 k DRDY_n $end\n"
    ++ codes "$var wire 64 l D_n [63:0] $end\n"
    ++ codes "$var real 64 m volts $end\n"
    ++ codes "$upscope $end\n"
    ++ codes "$upscope $end\n"
    ++ codes "$enddefinitions $end\n"

-- its first block
abbrev simulator_values : List ℕ
simulator_values =
    codes "#0\n"
    ++ codes "$dumpvars\n"
    ++ codes "0a\n"
    ++ codes "1b\n"
    ++ codes "1c\n"
    ++ codes "bz d\n"
    ++ codes "bz e\n"
    ++ codes "1f\n"
    ++ codes "zg\n"
    ++ codes "b111 h\n"
    ++ codes "1i\n"
    ++ codes "1j\n"
    ++ codes "1k\n"
    ++ codes "bx l\n"
    ++ codes "r1.2 m\n"
    ++ codes "$end\n"

-- its further blocks
abbrev simulator_blocks : List ℕ
simulator_blocks = codes "#500\n1a\n0b\n#1000\n0a\n#1500\n1a\n"

-- the same with an ADS# that is unknown from the falling edge on
abbrev unknown_blocks : List ℕ
unknown_blocks = codes "#500\n1a\n0b\n#1000\nxc\n0a\n#1500\n1a\n"

-- what a text says: the numbers of each sample, and the first fault
abbrev numbers_of : Sample → List ℕ
numbers_of s =
    s.lines.0 ∷ s.unknown.0 ∷ s.req.bits ∷ s.req.unknown ∷ s.addr.bits ∷ s.addr.unknown ∷ s.dbus.bits
    ∷ s.dbus.unknown ∷ []

abbrev bad : ℕ → VcdCause → Option VcdFault
bad place cause = Some (record { place = place; cause = cause })

-- a fault behind the text of a dump of no samples, counted from its end
abbrev bad_behind : ℕ → VcdCause → Option VcdFault
bad_behind place cause = bad (length (dump_text 1 []) + place) cause

-- the simulator's dump has no fault, and two samples: the change of the edge's own time is in the second
pub simulator_dump-fault : first_fault (simulator_header ++ simulator_values ++ simulator_blocks) ≡ None
unfolding digits texts_from dump_text header_text declaration_text range_text value_text value_of first_fault
    samples_of ended_at grown_at number_up_to time_in extended header_word value_word is_read_past
    is_foreign_type level_of control_of bits_without sample_at signal_number turn drafted declared closed
simulator_dump-fault = refl

pub simulator_dump-samples : map numbers_of
    (samples_of (simulator_header ++ simulator_values ++ simulator_blocks))
    ≡ (0 ∷ 0 ∷ 0 ∷ 0 ∷ 0 ∷ 0 ∷ 0 ∷ 18446744073709551615 ∷ [])
    ∷ (1 ∷ 0 ∷ 0 ∷ 0 ∷ 0 ∷ 0 ∷ 0 ∷ 18446744073709551615 ∷ []) ∷ []
unfolding digits texts_from dump_text header_text declaration_text range_text value_text value_of first_fault
    samples_of ended_at grown_at number_up_to time_in extended header_word value_word is_read_past
    is_foreign_type level_of control_of bits_without sample_at signal_number turn drafted declared closed
simulator_dump-samples = refl

-- with ADS# unknown from the falling edge on
pub unknown_line-samples : map numbers_of (samples_of (simulator_header ++ simulator_values ++ unknown_blocks))
    ≡ (0 ∷ 0 ∷ 0 ∷ 0 ∷ 0 ∷ 0 ∷ 0 ∷ 18446744073709551615 ∷ [])
    ∷ (1 ∷ 128 ∷ 0 ∷ 0 ∷ 0 ∷ 0 ∷ 0 ∷ 18446744073709551615 ∷ []) ∷ []
unfolding digits texts_from dump_text header_text declaration_text range_text value_text value_of first_fault
    samples_of ended_at grown_at number_up_to time_in extended header_word value_word is_read_past
    is_foreign_type level_of control_of bits_without sample_at signal_number turn drafted declared closed
unknown_line-samples = refl

pub token_fault : first_fault (dump_text 1 [] ++ codes "2!\n") ≡ bad_behind 0 causes.Token
unfolding digits texts_from dump_text header_text declaration_text range_text value_text value_of first_fault
    samples_of ended_at grown_at number_up_to time_in extended header_word value_word is_read_past
    is_foreign_type level_of control_of bits_without sample_at signal_number turn drafted declared closed
token_fault = refl

pub code_fault : first_fault (dump_text 1 [] ++ codes "0~\n") ≡ bad_behind 0 causes.Code
unfolding digits texts_from dump_text header_text declaration_text range_text value_text value_of first_fault
    samples_of ended_at grown_at number_up_to time_in extended header_word value_word is_read_past
    is_foreign_type level_of control_of bits_without sample_at signal_number turn drafted declared closed
code_fault = refl

pub width_fault : first_fault (dump_text 1 [] ++ codes "b01 !\n") ≡ bad_behind 0 causes.Width
unfolding digits texts_from dump_text header_text declaration_text range_text value_text value_of first_fault
    samples_of ended_at grown_at number_up_to time_in extended header_word value_word is_read_past
    is_foreign_type level_of control_of bits_without sample_at signal_number turn drafted declared closed
width_fault = refl

pub digit_fault : first_fault (dump_text 1 [] ++ codes "b1z2 0\n") ≡ bad_behind 0 causes.Token
unfolding digits texts_from dump_text header_text declaration_text range_text value_text value_of first_fault
    samples_of ended_at grown_at number_up_to time_in extended header_word value_word is_read_past
    is_foreign_type level_of control_of bits_without sample_at signal_number turn drafted declared closed
digit_fault = refl

pub time_fault : first_fault (dump_text 1 [] ++ codes "#5\n#4\n") ≡ bad_behind 3 causes.TimeBack
unfolding digits texts_from dump_text header_text declaration_text range_text value_text value_of first_fault
    samples_of ended_at grown_at number_up_to time_in extended header_word value_word is_read_past
    is_foreign_type level_of control_of bits_without sample_at signal_number turn drafted declared closed
time_fault = refl

pub number_fault : first_fault (dump_text 1 [] ++ codes "#99999999999999999999\n") ≡ bad_behind 0 causes.Token
unfolding digits texts_from dump_text header_text declaration_text range_text value_text value_of first_fault
    samples_of ended_at grown_at number_up_to time_in extended header_word value_word is_read_past
    is_foreign_type level_of control_of bits_without sample_at signal_number turn drafted declared closed
number_fault = refl

pub cut_fault : first_fault (dump_text 1 [] ++ codes "b1") ≡ bad_behind 2 causes.Cut
unfolding digits texts_from dump_text header_text declaration_text range_text value_text value_of first_fault
    samples_of ended_at grown_at number_up_to time_in extended header_word value_word is_read_past
    is_foreign_type level_of control_of bits_without sample_at signal_number turn drafted declared closed
cut_fault = refl

pub cut_variable : first_fault (codes "$var wire 1") ≡ bad 11 causes.Cut
unfolding digits texts_from dump_text header_text declaration_text range_text value_text value_of first_fault
    samples_of ended_at grown_at number_up_to time_in extended header_word value_word is_read_past
    is_foreign_type level_of control_of bits_without sample_at signal_number turn drafted declared closed
cut_variable = refl

pub missing_clock : first_fault (codes "$enddefinitions $end") ≡ bad 0 (causes.Missing 0)
unfolding digits texts_from dump_text header_text declaration_text range_text value_text value_of first_fault
    samples_of ended_at grown_at number_up_to time_in extended header_word value_word is_read_past
    is_foreign_type level_of control_of bits_without sample_at signal_number turn drafted declared closed
missing_clock = refl

pub no_samples-fault : first_fault (dump_text 1 []) ≡ None
unfolding digits texts_from dump_text header_text declaration_text range_text value_text value_of first_fault
    samples_of ended_at grown_at number_up_to time_in extended header_word value_word is_read_past
    is_foreign_type level_of control_of bits_without sample_at signal_number turn drafted declared closed
no_samples-fault = refl

pub no_samples-samples : samples_of (dump_text 1 []) ≡ []
unfolding digits texts_from dump_text header_text declaration_text range_text value_text value_of first_fault
    samples_of ended_at grown_at number_up_to time_in extended header_word value_word is_read_past
    is_foreign_type level_of control_of bits_without sample_at signal_number turn drafted declared closed
no_samples-samples = refl

-- the same of a dump that is written in profile 2, which has both marks
pub parity_dump-fault : first_fault (dump_text 2 []) ≡ None
unfolding digits texts_from dump_text header_text declaration_text range_text value_text value_of first_fault
    samples_of ended_at grown_at number_up_to time_in extended header_word value_word is_read_past
    is_foreign_type level_of control_of bits_without sample_at signal_number turn drafted declared closed
parity_dump-fault = refl

pub parity_dump-marks : (marks_of (dump_text 1 []) ≡ marks_in 1) × (marks_of (dump_text 2 []) ≡ marks_in 2)
unfolding digits texts_from dump_text header_text declaration_text range_text value_text value_of marks_of
    ended_at grown_at number_up_to time_in extended header_word value_word is_read_past is_foreign_type level_of
    control_of bits_without sample_at signal_number turn drafted declared closed
parity_dump-marks = (refl, refl)
