-- Small texts with what they say, worked out by hand from docs/reference/dump-format.md: what the definitions make of them, by
-- computation, is that. Each row tells a clause of a definition from a near miss of it.
use Rattle.std.specs.Prelude.{◌≡◌, ◌+◌, ◌++◌, [], ◌∷◌, length, map, replicate, List, ℕ, Bool, true, false, Option, Some}
use Rattle.std.specs.Prelude.{None, codes}
use Rattle.std.proofs.Common.{refl}
use Rattle.fsb_signal.specs.declared.marks.Marks.{Marks}
use Rattle.fsb_signal.specs.declared.sample.Sample.{Sample}
use Rattle.fsb_signal.specs.Table.{signal_number}
use Rattle.vcd_grammar.specs.declared.fault.VcdFault.{VcdFault}
use Rattle.vcd_grammar.specs.declared.fault.VcdCause.{VcdCause}
use Rattle.vcd_grammar.specs.declared.fault.VcdCause.TheVariants as causes
use Rattle.vcd_grammar.specs.Tokens.{Token, is_long, ended_at, grown_at, run_behind}
use Rattle.vcd_grammar.specs.Digits.{number_up_to, time_in, extended}
use Rattle.vcd_grammar.specs.Words.{header_word, value_word, is_read_past, is_foreign_type}
use Rattle.vcd_grammar.specs.Levels.{level_of, control_of, bits_without}
use Rattle.vcd_grammar.specs.Values.{sample_at}
use Rattle.vcd_grammar.specs.Judging.{Mode, Header, Variable, Skipped, Closing, Values, Pending, Beside, Passed}
use Rattle.vcd_grammar.specs.Judging.{nothing, draft_at, turn_in, turn, drafted, declared, closed}
use Rattle.vcd_grammar.specs.Reading.{first_fault, samples_of, samples_before_end, samples_so_far, fault_so_far}
use Rattle.vcd_grammar.specs.Reading.{marks_of, marks_so_far}

-- a text, and the place and the cause of its first fault
pub record Bad : Type 0 where
  pub text : List ℕ
  pub place : ℕ
  pub cause : VcdCause

abbrev pub bad : List ℕ → ℕ → VcdCause → Bad
bad text place cause = record { text = text; place = place; cause = cause }

-- the fault of a row behind some text
abbrev pub fault_behind : List ℕ → Bad → Option VcdFault
fault_behind start row = Some (record { place = length start + row.place; cause = row.cause })

-- what the numbers of samples are: the control lines, the request word, the address and the data, each with what is
-- asserted and what is unknown
abbrev pub Numbers : Type 0
Numbers = List ℕ

abbrev pub numbers_of : Sample → Numbers
numbers_of s =
    s.lines.0 ∷ s.unknown.0 ∷ s.req.bits ∷ s.req.unknown ∷ s.addr.bits ∷ s.addr.unknown ∷ s.dbus.bits
    ∷ s.dbus.unknown ∷ []

-- a text that is read, and its samples
pub record Good : Type 0 where
  pub text : List ℕ
  pub samples : List Numbers

abbrev pub good : List ℕ → List Numbers → Good
good text samples = record { text = text; samples = samples }

-- nothing is asserted or unknown
abbrev pub idle : Numbers
idle = 0 ∷ 0 ∷ 0 ∷ 0 ∷ 0 ∷ 0 ∷ 0 ∷ 0 ∷ []

-- these control lines are asserted
abbrev pub asserts : ℕ → Numbers
asserts lines = lines ∷ 0 ∷ 0 ∷ 0 ∷ 0 ∷ 0 ∷ 0 ∷ 0 ∷ []

-- these control lines are unknown
abbrev pub unknown : ℕ → Numbers
unknown lines = 0 ∷ lines ∷ 0 ∷ 0 ∷ 0 ∷ 0 ∷ 0 ∷ 0 ∷ []

-- of the request word these bits are asserted, and these unknown
abbrev pub req : ℕ → ℕ → Numbers
req bits unknown = 0 ∷ 0 ∷ bits ∷ unknown ∷ 0 ∷ 0 ∷ 0 ∷ 0 ∷ []

-- the needed lines are unknown, and these other lines are asserted and unknown
abbrev pub unset : ℕ → ℕ → Numbers
unset lines unknown =
    lines ∷ (259713 + unknown) ∷ 0 ∷ 31 ∷ 0 ∷ 8589934591 ∷ 0 ∷ 18446744073709551615 ∷ []

-- the declarations of the needed lines
abbrev pub lines : List ℕ
lines =
    codes "$var wire 1 a BCLK $end $var wire 1 b BREQ0_n $end $var wire 1 c ADS_n $end "
    ++ codes "$var wire 5 d REQ_n $end $var wire 33 e A_n $end $var wire 1 f HIT_n $end $var wire 1 g HITM_n $end "
    ++ codes "$var wire 3 h RS_n $end $var wire 1 i TRDY_n $end $var wire 1 j DBSY_n $end $var wire 1 k DRDY_n $end "
    ++ codes "$var wire 64 l D_n $end "

-- the same, and their end
abbrev pub begun : List ℕ
begun = lines ++ codes "$enddefinitions $end "

-- the same, and at time 0 the clock is low and no other needed line is asserted
abbrev pub quiet : List ℕ
quiet = begun ++ codes "#0 0a 1b 1c bz d bz e 1f 1g bz h 1i 1j 1k bz l "

-- ---- faults of the declarations

abbrev pub declaring : List Bad
declaring =
    bad (codes "") 0 causes.Cut
    ∷ bad (codes "hello") 0 causes.Header
    ∷ bad (8 ∷ codes "$end") 0 causes.Header
    ∷ bad (14 ∷ codes "$end") 0 causes.Header
    ∷ bad (codes "$end $end x") 10 causes.Header
    ∷ bad (codes "#0") 0 causes.Header
    ∷ bad (codes "$comment a") 10 causes.Cut
    ∷ bad (codes "$dumpvars $enddefinitions $end") 30 causes.Cut
    ∷ bad (codes "$enddefinitions foo") 19 causes.Cut
    ∷ bad (codes "$var wire 1 ! LOCK_n $END") 25 causes.Cut
    ∷ bad (codes "$var wire 1 ! $end") 0 causes.Header
    ∷ bad (codes "$date $end $var wire 1 ! $end") 11 causes.Header
    ∷ bad (codes "$var wire x ! other $end") 0 causes.Header
    ∷ bad (codes "$var wire 1: ! other $end") 0 causes.Header
    ∷ bad (codes "$var wire / ! other $end") 0 causes.Header
    ∷ bad (codes "$var wire 1000001 ! other $end") 0 causes.Header
    ∷ bad (codes "$var wire 1 " ++ 127 ∷ codes " other $end") 0 causes.Header
    ∷ bad (codes "$var wire 1 m" ++ 1 ∷ codes " other $end") 0 causes.Header
    ∷ bad (codes "$var wire 2 " ++ 127 ∷ codes " LOCK_n $end") 0 causes.Header
    ∷ bad (codes "$var wire x ! LOCK_n $end") 0 causes.Header
    ∷ bad (codes "$var wire 2 ! LOCK_n $end") 0 causes.Width
    ∷ bad (codes "$end $var wire 2 ! LOCK_n[1:0] $end hello") 5 causes.Width
    ∷ bad (codes "$var wire 5 ! LOCK_n $end $var wire 1 ! LOCK_n $end") 0 causes.Width
    ∷ []

pub declaring-faults : map (λ (row : Bad). first_fault (lines ++ row.text)) declaring
    ≡ map (fault_behind lines) declaring
unfolding first_fault ended_at grown_at number_up_to time_in extended header_word value_word is_read_past
    is_foreign_type signal_number turn drafted declared closed
declaring-faults = refl

-- ---- needed lines that are not declared

abbrev pub missing : List Bad
missing =
    bad (codes "  $enddefinitions x $end") 2 (causes.Missing 0)
    ∷ bad (codes "$var wire 1 ! BCLK $end $enddefinitions $end") 24 (causes.Missing 1)
    ∷ bad (codes "$var wire 1 ! BCLK $end $var wire 1 ! BREQ0_n $end $enddefinitions $end") 51 (causes.Missing 8)
    ∷ bad (codes "$var wire 1 ! [BCLK] $end $enddefinitions $end") 26 (causes.Missing 0)
    ∷ bad (codes "$var real 1 ! BCLK $end $enddefinitions $end") 24 (causes.Missing 0)
    ∷ bad (codes "$var realtime 1 ! BCLK $end $enddefinitions $end") 28 (causes.Missing 0)
    ∷ bad (codes "$var string 1 ! BCLK $end $enddefinitions $end") 26 (causes.Missing 0)
    ∷ bad (codes "$comment $var wire 1 ! BCLK $end $enddefinitions $end") 33 (causes.Missing 0)
    ∷ []

pub missing-faults : map (λ (row : Bad). first_fault row.text) missing ≡ map (fault_behind []) missing
unfolding first_fault ended_at grown_at number_up_to time_in extended header_word value_word is_read_past
    is_foreign_type signal_number turn drafted declared closed
missing-faults = refl

-- ---- faults of the values

abbrev pub changing : List Bad
changing =
    bad (codes "hello") 0 causes.Token
    ∷ bad (codes "0a 2a #1") 3 causes.Token
    ∷ bad (codes "0") 0 causes.Token
    ∷ bad (codes "Z a") 0 causes.Token
    ∷ bad (codes "0~") 0 causes.Code
    ∷ bad (codes "0a 0~ 2a") 3 causes.Code
    ∷ bad (codes "b1 ~") 3 causes.Code
    ∷ bad (codes "b01 ~") 4 causes.Code
    ∷ bad (codes "b1 $end") 3 causes.Code
    ∷ bad (codes "r1 ~") 3 causes.Code
    ∷ bad (codes "R1 ~") 3 causes.Code
    ∷ bad (codes "s1 ~") 3 causes.Code
    ∷ bad (codes "S1 ~") 3 causes.Code
    ∷ bad (codes "b a") 0 causes.Token
    ∷ bad (codes "b012 ~") 0 causes.Token
    ∷ bad (codes "B2 a") 0 causes.Token
    ∷ bad (codes "b1 ") 3 causes.Cut
    ∷ bad (codes "r1 ") 3 causes.Cut
    ∷ bad (codes "b01 a") 0 causes.Width
    ∷ bad (codes "b000000 d") 0 causes.Width
    ∷ bad (98 ∷ replicate 65 48 ++ codes " l") 0 causes.Width
    ∷ bad (98 ∷ replicate 70 48 ++ codes " l") 0 causes.Width
    ∷ bad (98 ∷ replicate 65 48 ++ codes "2 ~") 0 causes.Token
    ∷ bad (codes "#") 0 causes.Token
    ∷ bad (codes "#1a") 0 causes.Token
    ∷ bad (codes "#:") 0 causes.Token
    ∷ bad (codes "#/") 0 causes.Token
    ∷ bad (codes "#18446744073709551616") 0 causes.Token
    ∷ bad (codes "#000000000000000000005") 0 causes.Token
    ∷ bad (codes "#5 #5 #4") 6 causes.TimeBack
    ∷ bad (codes "#10 #9") 4 causes.TimeBack
    ∷ bad (codes "#18446744073709551615 #0") 22 causes.TimeBack
    ∷ bad (codes "#5 #4 2a") 3 causes.TimeBack
    ∷ bad (codes "$comment a") 10 causes.Cut
    ∷ bad (codes "$dumpports 0a") 13 causes.Cut
    ∷ bad (codes "$comment $end 2a") 14 causes.Token
    ∷ bad (codes "0~ $comment") 0 causes.Code
    ∷ []

pub changing-faults : map (λ (row : Bad). first_fault (begun ++ row.text)) changing ≡ map (fault_behind begun) changing
unfolding first_fault ended_at grown_at number_up_to time_in extended header_word value_word is_read_past
    is_foreign_type signal_number turn drafted declared closed
changing-faults = refl

-- a code of two lines: the value is too wide for one of them
pub shared-fault : first_fault (lines ++ codes "$var wire 1 d LOCK_n $end $enddefinitions $end b11 d")
    ≡ Some (record { place = length lines + 47; cause = causes.Width })
unfolding first_fault ended_at grown_at number_up_to time_in extended header_word value_word is_read_past
    is_foreign_type signal_number turn drafted declared closed
shared-fault = refl

-- ---- texts that are read: declarations

abbrev pub declares : List Good
declares =
    good (codes "$enddefinitions what # $var 2! $end") []
    ∷ good (codes "$end $end $enddefinitions $end") []
    ∷ good (codes "$comment $var wire 9 a BCLK $end $ x $end $enddefinitions $end") []
    ∷ good (codes "$var wire 0 ! other $end $var wire 1000000 ~ other $end $enddefinitions $end b10101 ! 0! x~") []
    ∷ good (codes "$enddefinitions $end 0a #5 1a") (unset 0 0 ∷ [])
    ∷ good (codes "$var wire 1 m LOCK_n $end $enddefinitions $end 0a #5 1a") (unset 0 32 ∷ [])
    ∷ good (codes "$var wire 1 m LOCK_n $end $enddefinitions $end 0a 0m #5 1a") (unset 32 0 ∷ [])
    ∷ good (codes "$var" ++ 9 ∷ codes "wire" ++ 10 ∷ codes "1" ++ 13 ∷ codes "m" ++ 11 ∷ codes "LOCK_n"
    ++ 12 ∷ codes "$end $enddefinitions $end 0a 0m #5 1a") (unset 32 0 ∷ [])
    ∷ good (codes "$var reg 001 m LOCK_n [0:0] more $comment $end $enddefinitions $end 0a 0m #5 1a") (unset 32 0 ∷ [])
    ∷ good (codes "$var wire 1 m LOCK_n[0] $end $enddefinitions $end 0a 0m #5 1a") (unset 32 0 ∷ [])
    ∷ good (codes "$var real 64 m LOCK_n $end $enddefinitions $end 0a 0m #5 1a") (unset 0 0 ∷ [])
    ∷ good (codes "$var real 64 m LOCK_n $end $var wire 1 n LOCK_n $end $enddefinitions $end 0a 1m 0n #5 1a")
    (unset 32 0 ∷ [])
    ∷ good (codes "$var wire 1 m LOCK_n $end $var wire 1 n LOCK_n $end $enddefinitions $end 0a 0m 1n #5 1a")
    (unset 32 0 ∷ [])
    ∷ good (codes
    "$var wire 1 m LOCK_n $end $var wire 7 n LOCK_n $end $enddefinitions $end 0a 0m b1111111 n #5 1a")
    (unset 32 0 ∷ [])
    ∷ good (codes
    "$var wire 1 m LOCK_n $end $var wire 1 m BNR_n $end $var wire 9 m other $end $enddefinitions $end 0a 0m #5 1a")
    (unset 96 0 ∷ [])
    ∷ good (codes "$var wire 1 m LOCK_n $end $var wire 1 m BNR_n $end $enddefinitions $end 0a b0 m #5 1a")
    (unset 96 0 ∷ [])
    ∷ good (codes "$var wire 1 a LOCK_n $end $enddefinitions $end 0a #5 1a") (unset 32 0 ∷ [])
    ∷ good (codes "$var wire 1 #5 LOCK_n $end $enddefinitions $end 0a b0 #5 #5 1a") (unset 32 0 ∷ [])
    ∷ good (codes "$var real 64 m volts $end $enddefinitions $end 0a r1.2 m R-1e9 m r m s1 m S m #5 1a")
    (unset 0 0 ∷ [])
    ∷ []

pub declares-none : map (λ (row : Good). first_fault (lines ++ row.text)) declares ≡ map (λ (row : Good). None) declares
unfolding first_fault ended_at grown_at number_up_to time_in extended header_word value_word is_read_past
    is_foreign_type signal_number turn drafted declared closed
declares-none = refl

pub declares-samples : map (λ (row : Good). map numbers_of (samples_of (lines ++ row.text))) declares
    ≡ map (λ (row : Good). row.samples) declares
unfolding samples_of ended_at grown_at number_up_to time_in extended header_word value_word is_read_past
    is_foreign_type level_of control_of bits_without sample_at signal_number turn drafted declared closed
declares-samples = refl

-- the lines that are not needed, each asserted at one clock
abbrev pub others : List ℕ
others =
    codes "$var wire 1 m BREQ1_n $end $var wire 1 n BREQ2_n $end $var wire 1 o BREQ3_n $end $var wire 1 p BPRI_n $end "
    ++ codes "$var wire 1 q LOCK_n $end $var wire 1 r BNR_n $end $var wire 1 s AERR_n $end $var wire 1 t DEFER_n $end "
    ++ codes "$enddefinitions $end 1m 1n 1o 1p 1q 1r 1s 1t "
    ++ codes "#0 0a 0m #5 1a #10 0a 0n 1m #15 1a #20 0a 0o 1n #25 1a #30 0a 0p 1o #35 1a "
    ++ codes "#40 0a 0q 1p #45 1a #50 0a 0r 1q #55 1a #60 0a 0s 1r #65 1a #70 0a 0t 1s #75 1a"

pub others-samples : map numbers_of (samples_of (lines ++ others))
    ≡ map (λ n. unset n 0) (2 ∷ 4 ∷ 8 ∷ 16 ∷ 32 ∷ 64 ∷ 256 ∷ 2048 ∷ [])
unfolding samples_of ended_at grown_at number_up_to time_in extended header_word value_word is_read_past
    is_foreign_type level_of control_of bits_without sample_at signal_number turn drafted declared closed
others-samples = refl

-- ---- texts that are read: values before the first one, and at the first time

abbrev pub first_values : List Good
first_values =
    good (codes "") []
    ∷ good (codes "0a #0 1a") (unset 0 0 ∷ [])
    ∷ good (codes "#0 0a #5 1a") (unset 0 0 ∷ [])
    ∷ good (codes "0a 1a #0") []
    ∷ good (codes "1a") []
    ∷ good (codes "#0 1a") []
    ∷ good (codes "#0 xa #5 1a") []
    ∷ good (codes "#0 za #5 1a") []
    ∷ good (codes "#0 0a #5 xa") []
    ∷ good (codes "$dumpvars 0a $dumpoff #0 1a $dumpall") (unset 0 0 ∷ [])
    ∷ []

pub first_values-none : map (λ (row : Good). first_fault (begun ++ row.text)) first_values
    ≡ map (λ (row : Good). None) first_values
unfolding first_fault ended_at grown_at number_up_to time_in extended header_word value_word is_read_past
    is_foreign_type signal_number turn drafted declared closed
first_values-none = refl

pub first_values-samples : map (λ (row : Good). map numbers_of (samples_of (begun ++ row.text))) first_values
    ≡ map (λ (row : Good). row.samples) first_values
unfolding samples_of ended_at grown_at number_up_to time_in extended header_word value_word is_read_past
    is_foreign_type level_of control_of bits_without sample_at signal_number turn drafted declared closed
first_values-samples = refl

-- ---- texts that are read: values

abbrev pub values : List Good
values =
    good (codes "#18446744073709551615 1a") (idle ∷ [])
    ∷ good (codes "#00000000000000000005 #5 #05 1a") (idle ∷ [])
    ∷ good (codes "#9 1a #10 0a #11 1a") (idle ∷ idle ∷ [])
    -- marks and sections
    ∷ good (codes "$dumpvars #5 $dumpall 1a $dumpoff #10 0a $dumpon #15 1a $end") (idle ∷ idle ∷ [])
    ∷ good (codes "$comment #5 1a $end #5 1a") (idle ∷ [])
    ∷ good (codes "$dumpports 0b $end #5 1a") (idle ∷ [])
    -- rises
    ∷ good (codes "#0 1a") []
    ∷ good (codes "#5 1a 0a") []
    ∷ good (codes "#5 1a #5 0a") []
    ∷ good (codes "#5 xa 1a") (idle ∷ [])
    ∷ good (codes "#5 1a 0a 1a") (idle ∷ [])
    ∷ good (codes "#5 1a #10 1a #15 1a") (idle ∷ [])
    ∷ good (codes "#5 b1 a #10 b0 a #15 B1 a") (idle ∷ idle ∷ [])
    -- what stands before a block
    ∷ good (codes "#4 0c #5 1a") (asserts 128 ∷ [])
    ∷ good (codes "#5 0c 1a") (idle ∷ [])
    ∷ good (codes "#5 1a 0c") (idle ∷ [])
    ∷ good (codes "#5 0c #5 1a") (idle ∷ [])
    ∷ good (codes "#5 0c #05 1a") (idle ∷ [])
    ∷ good (codes "#4 0c 1c 0c #5 1a 1c") (asserts 128 ∷ [])
    ∷ good (codes "#5 1a 0c #10 0a #15 1a") (idle ∷ asserts 128 ∷ [])
    -- a single line
    ∷ good (codes "#4 0b #5 1a") (asserts 1 ∷ [])
    ∷ good (codes "#4 0c zc #5 1a") (idle ∷ [])
    ∷ good (codes "#4 0c Zc #5 1a") (idle ∷ [])
    ∷ good (codes "#4 0c xc #5 1a") (unknown 128 ∷ [])
    ∷ good (codes "#4 Xc #5 1a") (unknown 128 ∷ [])
    ∷ good (codes "#4 b0 b B0 f b0 g b0 i b0 j b0 k #5 1a") (asserts 230913 ∷ [])
    ∷ good (codes "#4 r0 c s0 c #5 1a") (idle ∷ [])
    -- words, and digits that are fewer than their lines
    ∷ good (codes "#4 b11001 d #5 1a") (req 6 0 ∷ [])
    ∷ good (codes "#4 b1 d #5 1a") (req 30 0 ∷ [])
    ∷ good (codes "#4 b01 d #5 1a") (req 30 0 ∷ [])
    ∷ good (codes "#4 bX1 d #5 1a") (req 0 30 ∷ [])
    ∷ good (codes "#4 BZ0 d #5 1a") (req 1 0 ∷ [])
    ∷ good (codes "#4 b1x0z1 d #5 1a") (req 4 8 ∷ [])
    ∷ good (codes "#4 0d #5 1a") (req 31 0 ∷ [])
    ∷ good (codes "#4 xd #5 1a") (req 0 31 ∷ [])
    ∷ good (codes "#4 b110 h #5 1a") (asserts 4096 ∷ [])
    ∷ good (codes "#4 bx01 h #5 1a") ((8192 ∷ 16384 ∷ 0 ∷ 0 ∷ 0 ∷ 0 ∷ 0 ∷ 0 ∷ []) ∷ [])
    ∷ good (codes "#4 bx1010 e #5 1a") ((0 ∷ 0 ∷ 0 ∷ 0 ∷ 5 ∷ 8589934576 ∷ 0 ∷ 0 ∷ []) ∷ [])
    ∷ good (codes "#4 b1z0x l #5 1a") ((0 ∷ 0 ∷ 0 ∷ 0 ∷ 0 ∷ 0 ∷ 18446744073709551602 ∷ 1 ∷ []) ∷ [])
    ∷ []

pub values-none : map (λ (row : Good). first_fault (quiet ++ row.text)) values ≡ map (λ (row : Good). None) values
unfolding first_fault ended_at grown_at number_up_to time_in extended header_word value_word is_read_past
    is_foreign_type signal_number turn drafted declared closed
values-none = refl

pub values-samples : map (λ (row : Good). map numbers_of (samples_of (quiet ++ row.text))) values
    ≡ map (λ (row : Good). row.samples) values
unfolding samples_of ended_at grown_at number_up_to time_in extended header_word value_word is_read_past
    is_foreign_type level_of control_of bits_without sample_at signal_number turn drafted declared closed
values-samples = refl

-- ---- the parity lines, which a header may declare or not

-- both are declared, and at time 0 neither of them nor another line is asserted
abbrev pub with_parity : List ℕ
with_parity =
    lines ++ codes "$var wire 2 y AP_n [1:0] $end $var wire 1 z RP_n $end $enddefinitions $end "
    ++ codes "#0 0a 1b 1c bz d bz e 1f 1g bz h 1i 1j 1k bz l 1z bz y "

abbrev pub parity_faulty : List Bad
parity_faulty =
    bad (codes "$var wire 1 y AP_n $end $enddefinitions $end") 0 causes.Width
    ∷ bad (codes "$var wire 3 y AP_n $end $enddefinitions $end") 0 causes.Width
    ∷ bad (codes "$var wire 2 y RP_n $end $enddefinitions $end") 0 causes.Width
    ∷ bad (codes "$var wire 2 y AP_n $end $enddefinitions $end b111 y") 45 causes.Width
    ∷ []

pub parity-faults : map (λ (row : Bad). first_fault (lines ++ row.text)) parity_faulty
    ≡ map (fault_behind lines) parity_faulty
unfolding first_fault ended_at grown_at number_up_to time_in extended header_word value_word is_read_past
    is_foreign_type signal_number turn drafted declared closed
parity-faults = refl

-- what is declared and never set is unknown
abbrev pub parity_unset : List Good
parity_unset =
    good (codes "$var wire 2 y AP_n $end $var wire 1 z RP_n $end $enddefinitions $end 0a #5 1a") (unset 0 1835008 ∷ [])
    ∷ good (codes "$var wire 2 y AP_n $end $enddefinitions $end 0a #5 1a") (unset 0 786432 ∷ [])
    ∷ good (codes "$var wire 1 z RP_n $end $enddefinitions $end 0a #5 1a") (unset 0 1048576 ∷ [])
    ∷ good (codes "$var real 1 y AP_n $end $enddefinitions $end 0a #5 1a") (unset 0 0 ∷ [])
    ∷ []

pub parity_unset-none : map (λ (row : Good). first_fault (lines ++ row.text)) parity_unset
    ≡ map (λ (row : Good). None) parity_unset
unfolding first_fault ended_at grown_at number_up_to time_in extended header_word value_word is_read_past
    is_foreign_type signal_number turn drafted declared closed
parity_unset-none = refl

pub parity_unset-samples : map (λ (row : Good). map numbers_of (samples_of (lines ++ row.text))) parity_unset
    ≡ map (λ (row : Good). row.samples) parity_unset
unfolding samples_of ended_at grown_at number_up_to time_in extended header_word value_word is_read_past
    is_foreign_type level_of control_of bits_without sample_at signal_number turn drafted declared closed
parity_unset-samples = refl

abbrev pub parity_values : List Good
parity_values =
    good (codes "#5 1a") (idle ∷ [])
    ∷ good (codes "#4 b10 y 0z #5 1a") (asserts 1310720 ∷ [])
    ∷ good (codes "#4 b01 y #5 1a") (asserts 524288 ∷ [])
    ∷ good (codes "#4 b00 y #5 1a") (asserts 786432 ∷ [])
    ∷ good (codes "#4 0y #5 1a") (asserts 786432 ∷ [])
    ∷ good (codes "#4 1y #5 1a") (asserts 524288 ∷ [])
    ∷ good (codes "#4 xy #5 1a") (unknown 786432 ∷ [])
    ∷ good (codes "#4 bx0 y xz #5 1a") ((262144 ∷ 1572864 ∷ 0 ∷ 0 ∷ 0 ∷ 0 ∷ 0 ∷ 0 ∷ []) ∷ [])
    ∷ []

pub parity_values-none : map (λ (row : Good). first_fault (with_parity ++ row.text)) parity_values
    ≡ map (λ (row : Good). None) parity_values
unfolding first_fault ended_at grown_at number_up_to time_in extended header_word value_word is_read_past
    is_foreign_type signal_number turn drafted declared closed
parity_values-none = refl

pub parity_values-samples : map (λ (row : Good). map numbers_of (samples_of (with_parity ++ row.text)))
    parity_values ≡ map (λ (row : Good). row.samples) parity_values
unfolding samples_of ended_at grown_at number_up_to time_in extended header_word value_word is_read_past
    is_foreign_type level_of control_of bits_without sample_at signal_number turn drafted declared closed
parity_values-samples = refl

-- a text, and the marks that its bytes show
pub record Marked : Type 0 where
  pub text : List ℕ
  pub marks : Option Marks

abbrev pub marked : List ℕ → Bool → Bool → Marked
marked text ap rp = record { text = text; marks = Some (record { ap = ap; rp = rp }) }

abbrev pub unmarked : List ℕ → Marked
unmarked text = record { text = text; marks = None }

abbrev pub marking : List Marked
marking =
    marked (codes "$enddefinitions $end ") false false
    ∷ marked (codes "$var wire 2 y AP_n $end $enddefinitions $end ") true false
    ∷ marked (codes "$var wire 1 z RP_n $end $enddefinitions $end ") false true
    ∷ marked (codes "$var wire 2 y AP_n $end $var wire 1 z RP_n $end $enddefinitions $end ") true true
    ∷ marked (codes "$var wire 1 z RP_n $end $enddefinitions some $end #0 b0 d 0 ") false true
    ∷ marked (codes "$var real 64 y AP_n $end $var wire 1 z RP_n[0] $end $enddefinitions $end r1 ") false true
    ∷ marked (codes "$var wire 2 y AP_n_n $end $enddefinitions $end b1 ") false false
    ∷ unmarked (codes "$var wire 2 y AP_n $end $enddefinitions $end")
    ∷ unmarked (codes "$var wire 2 y AP_n $end $enddefinitions ")
    ∷ unmarked (codes "$var wire 2 y AP_n $end ")
    ∷ unmarked (codes "$var wire 1 y AP_n $end $enddefinitions ")
    -- a fault before
    ∷ marked (codes "$var wire 1 y AP_n $end $var wire 1 z RP_n $end $enddefinitions $end ") false false
    ∷ marked (codes "$var wire 1 z RP_n $end word $var wire 2 y AP_n $end $enddefinitions $end ") false true
    ∷ marked (codes "word $comment $enddefinitions $end $end $enddefinitions some $end #1 #0 ") false false
    ∷ unmarked (codes "word $comment $enddefinitions $end $end $enddefinitions $end")
    ∷ []

-- the end of a header that misses a line
pub marking-missing : marks_so_far (codes "$var wire 2 y AP_n $end $enddefinitions $end ")
    ≡ Some (record { ap = true; rp = false })
unfolding marks_so_far ended_at grown_at number_up_to time_in extended header_word value_word is_read_past
    is_foreign_type signal_number turn drafted declared closed
marking-missing = refl

pub marking-so_far : map (λ (row : Marked). marks_so_far (lines ++ row.text)) marking
    ≡ map (λ (row : Marked). row.marks) marking
unfolding marks_so_far ended_at grown_at number_up_to time_in extended header_word value_word is_read_past
    is_foreign_type signal_number turn drafted declared closed
marking-so_far = refl

-- the last token of a whole text counts too
pub marking-whole : marks_of (lines ++ codes "$var wire 2 y AP_n $end $enddefinitions $end")
    ≡ record { ap = true; rp = false }
unfolding marks_of ended_at grown_at number_up_to time_in extended header_word value_word is_read_past
    is_foreign_type signal_number turn drafted declared closed
marking-whole = refl

-- ---- first bytes of a text: a word counts with the white space behind it, and nothing counts behind a fault

abbrev pub so_far : List Good
so_far =
    good (codes "#5 1a #10") []
    ∷ good (codes "#5 1a #10 ") (idle ∷ [])
    ∷ good (codes "#5 1a #5 ") []
    ∷ good (codes "#5 1a #10 0a 0~ #15 1a #20 ") (idle ∷ [])
    ∷ good (codes "#5 1a 0~ #10 ") []
    ∷ []

pub so_far-samples : map (λ (row : Good). map numbers_of (samples_so_far (quiet ++ row.text))) so_far
    ≡ map (λ (row : Good). row.samples) so_far
unfolding samples_so_far ended_at grown_at number_up_to time_in extended header_word value_word is_read_past
    is_foreign_type level_of control_of bits_without sample_at signal_number turn drafted declared closed
so_far-samples = refl

pub so_far-fault : fault_so_far (begun ++ codes "0~") ≡ None
unfolding fault_so_far ended_at grown_at number_up_to time_in extended header_word value_word is_read_past
    is_foreign_type signal_number turn drafted declared closed
so_far-fault = refl

pub so_far-counted : fault_so_far (begun ++ codes "0~ ") ≡ fault_behind begun (bad [] 0 causes.Code)
unfolding fault_so_far ended_at grown_at number_up_to time_in extended header_word value_word is_read_past
    is_foreign_type signal_number turn drafted declared closed
so_far-counted = refl

-- up to the last time stamp, which counts at the end of the text
abbrev pub before_end : List Good
before_end =
    good (codes "#5 1a") []
    ∷ good (codes "#5 1a #10") (idle ∷ [])
    ∷ good (codes "#5 1a #10 0a #15 1a") (idle ∷ [])
    ∷ []

pub before_end-samples : map (λ (row : Good). map numbers_of (samples_before_end (quiet ++ row.text)))
    before_end ≡ map (λ (row : Good). row.samples) before_end
unfolding samples_before_end ended_at grown_at number_up_to time_in extended header_word value_word is_read_past
    is_foreign_type level_of control_of bits_without sample_at signal_number turn drafted declared closed
before_end-samples = refl

-- ---- words that are too long

abbrev pub zeros : ℕ → List ℕ
zeros n = replicate n 48

pub longest-is_long : map (λ n. is_long (zeros n)) (70000 ∷ 70001 ∷ []) ≡ false ∷ true ∷ []
longest-is_long = refl

-- the byte past the longest counts, once, at the place of the first
pub long-counts : map (λ n. map (λ (t : Token). t.place) (grown_at 70010 (zeros n) 48))
    (69999 ∷ 70000 ∷ 70001 ∷ []) ≡ [] ∷ (10 ∷ []) ∷ [] ∷ []
unfolding grown_at
long-counts = refl

pub long-ends : map (λ n. map (λ (t : Token). t.place) (ended_at 70010 (zeros n))) (0 ∷ 70000 ∷ 70001 ∷ [])
    ≡ [] ∷ (10 ∷ []) ∷ [] ∷ []
unfolding ended_at
long-ends = refl

-- its further bytes are not kept, up to the white space behind it
pub long-run : map (λ b. length (run_behind (zeros 70001) b)) (48 ∷ 32 ∷ []) ≡ 70001 ∷ 0 ∷ []
long-run = refl

-- where such a word stands
abbrev pub modes : List Mode
modes = Header ∷ Variable (draft_at 3) ∷ Values ∷ Pending 3 (48 ∷ []) ∷ Beside ∷ Skipped ∷ Closing 3 ∷ Passed ∷ []

-- it is a fault, but in a section that is read past
pub long-faults : map (λ m. (turn_in m nothing (record { place = 7; word = zeros 70001 })).known.fault) modes
    ≡ replicate 5 (Some (record { place = 7; cause = causes.Token })) ++ replicate 3 None
long-faults = refl
