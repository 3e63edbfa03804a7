-- Texts of dumps, written out, and that the definition of the text gives them.
use Rattle.std.specs.Prelude.{◌≡◌, ◌++◌, ◌+◌, ◌||◌, true, false, [], List, ℕ, codes}
use Rattle.std.specs.Fmt.{digits}
use Rattle.std.specs.Int.Count.{ones}
use Rattle.std.proofs.Common.{refl}
use Rattle.fsb_signal.specs.declared.sample.Sample.{Sample}
use Rattle.fsb_signal.specs.Samples.{known_sample}
use Rattle.fsb_signal.specs.Parity.{is_address_odd, is_request_odd}
use Rattle.fsb_signal.specs.DumpText.{header_text, clock_text, dump_text, texts_from, range_text, declaration_text}
use Rattle.fsb_signal.specs.DumpText.{change_text, value_text, value_of}

-- the dump of no samples
pub no_samples : List ℕ
no_samples =
    codes "$version p6bench 1 $end\n"
    ++ codes "$timescale 1 ns $end\n"
    ++ codes "$scope module fsb $end\n"
    ++ codes "$var wire 1 ! BCLK $end\n"
    ++ codes "$var wire 1 \" BREQ0_n $end\n"
    ++ codes "$var wire 1 # BREQ1_n $end\n"
    ++ codes "$var wire 1 $ BREQ2_n $end\n"
    ++ codes "$var wire 1 % BREQ3_n $end\n"
    ++ codes "$var wire 1 & BPRI_n $end\n"
    ++ codes "$var wire 1 ' LOCK_n $end\n"
    ++ codes "$var wire 1 ( BNR_n $end\n"
    ++ codes "$var wire 1 ) ADS_n $end\n"
    ++ codes "$var wire 5 * REQ_n [4:0] $end\n"
    ++ codes "$var wire 33 + A_n [35:3] $end\n"
    ++ codes "$var wire 1 , AERR_n $end\n"
    ++ codes "$var wire 1 - HIT_n $end\n"
    ++ codes "$var wire 1 . HITM_n $end\n"
    ++ codes "$var wire 1 / DEFER_n $end\n"
    ++ codes "$var wire 3 0 RS_n [2:0] $end\n"
    ++ codes "$var wire 1 1 TRDY_n $end\n"
    ++ codes "$var wire 1 2 DBSY_n $end\n"
    ++ codes "$var wire 1 3 DRDY_n $end\n"
    ++ codes "$var wire 64 4 D_n [63:0] $end\n"
    ++ codes "$upscope $end\n"
    ++ codes "$enddefinitions $end\n"
    ++ codes "#0\n"
    ++ codes "$dumpvars\n"
    ++ codes "0!\n"
    ++ codes "1\"\n"
    ++ codes "1#\n"
    ++ codes "1$\n"
    ++ codes "1%\n"
    ++ codes "1&\n"
    ++ codes "1'\n"
    ++ codes "1(\n"
    ++ codes "1)\n"
    ++ codes "b11111 *\n"
    ++ codes "b111111111111111111111111111111111 +\n"
    ++ codes "1,\n"
    ++ codes "1-\n"
    ++ codes "1.\n"
    ++ codes "1/\n"
    ++ codes "b111 0\n"
    ++ codes "11\n"
    ++ codes "12\n"
    ++ codes "13\n"
    ++ codes "b1111111111111111111111111111111111111111111111111111111111111111 4\n"
    ++ codes "$end\n"

pub dump_text-none : dump_text 1 [] ≡ no_samples
unfolding digits texts_from dump_text header_text declaration_text range_text value_text value_of no_samples
dump_text-none = refl

-- an agent asks for the bus; it reads a line; its second request clock
abbrev asks : Sample
asks = known_sample 1 0 0 0

abbrev first_clock : Sample
first_clock = known_sample 129 6 8 0

abbrev second_clock : Sample
second_clock = known_sample 0 2 2 0

pub clock_text-first : clock_text 1 2 asks first_clock ≡
    (codes "#20\n"
    ++ codes "0!\n"
    ++ codes "0)\n"
    ++ codes "b11001 *\n"
    ++ codes "b111111111111111111111111111110111 +\n"
    ++ codes "#25\n"
    ++ codes "1!\n")
unfolding digits texts_from clock_text change_text value_text value_of
clock_text-first = refl

pub clock_text-second : clock_text 1 3 first_clock second_clock ≡
    (codes "#30\n"
    ++ codes "0!\n"
    ++ codes "1\"\n"
    ++ codes "1)\n"
    ++ codes "b11101 *\n"
    ++ codes "b111111111111111111111111111111101 +\n"
    ++ codes "#35\n"
    ++ codes "1!\n")
unfolding digits texts_from clock_text change_text value_text value_of
clock_text-second = refl

-- the same two clocks in profile 2, with the parity of a load of address 40: an odd number of lines is asserted of the
-- low address, and of ADS# and the request, in the first clock; and of each of the two in the second
abbrev first_clock_even : Sample
first_clock_even = known_sample (129 + 262144 + 1048576) 6 8 0

abbrev second_clock_even : Sample
second_clock_even = known_sample (262144 + 1048576) 2 2 0

pub parity_text-first : clock_text 2 2 asks first_clock_even ≡
    (codes "#20\n"
    ++ codes "0!\n"
    ++ codes "0)\n"
    ++ codes "b11001 *\n"
    ++ codes "b111111111111111111111111111110111 +\n"
    ++ codes "b10 5\n"
    ++ codes "06\n"
    ++ codes "#25\n"
    ++ codes "1!\n")
unfolding digits texts_from clock_text change_text value_text value_of
parity_text-first = refl

pub parity_text-second : clock_text 2 3 first_clock_even second_clock_even ≡
    (codes "#30\n"
    ++ codes "0!\n"
    ++ codes "1\"\n"
    ++ codes "1)\n"
    ++ codes "b11101 *\n"
    ++ codes "b111111111111111111111111111111101 +\n"
    ++ codes "#35\n"
    ++ codes "1!\n")
unfolding digits texts_from clock_text change_text value_text value_of
parity_text-second = refl

pub parity_text-third : clock_text 2 4 second_clock_even (known_sample 0 0 0 0) ≡
    (codes "#40\n"
    ++ codes "0!\n"
    ++ codes "b11111 *\n"
    ++ codes "b111111111111111111111111111111111 +\n"
    ++ codes "b11 5\n"
    ++ codes "16\n"
    ++ codes "#45\n"
    ++ codes "1!\n")
unfolding digits texts_from clock_text change_text value_text value_of
parity_text-third = refl

-- what is declared in profile 2 alone
pub parity-declared : texts_from declaration_text 20 2
    ≡ (codes "$var wire 2 5 AP_n [1:0] $end\n" ++ codes "$var wire 1 6 RP_n $end\n")
unfolding digits texts_from declaration_text range_text
parity-declared = refl

-- the counts of these clocks are even, and odd without the parity lines
pub parity-even :
    ((is_address_odd first_clock_even || is_request_odd first_clock_even || is_address_odd second_clock_even
    || is_request_odd second_clock_even) ≡ false)
    × (is_address_odd first_clock ≡ true) × (is_request_odd first_clock ≡ true) × (is_request_odd second_clock ≡ true)
unfolding is_address_odd is_request_odd ones
parity-even = (refl, refl, refl, refl)
