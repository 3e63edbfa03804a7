-- The parity of the address and of the request, and the marks of a dump.
use Rattle.std.specs.Prelude.{ℕ, ◌+◌, ◌/◌, ◌%◌, ◌^◌, Bool, ◌&&◌, ◌||◌, not, nat_eq}
use Rattle.std.specs.Int.RustNames.{count_ones}
use Rattle.fsb_signal.specs.declared.lines.TheConstants.Lines.{ADS, AP0, AP1, RP}
use Rattle.fsb_signal.specs.declared.marks.Marks.{Marks}
use Rattle.fsb_signal.specs.declared.sample.Sample.{Sample}
use Rattle.fsb_signal.specs.Samples.{bit_of, has_line, has_unknown, is_known_word}

-- a number of lines is even
abbrev pub is_even : ℕ → Bool
is_even n = nat_eq (n % 2) 0

-- an even number of AP0# and A[23:3]#, the lowest 21 bits of the address word, is asserted
abbrev pub is_low_address_even : Sample → Bool
is_low_address_even s = is_even (bit_of s AP0 + count_ones (s.addr.bits % 2 ^ 21))

-- an even number of AP1# and A[35:24]#, the other bits of the address word, is asserted
abbrev pub is_high_address_even : Sample → Bool
is_high_address_even s = is_even (bit_of s AP1 + count_ones (s.addr.bits / 2 ^ 21))

-- an even number of RP#, ADS# and REQ[4:0]# is asserted
abbrev pub is_request_even : Sample → Bool
is_request_even s = is_even (bit_of s RP + bit_of s ADS + count_ones s.req.bits)

-- the address parity fails: of the address and its two parity lines nothing is unknown, and one of the two counts is odd
unfoldable pub is_address_odd : Sample → Bool
is_address_odd s =
    is_known_word s.addr && not (has_unknown s AP0 || has_unknown s AP1)
    && not (is_low_address_even s && is_high_address_even s)

-- the request parity fails: of the request, ADS# and RP# nothing is unknown, and their count is odd
unfoldable pub is_request_odd : Sample → Bool
is_request_odd s =
    is_known_word s.req && not (has_unknown s ADS || has_unknown s RP) && not (is_request_even s)

-- no parity line is asserted in the sample
abbrev pub has_no_parity : Sample → Bool
has_no_parity s = not (has_line s AP0 || has_line s AP1 || has_line s RP)

-- the marks of a dump that is written in this profile: profile 2 has both parity lines, profile 1 has neither
abbrev pub marks_in : ℕ → Marks
marks_in profile = record { ap = nat_eq profile 2; rp = nat_eq profile 2 }
