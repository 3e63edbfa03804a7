-- What a sample has on its lines, and what a list of samples has at a clock.
use Rattle.std.specs.Prelude.{ℕ, Bool, false, ◌==◌, ◌&&◌, ◌+◌, ◌*◌, ◌%◌, ◌^◌, if◌then◌else◌, List, slice_get}
use Rattle.std.specs.Int.RustNames.{bit_and}
use Rattle.std.specs.List.{list_all}
use Rattle.std.specs.Option.{option_map_or}
use Rattle.std.proofs.Common.{lit<}
use Rattle.std.proofs.Math.Nat.{mod-lt}
use Rattle.std.specs.Int.Bits.{and_zero_r}
use Rattle.fsb_signal.specs.declared.lines.Lines.{Lines}
use Rattle.fsb_signal.specs.declared.lines.TheConstants.Lines.{RS0, RS1, RS2, AP0, AP1}
use Rattle.fsb_signal.specs.declared.sample.Word.{Word}
use Rattle.fsb_signal.specs.declared.sample.Sample.{Sample}

-- the line is asserted in the sample (of several lines: each of them is)
abbrev pub has_line : Sample → Lines → Bool
has_line s line = bit_and s.lines.0 line.0 == line.0

-- the line is unknown in the sample (of several lines: each of them is)
abbrev pub has_unknown : Sample → Lines → Bool
has_unknown s line = bit_and s.unknown.0 line.0 == line.0

-- no control line of the sample is unknown
abbrev pub has_known_lines : Sample → Bool
has_known_lines s = s.unknown.0 == 0

-- no bit of the word is unknown
abbrev pub is_known_word : Word → Bool
is_known_word word = word.unknown == 0

-- no bit of the sample is unknown, neither a control line nor a bit of a word
abbrev pub is_known : Sample → Bool
is_known s = has_known_lines s && is_known_word s.req && is_known_word s.addr && is_known_word s.dbus

-- no bit of any of the samples is unknown
abbrev pub is_known_trace : List Sample → Bool
is_known_trace w = list_all is_known w

-- 1 where the line is asserted in the sample, and 0 where it is not
abbrev pub bit_of : Sample → Lines → ℕ
bit_of s line = if has_line s line then 1 else 0

-- the response code of the sample: the three bits RS2, RS1 and RS0, with 1 for asserted
abbrev pub response_of : Sample → ℕ
response_of s = 4 * bit_of s RS2 + 2 * bit_of s RS1 + bit_of s RS0

-- the address parity of the sample: the two bits AP1 and AP0, with 1 for asserted
abbrev pub address_parity_of : Sample → ℕ
address_parity_of s = 2 * bit_of s AP1 + bit_of s AP0

-- the line is asserted at clock c; past the end nothing is
unfoldable pub line_at : Lines → List Sample → ℕ → Bool
line_at line w c = option_map_or (λ s. has_line s line) (slice_get w c) false

-- the word in which exactly these bits are asserted and none is unknown
abbrev pub known_word : ℕ → Word
known_word bits = record { bits = bits; unknown = 0; disjoint = and_zero_r bits }

-- the data word at clock c; past the end nothing is asserted
abbrev pub data_at : List Sample → ℕ → Word
data_at w c = option_map_or (λ s. s.dbus) (slice_get w c) (known_word 0)

-- the sample without unknown bits that asserts these control lines and these bits of the request, address and data
-- words; a bit that a sample cannot have is left out
abbrev pub known_sample : ℕ → ℕ → ℕ → ℕ → Sample
known_sample lines req addr dbus = record {
  lines = record { 0 = lines % 2 ^ 21 };
  unknown = record { 0 = 0 };
  req = known_word (req % 2 ^ 5);
  addr = known_word (addr % 2 ^ 33);
  dbus = known_word dbus;
  disjoint = and_zero_r (lines % 2 ^ 21);
  line_bits = mod-lt lines (lit< tt);
  line_unknown = lit< tt;
  req_bits = mod-lt req (lit< tt);
  req_unknown = lit< tt;
  addr_bits = mod-lt addr (lit< tt);
  addr_unknown = lit< tt;
}

-- the sample in which nothing is asserted and nothing is unknown
abbrev pub idle : Sample
idle = known_sample 0 0 0 0
