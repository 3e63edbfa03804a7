-- Samples written out, for traces laid out clock by clock.
use Rattle.std.proofs.Common.{ℕ, ◌+◌, ◌%◌, ◌^◌, lit<, List, [], ◌∷◌}
use Rattle.std.proofs.Math.Nat.{mod-lt}
use Rattle.std.specs.Int.Bits.{and_zero_r}
use Rattle.fsb_signal.specs.declared.lines.Lines.{Lines}
use Rattle.fsb_signal.specs.declared.sample.Word.{Word}
use Rattle.fsb_signal.specs.declared.sample.Sample.{Sample}
use Rattle.fsb_signal.specs.declared.marks.Marks.{Marks}
use Rattle.fsb_signal.specs.Parity.{marks_in}

-- the bits of some different lines together
abbrev pub bits_of : List Lines → ℕ
bits_of [] = 0
bits_of (line ∷ lines) = line.0 + bits_of lines

-- a word with these bits, all known
abbrev pub word : ℕ → Word
word bits = record { bits = bits; unknown = 0; disjoint = and_zero_r bits }

-- a sample in which these lines and these bits of REQ and A are asserted, and nothing is unknown
abbrev pub clock : List Lines → ℕ → ℕ → Sample
clock lines req addr =
    record {
      lines = record { 0 = bits_of lines % 2 ^ 21 };
      unknown = record { 0 = 0 };
      req = word (req % 2 ^ 5);
      addr = word (addr % 2 ^ 33);
      dbus = word 0;
      disjoint = and_zero_r _;
      line_bits = mod-lt _ (lit< tt);
      line_unknown = lit< tt;
      req_bits = mod-lt _ (lit< tt);
      req_unknown = lit< tt;
      addr_bits = mod-lt _ (lit< tt);
      addr_unknown = lit< tt;
    }

-- a sample in which nothing is asserted
abbrev pub idle : Sample
idle = clock [] 0 0

-- the marks of a dump without parity lines
abbrev pub no_marks : Marks
no_marks = marks_in 1

-- the marks of a dump with both
abbrev pub both_marks : Marks
both_marks = marks_in 2
