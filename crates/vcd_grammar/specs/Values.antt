-- The values of the lines, and the samples of the blocks in which the clock rises.
use Rattle.std.specs.Prelude.{ℕ, ◌%◌, ◌^◌, Bool, ◌&&◌, ◌==◌, if◌then◌else◌, List, [], ◌∷◌, ◌++◌, map, replicate, slice_get, slice_index, slice_set}
use Rattle.std.specs.Option.{option_map_or}
use Rattle.std.proofs.Math.Nat.{mod-lt}
use Rattle.std.proofs.Common.{lit<}
use Rattle.fsb_signal.specs.declared.sample.Word.{Word}
use Rattle.fsb_signal.specs.declared.sample.Sample.{Sample}
use Rattle.fsb_signal.specs.Table.{table}
use Rattle.fsb_signal.specs.DumpText.{width_of}
use Rattle.vcd_grammar.specs.declared.level.Level.{Level}
use Rattle.vcd_grammar.specs.Digits.{extended}
use Rattle.vcd_grammar.specs.Levels.{level_of, asserted_at, unknown_at, control_of, bits_without}
use Rattle.vcd_grammar.specs.Blocks.{Block}
use Rattle.vcd_grammar.specs.LevelFacts.{without-apart, without-lt, control_of-lt}

-- the digits of each signal, in the order of the table
abbrev pub Values : Type 0
Values = List (List ℕ)

-- the values before anything was declared: no line is asserted
abbrev pub at_first : Values
at_first = map (λ e. replicate e.width 49) table

-- the values where one line has got some digits
abbrev pub set_line : Values → ℕ → List ℕ → Values
set_line values number digits = slice_set values number (extended (width_of number) digits)

-- the values where each of some lines has got some digits
abbrev pub set_lines : Values → List ℕ → List ℕ → Values
set_lines values [] digits = values
set_lines values (number ∷ numbers) digits = set_lines (set_line values number digits) numbers digits

-- the values behind a block
abbrev pub values_behind : Values → Block → Values
values_behind values [] = values
values_behind values (change ∷ block) = values_behind (set_lines values change.lines change.digits) block

-- the digit of the clock, which has one line
abbrev pub clock_of : Values → ℕ
clock_of values = option_map_or (λ digits. slice_index digits 0) (slice_get values 0) 0

-- the clock is 0 before and 1 after
abbrev pub is_rise : ℕ → ℕ → Bool
is_rise before after = (before == 48) && (after == 49)

-- a word of the bus, from what is asserted and what is unknown
abbrev pub word_of : ℕ → ℕ → Word
word_of asserted unknown = record {
  bits = bits_without asserted unknown;
  unknown = unknown;
  disjoint = without-apart asserted unknown;
}

-- the sample of what the signals have: what is unknown is not asserted
unfoldable pub sample_at : List Level → Sample
sample_at levels =
    let lines = control_of (asserted_at levels) in
    let unknown = control_of (unknown_at levels) in
    let req = asserted_at levels 9 % 2 ^ 5 in
    let addr = asserted_at levels 10 % 2 ^ 33 in
    record {
      lines = record { 0 = bits_without lines unknown };
      unknown = record { 0 = unknown };
      req = word_of req (unknown_at levels 9 % 2 ^ 5);
      addr = word_of addr (unknown_at levels 10 % 2 ^ 33);
      dbus = word_of (asserted_at levels 19) (unknown_at levels 19);
      disjoint = without-apart lines unknown;
      line_bits = without-lt 21 lines unknown (control_of-lt (asserted_at levels));
      line_unknown = control_of-lt (unknown_at levels);
      req_bits = without-lt 5 req (unknown_at levels 9 % 2 ^ 5) (mod-lt (asserted_at levels 9) (lit< tt));
      req_unknown = mod-lt (unknown_at levels 9) (lit< tt);
      addr_bits = without-lt 33 addr (unknown_at levels 10 % 2 ^ 33) (mod-lt (asserted_at levels 10) (lit< tt));
      addr_unknown = mod-lt (unknown_at levels 10) (lit< tt);
    }

-- the sample of the values: the digit 0 is asserted, 1 and z are not, x is unknown
abbrev pub sample_of : Values → Sample
sample_of values = sample_at (map level_of values)

-- the sample of a block with a rise: the values before the block
abbrev pub sample_of_block : Values → Block → List Sample
sample_of_block before block =
    if is_rise (clock_of before) (clock_of (values_behind before block)) then sample_of before ∷ [] else []

-- the samples of blocks, of which the first begins with these values
abbrev pub samples_in : Values → List Block → List Sample
samples_in before [] = []
samples_in before (block ∷ blocks) = sample_of_block before block ++ samples_in (values_behind before block) blocks
