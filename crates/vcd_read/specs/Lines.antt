-- What the reader keeps of the values, and what happens to it.
use Rattle.std.specs.Prelude.{◌≡◌, ℕ, ◌+◌, Bool, false, ◌==◌, if◌then◌else◌, List, [], ◌∷◌, ◌++◌, slice_index, slice_set, replicate}
use Rattle.fsb_signal.specs.declared.sample.Sample.{Sample}
use Rattle.fsb_signal.specs.DumpText.{width_of}
use Rattle.vcd_grammar.specs.declared.level.Level.{Level}
use Rattle.vcd_grammar.specs.Digits.{extended}
use Rattle.vcd_grammar.specs.Levels.{level_of}
use Rattle.vcd_grammar.specs.Values.{is_rise, sample_at}
use Rattle.vcd_grammar.specs.Blocks.{BlockEvent, Later, Changed}
use Rattle.vcd_read.specs.declared.levels.Values.{Values}

-- the values before anything was declared
abbrev pub nothing_set : Values
nothing_set = record { levels = replicate 22 (record { asserted = 0; unknown = 0 }); clock = 49 }

-- the values where one line has got some digits
abbrev pub with_line : Values → ℕ → List ℕ → Values
with_line v number digits = record {
  levels = slice_set v.levels number (level_of (extended (width_of number) digits));
  clock = if number == 0 then slice_index (extended (width_of number) digits) 0 else v.clock;
}

-- the values where each of some lines has got some digits
abbrev pub with_lines : Values → List ℕ → List ℕ → Values
with_lines v [] digits = v
with_lines v (number ∷ numbers) digits = with_lines (with_line v number digits) numbers digits

-- the block that stands open: the values in it, and of those before it the digit of the clock and the sample
pub record BlockView : Type 0 where
  pub clock_before : ℕ
  pub sample_before : Sample
  pub now : Values

-- before anything was declared
abbrev pub nothing_changed : BlockView
nothing_changed = record { clock_before = 49; sample_before = sample_at nothing_set.levels; now = nothing_set }

-- the block where one line has got some digits
abbrev pub changed_line : BlockView → ℕ → List ℕ → BlockView
changed_line b number digits = record b { now = with_line b.now number digits }

-- the block where each of some lines has got some digits
abbrev pub changed_lines : BlockView → List ℕ → List ℕ → BlockView
changed_lines b numbers digits = record b { now = with_lines b.now numbers digits }

-- the block behind this one
abbrev pub next_block : BlockView → BlockView
next_block b = record { clock_before = b.now.clock; sample_before = sample_at b.now.levels; now = b.now }

-- the clock rises in the block
abbrev pub block_rises : BlockView → Bool
block_rises b = is_rise b.clock_before b.now.clock

-- the sample before the block is that of its values too, unless a line but the clock may have changed
pub record SampleKept (changed : Bool) (sample : Sample) (levels : List Level) : Type 0 where
  pub same : changed ≡ false → sample ≡ sample_at levels

-- the block that stands open, and how many samples were decided
pub record OpenLines : Type 0 where
  pub block : BlockView
  pub decided : ℕ

-- before the first token
abbrev pub at_start : OpenLines
at_start = record { block = nothing_changed; decided = 0 }

-- the clock rises in the block that stands open
abbrev pub rises : OpenLines → Bool
rises l = block_rises l.block

-- what an event makes of them
abbrev pub after_event : OpenLines → BlockEvent → OpenLines
after_event l Later = record { block = next_block l.block; decided = if rises l then l.decided + 1 else l.decided }
after_event l (Changed change) = record l { block = changed_lines l.block change.lines change.digits }

-- the sample that a block gives which ends there
abbrev pub sample_of_end : OpenLines → List Sample
sample_of_end l = if rises l then l.block.sample_before ∷ [] else []

-- the samples that an event decides
abbrev pub decided_by : OpenLines → BlockEvent → List Sample
decided_by l Later = sample_of_end l
decided_by l (Changed change) = []

-- what events make of them
abbrev pub after_events : OpenLines → List BlockEvent → OpenLines
after_events l [] = l
after_events l (e ∷ es) = after_events (after_event l e) es

-- the samples that events decide
abbrev pub decided_in : OpenLines → List BlockEvent → List Sample
decided_in l [] = []
decided_in l (e ∷ es) = decided_by l e ++ decided_in (after_event l e) es
