-- The digits of the first blocks were read.
use Rattle.std.proofs.Common.{◌≡◌, ◌+◌, ◌-◌, ◌*◌, ◌<◌, take}
use Rattle.vcd_grammar.specs.Digits.{is_unknown}
use Rattle.vcd_grammar.specs.Levels.{bits_from, is_low}
use Rattle.vcd_course.proofs.level.level_of_first.Given as goal

abbrev pub invariant-loop-block : goal.invariant-loop-block
invariant-loop-block l = record {
  within : 16 * l.block < l.width + 16;
  asserted : l.asserted ≡ bits_from is_low 0 (take (16 * l.block) l.row);
  unknown : l.unknown ≡ bits_from is_unknown 0 (take (16 * l.block) l.row);
}

abbrev pub decreases-loop-block : goal.decreases-loop-block
decreases-loop-block l = l.width - 16 * l.block
