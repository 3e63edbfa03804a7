-- So far all bytes are digits, and the number is theirs.
use Rattle.std.proofs.Common.{◌≡◌, ◌*◌, take, true}
use Rattle.std.specs.List.{list_all}
use Rattle.vcd_grammar.specs.Levels.{bits_from, is_low}
use Rattle.vcd_read.specs.Lanes.{is_binary}
use Rattle.vcd_read.proofs.lanes.binary_before.Given as goal

abbrev pub invariant-loop-block : goal.invariant-loop-block
invariant-loop-block l = record {
  digits : list_all is_binary (take (16 * l.block) l.text) ≡ true;
  value : bits_from is_low 0 (take (16 * l.block) l.text) ≡ l.zeros;
}
