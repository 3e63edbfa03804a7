-- The lines that are left get the digits too, and none of them is too narrow.
use Rattle.std.proofs.Common.{◌≡◌, drop, false}
use Rattle.vcd_grammar.specs.Judging.{is_too_wide}
use Rattle.vcd_read.specs.Lines.{with_lines}
use Rattle.vcd_read.proofs.levels.Values.set_lines.Given as goal

abbrev pub invariant-loop-number : goal.invariant-loop-number
invariant-loop-number l = record {
  values : with_lines l.self (drop l.number-index l.lines) l.digits ≡ with_lines l.initial.self l.lines l.digits;
  narrow : is_too_wide l.digits (drop l.number-index l.lines) ≡ false;
}
