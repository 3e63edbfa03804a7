-- The lines that are left tell whether the value is too wide.
use Rattle.std.proofs.Common.{◌≡◌, drop}
use Rattle.vcd_grammar.specs.Judging.{is_too_wide}
use Rattle.vcd_read.proofs.levels.is_too_wide.Given as goal

abbrev pub invariant-loop-number : goal.invariant-loop-number
invariant-loop-number l = is_too_wide l.digits (drop l.number-index l.lines) ≡ is_too_wide l.digits l.lines
