-- The entries that are left tell which line is missing.
use Rattle.std.proofs.Common.{◌≡◌, drop}
use Rattle.fsb_signal.specs.Table.{table}
use Rattle.vcd_grammar.specs.Judging.{missing_from}
use Rattle.vcd_read.proofs.machine.missing.Given as goal

abbrev pub invariant-loop-number : goal.invariant-loop-number
invariant-loop-number l = missing_from l.lines l.number (drop l.number table) ≡ missing_from l.lines 0 table
