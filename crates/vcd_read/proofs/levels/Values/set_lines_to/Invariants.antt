-- The lines that are left get the digit too.
use Rattle.std.proofs.Common.{◌≡◌, [], ◌∷◌, drop}
use Rattle.vcd_read.specs.Lines.{with_lines}
use Rattle.vcd_read.proofs.levels.Values.set_lines_to.Given as goal

abbrev pub invariant-loop-number : goal.invariant-loop-number
invariant-loop-number l = with_lines l.self (drop l.number-index l.lines) (l.digit ∷ [])
    ≡ with_lines l.initial.self l.lines (l.digit ∷ [])
