-- The lines of the requests so far.
use Rattle.std.proofs.Common.{◌≡◌}
use Rattle.fsb_script.specs.Made.{seed_lines}
use Rattle.fsb_script.proofs.made.seed_lines.Given as goal

abbrev pub invariant-loop-number : goal.invariant-loop-number
invariant-loop-number l = l.lines ≡ seed_lines l.seed l.number
