-- The bytes so far and those before the bracket are the name.
use Rattle.std.proofs.Common.{◌≡◌, ◌+◌, ◌==◌, not, drop}
use Rattle.std.specs.List.{prefix_len}
use Rattle.vcd_read.proofs.words.name_len.Given as goal

abbrev pub invariant-loop-i : goal.invariant-loop-i
invariant-loop-i l = l.i + prefix_len (λ b. not (b == 91)) (drop l.i l.reference)
    ≡ prefix_len (λ b. not (b == 91)) l.reference
