use Rattle.std.proofs.Common.{◌≡◌, ◌++◌}
use Rattle.scope_save.specs.Bits.{word_text}
use Rattle.scope_save.proofs.row.put_word.Given as goal

abbrev pub invariant-loop-bit : goal.invariant-loop-bit
invariant-loop-bit l =
    l.text.items ++ word_text l.variables l.here l.bit ≡ l.initial.text.items ++ word_text l.variables l.here l.width

abbrev pub decreases-loop-bit : goal.decreases-loop-bit
decreases-loop-bit l = l.bit
