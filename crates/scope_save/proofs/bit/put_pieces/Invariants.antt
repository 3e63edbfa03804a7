use Rattle.std.proofs.Common.{◌≡◌, ◌++◌, take}
use Rattle.scope_save.specs.Bits.{pieces_text}
use Rattle.scope_save.proofs.bit.put_pieces.Given as goal

abbrev pub invariant-loop-wire : goal.invariant-loop-wire
invariant-loop-wire l =
    l.text.items ≡ l.initial.text.items ++ pieces_text l.variables (take l.wire-index l.wires) l.bit
