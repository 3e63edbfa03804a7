use Rattle.std.proofs.Common.{arith, ◌<◌, ◌^◌}
use Rattle.fsb_script.proofs.Digits.{hex_room}
use Rattle.fsb_script.proofs.word.hex_digits.Goals as goal

pub overflow_mul-number : goal.overflow_mul-number
overflow_mul-number c =
    let room : c.loop-byte.number < 16 ^ 15 = hex_room _ c.loop-byte.byte-index c.loop-byte.invariant.below
    (omega arith) in
    omega arith

pub overflow_add-number : goal.overflow_add-number
overflow_add-number c =
    let room : c.loop-byte.number < 16 ^ 15 = hex_room _ c.loop-byte.byte-index c.loop-byte.invariant.below
    (omega arith) in
    omega (arith, c.in_ok-number.ensures.below)
