use Rattle.std.proofs.Common.{◌<◌, ◌^◌, arith}
use Rattle.fsb_trigger.proofs.Sixteen.{hex_room}
use Rattle.fsb_trigger.proofs.read.hex_digits.Goals as goal

pub overflow_mul-number : goal.overflow_mul-number
overflow_mul-number c =
    let room : c.loop-digit.number < 16 ^ 15 =
    hex_room _ c.loop-digit.digit-index c.loop-digit.invariant.below
    (omega (arith, c.loop-digit-test.true, c.requires)) in
    omega arith

pub overflow_add-number : goal.overflow_add-number
overflow_add-number c =
    let room : c.loop-digit.number < 16 ^ 15 =
    hex_room _ c.loop-digit.digit-index c.loop-digit.invariant.below
    (omega (arith, c.loop-digit-test.true, c.requires)) in
    omega (arith, c.in_ok-hex_value.ensures.below, c.from.ensures)
