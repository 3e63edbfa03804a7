use Rattle.std.proofs.Common.{arith, ℕ, length-take, length-drop}
use Rattle.fsb_access.proofs.Chunks.{below_seven_bytes}
use Rattle.fsb_access.proofs.flat.+value_of.Goals as goal

pub overflow_mul-result : goal.overflow_mul-result
overflow_mul-result t c =
    let rest = below_seven_bytes c.value_of.result _ c.value_of.ensures.bound
    (omega (arith, length-take {A = ℕ}, length-drop {A = ℕ})) in omega arith

pub overflow_add-result : goal.overflow_add-result
overflow_add-result t c =
    let rest = below_seven_bytes c.value_of.result _ c.value_of.ensures.bound
    (omega (arith, length-take {A = ℕ}, length-drop {A = ℕ})) in
    omega (arith, c.type_inv.bytes 0)
