-- How the room of values adds up.
use Rattle.std.proofs.Common.{◌≡◌, ℕ, ◌+◌, ◌≤◌, refl, arith, zero, suc}
use Rattle.vcd_write.specs.Room.{value_room, values_room}

-- the values below the next number
pub values_room-next : (number : ℕ) → 1 ≤ number → values_room (number + 1) ≡ values_room number + value_room number
values_room-next zero some = absurd (omega (arith, some))
values_room-next (suc n) some = let e : suc n + 1 ≡ suc (suc n) = omega arith in rw e refl
