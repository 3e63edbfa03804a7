-- What a few hexadecimal digits can reach.
use Rattle.std.proofs.Common.{ℕ, ◌<◌, ◌≤◌, ◌^◌, arith, lit<}
use Rattle.std.proofs.Math.Nat.{pow-le-pow_right}

-- a number of fewer than 16 hexadecimal digits
pub hex_room : (n i : ℕ) → n < 16 ^ i → i < 16 → n < 16 ^ 15
hex_room n i below few =
    let small : i ≤ 15 = omega arith in
    let most : 16 ^ i ≤ 16 ^ 15 = pow-le-pow_right {n = 16} (lit< tt) small in
    omega (arith, most)
