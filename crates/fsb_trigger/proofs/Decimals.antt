-- What a few decimal digits can reach.
use Rattle.std.proofs.Common.{ℕ, ◌<◌, ◌≤◌, ◌^◌, arith, lit<}
use Rattle.std.proofs.Math.Nat.{pow-le-pow_right}

-- a number of fewer than 19 decimal digits
pub decimal_room : (n i : ℕ) → n < 10 ^ i → i < 19 → n < 10 ^ 18
decimal_room n i below few =
    let small : i ≤ 18 = omega arith in
    let most : 10 ^ i ≤ 10 ^ 18 = pow-le-pow_right {n = 10} (lit< tt) small in
    omega (arith, most)

-- a number of at most 6 decimal digits
pub short_room : (n i : ℕ) → n < 10 ^ i → i ≤ 6 → n < 2 ^ 32
short_room n i below few =
    let most : 10 ^ i ≤ 10 ^ 6 = pow-le-pow_right {n = 10} (lit< tt) few in
    omega (arith, most)
