-- The steps that are nearest to a time.
use Rattle.std.proofs.Common.{◌≡◌, ℕ, ◌+◌, ◌-◌, ◌*◌, ◌/◌, ◌%◌, ◌^◌, ◌<◌, ◌≤◌, ◌↔◌, ◌⊎◌, min, lit≤, arith}
use Rattle.std.specs.Int.{div_ceil}
use Rattle.std.proofs.Math.Nat.{le_trans, mul-le-mul_right, one-le-mul, le-div_iff_mul-le, div-le_of_le-mul}
use Rattle.std.proofs.lemmas.Grind.{div_ceil_times}
use Rattle.scope_words.specs.declared.moment.Unit.{Unit}
use Rattle.scope_words.specs.declared.moment.Unit.TheVariants as units
use Rattle.scope_time.specs.declared.scale.Factor.{Factor}
use Rattle.scope_time.specs.declared.scale.Factor.TheVariants as factors
use Rattle.scope_time.specs.declared.scale.Scale.{Scale}
use Rattle.scope_time.specs.Scales.{factor_of, femtoseconds, step_of}
use Rattle.scope_time.specs.Parts.{IsFirst, IsLast, steps_from, steps_up_to}

factor_some : (f : Factor) → 1 ≤ factor_of f
factor_some factors.One = lit≤ tt
factor_some factors.Ten = lit≤ tt
factor_some factors.Hundred = lit≤ tt

unit_some : (u : Unit) → 1 ≤ femtoseconds u
unit_some units.Second = lit≤ tt
unit_some units.Millisecond = lit≤ tt
unit_some units.Microsecond = lit≤ tt
unit_some units.Nanosecond = lit≤ tt
unit_some units.Picosecond = lit≤ tt
unit_some units.Femtosecond = lit≤ tt

step_some : (scale : Scale) → 1 ≤ step_of scale
step_some scale = one-le-mul (factor_some scale.factor) (unit_some scale.unit)

ceil_reaches : (t s k : ℕ) → 1 ≤ s → div_ceil t s ≤ k → t ≤ k * s
ceil_reaches t s k pos h = le_trans (div_ceil_times t s pos).0 (mul-le-mul_right s h)

-- one step more than k would be needed, and k are enough
ceil_least : (t s k : ℕ) → 1 ≤ s → t ≤ k * s → k < div_ceil t s → div_ceil t s ≤ k
ceil_least t s k pos enough more =
    let one_more : k + 1 ≤ div_ceil t s = omega (arith, more) in
    let above : (k + 1) * s ≤ div_ceil t s * s = mul-le-mul_right s one_more in
    let below = (div_ceil_times t s pos).1 in
    grind (arith, above, below, enough)

ceil_first : (t s k : ℕ) → 1 ≤ s → t ≤ k * s → div_ceil t s ≤ k
ceil_first t s k pos enough = grind (arith, ceil_least t s k pos enough)

pub first_is_first : (scale : Scale) (time : ℕ) → IsFirst scale time (steps_from scale time)
unfolding steps_from
first_is_first scale time k within =
    let pos = step_some scale in
    let s = step_of scale in (
      λ h. ceil_reaches time s k pos (omega (arith, h, within)),
      λ h. let c : div_ceil time s ≤ k = ceil_first time s k pos h in omega (arith, c),
    )

pub last_is_last : (scale : Scale) (time : ℕ) → IsLast scale time (steps_up_to scale time)
unfolding steps_up_to
last_is_last scale time k within =
    let pos = step_some scale in
    let s = step_of scale in
    let both : (k ≤ time / s) ↔ (k * s ≤ time) = le-div_iff_mul-le pos in (
      λ h. both.0 (omega (arith, h)),
      λ h. let c : k ≤ time / s = both.1 h in omega (arith, c, within),
    )
