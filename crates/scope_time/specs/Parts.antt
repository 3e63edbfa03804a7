-- The part of a dump that a user's words name.
use Rattle.std.specs.Prelude.{ℕ, ◌*◌, ◌/◌, ◌-◌, ◌^◌, ◌<◌, ◌≤◌, ◌↔◌, min, Option, Some, None, option_map, option_and_then}
use Rattle.std.specs.Int.{div_ceil}
use Rattle.scope_check.specs.declared.part.Bound.{Bound}
use Rattle.scope_check.specs.declared.part.Bound.TheVariants as bounds
use Rattle.scope_check.specs.declared.part.Begin.{Begin}
use Rattle.scope_check.specs.declared.part.Begin.TheVariants as begins
use Rattle.scope_check.specs.declared.part.Part.{Part}
use Rattle.scope_words.specs.declared.moment.Moment.{Moment}
use Rattle.scope_words.specs.declared.moment.Moment.TheVariants as moments
use Rattle.scope_words.specs.declared.moment.Unit.{Unit}
use Rattle.scope_words.specs.declared.order.Part.{Part as Words}
use Rattle.scope_time.specs.declared.scale.Scale.{Scale}
use Rattle.scope_time.specs.Scales.{femtoseconds, step_of}

-- so many of a unit, in femtoseconds
abbrev pub time_of : ℕ → Unit → ℕ
time_of count unit = count * femtoseconds unit

-- a number of steps, as far as a dump counts them
abbrev pub counted : ℕ → ℕ
counted steps = min steps (2 ^ 64 - 1)

-- the least number of steps that reaches a time
unfoldable pub steps_from : Scale → ℕ → ℕ
steps_from scale time = counted (div_ceil time (step_of scale))

-- the greatest number of steps that does not pass a time
unfoldable pub steps_up_to : Scale → ℕ → ℕ
steps_up_to scale time = counted (time / step_of scale)

-- of all numbers of steps below the last that a dump counts, exactly those from this one on reach a time
abbrev pub IsFirst : Scale → ℕ → ℕ → Type 0
IsFirst scale time first = (k : ℕ) → k < 2 ^ 64 - 1 → ((first ≤ k) ↔ (time ≤ k * step_of scale))

-- of all numbers of steps that a dump counts, exactly those up to this one do not pass a time
abbrev pub IsLast : Scale → ℕ → ℕ → Type 0
IsLast scale time last = (k : ℕ) → k < 2 ^ 64 → ((k ≤ last) ↔ (k * step_of scale ≤ time))

-- the first clock that a moment allows: that of the number, or the first at or above the time, where there is a scale
unfoldable pub first_bound : Option Scale → Moment → Option Bound
first_bound scale (moments.Clock clock) = Some (bounds.Clock clock)
first_bound None (moments.Time count unit) = None
first_bound (Some scale) (moments.Time count unit) = Some (bounds.Time (steps_from scale (time_of count unit)))

-- the last clock that a moment allows: that of the number, or the last at or below the time, where there is a scale
unfoldable pub last_bound : Option Scale → Moment → Option Bound
last_bound scale (moments.Clock clock) = Some (bounds.Clock clock)
last_bound None (moments.Time count unit) = None
last_bound (Some scale) (moments.Time count unit) = Some (bounds.Time (steps_up_to scale (time_of count unit)))

-- where a part begins: exactly at a clock, at a quiet one, or where every line is known
unfoldable pub begin_in : Option Scale → Option Moment → Option Moment → ℕ → Option Begin
begin_in scale (Some at) from quiet = option_map (λ b. begins.At b) (first_bound scale at)
begin_in scale None (Some from) quiet = option_map (λ b. begins.Quiet b quiet) (first_bound scale from)
begin_in scale None None quiet = Some begins.Known

-- the last clock that may be judged, where one is named
unfoldable pub end_in : Option Scale → Option Moment → Option (Option Bound)
end_in scale None = Some None
end_in scale (Some to) = option_map (λ b. Some b) (last_bound scale to)

-- the part that the words name, in steps of this scale; none where they name a time and there is no scale
unfoldable pub part_in : Option Scale → Words → Option Part
part_in scale words =
    option_and_then (λ begin. option_map (λ to. record { begin = begin; to = to }) (end_in scale words.to))
    (begin_in scale words.at words.from words.quiet)
