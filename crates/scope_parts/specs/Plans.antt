-- The parts that a plan asks for.
use Rattle.std.specs.Prelude.{ℕ, ◌-◌, max, Option, Some, None}
use Rattle.scope_check.specs.declared.part.Begin.TheVariants.{Quiet}
use Rattle.scope_check.specs.declared.part.Bound.{Bound}
use Rattle.scope_check.specs.declared.part.Bound.TheVariants.{Clock, Time}
use Rattle.scope_check.specs.declared.part.Part.{Part}
use Rattle.scope_parts.specs.declared.plan.Plan.{Plan}

-- the last clock that may be judged, counted from behind so many clocks of the dump; a time stays
abbrev pub to_behind : ℕ → Option Bound → Option Bound
to_behind base None = None
to_behind base (Some (Clock last)) = Some (Clock (last - base))
to_behind base (Some (Time last)) = Some (Time last)

-- what is judged of a segment behind so many clocks of the dump: from its first clock on that ends so many quiet ones, two
-- at least, up to the last clock that may be judged
abbrev pub later_part : Plan → ℕ → Part
later_part plan base = record { begin = Quiet (Clock 0) (max plan.quiet 2); to = to_behind base plan.first.to }
