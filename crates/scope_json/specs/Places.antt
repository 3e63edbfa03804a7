-- Where a clock stands in a dump.
use Rattle.std.specs.Prelude.{◌*◌, ◌<◌, ◌^◌, ℕ, nat_lt, if◌then◌else◌, List, Option, Some, None, codes}
use Rattle.serde_json.specs.Data.{Data, null, object, string, Members, no_members, put}
use Rattle.reason_facts.specs.Values.{count, with_count}
use Rattle.scope_time.specs.Scales.{factor_of}
use Rattle.scope_time.specs.declared.scale.Scale.{Scale}
use Rattle.scope_words.specs.declared.moment.Unit.{Unit}
use Rattle.scope_words.specs.declared.moment.Unit.TheVariants as units
use Rattle.vcd_course.specs.declared.event.Stamp.{Stamp}

-- the name of a unit
abbrev pub unit_name : Unit → List ℕ
unit_name units.Second = codes "s"
unit_name units.Millisecond = codes "ms"
unit_name units.Microsecond = codes "us"
unit_name units.Nanosecond = codes "ns"
unit_name units.Picosecond = codes "ps"
unit_name units.Femtosecond = codes "fs"

-- a time in units of a scale, or null where it has more than 64 bits
abbrev pub time_in : ℕ → Data
time_in time = if nat_lt time (2 ^ 64) then count time else null

-- with the time of a step in the unit of the dump's scale, and that unit; null without a scale
unfoldable pub with_time : Option Scale → ℕ → Members → Members
with_time None step ms = put (codes "unit") null (put (codes "time") null ms)
with_time (Some scale) step ms =
    put (codes "unit") (string (unit_name scale.unit))
    (put (codes "time") (time_in (step * factor_of scale.factor)) ms)

-- with the step of a clock's edge in the dump, its time, and the line of the file; null before the first stamp
unfoldable pub with_place : Option Scale → Option Stamp → Members → Members
with_place scale None ms =
    put (codes "line") null (put (codes "step") null (put (codes "unit") null (put (codes "time") null ms)))
with_place scale (Some stamp) ms =
    with_count (codes "line") stamp.line (with_count (codes "step") stamp.time (with_time scale stamp.time ms))
