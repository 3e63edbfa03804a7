-- What the values of a course say.
use Rattle.std.specs.Prelude.{◌≡◌, ℕ, Bool, true, false, List, [], ◌∷◌, Option, Some, None, option_map}
use Rattle.fsb_signal.specs.Table.{table}
use Rattle.vcd_grammar.specs.Values.{Values}
use Rattle.vcd_way.specs.Ways.{ValueRules}
use Rattle.vcd_way.specs.Pieces.{Stamp as TimeStamp, DumpSwitch, Off, On}
use Rattle.vcd_way.specs.Events.{DumpEvent, Sampled, Hole, Resumed}
use Rattle.vcd_course.specs.declared.event.Stamp.{Stamp}
use Rattle.vcd_course.specs.declared.event.Told.{Told}
use Rattle.vcd_course.specs.declared.event.Told.TheVariants as told
use Rattle.vcd_course.specs.declared.event.CourseEvent.{CourseEvent}
use Rattle.vcd_course.specs.declared.lines.Rows.{Rows}
use Rattle.vcd_course.specs.declared.course.Course.{Course}
use Rattle.vcd_course.specs.declared.course.CourseRules.{CourseRules}
use Rattle.vcd_course.specs.Opening.{OpenPiece}
use Rattle.vcd_course.specs.Lines.{values_in}

-- the digits of the lines
abbrev pub rows_told : Rows → Values
rows_told r = values_in table r.rows

-- a stamp
abbrev pub stamp_told : Stamp → TimeStamp
stamp_told s = record { time = s.time; place = s.place }

-- the last stamp
abbrev pub last_told : Option Stamp → Option TimeStamp
last_told stamp = option_map stamp_told stamp

-- the last stamp of a course, with its line
abbrev pub stamp_of : Course → Option Stamp
stamp_of c = c.stamp

-- the begin of a hole, or its end
abbrev pub switch_told : Bool → DumpSwitch
switch_told true = Off
switch_told false = On

-- an event with the last stamp
abbrev pub told_with : Told → Option TimeStamp → DumpEvent
told_with (told.Sampled sample) stamp = Sampled sample stamp
told_with told.Hole stamp = Hole stamp
told_with told.Resumed stamp = Resumed stamp

-- an event
abbrev pub event_told : CourseEvent → DumpEvent
event_told e = told_with e.told (last_told e.stamp)

-- an event, where there is one
abbrev pub event_list : Option CourseEvent → List DumpEvent
event_list None = []
event_list (Some e) = event_told e ∷ []

-- the block that stands open
abbrev pub open_told : Course → OpenPiece
open_told c = record {
  course = record { values = rows_told c.block.before; is_seen = c.is_seen };
  stamp = last_told c.stamp;
  now = rows_told c.block.inside;
}

-- when there is a sample
abbrev pub rules_of : Course → CourseRules
rules_of c = c.rules

-- the lines that are sampled after the changes of the edge's own time
abbrev pub late_of : Course → List ℕ
late_of c = c.late.items

-- the rules say when there is a sample as the course does
pub record FitsCourse (m : ValueRules) (c : Course) : Type 0 where
  pub edge : m.edge ≡ (rules_of c).edge
  pub takes_first : m.takes_first ≡ (rules_of c).takes_first
  pub late : m.late ≡ late_of c
