-- What the values of a value reader say.
use Rattle.std.specs.Prelude.{◌≡◌, ℕ, ◌++◌, false, List, [], map}
use Rattle.vcd_grammar.specs.Tokens.{Token}
use Rattle.vcd_way.specs.Ways.{ValueRules, Way}
use Rattle.vcd_way.specs.Steps.{Spot, AtValues, AtCode, AtOtherCode, InRemark, DumpState, Step}
use Rattle.vcd_way.specs.Events.{DumpEvent}
use Rattle.vcd_course.specs.Told.{event_told, rules_of, late_of, open_told}
use Rattle.vcd_course.specs.Opening.{OpenPiece, after_happenings, told_in}
use Rattle.vcd_course.specs.declared.event.CourseEvent.{CourseEvent}
use Rattle.vcd_course.specs.declared.course.Course.{Course}
use Rattle.vcd_scan.specs.Digits.{digit_by}
use Rattle.vcd_scan.specs.Erased.{section_from, remarks_from, erased}
use Rattle.vcd_scan.specs.Wired.{Wiring, wired, wires_told}
use Rattle.vcd_scan.specs.declared.machine.Place.{Place}
use Rattle.vcd_scan.specs.declared.machine.Place.TheVariants as places
use Rattle.vcd_scan.specs.declared.machine.ScanRules.{ScanRules}
use Rattle.vcd_scan.specs.declared.machine.Machine.{Machine}

-- the rules of values by which a machine reads
abbrev pub values_by : ScanRules → Course → ValueRules
values_by r c = record {
  digit = digit_by r.has_wide_digits;
  takes_any = r.takes_any;
  widest = 0;
  edge = (rules_of c).edge;
  takes_first = (rules_of c).takes_first;
  late = late_of c;
  skips_preface = false;
  tells_holes = r.tells_holes;
  ends_early = r.ends_early;
}

-- the same, of a machine
abbrev pub rules_in : Machine → ValueRules
rules_in m = values_by m.rules m.course

-- where the next token stands
abbrev pub spot_told : Place → List ℕ → Spot
spot_told places.Values digits = AtValues
spot_told (places.Code from) digits = AtCode from digits
spot_told (places.OtherCode from) digits = AtOtherCode from
spot_told (places.Remark from heard) digits = InRemark (section_from from heard)

-- what is known, with what is kept of sections
abbrev pub state_told : Machine → DumpState Wiring
state_told m = record {
  fault = m.fault;
  spot = spot_told m.spot m.digits.items;
  path = [];
  header = wires_told m.wires;
  time = m.time;
  is_off = m.is_off;
  remarks = remarks_from m.limit;
}

-- the block that stands open
abbrev pub open_in : Machine → OpenPiece
open_in m = open_told m.course

-- events
abbrev pub events_told : List CourseEvent → List DumpEvent
events_told es = map event_told es

-- the way by which a machine reads
abbrev pub way_in : Machine → Way Wiring
way_in m = wired (rules_in m)

-- a token
abbrev pub token_at : ℕ → List ℕ → Token
token_at place word = record { place = place; word = word }

-- what is known is what the step leaves
abbrev pub Becomes : Machine → Machine → Step Wiring → Type 0
Becomes old new y = state_told new ≡ y.state

-- the same, with what is kept of sections
abbrev pub Leaves : Machine → Machine → Step Wiring → Type 0
Leaves old new y = state_told new ≡ erased y.state

-- the block that stands open is what the step makes of the one before
abbrev pub Opens : Machine → Machine → Step Wiring → Type 0
Opens old new y = open_in new ≡ after_happenings (open_in old) y.happenings

-- what the step tells was put behind what was told
abbrev pub Tells : Machine → Machine → Step Wiring → Type 0
Tells old new y =
    events_told new.told.items
    ≡ events_told old.told.items ++ told_in (rules_in old) (open_in old) y.happenings
