-- The lines of stamps.
use Rattle.std.specs.Prelude.{ℕ, List, Option, IfSome}
use Rattle.std.specs.List.{All}
use Rattle.vcd_cut.specs.Standing.{IsOnLine}
use Rattle.vcd_course.specs.declared.event.Stamp.{Stamp}
use Rattle.vcd_course.specs.declared.event.CourseEvent.{CourseEvent}
use Rattle.vcd_course.specs.Told.{stamp_of}
use Rattle.vcd_scan.specs.declared.machine.Machine.{Machine}

-- a stamp has the line on which it lies in a text that begins so
abbrev pub IsLined : List ℕ → Option Stamp → Type 0
IsLined text stamp = IfSome stamp (λ s. IsOnLine text s.place s.line)

-- the last stamp, and the events that were told and not taken
pub record Stamped : Type 0 where
  pub last : Option Stamp
  pub told : List CourseEvent

-- the same, of a machine
abbrev pub stamps_in : Machine → Stamped
stamps_in m = record { last = stamp_of m.course; told = m.told.items }

-- each of their stamps has its line
pub record AreLined (text : List ℕ) (s : Stamped) : Type 0 where
  pub last : IsLined text s.last
  pub told : All (λ e. IsLined text e.stamp) s.told

-- the stamps of new have their lines where those of old have
abbrev pub Lines : Machine → Machine → Type 0
Lines old new = (text : List ℕ) → AreLined text (stamps_in old) → AreLined text (stamps_in new)

-- the same, after a token at a place on a line
abbrev pub LinesAt : ℕ → ℕ → Machine → Machine → Type 0
LinesAt place line old new =
    (text : List ℕ) → IsOnLine text place line → AreLined text (stamps_in old) → AreLined text (stamps_in new)
