-- The samples that a judge of a part was fed.
use Rattle.std.specs.Prelude.{◌≡◌, ◌++◌, Bool, true, false}
use Rattle.fsb_signal.specs.declared.marks.Marks.{Marks}
use Rattle.fsb_trace.specs.At.{Trace}
use Rattle.fsb_rules.specs.Checker.{Stands}
use Rattle.scope_later.specs.declared.later.LaterChecker.{LaterChecker}
use Rattle.scope_later.specs.declared.part.PartChecker.{PartChecker}
use Rattle.scope_later.specs.declared.part.PartChecker.TheVariants as checkers
use Rattle.scope_later.specs.Histories.{history}

-- each of the four was made with these marks, and fed its history and these samples
pub record LaterStands (c : LaterChecker) (m : Marks) (part : Trace) : Type 0 where
  pub zero : Stands c.zero m (history 0 ++ part)
  pub one : Stands c.one m (history 1 ++ part)
  pub two : Stands c.two m (history 2 ++ part)
  pub three : Stands c.three m (history 3 ++ part)

-- the judge of a part, which begins later or doesn't, was made with these marks and fed these samples
abbrev pub PartStands : PartChecker → Bool → Marks → Trace → Type 0
PartStands (checkers.Whole c) later m part = (later ≡ false) × Stands c m part
PartStands (checkers.Later c) later m part = (later ≡ true) × LaterStands c m part
