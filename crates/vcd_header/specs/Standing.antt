-- What a header reader stands for, and what it answers.
use Rattle.std.specs.Prelude.{◌≡◌, ℕ, Bool, true, false, is_some, List, Option, Some, None, Result, Ok, Err}
use Rattle.vcd_grammar.specs.declared.fault.VcdFault.{VcdFault}
use Rattle.vcd_way.specs.Declarations.{DumpSection, Declaration}
use Rattle.vcd_way.specs.Ways.{ValueRules}
use Rattle.vcd_way.specs.Steps.{DumpState}
use Rattle.vcd_cut.specs.Standing.{Stands as CutterStands}
use Rattle.vcd_header.specs.declared.rules.HeaderRules.{HeaderRules}
use Rattle.vcd_header.specs.declared.stop.HeaderStop.{HeaderStop}
use Rattle.vcd_header.specs.declared.stop.HeaderStop.TheVariants as stops
use Rattle.vcd_header.specs.declared.reader.HeaderReader.{HeaderReader}
use Rattle.vcd_header.specs.Told.{state_told, declarations_told, sections_told, is_over}
use Rattle.vcd_header.specs.Gathering.{FitsRules, gathered_so_far}

-- what the reader has refused with, if it has
abbrev pub refusal_of : HeaderReader → Option HeaderStop
refusal_of r = r.refused

-- the rules by which it reads
abbrev pub rules_of : HeaderReader → HeaderRules
rules_of r = r.gathered.rules

-- the declarations that it has gathered
abbrev pub declared_of : HeaderReader → List Declaration
declared_of r = declarations_told r.gathered.declared.items

-- the sections that it has gathered
abbrev pub remarks_of : HeaderReader → List DumpSection
remarks_of r = sections_told r.gathered.remarks.items

-- the header is over
abbrev pub is_over_of : HeaderReader → Bool
is_over_of r = is_over r.gathered.stage

-- a fault is one in the header
abbrev pub IsApart : HeaderReader → Type 0
IsApart r = is_some r.gathered.fault ≡ true → is_over_of r ≡ false

-- it has gathered what is known there
abbrev pub Tells : HeaderReader → DumpState (List Declaration) → Type 0
Tells r s = state_told r.gathered ≡ s

-- it has read these bytes, the first ones of a text
pub record Reads (r : HeaderReader) (fed : List ℕ) : Type 0 where
  pub cutter : CutterStands r.cutter fed
  pub gathered : (m : ValueRules) → FitsRules m r.gathered.rules → Tells r (gathered_so_far m fed)

-- the same, where they show no fault
pub record Works (r : HeaderReader) (fed : List ℕ) : Type 0 where
  pub reads : Reads r fed
  pub faultless : r.gathered.fault ≡ None

-- the reader stands for the bytes that it was fed; once it has refused, for any
pub record Stands (r : HeaderReader) (fed : List ℕ) : Type 0 where
  pub works : refusal_of r ≡ None → Works r fed

-- what was answered is this fault, or Ok where there is none; want of memory may come at any time
abbrev pub Answers : {X : Type 0} → Result X HeaderStop → Option VcdFault → Type 0
Answers (Ok x) fault = fault ≡ None
Answers (Err stops.Memory) fault = Unit {0}
Answers (Err (stops.Bad f)) fault = fault ≡ Some f

-- the refusal that was answered, if one was
abbrev pub refusal_in : {X : Type 0} → Result X HeaderStop → Option HeaderStop
refusal_in (Ok x) = None
refusal_in (Err e) = Some e
