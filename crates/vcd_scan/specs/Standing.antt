-- What a value reader stands for, and what it answers.
use Rattle.std.specs.Prelude.{◌≡◌, ℕ, List, ◌++◌, length, Option, Some, None, Result, Ok, Err}
use Rattle.vcd_grammar.specs.declared.fault.VcdFault.{VcdFault}
use Rattle.vcd_grammar.specs.Tokens.{Token, tokens_from, open_run, ended_at}
use Rattle.vcd_way.specs.Ways.{ValueRules}
use Rattle.vcd_way.specs.Steps.{unknown_from_here, DumpState, state_after, happenings_in}
use Rattle.vcd_way.specs.Events.{DumpEvent}
use Rattle.vcd_way.specs.Answers.{fault_at_end}
use Rattle.vcd_cut.specs.Standing.{Stands as CutterStands}
use Rattle.vcd_course.specs.Opening.{OpenPiece, first_open, after_happenings, ended_in, told_in}
use Rattle.vcd_scan.specs.declared.stop.ScanStop.{ScanStop}
use Rattle.vcd_scan.specs.declared.stop.ScanStop.TheVariants as stops
use Rattle.vcd_scan.specs.declared.reader.ValueReader.{ValueReader}
use Rattle.vcd_scan.specs.Wired.{Wiring, wired, wires_told}
use Rattle.vcd_scan.specs.Begun.{begun}
use Rattle.vcd_scan.specs.Erased.{erased}
use Rattle.vcd_scan.specs.Limits.{first_limit}
use Rattle.vcd_scan.specs.Lined.{stamps_in, AreLined}
use Rattle.vcd_scan.specs.Told.{rules_in, state_told, open_in, events_told}

-- ---- what the bytes after a header tell

-- the tokens that count in bytes after others
abbrev pub tokens_after : List ℕ → List ℕ → List Token
tokens_after head fed = tokens_from (length head) (open_run head) fed

-- the tokens of a text after a header
abbrev pub last_tokens_after : List ℕ → List ℕ → List Token
last_tokens_after head text = tokens_after head text ++ ended_at (length (head ++ text)) (open_run (head ++ text))

-- what is known after tokens
abbrev pub known_after : ValueRules → Wiring → List Token → DumpState Wiring
known_after m w ts = state_after (wired m) (begun w) ts

-- the block that stands open at the end of the header: the lines are unknown
abbrev pub first_open_of : Wiring → OpenPiece
first_open_of w = after_happenings first_open (unknown_from_here w.lines)

-- the block that stands open after tokens
abbrev pub open_after : ValueRules → Wiring → List Token → OpenPiece
open_after m w ts = after_happenings (first_open_of w) (happenings_in (wired m) (begun w) ts)

-- what is told in tokens, of the pieces that are over
abbrev pub told_after : ValueRules → Wiring → List Token → List DumpEvent
told_after m w ts = told_in m (first_open_of w) (happenings_in (wired m) (begun w) ts)

-- the first fault of a text that ends behind these tokens
abbrev pub fault_behind : ValueRules → Wiring → List Token → ℕ → Option VcdFault
fault_behind m w ts place =
    let s = known_after m w ts in fault_at_end s.fault s.spot place

-- what is told in all, where the last block ends too
abbrev pub all_told_after : ValueRules → Wiring → List Token → List DumpEvent
all_told_after m w ts = told_after m w ts ++ ended_in m (open_after m w ts)

-- where the first section begins that was read past in tokens and says that a limit is exceeded
abbrev pub limit_after : ValueRules → Wiring → List Token → Option ℕ
limit_after m w ts = first_limit (known_after m w ts).remarks

-- ---- the reader

-- what the reader has refused with, if it has
abbrev pub refusal_of : ValueReader → Option ScanStop
refusal_of r = r.refused

-- the rules by which it reads
abbrev pub rules_of : ValueReader → ValueRules
rules_of r = rules_in r.machine

-- the wires that it reads
abbrev pub wiring_of : ValueReader → Wiring
wiring_of r = wires_told r.machine.wires

-- what it has told and nobody took
abbrev pub events_of : ValueReader → List DumpEvent
events_of r = events_told r.machine.told.items

-- where it says that such a section begins
abbrev pub limit_of : ValueReader → Option ℕ
limit_of r = r.machine.limit

-- the events that it has told and nobody took, and the last stamp, have the lines on which the stamps lie
-- in a text that begins so
abbrev pub HasLines : ValueReader → List ℕ → Type 0
HasLines r text = AreLined text (stamps_in r.machine)

-- the machine has taken these tokens; of sections it keeps no more than `erased` does
pub record Took (r : ValueReader) (ts : List Token) : Type 0 where
  pub state : state_told r.machine ≡ erased (known_after (rules_of r) (wiring_of r) ts)
  pub opened : open_in r.machine ≡ open_after (rules_of r) (wiring_of r) ts

-- the reader has read these bytes after a header
pub record Reads (r : ValueReader) (head fed : List ℕ) : Type 0 where
  pub cutter : CutterStands r.cutter (head ++ fed)
  pub took : Took r (tokens_after head fed)
  pub lines : HasLines r (head ++ fed)

-- the same, where they show no fault
pub record Works (r : ValueReader) (head fed : List ℕ) : Type 0 where
  pub reads : Reads r head fed
  pub faultless : r.machine.fault ≡ None

-- the reader stands for the bytes that it was fed after a header; once it has refused, for any
pub record Stands (r : ValueReader) (head fed : List ℕ) : Type 0 where
  pub works : refusal_of r ≡ None → Works r head fed

-- the rules and the wires stay
pub record Keeps (old new : ValueReader) : Type 0 where
  pub rules : rules_of new ≡ rules_of old
  pub wiring : wiring_of new ≡ wiring_of old

-- what was answered is this fault, or Ok where there is none; want of memory may come at any time
abbrev pub Answers : {X : Type 0} → Result X ScanStop → Option VcdFault → Type 0
Answers (Ok x) fault = fault ≡ None
Answers (Err stops.Memory) fault = Unit {0}
Answers (Err (stops.Bad f)) fault = fault ≡ Some f

-- the refusal that was answered, if one was
abbrev pub refusal_in : {X : Type 0} → Result X ScanStop → Option ScanStop
refusal_in (Ok x) = None
refusal_in (Err e) = Some e

-- what was appended goes on from what was told before to what is told now
pub record Appends (before after old new : List DumpEvent) : Type 0 where
  pub added : List DumpEvent
  pub appended : new ≡ old ++ added
  pub complete : after ≡ before ++ added

-- what a piece appended; of want of memory nothing is said
abbrev pub AppendsBy : Result Unit ScanStop → List DumpEvent → List DumpEvent → List DumpEvent → List DumpEvent → Type 0
AppendsBy (Err stops.Memory) before after old new = Unit {0}
AppendsBy _ before after old new = Appends before after old new

-- what the reader keeps besides: the lines of stamps in the text, and the limit that is told in tokens
pub record Marks (r : ValueReader) (text : List ℕ) (m : ValueRules) (w : Wiring) (ts : List Token) : Type 0 where
  pub lines : HasLines r text
  pub limit : limit_of r ≡ limit_after m w ts

-- of want of memory nothing is said
abbrev pub UnlessMemory : {X : Type 0} → Result X ScanStop → Type 0 → Type 0
UnlessMemory (Err stops.Memory) so = Unit {0}
UnlessMemory _ so = so
