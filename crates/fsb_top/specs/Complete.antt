-- When a call does all that its words ask for.
use Rattle.std.specs.Prelude.{◌≤◌, ◌-◌, ◌^◌, ℕ, List, length}
use Rattle.fsb_command.specs.Form.{Form, run, ask, gen}
use Rattle.fsb_script.specs.Drafts.{BenchText, FirstBad}
use Rattle.fsb_script.specs.Plans.{PlanView}
use Rattle.fsb_script.specs.declared.fault.ScriptFault.{ScriptFault}
use Rattle.fsb_signal.specs.declared.marks.Marks.{Marks}
use Rattle.fsb_signal.specs.declared.sample.Sample.{Sample}
use Rattle.fsb_watch.specs.Watched.{IsBad}
use Rattle.vcd_grammar.specs.declared.fault.VcdFault.{VcdFault}
use Rattle.vcd_grammar.specs.Reading.{FirstFault, Reads}
use Rattle.fsb_top.specs.FileRead.{DumpKind, in_pieces, kept_whole}
use Rattle.fsb_top.specs.Looks.{look_at}
use Rattle.fsb_top.specs.declared.status.Status.{Status}
use Rattle.fsb_top.specs.declared.status.Status.TheVariants.{Done, Rejected, BadWords, BadBench, BadDump, ReadFault, WriteFault, DumpFault, OutOfMemory, TooLong, Foul, NotFound}

-- the text is a bench file within the limit
pub record IsBenchFile (held : List ℕ) : Type 0 where
  pub short : length held ≤ 4194304
  pub plan : PlanView
  pub is_bench : BenchText held plan

-- the text has at most so many bytes, and is a dump of at most so many samples
pub record IsDumpWithin (bytes samples : ℕ) (held : List ℕ) : Type 0 where
  pub short : length held ≤ bytes
  pub marks : Marks
  pub trace : List Sample
  pub reads : Reads held marks trace
  pub few : length trace ≤ samples

-- the text is a dump within the limits of a command that reads it so
abbrev pub IsReadableDump : DumpKind → List ℕ → Type 0
IsReadableDump in_pieces held = IsDumpWithin (2 ^ 40) (2 ^ 32 - 1) held
IsReadableDump kept_whole held = IsDumpWithin 268435456 200000 held

-- the text is what a command of this form reads, within its limits; a plan that is made from a seed needs none
abbrev pub IsReadable : Form → List ℕ → Type 0
IsReadable (run bench dump) held = IsBenchFile held
IsReadable (ask dump asked) held = IsReadableDump (look_at asked).kind held
IsReadable (gen seed agents items) held = Unit {0}

-- the text is within the limit of bytes and is no bench file, with this first fault
pub record IsFaultyBench (held : List ℕ) : Type 0 where
  pub short : length held ≤ 4194304
  pub fault : ScriptFault
  pub is_first : FirstBad held fault

-- the text is within the limit of bytes and is no dump; a command that reads it in pieces has decided no more than
-- 2^32 - 1 samples before its first fault
pub record IsFaultyPieces (held : List ℕ) : Type 0 where
  pub short : length held ≤ 2 ^ 40
  pub fault : VcdFault
  pub is_bad : IsBad held fault

-- the same of a dump that is kept whole
pub record IsFaultyWhole (held : List ℕ) : Type 0 where
  pub short : length held ≤ 268435456
  pub fault : VcdFault
  pub is_first : FirstFault held fault

-- the text is no dump, as a command tells it that reads it so
abbrev pub IsFaultyDump : DumpKind → List ℕ → Type 0
IsFaultyDump in_pieces held = IsFaultyPieces held
IsFaultyDump kept_whole held = IsFaultyWhole held

-- the text is within the limits, and has a first fault of which a command of this form tells
abbrev pub IsFaulty : Form → List ℕ → Type 0
IsFaulty (run bench dump) held = IsFaultyBench held
IsFaulty (ask dump asked) held = IsFaultyDump (look_at asked).kind held
IsFaulty (gen seed agents items) held = ⊥

-- the call did all that its words ask for, or lacked memory
abbrev pub IsComplete : Status → Type 0
IsComplete Done = Unit {0}
IsComplete (Rejected broken) = Unit {0}
IsComplete (Foul foul) = Unit {0}
IsComplete NotFound = Unit {0}
IsComplete OutOfMemory = Unit {0}
IsComplete BadWords = ⊥
IsComplete (BadBench fault) = ⊥
IsComplete (BadDump fault) = ⊥
IsComplete ReadFault = ⊥
IsComplete WriteFault = ⊥
IsComplete DumpFault = ⊥
IsComplete TooLong = ⊥
