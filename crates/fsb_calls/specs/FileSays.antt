-- What was read of the file of a call, and what it is, by the form of the words.
use Rattle.std.specs.Prelude.{◌≤◌, ℕ, List, Option, Some, length}
use Rattle.fsb_command.specs.Form.{Form, run, ask, gen}
use Rattle.fsb_script.specs.Drafts.{FirstBad}
use Rattle.fsb_script.specs.declared.fault.ScriptFault.{ScriptFault}
use Rattle.fsb_signal.specs.declared.marks.Marks.{Marks}
use Rattle.fsb_signal.specs.declared.sample.Sample.{Sample}
use Rattle.fsb_watch.specs.Watched.{IsBegunOrStays}
use Rattle.vcd_grammar.specs.declared.fault.VcdFault.{VcdFault}
use Rattle.vcd_grammar.specs.Reading.{Reads}
use Rattle.fsb_top.specs.FileRead.{FileKind, HasReadAll, HasReadAtMost, HasReadPast}
use Rattle.fsb_top.specs.FileRead.{HasReadTooMuch, IsFaultOfDump, bench_file, dump_in_pieces}
use Rattle.fsb_top.specs.FileRead.{DumpKind, file_of, in_pieces, kept_whole, most_read}
use Rattle.fsb_top.specs.FileRead.{whole_dump, sample_limit}
use Rattle.fsb_top.specs.Looks.{look_at}
use Rattle.fsb_top.specs.declared.status.Status.{Status}
use Rattle.fsb_calls.specs.StatusSays.{TellsVerdict, TellsFinding}

-- all of the file under this name was read, and it is within the limits of its kind; it is the dump of this trace, with
-- these marks, and the status tells of them what it is to tell
pub record HasLookedAs (kind : FileKind) (tells : Status → Marks → List Sample → Type 0) (status : Status)
    (name held left : List ℕ) (begun_as : Option (List ℕ))
    : Type 0 where
  pub read : HasReadAll kind name held left begun_as
  pub marks : Marks
  pub trace : List Sample
  pub reads : Reads held marks trace
  pub few : length trace ≤ sample_limit kind
  pub told : tells status marks trace

-- a check: the status is that of the verdict
abbrev pub HasVerdict : Status → List ℕ → List ℕ → List ℕ → Option (List ℕ) → Type 0
HasVerdict = HasLookedAs dump_in_pieces TellsVerdict

-- an audit: the status is that of what is found first
abbrev pub HasFinding : Status → List ℕ → List ℕ → List ℕ → Option (List ℕ) → Type 0
HasFinding = HasLookedAs dump_in_pieces TellsFinding

-- a table: the status is that of the verdict
abbrev pub HasTable : Status → List ℕ → List ℕ → List ℕ → Option (List ℕ) → Type 0
HasTable = HasLookedAs whole_dump TellsVerdict

-- a search, or a wave: the status tells of the trace what it is to tell
abbrev pub HasLooked : (Status → List Sample → Type 0)
    → Status → List ℕ → List ℕ → List ℕ → Option (List ℕ) → Type 0
HasLooked tells = HasLookedAs dump_in_pieces (λ status marks trace. tells status trace)

-- all of the file under this name was read, and it is no bench file, with this first fault
pub record IsBadBench (name held left : List ℕ) (begun_as : Option (List ℕ)) (fault : ScriptFault)
    : Type 0 where
  pub read : HasReadAll bench_file name held left begun_as
  pub is_bad : FirstBad held fault

-- all of the file under this name was read, and it is no dump, with this first fault, as a command tells it that reads
-- such a file
pub record IsBadAs (kind : FileKind) (name held left : List ℕ) (begun_as : Option (List ℕ)) (fault : VcdFault)
    : Type 0 where
  pub read : HasReadAll kind name held left begun_as
  pub is_bad : IsFaultOfDump kind held fault

-- so of a dump that is read in pieces
abbrev pub IsBadDump : List ℕ → List ℕ → List ℕ → Option (List ℕ) → VcdFault → Type 0
IsBadDump = IsBadAs dump_in_pieces

-- so of a dump that is kept whole
abbrev pub IsBadTable : List ℕ → List ℕ → List ℕ → Option (List ℕ) → VcdFault → Type 0
IsBadTable = IsBadAs whole_dump

-- what an answer about the file says, by the form of the words; nothing where they have none
abbrev pub FromRun : Option Form → (List ℕ → Type 0) → Type 0
FromRun (Some (run bench dump)) P = P bench
FromRun _ P = ⊥

-- the one of what reads a dump in pieces, or the other of what keeps it whole
abbrev pub OfKind : DumpKind → Type 0 → Type 0 → Type 0
OfKind in_pieces P Q = P
OfKind kept_whole P Q = Q

-- the same of the words of a command that only reads a dump: `P` of one that reads it in pieces, `Q` of one that keeps it whole
abbrev pub FromLook : Option Form → (List ℕ → Type 0) → (List ℕ → Type 0) → Type 0
FromLook (Some (ask dump asked)) P Q = OfKind (look_at asked).kind (P dump) (Q dump)
FromLook _ P Q = ⊥

-- what was read of a file that is too long, by the form of the words
abbrev pub HasReadTooLong : Form → List ℕ → List ℕ → Option (List ℕ) → Type 0
HasReadTooLong (run bench dump) held left begun_as = HasReadPast 4194304 bench held left begun_as
HasReadTooLong (ask dump asked) held left begun_as =
    HasReadTooMuch (file_of (look_at asked).kind) dump held left begun_as
HasReadTooLong (gen seed agents items) held left begun_as = ⊥

-- what was read of the file that the words name, where memory lacked once it was opened: at most one byte past the
-- limit; of a bench file no byte past it
abbrev pub HasReadSome : Form → List ℕ → List ℕ → Option (List ℕ) → Type 0
HasReadSome (run bench dump) held left begun_as = HasReadAtMost 4194304 bench held left begun_as
HasReadSome (ask dump asked) held left begun_as =
    HasReadAtMost (most_read (file_of (look_at asked).kind)) dump held left begun_as
HasReadSome (gen seed agents items) held left begun_as = ⊥

-- the source that failed was begun under the name of the words, or could not be begun, and then neither its name nor
-- what is left of it changed
abbrev pub HasBegunNoOther : Form → Option (List ℕ) → Option (List ℕ) → List ℕ → List ℕ → Type 0
HasBegunNoOther (run bench dump) was_begun_as begun_as before left =
    IsBegunOrStays bench was_begun_as begun_as before left
HasBegunNoOther (ask dump asked) was_begun_as begun_as before left =
    IsBegunOrStays dump was_begun_as begun_as before left
HasBegunNoOther (gen seed agents items) was_begun_as begun_as before left = ⊥
