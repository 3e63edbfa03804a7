-- What was read of the file that the words of a call name, and what stops a call.
use Rattle.std.specs.Prelude.{◌≡◌, ◌≤◌, ◌<◌, ◌-◌, ◌+◌, ◌^◌, ◌⊎◌, ℕ, IsTrue, List, [], drop, length}
use Rattle.std.specs.Prelude.{Option, Some}
use Rattle.fsb_io.specs.Faults.{Rose}
use Rattle.fsb_io.specs.Takes.{TakesAtMost}
use Rattle.fsb_io.specs.declared.source.Source.{Ghosts}
use Rattle.fsb_script.specs.Drafts.{FirstBad}
use Rattle.fsb_script.specs.declared.fault.ScriptFault.{ScriptFault}
use Rattle.fsb_show.specs.ShownDump.{IsLongDump}
use Rattle.fsb_top.specs.declared.status.Status.{Status}
use Rattle.fsb_top.specs.declared.status.Status.TheVariants.{BadBench, BadDump, ReadFault}
use Rattle.fsb_top.specs.declared.status.Status.TheVariants.{OutOfMemory, TooLong}
use Rattle.fsb_watch.specs.Watched.{IsBad, IsBegunOrStays, HasManySamples}
use Rattle.vcd_grammar.specs.declared.fault.VcdFault.{VcdFault}
use Rattle.vcd_grammar.specs.Reading.{FirstFault}

-- what a command reads
pub data FileKind : Type 0 where
  -- a bench file
  bench_file : FileKind
  -- a dump, in pieces
  dump_in_pieces : FileKind
  -- a dump that is kept whole
  whole_dump : FileKind

-- how a command reads the dump that it looks at
pub data DumpKind : Type 0 where
  in_pieces : DumpKind
  kept_whole : DumpKind

abbrev pub file_of : DumpKind → FileKind
file_of in_pieces = dump_in_pieces
file_of kept_whole = whole_dump

-- the most bytes that it may have
abbrev pub byte_limit : FileKind → ℕ
byte_limit bench_file = 4194304
byte_limit dump_in_pieces = 2 ^ 40
byte_limit whole_dump = 268435456

-- the most samples that a dump may have
abbrev pub sample_limit : FileKind → ℕ
sample_limit bench_file = 0
sample_limit dump_in_pieces = 2 ^ 32 - 1
sample_limit whole_dump = 200000

-- it has more samples than that
abbrev pub HasTooManySamples : FileKind → List ℕ → Type 0
HasTooManySamples bench_file held = ⊥
HasTooManySamples dump_in_pieces held = HasManySamples held
HasTooManySamples whole_dump held = IsLongDump held

-- the most bytes that were read of it where memory lacked
abbrev pub most_read : FileKind → ℕ
most_read bench_file = 4194304
most_read dump_in_pieces = 2 ^ 40 + 1
most_read whole_dump = 268435456 + 1

-- all of the file under this name was read, and it is within the limit of bytes
pub record HasReadAll (kind : FileKind) (name held left : List ℕ) (begun_as : Option (List ℕ))
    : Type 0 where
  pub named : begun_as ≡ Some name
  pub short : length held ≤ byte_limit kind
  pub all : left ≡ []

-- the file under this name is longer than the limit, and was read to one byte past it
pub record HasReadPast (limit : ℕ) (name held left : List ℕ) (begun_as : Option (List ℕ))
    : Type 0 where
  pub named : begun_as ≡ Some name
  pub long : limit < length held
  pub rest : left ≡ drop (limit + 1) held

-- the file under this name was opened, and of what it holds at most so many bytes were read
pub record HasReadAtMost (most : ℕ) (name held left : List ℕ) (begun_as : Option (List ℕ))
    : Type 0 where
  pub named : begun_as ≡ Some name
  pub taken : TakesAtMost most held left

-- it is too long: it was read to one byte past the limit, or whole and has too many samples
abbrev pub HasReadTooMuch : FileKind → List ℕ → List ℕ → List ℕ → Option (List ℕ) → Type 0
HasReadTooMuch kind name held left begun_as =
    HasReadPast (byte_limit kind) name held left begun_as
    ⊎ (HasReadAll kind name held left begun_as × HasTooManySamples kind held)

-- it is longer than such a file may be, or has more samples
abbrev pub IsTooLongFor : FileKind → List ℕ → Type 0
IsTooLongFor kind held = (byte_limit kind < length held) ⊎ HasTooManySamples kind held

-- it is no bench file, and this is its first fault
abbrev pub IsFaultOfBench : FileKind → List ℕ → ScriptFault → Type 0
IsFaultOfBench bench_file held fault = FirstBad held fault
IsFaultOfBench dump_in_pieces held fault = ⊥
IsFaultOfBench whole_dump held fault = ⊥

-- it is no dump, and this is its first fault
abbrev pub IsFaultOfDump : FileKind → List ℕ → VcdFault → Type 0
IsFaultOfDump bench_file held fault = ⊥
IsFaultOfDump dump_in_pieces held fault = IsBad held fault
IsFaultOfDump whole_dump held fault = FirstFault held fault

-- it is to be a dump
abbrev pub IsDumpKind : FileKind → Type 0
IsDumpKind bench_file = ⊥
IsDumpKind dump_in_pieces = Unit {0}
IsDumpKind whole_dump = Unit {0}

module _ {S : Type 0} (source : Ghosts S) (kind : FileKind) (name : List ℕ) (was now : S) where
  -- all of the file was read
  abbrev pub IsReadAll : Type 0
  IsReadAll = HasReadAll kind name (source.holds was) (source.left now) (source.begun_as now)

  -- the call was stopped before it looked at a trace or began a run: the source failed, the file is
  -- too long or has a first fault, or memory lacked. No other status is of such a call
  abbrev pub IsStopped : Status → Type 0
  IsStopped ReadFault = Rose (source.faults was) (source.faults now)
      × (IsTrue source.tells → IsBegunOrStays name (source.begun_as was) (source.begun_as now)
      (source.left was) (source.left now))
  IsStopped TooLong = IsTrue source.tells
      → HasReadTooMuch kind name (source.holds was) (source.left now) (source.begun_as now)
  IsStopped OutOfMemory = IsTrue source.tells → HasReadAtMost (most_read kind) name
      (source.holds was) (source.left now) (source.begun_as now)
  IsStopped (BadBench fault) = (kind ≡ bench_file)
      × (IsTrue source.tells → IsReadAll × IsFaultOfBench kind (source.holds was) fault)
  IsStopped (BadDump fault) = IsDumpKind kind
      × (IsTrue source.tells → IsReadAll × IsFaultOfDump kind (source.holds was) fault)
  IsStopped _ = ⊥
