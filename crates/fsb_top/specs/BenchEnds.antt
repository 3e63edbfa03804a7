-- What a call of `bench` leaves behind, by its status, and in which statuses each command may end.
use Rattle.std.specs.Prelude.{◌≡◌, ◌≢◌, ◌<◌, ◌⊎◌, ◌++◌, ℕ, List, Option, Some, None, length}
use Rattle.fsb_command.specs.Form.{Form, run, ask, gen}
use Rattle.fsb_hazard.specs.Told.{Told}
use Rattle.fsb_io.specs.Appends.{AppendsPart}
use Rattle.fsb_play.specs.RunOf.{IsRunOf}
use Rattle.fsb_play.specs.Writing.{HasDump, HasDumpPart}
use Rattle.fsb_script.specs.Drafts.{BenchText}
use Rattle.fsb_script.specs.Plans.{PlanView}
use Rattle.fsb_timely.specs.Runs.{Run}
use Rattle.fsb_top.specs.FileRead.{HasReadAll, IsTooLongFor, bench_file, file_of}
use Rattle.fsb_top.specs.Looks.{Look, look_at, status_of}
use Rattle.fsb_top.specs.declared.status.Status.{Status}
use Rattle.fsb_top.specs.declared.status.Status.TheVariants.{Done, Rejected, BadWords, BadBench}
use Rattle.fsb_top.specs.declared.status.Status.TheVariants.{BadDump, ReadFault, WriteFault}
use Rattle.fsb_top.specs.declared.status.Status.TheVariants.{DumpFault, OutOfMemory, TooLong, Foul}
use Rattle.fsb_top.specs.declared.status.Status.TheVariants.{NotFound}

-- the sink of the log has the text of the run behind what it held, or a first part of it where it failed
abbrev pub IsLogged : Status → List ℕ → List ℕ → List ℕ → Type 0
IsLogged Done text before held = held ≡ before ++ text
IsLogged DumpFault text before held = held ≡ before ++ text
IsLogged WriteFault text before held = AppendsPart text before held
IsLogged _ text before held = Unit {0}

-- the sink of the dump, where it has a name, was begun under it and has the dump of the run; where it failed it has a
-- first part of that, or is as it was
abbrev pub IsDumped : Status → List ℕ → Option (List ℕ) → List ℕ → Option (List ℕ) → List ℕ
    → Option (List ℕ) → Type 0
IsDumped Done text name before was_begun_as held begun_as = HasDump text name held begun_as
IsDumped DumpFault text name before was_begun_as held begun_as =
    HasDumpPart text name before was_begun_as held begun_as
IsDumped _ text name before was_begun_as held begun_as = Unit {0}

-- a check, or the table of a dump, ends in one of these
abbrev pub IsOfCheck : Status → Type 0
IsOfCheck Done = Unit {0}
IsOfCheck (Rejected broken) = Unit {0}
IsOfCheck (BadDump fault) = Unit {0}
IsOfCheck ReadFault = Unit {0}
IsOfCheck WriteFault = Unit {0}
IsOfCheck OutOfMemory = Unit {0}
IsOfCheck TooLong = Unit {0}
IsOfCheck DumpFault = ⊥
IsOfCheck BadWords = ⊥
IsOfCheck (BadBench fault) = ⊥
IsOfCheck (Foul foul) = ⊥
IsOfCheck NotFound = ⊥

-- a run ends in one of these
abbrev pub IsOfRun : Status → Type 0
IsOfRun Done = Unit {0}
IsOfRun (BadBench fault) = Unit {0}
IsOfRun ReadFault = Unit {0}
IsOfRun WriteFault = Unit {0}
IsOfRun DumpFault = Unit {0}
IsOfRun OutOfMemory = Unit {0}
IsOfRun TooLong = Unit {0}
IsOfRun (Rejected broken) = ⊥
IsOfRun (BadDump fault) = ⊥
IsOfRun BadWords = ⊥
IsOfRun (Foul foul) = ⊥
IsOfRun NotFound = ⊥

-- the run of a plan that is made ends in one of these
abbrev pub IsOfGen : Status → Type 0
IsOfGen Done = Unit {0}
IsOfGen WriteFault = Unit {0}
IsOfGen OutOfMemory = Unit {0}
IsOfGen _ = ⊥

-- the log's sink has the text behind what it held, or a first part of it where it failed
abbrev pub IsWritten : Status → List ℕ → List ℕ → List ℕ → Type 0
IsWritten Done text before held = held ≡ before ++ text
IsWritten NotFound text before held = held ≡ before ++ text
IsWritten (Rejected broken) text before held = held ≡ before ++ text
IsWritten (Foul foul) text before held = held ≡ before ++ text
IsWritten WriteFault text before held = AppendsPart text before held
IsWritten _ text before held = Unit {0}

-- a search ends in one of these
abbrev pub IsOfFind : Status → Type 0
IsOfFind Done = Unit {0}
IsOfFind NotFound = Unit {0}
IsOfFind (BadDump fault) = Unit {0}
IsOfFind ReadFault = Unit {0}
IsOfFind WriteFault = Unit {0}
IsOfFind OutOfMemory = Unit {0}
IsOfFind TooLong = Unit {0}
IsOfFind _ = ⊥

-- a wave ends in one of these
abbrev pub IsOfWave : Status → Type 0
IsOfWave NotFound = ⊥
IsOfWave status = IsOfFind status

-- an audit ends in one of these
abbrev pub IsOfAudit : Status → Type 0
IsOfAudit Done = Unit {0}
IsOfAudit (Rejected broken) = Unit {0}
IsOfAudit (Foul foul) = Unit {0}
IsOfAudit (BadDump fault) = Unit {0}
IsOfAudit ReadFault = Unit {0}
IsOfAudit WriteFault = Unit {0}
IsOfAudit OutOfMemory = Unit {0}
IsOfAudit TooLong = Unit {0}
IsOfAudit _ = ⊥

-- a call that looks at a dump was stopped, or its sink failed
abbrev pub IsLookStop : Status → Type 0
IsLookStop (BadDump fault) = Unit {0}
IsLookStop ReadFault = Unit {0}
IsLookStop WriteFault = Unit {0}
IsLookStop OutOfMemory = Unit {0}
IsLookStop TooLong = Unit {0}
IsLookStop _ = ⊥

-- a call that looks at a dump ends in one of these, or in the answer to what it may find
abbrev pub IsOfLook : Look → Status → Type 0
IsOfLook look status = IsLookStop status ⊎ ((found : look.Found) × (status ≡ status_of (look.answer found)))

-- how a call with words of this form may end
abbrev pub MayEnd : Option Form → Status → Type 0
MayEnd None status = (status ≡ BadWords) ⊎ (status ≡ OutOfMemory)
MayEnd (Some (run bench None)) status = IsOfRun status × (status ≢ DumpFault)
MayEnd (Some (run bench (Some dump))) status = IsOfRun status
MayEnd (Some (ask dump asked)) status = IsOfLook (look_at asked) status
MayEnd (Some (gen seed agents items)) status = IsOfGen status

-- there is one run of the plan, where objects stand that tell this, of which the call leaves behind what is said
pub record HasRunOf (told : List (Option Told)) (plan : PlanView) (Leaves : Run → Type 0)
    : Type 0 where
  pub run : Run
  pub is_run : IsRunOf told plan run
  pub leaves : Leaves run

-- all of the file under this name was read, and it is the bench file of this plan
pub record IsPlanOf (name held left : List ℕ) (begun_as : Option (List ℕ)) (plan : PlanView)
    : Type 0 where
  pub read : HasReadAll bench_file name held left begun_as
  pub is_bench : BenchText held plan

-- there is one run of a plan, of which the call leaves behind what is said; the plan is as it is said, and `told` is what
-- the objects tell once they were given the hazard lines of a plan
pub record HasRunFrom (IsPlan : PlanView → Type 0) (told : PlanView → List (Option Told))
    (Leaves : Run → Type 0)
    : Type 0 where
  pub plan : PlanView
  pub is_plan : IsPlan plan
  pub ran : HasRunOf (told plan) plan Leaves

-- the file is too long: a bench file has more than 4,194,304 bytes; a dump that is told as a table more than 268,435,456, or more than
-- 200,000 samples; another dump more than 2^40, or too many samples; nothing is read of a plan that is made
abbrev pub IsTooLong : Form → List ℕ → Type 0
IsTooLong (run bench dump) held = 4194304 < length held
IsTooLong (ask dump asked) held = IsTooLongFor (file_of (look_at asked).kind) held
IsTooLong (gen seed agents items) held = ⊥
