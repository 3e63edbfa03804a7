-- What the statuses of a call say by themselves: which are behind a run, which behind what stopped it, and what they tell.
use Rattle.std.proofs.Common.{◌≡◌, ◌≢◌, ℕ, IsTrue, List, Option, Some, None, Result, Ok, Err, inl, inr, is_some, refl, subst, sym}
use Rattle.std.proofs.Common.{true}
use Rattle.fsb_audit.specs.declared.finding.Finding.{Finding}
use Rattle.fsb_audit.specs.declared.finding.Finding.TheVariants as findings
use Rattle.fsb_audit.specs.Fouls.{finding_of}
use Rattle.fsb_audit_dump.specs.Audited.{audited_as}
use Rattle.fsb_io.specs.declared.source.Source.{Ghosts as SourceGhosts}
use Rattle.fsb_report.specs.VerdictText.{trace_text}
use Rattle.fsb_rules.specs.Checker.{as_broken}
use Rattle.fsb_rules.specs.declared.broken.Broken.{Broken}
use Rattle.fsb_rules.proofs.Interface.{as_broken-none}
use Rattle.fsb_signal.specs.declared.marks.Marks.{Marks}
use Rattle.fsb_signal.specs.declared.sample.Sample.{Sample}
use Rattle.fsb_trace.specs.Verdict.{verdict}
use Rattle.fsb_trigger.specs.Match.{least_match}
use Rattle.fsb_trigger.specs.TriggerSteps.{StepView}
use Rattle.fsb_top.proofs.Statuses.{answer_as}
use Rattle.fsb_top.specs.BenchEnds.{IsLookStop, IsOfLook, IsWritten}
use Rattle.fsb_top.specs.CallEnds.{DumpCall, IsPlayed}
use Rattle.fsb_top.specs.Looks.{Answer, Look, audit_status, broken_status, match_status, status_of}
use Rattle.fsb_top.specs.FileRead.{FileKind, IsStopped}
use Rattle.fsb_top.specs.declared.status.Status.{Status}
use Rattle.fsb_top.specs.declared.status.Status.TheVariants.{Done, Rejected, BadWords, BadBench, BadDump}
use Rattle.fsb_top.specs.declared.status.Status.TheVariants.{ReadFault, WriteFault, DumpFault, OutOfMemory}
use Rattle.fsb_top.specs.declared.status.Status.TheVariants.{TooLong, Foul, NotFound}
use Rattle.vcd_grammar.specs.declared.fault.VcdFault.{VcdFault}
use Rattle.fsb_calls.specs.StatusSays.{HasRun, IsSilent, IsTold, TellsFinding, TellsMatch, TellsVerdict}

-- no call both was stopped and came to what it is for
pub run_is_not_silent : (status : Status) → HasRun status → IsSilent status → ⊥
run_is_not_silent Done runs silent = silent
run_is_not_silent (Rejected broken) runs silent = silent
run_is_not_silent BadWords runs silent = runs
run_is_not_silent (BadBench fault) runs silent = runs
run_is_not_silent (BadDump fault) runs silent = runs
run_is_not_silent ReadFault runs silent = runs
run_is_not_silent WriteFault runs silent = silent
run_is_not_silent DumpFault runs silent = silent
run_is_not_silent OutOfMemory runs silent = runs
run_is_not_silent TooLong runs silent = runs
run_is_not_silent (Foul foul) runs silent = silent
run_is_not_silent NotFound runs silent = silent

-- ---- what a status tells of a trace

pub tells_broken : (found : Option Broken) (marks : Marks) (w : List Sample) → found ≡ as_broken (verdict marks w)
    → TellsVerdict (broken_status found) marks w
tells_broken None marks w e = as_broken-none (verdict marks w) (sym e)
tells_broken (Some broken) marks w e = sym e

pub found_nothing : (o : Option Finding) (w : List Sample) (n : ℕ) → Ok n ≡ audited_as o w → o ≡ None
unfolding audited_as
found_nothing None w n e = refl
found_nothing (Some finding) w n e = absurd (let no : ⊥ = cc in no)

pub found_this : (o : Option Finding) (w : List Sample) (finding : Finding) → Err finding ≡ audited_as o w
    → o ≡ Some finding
unfolding audited_as
found_this None w finding e = absurd (let no : ⊥ = cc in no)
found_this (Some other) w finding e = cc

pub tells_found : (found : Result ℕ Finding) (marks : Marks) (w : List Sample)
    → found ≡ audited_as (finding_of marks w) w
    → TellsFinding (audit_status found) marks w
tells_found (Ok n) marks w e = found_nothing (finding_of marks w) w n e
tells_found (Err (findings.Broken broken)) marks w e = found_this (finding_of marks w) w (findings.Broken broken) e
tells_found (Err (findings.Foul foul)) marks w e = found_this (finding_of marks w) w (findings.Foul foul) e

pub tells_match : (found : Option (List ℕ)) (steps : List StepView) (w : List Sample) → found ≡ least_match steps w
    → TellsMatch steps (match_status found) w
tells_match None steps w e = sym e
tells_match (Some clocks) steps w e =
    subst (λ (f : Option (List ℕ)). IsTrue (is_some f)) e (let yes : true ≡ true = refl in yes)

-- ---- a file that stopped its call

module _ {S : Type 0} (source : SourceGhosts S) (kind : FileKind) (name : List ℕ) (was now : S) where
  pub stopped_silent : (status : Status) → IsStopped source kind name was now status → IsSilent status
  stopped_silent Done stopped = stopped
  stopped_silent (Rejected broken) stopped = stopped
  stopped_silent BadWords stopped = tt
  stopped_silent (BadBench fault) stopped = tt
  stopped_silent (BadDump fault) stopped = tt
  stopped_silent ReadFault stopped = tt
  stopped_silent WriteFault stopped = stopped
  stopped_silent DumpFault stopped = stopped
  stopped_silent OutOfMemory stopped = tt
  stopped_silent TooLong stopped = tt
  stopped_silent (Foul foul) stopped = stopped
  stopped_silent NotFound stopped = stopped

-- no answer is that the sink of what is printed failed, or that of the dump
pub answer_writes : (answer : Answer) → status_of answer ≢ WriteFault
answer_writes = answer_as (λ s. s ≢ WriteFault) (λ e. cc) (λ b e. cc) (λ f e. cc) (λ e. cc)

pub answer_dumps : (answer : Answer) → status_of answer ≢ DumpFault
answer_dumps = answer_as (λ s. s ≢ DumpFault) (λ e. cc) (λ b e. cc) (λ f e. cc) (λ e. cc)

-- nothing is said of what a call wrote that was stopped
pub unwritten : (text before held : List ℕ) (status : Status) → IsSilent status → IsWritten status text before held
unwritten text before held Done silent = absurd silent
unwritten text before held (Rejected broken) silent = absurd silent
unwritten text before held BadWords silent = tt
unwritten text before held (BadBench fault) silent = tt
unwritten text before held (BadDump fault) silent = tt
unwritten text before held ReadFault silent = tt
unwritten text before held WriteFault silent = absurd silent
unwritten text before held DumpFault silent = tt
unwritten text before held OutOfMemory silent = tt
unwritten text before held TooLong silent = tt
unwritten text before held (Foul foul) silent = absurd silent
unwritten text before held NotFound silent = absurd silent

pub told_line : (marks : Marks) (w : List Sample) (before held : List ℕ) (status : Status)
    → IsWritten status (trace_text marks w) before held → IsTold status marks w before held
told_line marks w before held Done written = written
told_line marks w before held (Rejected broken) written = written
told_line marks w before held BadWords written = tt
told_line marks w before held (BadBench fault) written = tt
told_line marks w before held (BadDump fault) written = tt
told_line marks w before held ReadFault written = tt
told_line marks w before held WriteFault written = written
told_line marks w before held DumpFault written = tt
told_line marks w before held OutOfMemory written = tt
told_line marks w before held TooLong written = tt
told_line marks w before held (Foul foul) written = tt
told_line marks w before held NotFound written = tt

-- a call that answers came to what it is for
pub answer_runs : (answer : Answer) → HasRun (status_of answer)
answer_runs = answer_as HasRun tt (λ b. tt) (λ f. tt) tt

-- what is so of each status of a look
pub stop_as : (Of : Status → Type 0) → ((f : VcdFault) → Of (BadDump f)) → Of ReadFault → Of WriteFault
    → Of OutOfMemory → Of TooLong → (status : Status) → IsLookStop status → Of status
stop_as Of bad read write memory long Done stop = absurd stop
stop_as Of bad read write memory long (Rejected broken) stop = absurd stop
stop_as Of bad read write memory long BadWords stop = absurd stop
stop_as Of bad read write memory long (BadBench fault) stop = absurd stop
stop_as Of bad read write memory long (BadDump fault) stop = bad fault
stop_as Of bad read write memory long ReadFault stop = read
stop_as Of bad read write memory long WriteFault stop = write
stop_as Of bad read write memory long DumpFault stop = absurd stop
stop_as Of bad read write memory long OutOfMemory stop = memory
stop_as Of bad read write memory long TooLong stop = long
stop_as Of bad read write memory long (Foul foul) stop = absurd stop
stop_as Of bad read write memory long NotFound stop = absurd stop

pub look_as : (Of : Status → Type 0) (look : Look) → ((f : VcdFault) → Of (BadDump f)) → Of ReadFault → Of WriteFault
    → Of OutOfMemory → Of TooLong → ((found : look.Found) → Of (status_of (look.answer found))) → (status : Status)
    → IsOfLook look status → Of status
look_as Of look bad read write memory long answers status (inl stop) =
    stop_as Of bad read write memory long status stop
look_as Of look bad read write memory long answers status (inr found) =
    subst Of (sym found.1) (answers found.0)

-- a run that was made came to what it is for
module _ (Failed : Type 0) (dump : DumpCall) (name : Option (List ℕ)) where
  pub played_runs : (status : Status) → IsPlayed Failed dump name status → HasRun status
  played_runs Done played = tt
  played_runs WriteFault played = tt
  played_runs DumpFault played = tt
  played_runs (Rejected broken) played = tt
  played_runs BadWords played = played
  played_runs (BadBench fault) played = played
  played_runs (BadDump fault) played = played
  played_runs ReadFault played = played
  played_runs OutOfMemory played = played
  played_runs TooLong played = played
  played_runs (Foul foul) played = tt
  played_runs NotFound played = tt
