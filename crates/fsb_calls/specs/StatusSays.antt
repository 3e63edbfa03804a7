-- What a status says of a call, and of the trace that it looked at.
use Rattle.std.specs.Prelude.{◌≡◌, ◌⊎◌, ◌++◌, ℕ, IsTrue, List, Some, None, is_some}
use Rattle.fsb_audit.specs.declared.finding.Finding.TheVariants as findings
use Rattle.fsb_audit.specs.Fouls.{finding_of}
use Rattle.fsb_io.specs.Appends.{AppendsPart}
use Rattle.fsb_report.specs.VerdictText.{trace_text}
use Rattle.fsb_rules.specs.Checker.{as_broken}
use Rattle.fsb_signal.specs.declared.marks.Marks.{Marks}
use Rattle.fsb_signal.specs.declared.sample.Sample.{Sample}
use Rattle.fsb_trace.specs.Verdict.{verdict}
use Rattle.fsb_trigger.specs.Match.{least_match}
use Rattle.fsb_trigger.specs.TriggerSteps.{StepView}
use Rattle.fsb_top.specs.Looks.{Look, status_of}
use Rattle.fsb_top.specs.declared.status.Status.{Status}
use Rattle.fsb_top.specs.declared.status.Status.TheVariants.{Done, Rejected, BadWords, BadBench}
use Rattle.fsb_top.specs.declared.status.Status.TheVariants.{BadDump, ReadFault, WriteFault}
use Rattle.fsb_top.specs.declared.status.Status.TheVariants.{DumpFault, OutOfMemory, TooLong, Foul}
use Rattle.fsb_top.specs.declared.status.Status.TheVariants.{NotFound}

-- a call that was not stopped before its run or its check ended
abbrev pub HasRun : Status → Type 0
HasRun Done = Unit {0}
HasRun WriteFault = Unit {0}
HasRun DumpFault = Unit {0}
HasRun (Rejected broken) = Unit {0}
HasRun BadWords = ⊥
HasRun (BadBench fault) = ⊥
HasRun (BadDump fault) = ⊥
HasRun ReadFault = ⊥
HasRun OutOfMemory = ⊥
HasRun TooLong = ⊥
HasRun (Foul foul) = Unit {0}
HasRun NotFound = Unit {0}

-- a call that ended before anything was written
abbrev pub IsSilent : Status → Type 0
IsSilent Done = ⊥
IsSilent WriteFault = ⊥
IsSilent DumpFault = ⊥
IsSilent (Rejected broken) = ⊥
IsSilent BadWords = Unit {0}
IsSilent (BadBench fault) = Unit {0}
IsSilent (BadDump fault) = Unit {0}
IsSilent ReadFault = Unit {0}
IsSilent OutOfMemory = Unit {0}
IsSilent TooLong = Unit {0}
IsSilent (Foul foul) = ⊥
IsSilent NotFound = ⊥

-- the status is that of the verdict on the trace, of a dump with these marks; where the sink failed, of any
abbrev pub TellsVerdict : Status → Marks → List Sample → Type 0
TellsVerdict Done marks w = verdict marks w ≡ None
TellsVerdict (Rejected broken) marks w = as_broken (verdict marks w) ≡ Some broken
TellsVerdict WriteFault marks w = Unit {0}
TellsVerdict DumpFault marks w = ⊥
TellsVerdict BadWords marks w = ⊥
TellsVerdict (BadBench fault) marks w = ⊥
TellsVerdict (BadDump fault) marks w = ⊥
TellsVerdict ReadFault marks w = ⊥
TellsVerdict OutOfMemory marks w = ⊥
TellsVerdict TooLong marks w = ⊥
TellsVerdict (Foul foul) marks w = ⊥
TellsVerdict NotFound marks w = ⊥

-- the log's sink has the line of the verdict behind what it held, or a first part of it where it failed
abbrev pub IsTold : Status → Marks → List Sample → List ℕ → List ℕ → Type 0
IsTold Done marks w before held = held ≡ before ++ trace_text marks w
IsTold (Rejected broken) marks w before held = held ≡ before ++ trace_text marks w
IsTold WriteFault marks w before held = AppendsPart (trace_text marks w) before held
IsTold DumpFault marks w before held = Unit {0}
IsTold BadWords marks w before held = Unit {0}
IsTold (BadBench fault) marks w before held = Unit {0}
IsTold (BadDump fault) marks w before held = Unit {0}
IsTold ReadFault marks w before held = Unit {0}
IsTold OutOfMemory marks w before held = Unit {0}
IsTold TooLong marks w before held = Unit {0}
IsTold (Foul foul) marks w before held = Unit {0}
IsTold NotFound marks w before held = Unit {0}

-- the status tells whether these steps match in the trace; where the sink failed, it tells nothing
abbrev pub TellsMatch : List StepView → Status → List Sample → Type 0
TellsMatch steps Done w = IsTrue (is_some (least_match steps w))
TellsMatch steps NotFound w = least_match steps w ≡ None
TellsMatch steps WriteFault w = Unit {0}
TellsMatch steps _ w = ⊥

-- the status tells nothing of the trace that was drawn
abbrev pub TellsNothing : Status → List Sample → Type 0
TellsNothing Done w = Unit {0}
TellsNothing WriteFault w = Unit {0}
TellsNothing _ w = ⊥

-- the status is that of what is found first in the trace, of a dump with these marks; where the sink failed, it tells
-- nothing
abbrev pub TellsFinding : Status → Marks → List Sample → Type 0
TellsFinding Done marks w = finding_of marks w ≡ None
TellsFinding (Rejected broken) marks w = finding_of marks w ≡ Some (findings.Broken broken)
TellsFinding (Foul foul) marks w = finding_of marks w ≡ Some (findings.Foul foul)
TellsFinding WriteFault marks w = Unit {0}
TellsFinding _ marks w = ⊥

-- the status is that of the answer to what the command finds in the trace; where the sink failed, it tells nothing
abbrev pub TellsFound : Look → Status → Marks → List Sample → Type 0
TellsFound look status marks w =
    (status ≡ status_of (look.answer (look.found marks w))) ⊎ (status ≡ WriteFault)
