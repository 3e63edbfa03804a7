-- What the statuses of a call say by themselves: how a command may end, out of what it found, what stopped it, or the run
-- that it made.
use Rattle.std.proofs.Common.{ℕ, List, Option, Some, None, Result, Ok, Err, inl, inr, refl, subst, sym}
use Rattle.fsb_audit.specs.declared.finding.FoulAt.{FoulAt}
use Rattle.fsb_audit.specs.declared.finding.Finding.{Finding}
use Rattle.fsb_audit.specs.declared.finding.Finding.TheVariants as findings
use Rattle.fsb_io.specs.declared.sink.Sink.{Ghosts as SinkGhosts}
use Rattle.fsb_io.specs.declared.source.Source.{Ghosts as SourceGhosts}
use Rattle.fsb_rules.specs.declared.broken.Broken.{Broken}
use Rattle.vcd_grammar.specs.declared.fault.VcdFault.{VcdFault}
use Rattle.fsb_top.specs.BenchEnds.{IsOfAudit, IsOfGen, IsOfRun}
use Rattle.fsb_top.specs.CallEnds.{DumpCall, EndsTold, IsPlayed}
use Rattle.fsb_top.specs.Looks.{Answer, audit_status, broken_status, is_foul, is_missed, is_rejected, is_well, match_status}
use Rattle.fsb_top.specs.Looks.{status_of}
use Rattle.fsb_top.specs.FileRead.{FileKind, IsDumpKind, IsStopped, bench_file}
use Rattle.fsb_top.specs.declared.status.Status.{Status}
use Rattle.fsb_top.specs.declared.status.Status.TheVariants.{Done, Rejected, BadWords, BadBench, BadDump}
use Rattle.fsb_top.specs.declared.status.Status.TheVariants.{ReadFault, WriteFault, DumpFault, OutOfMemory}
use Rattle.fsb_top.specs.declared.status.Status.TheVariants.{TooLong, Foul, NotFound}

-- of what is found, a property of its status; of the sink that failed, of that
pub told_as : {O : Type 0} (out : SinkGhosts O) (before after : O) (Of : Status → Type 0) (told status : Status)
    → Of told
    → Of WriteFault → EndsTold out before after told status → Of status
told_as out before after Of told status is fails (inl same) = subst Of (sym same) is
told_as out before after Of told status is fails (inr failed) = subst Of (sym failed.0) fails

-- a property of each status that answers
pub answer_as : (Of : Status → Type 0) → Of Done → ((b : Broken) → Of (Rejected b)) → ((f : FoulAt) → Of (Foul f))
    → Of NotFound → (answer : Answer) → Of (status_of answer)
answer_as Of done broken bad none is_well = done
answer_as Of done broken bad none (is_rejected b) = broken b
answer_as Of done broken bad none (is_foul f) = bad f
answer_as Of done broken bad none is_missed = none

pub broken_as : (Of : Status → Type 0) → Of Done → ((b : Broken) → Of (Rejected b)) → (found : Option Broken)
    → Of (broken_status found)
broken_as Of done bad None = done
broken_as Of done bad (Some broken) = bad broken

pub audit_as : (Of : Status → Type 0) → Of Done → ((f : Finding) → Of (audit_status (Err f)))
    → (found : Result ℕ Finding)
    → Of (audit_status found)
audit_as Of done bad (Ok chunks) = done
audit_as Of done bad (Err finding) = bad finding

pub match_as : (Of : Status → Type 0) → Of Done → Of NotFound → (found : Option (List ℕ)) → Of (match_status found)
match_as Of done none None = none
match_as Of done none (Some clocks) = done

pub audit_ends : (f : Finding) → IsOfAudit (audit_status (Err f))
audit_ends (findings.Broken broken) = tt
audit_ends (findings.Foul foul) = tt

-- how a call may end that its dump stopped: as any look
pub stopped_look : {S : Type 0} (source : SourceGhosts S) (kind : FileKind) (name : List ℕ) (was now : S)
    (Of : Status → Type 0) → IsDumpKind kind → ((f : VcdFault) → Of (BadDump f)) → Of ReadFault → Of TooLong
    → Of OutOfMemory → (status : Status) → IsStopped source kind name was now status → Of status
stopped_look source kind name was now Of dump bad read long memory Done stopped = absurd stopped
stopped_look source kind name was now Of dump bad read long memory (Rejected broken) stopped = absurd stopped
stopped_look source kind name was now Of dump bad read long memory BadWords stopped = absurd stopped
stopped_look source kind name was now Of dump bad read long memory (BadBench fault) stopped =
    absurd (subst IsDumpKind stopped.0 dump)
stopped_look source kind name was now Of dump bad read long memory (BadDump fault) stopped = bad fault
stopped_look source kind name was now Of dump bad read long memory ReadFault stopped = read
stopped_look source kind name was now Of dump bad read long memory WriteFault stopped = absurd stopped
stopped_look source kind name was now Of dump bad read long memory DumpFault stopped = absurd stopped
stopped_look source kind name was now Of dump bad read long memory OutOfMemory stopped = memory
stopped_look source kind name was now Of dump bad read long memory TooLong stopped = long
stopped_look source kind name was now Of dump bad read long memory (Foul foul) stopped = absurd stopped
stopped_look source kind name was now Of dump bad read long memory NotFound stopped = absurd stopped

pub stopped_run : {S : Type 0} (source : SourceGhosts S) (name : List ℕ) (was now : S) (status : Status)
    → IsStopped source bench_file name was now status → IsOfRun status
stopped_run source name was now Done stopped = tt
stopped_run source name was now (Rejected broken) stopped = stopped
stopped_run source name was now BadWords stopped = stopped
stopped_run source name was now (BadBench fault) stopped = tt
stopped_run source name was now (BadDump fault) stopped = stopped.0
stopped_run source name was now ReadFault stopped = tt
stopped_run source name was now WriteFault stopped = tt
stopped_run source name was now DumpFault stopped = tt
stopped_run source name was now OutOfMemory stopped = tt
stopped_run source name was now TooLong stopped = tt
stopped_run source name was now (Foul foul) stopped = stopped
stopped_run source name was now NotFound stopped = stopped

-- ---- a run that was made

module _ (Failed : Type 0) (dump : DumpCall) (name : Option (List ℕ)) where
  pub played_ends : (status : Status) → IsPlayed Failed dump name status → IsOfRun status
  played_ends Done played = tt
  played_ends WriteFault played = tt
  played_ends DumpFault played = tt
  played_ends (Rejected broken) played = played
  played_ends BadWords played = played
  played_ends (BadBench fault) played = tt
  played_ends (BadDump fault) played = played
  played_ends ReadFault played = tt
  played_ends OutOfMemory played = tt
  played_ends TooLong played = tt
  played_ends (Foul foul) played = played
  played_ends NotFound played = played

pub played_made : (Failed : Type 0) (dump : DumpCall) (status : Status) → IsPlayed Failed dump None status
    → IsOfGen status
played_made Failed dump Done played = tt
played_made Failed dump WriteFault played = tt
played_made Failed dump DumpFault played = absurd (played.1 refl)
played_made Failed dump (Rejected broken) played = played
played_made Failed dump BadWords played = played
played_made Failed dump (BadBench fault) played = played
played_made Failed dump (BadDump fault) played = played
played_made Failed dump ReadFault played = played
played_made Failed dump OutOfMemory played = tt
played_made Failed dump TooLong played = played
played_made Failed dump (Foul foul) played = played
played_made Failed dump NotFound played = played
