-- The status that a command ends in is decided by what it found in the file.
use Rattle.std.proofs.Common.{◌≡◌, ◌≢◌, ℕ, IsTrue, List, Option, None, Some, ap, is_some, refl, sym}
use Rattle.fsb_audit.specs.Fouls.{finding_of}
use Rattle.fsb_rules.specs.Checker.{as_broken}
use Rattle.fsb_signal.specs.declared.marks.Marks.{Marks}
use Rattle.fsb_signal.specs.declared.sample.Sample.{Sample}
use Rattle.fsb_trace.specs.Verdict.{verdict}
use Rattle.fsb_trigger.specs.Match.{least_match}
use Rattle.fsb_trigger.specs.TriggerSteps.{StepView}
use Rattle.fsb_calls.specs.StatusSays.{TellsFinding, TellsMatch, TellsVerdict}
use Rattle.fsb_top.specs.declared.status.Status.{Status}
use Rattle.fsb_top.specs.declared.status.Status.TheVariants.{BadBench, BadDump, BadWords, Done, DumpFault}
use Rattle.fsb_top.specs.declared.status.Status.TheVariants.{Foul, NotFound, OutOfMemory, ReadFault}
use Rattle.fsb_top.specs.declared.status.Status.TheVariants.{Rejected, TooLong, WriteFault}
use Rattle.fsb_headline.specs.FileStatuses.{status_of_broken, status_of_finding, status_of_match}

no-verdict : (m : Marks) (w : List Sample) → verdict m w ≡ None → as_broken (verdict m w) ≡ None
unfolding as_broken
no-verdict m w e = rw e refl

pub by-verdict : (s : Status) (m : Marks) (w : List Sample) → s ≢ WriteFault → TellsVerdict s m w
    → s ≡ status_of_broken (as_broken (verdict m w))
by-verdict Done m w apart h = sym (ap status_of_broken (no-verdict m w h))
by-verdict (Rejected broken) m w apart h = sym (ap status_of_broken h)
by-verdict WriteFault m w apart h = absurd (apart refl)
by-verdict DumpFault m w apart h = absurd h
by-verdict BadWords m w apart h = absurd h
by-verdict (BadBench fault) m w apart h = absurd h
by-verdict (BadDump fault) m w apart h = absurd h
by-verdict ReadFault m w apart h = absurd h
by-verdict OutOfMemory m w apart h = absurd h
by-verdict TooLong m w apart h = absurd h
by-verdict (Foul foul) m w apart h = absurd h
by-verdict NotFound m w apart h = absurd h

pub by-finding : (s : Status) (m : Marks) (w : List Sample) → s ≢ WriteFault → TellsFinding s m w
    → s ≡ status_of_finding (finding_of m w)
by-finding Done m w apart h = sym (ap status_of_finding h)
by-finding (Rejected broken) m w apart h = sym (ap status_of_finding h)
by-finding (Foul foul) m w apart h = sym (ap status_of_finding h)
by-finding WriteFault m w apart h = absurd (apart refl)
by-finding DumpFault m w apart h = absurd h
by-finding BadWords m w apart h = absurd h
by-finding (BadBench fault) m w apart h = absurd h
by-finding (BadDump fault) m w apart h = absurd h
by-finding ReadFault m w apart h = absurd h
by-finding OutOfMemory m w apart h = absurd h
by-finding TooLong m w apart h = absurd h
by-finding NotFound m w apart h = absurd h

found : (clocks : Option (List ℕ)) → IsTrue (is_some clocks) → Done ≡ status_of_match clocks
found None h = let no : ⊥ = cc in absurd no
found (Some clocks) h = refl

pub by-match : (s : Status) (steps : List StepView) (w : List Sample) → s ≢ WriteFault → TellsMatch steps s w
    → s ≡ status_of_match (least_match steps w)
by-match Done steps w apart h = found (least_match steps w) h
by-match NotFound steps w apart h = sym (ap status_of_match h)
by-match WriteFault steps w apart h = absurd (apart refl)
by-match DumpFault steps w apart h = absurd h
by-match BadWords steps w apart h = absurd h
by-match (BadBench fault) steps w apart h = absurd h
by-match (BadDump fault) steps w apart h = absurd h
by-match ReadFault steps w apart h = absurd h
by-match OutOfMemory steps w apart h = absurd h
by-match TooLong steps w apart h = absurd h
by-match (Rejected broken) steps w apart h = absurd h
by-match (Foul foul) steps w apart h = absurd h
