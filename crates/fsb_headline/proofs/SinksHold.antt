-- What stands in the sinks, by the status.
use Rattle.std.proofs.Common.{◌≡◌, ◌++◌, ◌⊎◌, ℕ, List, Option, Some}
use Rattle.fsb_audit.specs.declared.finding.FoulAt.{FoulAt}
use Rattle.fsb_io.specs.Appends.{AppendsPart}
use Rattle.fsb_top.specs.Writing.{HasPart, IsAsBefore}
use Rattle.fsb_report.specs.VerdictText.{trace_text}
use Rattle.fsb_rules.specs.declared.broken.Broken.{Broken}
use Rattle.fsb_signal.specs.declared.marks.Marks.{Marks}
use Rattle.fsb_signal.specs.declared.sample.Sample.{Sample}
use Rattle.fsb_calls.specs.StatusSays.{IsTold}
use Rattle.fsb_top.specs.BenchEnds.{IsDumped, IsLogged, IsWritten}
use Rattle.fsb_top.specs.declared.status.Status.TheVariants.{Done, DumpFault, Foul, NotFound, Rejected, WriteFault}

-- of a run: the log behind what the sink held, also where the dump failed; a first part of it where the sink failed
pub logged : (text before held : List ℕ)
    → (IsLogged Done text before held → held ≡ before ++ text)
    × (IsLogged DumpFault text before held → held ≡ before ++ text)
    × (IsLogged WriteFault text before held → AppendsPart text before held)
logged text before held = (λ h. h, λ h. h, λ h. h)

-- the dump, where its sink failed: a first part under its name, or the sink is as it was
pub dumped : (text name before held : List ℕ) (was_begun_as begun_as : Option (List ℕ))
    → IsDumped DumpFault text (Some name) before was_begun_as held begun_as
    → HasPart text name held begun_as ⊎ IsAsBefore before held was_begun_as begun_as
dumped text name before held was_begun_as begun_as h = h

-- of a check: the line of the verdict
pub verdict_is_written : (m : Marks) (w : List Sample) (before held : List ℕ) (broken : Broken)
    → (IsTold Done m w before held → held ≡ before ++ trace_text m w)
    × (IsTold (Rejected broken) m w before held → held ≡ before ++ trace_text m w)
    × (IsTold WriteFault m w before held → AppendsPart (trace_text m w) before held)
verdict_is_written m w before held broken = (λ h. h, λ h. h, λ h. h)

-- of an audit, a table, a search or a wave: its text
pub text_is_written : (text before held : List ℕ) (broken : Broken) (foul : FoulAt)
    → (IsWritten Done text before held → held ≡ before ++ text)
    × (IsWritten NotFound text before held → held ≡ before ++ text)
    × (IsWritten (Rejected broken) text before held → held ≡ before ++ text)
    × (IsWritten (Foul foul) text before held → held ≡ before ++ text)
    × (IsWritten WriteFault text before held → AppendsPart text before held)
text_is_written text before held broken foul = (λ h. h, λ h. h, λ h. h, λ h. h, λ h. h)
