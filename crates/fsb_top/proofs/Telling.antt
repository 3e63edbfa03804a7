-- How a call ends that has found something and tells it: its status, and what was written.
use Rattle.std.proofs.Common.{◌≡◌, ◌++◌, ℕ, List, [], Result, Ok, Err, inl, inr, subst, sym}
use Rattle.std.specs.Prelude.{OnErr, OnOk}
use Rattle.std.proofs.lemmas.List.{append-nil}
use Rattle.fsb_io.specs.Appends.{AppendsPart}
use Rattle.fsb_io.specs.Faults.{HasCause}
use Rattle.fsb_io.specs.declared.sink.Sink.{Ghosts as SinkGhosts}
use Rattle.fsb_top.specs.BenchEnds.{IsWritten}
use Rattle.fsb_top.specs.CallEnds.{EndsTold}
use Rattle.fsb_top.specs.declared.status.Status.{Status}
use Rattle.fsb_top.specs.declared.status.Status.TheVariants.{Done, Rejected, BadWords, BadBench, BadDump}
use Rattle.fsb_top.specs.declared.status.Status.TheVariants.{ReadFault, WriteFault, DumpFault, OutOfMemory}
use Rattle.fsb_top.specs.declared.status.Status.TheVariants.{TooLong, Foul, NotFound}

pub ends_told : {O T E : Type 0} (out : SinkGhosts O) (before after : O) (written : Result T E) (found status : Status)
    → OnOk written (status ≡ found) → OnErr written (status ≡ WriteFault)
    → HasCause (out.faults before) (out.faults after) written → EndsTold out before after found status
ends_told out before after (Ok done) found status same fails cause = inl same
ends_told out before after (Err failed) found status same fails cause = inr (fails, cause.failed)

-- a text that stands behind what was held is written, with any status
written_whole : (status : Status) (text before held : List ℕ) → held ≡ before ++ text
    → IsWritten status text before held
written_whole Done text before held e = e
written_whole (Rejected broken) text before held e = e
written_whole (Foul foul) text before held e = e
written_whole NotFound text before held e = e
written_whole WriteFault text before held e =
    record { part = text; rest = []; whole = sym (append-nil text); appended = e }
written_whole DumpFault text before held e = tt
written_whole BadWords text before held e = tt
written_whole (BadBench fault) text before held e = tt
written_whole (BadDump fault) text before held e = tt
written_whole ReadFault text before held e = tt
written_whole OutOfMemory text before held e = tt
written_whole TooLong text before held e = tt

pub text_written : {T E : Type 0} (written : Result T E) (found status : Status) (text before held : List ℕ)
    → OnOk written (status ≡ found) → OnErr written (status ≡ WriteFault)
    → OnOk written (held ≡ before ++ text) → AppendsPart text before held → IsWritten status text before held
text_written (Ok done) found status text before held same fails whole part =
    written_whole status text before held whole
text_written (Err failed) found status text before held same fails whole part =
    subst (λ (s : Status). IsWritten s text before held) (sym fails) part
