-- A call that nothing stops does all that its words ask for.
use Rattle.std.proofs.Common.{◌≡◌, ℕ, IsTrue, List, Option, Some, refl, sym, subst, ◌∙◌}
use Rattle.fsb_command.specs.Form.{Form, run, ask, gen}
use Rattle.fsb_io.specs.Faults.{Rose}
use Rattle.fsb_io.specs.declared.sink.Sink.{Ghosts as SinkGhosts}
use Rattle.fsb_io.specs.declared.source.Source.{Ghosts as SourceGhosts}
use Rattle.fsb_script.specs.declared.fault.ScriptFault.{ScriptFault}
use Rattle.fsb_calls.specs.FileSays.{FromLook, FromRun, IsBadBench, IsBadDump, IsBadTable, OfKind}
use Rattle.fsb_top.specs.BenchEnds.{IsTooLong}
use Rattle.fsb_top.specs.Complete.{IsComplete, IsFaulty, IsFaultyDump, IsReadable}
use Rattle.fsb_top.specs.FileRead.{DumpKind, in_pieces, kept_whole}
use Rattle.fsb_top.specs.Looks.{look_at}
use Rattle.fsb_top.specs.declared.status.Status.{Status}
use Rattle.fsb_top.specs.declared.status.Status.TheVariants.{Done, Rejected, BadWords, BadBench, BadDump}
use Rattle.fsb_top.specs.declared.status.Status.TheVariants.{ReadFault}
use Rattle.fsb_top.specs.declared.status.Status.TheVariants.{WriteFault, DumpFault, OutOfMemory, TooLong}
use Rattle.fsb_top.specs.declared.status.Status.TheVariants.{Foul, NotFound}
use Rattle.vcd_grammar.specs.declared.fault.VcdFault.{VcdFault}
use Rattle.fsb_calls.specs.Calls.{Call, held, left_of, named_as}
use Rattle.fsb_calls.proofs.Promises.{Promised}

-- what has none of the other statuses is complete
completes : (status : Status) → (status ≡ BadWords → ⊥)
    → ((f : ScriptFault) → status ≡ BadBench f → ⊥) → ((f : VcdFault) → status ≡ BadDump f → ⊥)
    → (status ≡ ReadFault → ⊥) → (status ≡ WriteFault → ⊥) → (status ≡ DumpFault → ⊥)
    → (status ≡ TooLong → ⊥) → IsComplete status
completes Done words bench dump read write sink long = tt
completes (Rejected broken) words bench dump read write sink long = tt
completes BadWords words bench dump read write sink long = words refl
completes (BadBench fault) words bench dump read write sink long = bench fault refl
completes (BadDump fault) words bench dump read write sink long = dump fault refl
completes ReadFault words bench dump read write sink long = read refl
completes WriteFault words bench dump read write sink long = write refl
completes DumpFault words bench dump read write sink long = sink refl
completes OutOfMemory words bench dump read write sink long = tt
completes TooLong words bench dump read write sink long = long refl
completes (Foul foul) words bench dump read write sink long = tt
completes NotFound words bench dump read write sink long = tt

-- what is told of as no bench file is a faulty file
faulty_bench : (form : Form) (held left : List ℕ) (begun_as : Option (List ℕ)) (fault : ScriptFault)
    → FromRun (Some form) (λ name. IsBadBench name held left begun_as fault) → IsFaulty form held
faulty_bench (run bench name) held left begun_as fault bad =
    record { short = bad.read.short; fault = fault; is_first = bad.is_bad }
faulty_bench (ask name asked) held left begun_as fault bad = absurd bad
faulty_bench (gen seed agents items) held left begun_as fault bad = absurd bad

-- so is what is told of as no dump
faulty_look : (kind : DumpKind) (name held left : List ℕ) (begun_as : Option (List ℕ)) (fault : VcdFault)
    → OfKind kind (IsBadDump name held left begun_as fault) (IsBadTable name held left begun_as fault)
    → IsFaultyDump kind held
faulty_look in_pieces name held left begun_as fault bad =
    record { short = bad.read.short; fault = fault; is_bad = bad.is_bad }
faulty_look kept_whole name held left begun_as fault bad =
    record { short = bad.read.short; fault = fault; is_first = bad.is_bad }

faulty_dump : (form : Form) (held left : List ℕ) (begun_as : Option (List ℕ)) (fault : VcdFault)
    → FromLook (Some form) (λ name. IsBadDump name held left begun_as fault)
    (λ name. IsBadTable name held left begun_as fault) → IsFaulty form held
faulty_dump (run bench name) held left begun_as fault bad = absurd bad
faulty_dump (ask name asked) held left begun_as fault bad =
    faulty_look (look_at asked).kind name held left begun_as fault bad
faulty_dump (gen seed agents items) held left begun_as fault bad = absurd bad

-- where no file is both readable and faulty, or too long
pub complete : ((form : Form) (held : List ℕ) → IsReadable form held → IsFaulty form held → ⊥)
    → ((form : Form) (held : List ℕ) → IsReadable form held → IsTooLong form held → ⊥)
    → {S O D : Type 0} {source : SourceGhosts S} {out : SinkGhosts O}
    {dump : SinkGhosts D} (call : Call source out dump) → Promised call → IsTrue source.tells → (form : Form)
    → call.words ≡ Some form → IsReadable form (held call)
    → (Rose (source.faults call.was) (source.faults call.now) → ⊥)
    → (Rose (out.faults call.before) (out.faults call.after) → ⊥)
    → (Rose (dump.faults call.first) (dump.faults call.last) → ⊥)
    → IsComplete call.status
complete not_faulty not_long call p tells form e readable read write sink =
    completes call.status
    (λ bad. let none = sym e ∙ p.bad_words bad in let never : ⊥ = cc in never)
    (λ fault is. not_faulty form (held call) readable
    (faulty_bench form (held call) (left_of call) (named_as call) fault
    (subst (λ (words : Option Form). FromRun words
    (λ name. IsBadBench name (held call) (left_of call) (named_as call) fault)) e
    (p.bad_bench tells fault is))))
    (λ fault is. not_faulty form (held call) readable
    (faulty_dump form (held call) (left_of call) (named_as call) fault
    (subst (λ (words : Option Form). FromLook words
    (λ name. IsBadDump name (held call) (left_of call) (named_as call) fault)
    (λ name. IsBadTable name (held call) (left_of call) (named_as call) fault)) e
    (p.bad_dump tells fault is))))
    (λ is. read (p.read_fault is)) (λ is. write (p.write_fault is)) (λ is. sink (p.dump_fault is))
    (λ is. not_long form (held call) readable (p.too_long tells is form e))
