-- What follows from how a call ends (`CallEnds`), for proofs elsewhere: that a call that nothing stops is complete, and
-- that each command ends in a status of its own.
use Rattle.std.proofs.Common.{◌≡◌, ◌≢◌, ◌≤◌, ℕ, IsTrue, List, Option, Some, None, inl, inr, length, refl}
use Rattle.std.proofs.Common.{subst, sym}
use Rattle.fsb_command.specs.Form.{Form, ask, gen, run}
use Rattle.fsb_hazard.specs.Told.{Told}
use Rattle.fsb_io.specs.Faults.{Rose}
use Rattle.fsb_io.specs.declared.sink.Sink.{Ghosts as SinkGhosts}
use Rattle.fsb_io.specs.declared.source.Source.{Ghosts as SourceGhosts}
use Rattle.fsb_script.specs.Plans.{PlanView}
use Rattle.fsb_script.specs.declared.fault.ScriptFault.{ScriptFault}
use Rattle.fsb_signal.specs.declared.sample.Sample.{Sample}
use Rattle.fsb_top.proofs.Statuses.{answer_as, played_made, played_ends, stopped_look, stopped_run}
use Rattle.fsb_top.specs.BenchEnds.{IsLookStop, IsOfGen, IsOfLook, IsTooLong, MayEnd}
use Rattle.fsb_top.specs.CallEnds.{CallEnds, DumpCall, IsPlayed, LookEnds, RowEnds}
use Rattle.fsb_top.specs.Complete.{IsComplete, IsFaulty, IsFaultyBench, IsFaultyDump, IsFaultyPieces, IsFaultyWhole}
use Rattle.fsb_top.specs.Complete.{IsReadable}
use Rattle.fsb_top.specs.FileRead.{DumpKind, FileKind, HasReadTooMuch, IsDumpKind, IsFaultOfBench, IsFaultOfDump}
use Rattle.fsb_top.specs.FileRead.{IsStopped, IsTooLongFor, bench_file, byte_limit, dump_in_pieces, file_of, in_pieces}
use Rattle.fsb_top.specs.FileRead.{kept_whole, whole_dump}
use Rattle.fsb_top.specs.Looks.{Look, look_at}
use Rattle.fsb_top.specs.declared.status.Status.{Status}
use Rattle.fsb_top.specs.declared.status.Status.TheVariants.{Done, Rejected, BadWords, BadBench, BadDump}
use Rattle.fsb_top.specs.declared.status.Status.TheVariants.{ReadFault, WriteFault, DumpFault, OutOfMemory}
use Rattle.fsb_top.specs.declared.status.Status.TheVariants.{TooLong, Foul, NotFound}
use Rattle.vcd_grammar.specs.declared.fault.VcdFault.{VcdFault}

-- memory lacked before anything was touched
pub lacks_early : {S O : Type 0} (source : SourceGhosts S) (out : SinkGhosts O) (dump : DumpCall) (was : S) (before : O)
    (told : PlanView → List (Option Told)) (weights : List (Sample → ℕ)) (form : Option Form) → dump.Stays
    → CallEnds source out dump was was before before told weights form OutOfMemory
lacks_early source out dump was before told weights None stays = (inr refl, (refl, refl, stays))
lacks_early source out dump was before told weights (Some form) stays = inl (refl, (refl, refl, stays))

-- the words have this form, and its row holds
pub of_form : {S O : Type 0} (source : SourceGhosts S) (out : SinkGhosts O) (dump : DumpCall) (was now : S)
    (before after : O) (told : PlanView → List (Option Told)) (weights : List (Sample → ℕ)) (words : Option Form)
    (form : Form) (status : Status) → words ≡ Some form
    → RowEnds source out dump was now before after told weights form status
    → CallEnds source out dump was now before after told weights words status
of_form source out dump was now before after told weights words form status e row =
    subst (λ (f : Option Form). CallEnds source out dump was now before after told weights f status) (sym e) (inr row)

-- the words are words of no form
pub no_form : {S O : Type 0} (source : SourceGhosts S) (out : SinkGhosts O) (dump : DumpCall) (was : S) (before : O)
    (told : PlanView → List (Option Told)) (weights : List (Sample → ℕ)) (form : Option Form) → form ≡ None
    → dump.Stays
    → CallEnds source out dump was was before before told weights form BadWords
no_form source out dump was before told weights form e stays =
    subst (λ (f : Option Form). CallEnds source out dump was was before before told weights f BadWords) (sym e)
    (inl refl, (refl, refl, stays))

-- ---- a call that nothing stops

-- the text is within the limits, and has a first fault of which a command tells that reads such a file
abbrev IsFaultyAs : FileKind → List ℕ → Type 0
IsFaultyAs bench_file held = IsFaultyBench held
IsFaultyAs dump_in_pieces held = IsFaultyPieces held
IsFaultyAs whole_dump held = IsFaultyWhole held

faulty_bench : (kind : FileKind) (held : List ℕ) (fault : ScriptFault) → length held ≤ byte_limit kind
    → IsFaultOfBench kind held fault → IsFaultyAs kind held
faulty_bench bench_file held fault short first = record { short = short; fault = fault; is_first = first }
faulty_bench dump_in_pieces held fault short first = absurd first
faulty_bench whole_dump held fault short first = absurd first

faulty_dump : (kind : FileKind) (held : List ℕ) (fault : VcdFault) → length held ≤ byte_limit kind
    → IsFaultOfDump kind held fault → IsFaultyAs kind held
faulty_dump bench_file held fault short bad = absurd bad
faulty_dump dump_in_pieces held fault short bad = record { short = short; fault = fault; is_bad = bad }
faulty_dump whole_dump held fault short bad = record { short = short; fault = fault; is_first = bad }

too_much : (kind : FileKind) (name held left : List ℕ) (begun_as : Option (List ℕ))
    → HasReadTooMuch kind name held left begun_as → IsTooLongFor kind held
too_much kind name held left begun_as (inl past) = inl past.long
too_much kind name held left begun_as (inr both) = inr both.1

module _ {S : Type 0} (source : SourceGhosts S) (was now : S) (tells : IsTrue source.tells)
    (read : Rose (source.faults was) (source.faults now) → ⊥) where
  stopped_completes : (kind : FileKind) (name : List ℕ) (status : Status)
      → (IsFaultyAs kind (source.holds was) → ⊥) → (IsTooLongFor kind (source.holds was) → ⊥)
      → IsStopped source kind name was now status → IsComplete status
  stopped_completes kind name Done faulty long stopped = tt
  stopped_completes kind name (Rejected broken) faulty long stopped = tt
  stopped_completes kind name (Foul foul) faulty long stopped = tt
  stopped_completes kind name NotFound faulty long stopped = tt
  stopped_completes kind name OutOfMemory faulty long stopped = tt
  stopped_completes kind name BadWords faulty long stopped = stopped
  stopped_completes kind name WriteFault faulty long stopped = stopped
  stopped_completes kind name DumpFault faulty long stopped = stopped
  stopped_completes kind name ReadFault faulty long stopped = read stopped.0
  stopped_completes kind name TooLong faulty long stopped =
      long (too_much kind name (source.holds was) (source.left now) (source.begun_as now) (stopped tells))
  stopped_completes kind name (BadBench fault) faulty long stopped =
      let it = stopped.1 tells in faulty (faulty_bench kind (source.holds was) fault it.0.short it.1)
  stopped_completes kind name (BadDump fault) faulty long stopped =
      let it = stopped.1 tells in faulty (faulty_dump kind (source.holds was) fault it.0.short it.1)

played_completes : (Failed : Type 0) (dump : DumpCall) (name : Option (List ℕ)) (status : Status) → (Failed → ⊥)
    → (dump.Fails → ⊥) → IsPlayed Failed dump name status → IsComplete status
played_completes Failed dump name Done write sink played = tt
played_completes Failed dump name WriteFault write sink played = write played.0
played_completes Failed dump name DumpFault write sink played = sink played.0
played_completes Failed dump name (Rejected broken) write sink played = tt
played_completes Failed dump name (Foul foul) write sink played = tt
played_completes Failed dump name NotFound write sink played = tt
played_completes Failed dump name OutOfMemory write sink played = tt
played_completes Failed dump name BadWords write sink played = played
played_completes Failed dump name (BadBench fault) write sink played = played
played_completes Failed dump name (BadDump fault) write sink played = played
played_completes Failed dump name ReadFault write sink played = played
played_completes Failed dump name TooLong write sink played = played

-- a faulty file of a command that looks at a dump is a faulty dump
faulty_as : (kind : DumpKind) (held : List ℕ) → IsFaultyAs (file_of kind) held → IsFaultyDump kind held
faulty_as in_pieces held faulty = faulty
faulty_as kept_whole held faulty = faulty

module _ {S O : Type 0} (source : SourceGhosts S) (out : SinkGhosts O) (dump : DumpCall) (was now : S)
    (before after : O) (told : PlanView → List (Option Told)) (weights : List (Sample → ℕ))
    (not_faulty : (form : Form) (held : List ℕ) → IsReadable form held → IsFaulty form held → ⊥)
    (not_long : (form : Form) (held : List ℕ) → IsReadable form held → IsTooLong form held → ⊥)
    (tells : IsTrue source.tells) (read : Rose (source.faults was) (source.faults now) → ⊥)
    (write : Rose (out.faults before) (out.faults after) → ⊥) (sink : dump.Fails → ⊥) where
  look_completes : (name : List ℕ) (row : Look) (status : Status) → (IsFaultyDump row.kind (source.holds was) → ⊥)
      → (IsTooLongFor (file_of row.kind) (source.holds was) → ⊥)
      → LookEnds source out was now before after weights name row status → IsComplete status
  look_completes name row status faulty long (inl stopped) =
      stopped_completes source was now tells read (file_of row.kind) name status
      (λ bad. faulty (faulty_as row.kind (source.holds was) bad)) long stopped.0
  look_completes name row status faulty long (inr looked) =
      elim looked.ends [
        | inl same ↦ subst IsComplete (sym same) (answer_as IsComplete tt (λ b. tt) (λ f. tt) tt (row.answer looked.found))
        | inr failed ↦ absurd (write failed.1)
      ]

  row_completes : (form : Form) (status : Status) → IsReadable form (source.holds was)
      → RowEnds source out dump was now before after told weights form status → IsComplete status
  row_completes (run bench name) status readable (unnamed, inl stopped) =
      stopped_completes source was now tells read bench_file bench status
      (not_faulty (run bench name) (source.holds was) readable)
      (λ long. elim long [
        | inl past ↦ not_long (run bench name) (source.holds was) readable past
        | inr never ↦ never
      ]) stopped.0
  row_completes (run bench name) status readable (unnamed, inr played) =
      played_completes _ dump name status write sink played.0
  row_completes (ask name asked) status readable row =
      look_completes name (look_at asked) status (not_faulty (ask name asked) (source.holds was) readable)
      (not_long (ask name asked) (source.holds was) readable) row.1
  row_completes (gen seed agents items) status readable (same, (stays, inl lacks)) = subst IsComplete (sym lacks.0) tt
  row_completes (gen seed agents items) status readable (same, (stays, inr played)) =
      played_completes _ dump None status write sink played.0

  pub completes : (form : Form) (status : Status) → IsReadable form (source.holds was)
      → CallEnds source out dump was now before after told weights (Some form) status → IsComplete status
  completes form status readable (inl lacks) = subst IsComplete (sym lacks.0) tt
  completes form status readable (inr row) = row_completes form status readable row

-- ---- the statuses that a command may end in

-- what is looked at is a dump
pub is_dump : (kind : DumpKind) → IsDumpKind (file_of kind)
is_dump in_pieces = tt
is_dump kept_whole = tt

not_dumped : (Failed : Type 0) (dump : DumpCall) (status : Status) → IsPlayed Failed dump None status
    → status ≢ DumpFault
not_dumped Failed dump status played e =
    let it : IsPlayed Failed dump None DumpFault =
    subst (λ (s : Status). IsPlayed Failed dump None s) e played in it.1 refl

stopped_not_dumped : {S : Type 0} (source : SourceGhosts S) (name : List ℕ) (was now : S) (status : Status)
    → IsStopped source bench_file name was now status → status ≢ DumpFault
stopped_not_dumped source name was now status stopped e =
    let it : IsStopped source bench_file name was now DumpFault =
    subst (λ (s : Status). IsStopped source bench_file name was now s) e stopped in it

module _ {S O : Type 0} (source : SourceGhosts S) (out : SinkGhosts O) (dump : DumpCall) (was now : S)
    (before after : O) (told : PlanView → List (Option Told)) (weights : List (Sample → ℕ)) where
  look_may_end : (name : List ℕ) (row : Look) (status : Status)
      → LookEnds source out was now before after weights name row status → IsOfLook row status
  look_may_end name row status (inl stopped) =
      inl (stopped_look source (file_of row.kind) name was now IsLookStop (is_dump row.kind) (λ f. tt) tt tt tt status
      stopped.0)
  look_may_end name row status (inr looked) =
      elim looked.ends [
        | inl same ↦ inr (looked.found, same)
        | inr failed ↦ inl (subst IsLookStop (sym failed.0) tt)
      ]

  -- each command ends in a status of its own
  pub may_end : (form : Form) (status : Status)
      → RowEnds source out dump was now before after told weights form status → MayEnd (Some form) status
  may_end (run bench None) status (unnamed, inl stopped) = (
    stopped_run source bench was now status stopped.0,
    stopped_not_dumped source bench was now status stopped.0,
  )
  may_end (run bench None) status (unnamed, inr played) =
      (played_ends _ dump None status played.0, not_dumped _ dump status played.0)
  may_end (run bench (Some name)) status (unnamed, inl stopped) =
      stopped_run source bench was now status stopped.0
  may_end (run bench (Some name)) status (unnamed, inr played) =
      played_ends _ dump (Some name) status played.0
  may_end (ask name asked) status row = look_may_end name (look_at asked) status row.1
  may_end (gen seed agents items) status (same, (stays, inl lacks)) = subst IsOfGen (sym lacks.0) tt
  may_end (gen seed agents items) status (same, (stays, inr played)) = played_made _ dump status played.0
