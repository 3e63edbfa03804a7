-- What follows from how a call ends (`CallEnds`), one law for each thing that somebody may want to know of it:
-- how it may end, what each status means, what was read, printed and dumped.
use Rattle.std.proofs.Common.{◌≡◌, ◌≢◌, ◌⊎◌, ◌∙◌, ℕ, IsTrue, List, Option, Some, None}
use Rattle.std.proofs.Common.{ap, inl, inr, refl, subst, sym, true, false}
use Rattle.fsb_command.specs.Form.{Asked, Form, run, ask, check, audit, show, find, wave, gen, looks_only}
use Rattle.fsb_command.specs.Form.{to_check, to_audit, to_show, to_find, to_wave}
use Rattle.fsb_io.specs.Faults.{Rose}
use Rattle.fsb_io.specs.declared.sink.Sink.{Ghosts as SinkGhosts}
use Rattle.fsb_io.specs.declared.source.Source.{Ghosts as SourceGhosts}
use Rattle.fsb_top.specs.Printed.{run_dump, run_log, run_summary}
use Rattle.fsb_script.specs.Made.{made_plan}
use Rattle.fsb_script.specs.declared.fault.ScriptFault.{ScriptFault}
use Rattle.fsb_show.specs.ShowText.{show_text}
use Rattle.fsb_signal.specs.declared.marks.Marks.{Marks}
use Rattle.fsb_signal.specs.declared.sample.Sample.{Sample}
use Rattle.fsb_trigger.specs.TriggerSteps.{StepView}
use Rattle.fsb_wave.specs.WaveText.{wave_text}
use Rattle.vcd_grammar.specs.Reading.{Reads}
use Rattle.vcd_grammar.specs.declared.fault.VcdFault.{VcdFault}
use Rattle.fsb_calls.specs.FileSays.{FromLook, FromRun, HasFinding, HasLooked, HasLookedAs, OfKind}
use Rattle.fsb_calls.specs.StatusSays.{HasRun}
use Rattle.fsb_top.specs.BenchEnds.{HasRunFrom, HasRunOf}
use Rattle.fsb_calls.specs.FileSays.{HasTable, HasVerdict}
use Rattle.fsb_calls.specs.FileSays.{IsBadBench, IsBadDump, IsBadTable}
use Rattle.fsb_top.specs.BenchEnds.{IsLogged, IsOfAudit, IsOfCheck}
use Rattle.fsb_top.specs.BenchEnds.{IsOfFind, IsOfGen}
use Rattle.fsb_calls.specs.StatusSays.{IsSilent, IsTold}
use Rattle.fsb_top.specs.BenchEnds.{IsOfRun, IsOfWave, IsPlanOf, IsTooLong, IsWritten}
use Rattle.fsb_calls.specs.StatusSays.{TellsFinding, TellsFound}
use Rattle.fsb_calls.specs.StatusSays.{TellsMatch, TellsNothing, TellsVerdict}
use Rattle.fsb_top.specs.BenchEnds.{IsOfLook}
use Rattle.fsb_top.specs.CallEnds.{DumpCall, HasLookedAt, IsPlayed, IsUntouched, LookEnds, RowEnds, dump_call}
use Rattle.fsb_top.specs.Looks.{Look, finding_text, look_at, match_text, status_of}
use Rattle.fsb_calls.specs.Calls.{Call, EndsAs, held, left_of, named_as}
use Rattle.fsb_top.specs.FileRead.{DumpKind, FileKind, IsStopped, bench_file, file_of, in_pieces, kept_whole}
use Rattle.fsb_calls.specs.FileSays.{HasBegunNoOther, HasReadSome, HasReadTooLong}
use Rattle.fsb_top.specs.declared.status.Status.{Status}
use Rattle.fsb_top.specs.declared.status.Status.TheVariants.{BadWords, BadBench, BadDump, ReadFault}
use Rattle.fsb_top.specs.declared.status.Status.TheVariants.{WriteFault, DumpFault, OutOfMemory, TooLong}
use Rattle.fsb_top.proofs.Statuses.{audit_as, audit_ends, broken_as, match_as, played_ends, played_made}
use Rattle.fsb_top.proofs.Interface.{may_end}
use Rattle.fsb_top.proofs.Statuses.{stopped_run, told_as}
use Rattle.fsb_calls.proofs.Statuses.{answer_dumps, answer_runs, answer_writes, look_as, played_runs}
use Rattle.fsb_calls.proofs.Statuses.{run_is_not_silent, stopped_silent, tells_broken, tells_found, tells_match}
use Rattle.fsb_calls.proofs.Statuses.{told_line, unwritten}

module _ {S O D : Type 0} {source : SourceGhosts S} {out : SinkGhosts O}
    {dump : SinkGhosts D} (call : Call source out dump) where
  -- parts of the relation, for this call
  abbrev sink_of : DumpCall
  sink_of = dump_call dump call.first call.last

  abbrev RowAs : Form → Status → Type 0
  RowAs form status =
      RowEnds source out sink_of call.was call.now call.before call.after
      call.told call.weights form status

  abbrev IsUntouchedBy : Type 0
  IsUntouchedBy = IsUntouched source out sink_of call.was call.now call.before call.after

  abbrev LooksAs : List ℕ → Look → Status → Type 0
  LooksAs name look status =
      LookEnds source out call.was call.now call.before call.after call.weights name look status

  abbrev LookedAs : List ℕ → Look → Status → Type 0
  LookedAs name look status =
      HasLookedAt (look.text call.weights) name look source call.was call.now out call.before call.after status

  abbrev StoppedAs : FileKind → List ℕ → Status → Type 0
  StoppedAs kind name status = IsStopped source kind name call.was call.now status

  look_stopped : (name : List ℕ) (look : Look) (status : Status) → IsSilent status → LooksAs name look status
      → StoppedAs (file_of look.kind) name status × (call.after ≡ call.before)
  look_stopped name look status silent (inl stopped) = stopped
  look_stopped name look status silent (inr looked) =
      absurd (run_is_not_silent status
      (told_as out call.before call.after HasRun (status_of (look.answer looked.found)) status
      (answer_runs (look.answer looked.found)) tt looked.ends) silent)

  look_looked : (name : List ℕ) (look : Look) (status : Status) → HasRun status
      → LooksAs name look status
      → LookedAs name look status
  look_looked name look status runs (inl stopped) =
      absurd (run_is_not_silent status runs
      (stopped_silent source (file_of look.kind) name call.was call.now status stopped.0))
  look_looked name look status runs (inr looked) = looked

  -- what stopped the call, by the form of its words
  abbrev StoppedBy : Form → Status → Type 0
  StoppedBy (run bench name) status = StoppedAs bench_file bench status
  StoppedBy (ask name asked) status = StoppedAs (file_of (look_at asked).kind) name status
  StoppedBy (gen seed agents items) status = (status ≡ OutOfMemory) × (call.now ≡ call.was)

  look_row : (name : List ℕ) (look : Look) (status : Status) → IsSilent status
      → (call.last ≡ call.first) × LooksAs name look status
      → StoppedAs (file_of look.kind) name status × (call.after ≡ call.before) × (call.last ≡ call.first)
  look_row name look status silent (stays, ends) =
      let s = look_stopped name look status silent ends in (s.0, s.1, stays)

  row_stopped : (form : Form) (status : Status) → IsSilent status
      → RowAs form status
      → StoppedBy form status × (call.after ≡ call.before) × (call.last ≡ call.first)
  row_stopped (run bench name) status silent (unnamed, inl stopped) = (stopped.0, stopped.1.0, stopped.1.1)
  row_stopped (run bench name) status silent (unnamed, inr played) =
      absurd (run_is_not_silent status (played_runs _ sink_of name status played.0) silent)
  row_stopped (ask name asked) status silent row = look_row name (look_at asked) status silent row
  row_stopped (gen seed agents items) status silent (same, (stays, inl lacks)) = ((lacks.0, same), lacks.1, stays)
  row_stopped (gen seed agents items) status silent (same, (stays, inr played)) =
      absurd (run_is_not_silent status (played_runs _ sink_of None status played.0) silent)

  -- ---- what stayed as it was

  silent_call : (words : Option Form) (status : Status) → IsSilent status
      → EndsAs call words status → (call.after ≡ call.before) × (call.last ≡ call.first)
  silent_call None status silent ends = (ends.1.1, ends.1.2)
  silent_call (Some form) status silent (inl lacks) = (lacks.1.1, lacks.1.2)
  silent_call (Some form) status silent (inr row) =
      let s = row_stopped form status silent row in (s.1, s.2)

  pub silent : (words : Option Form) (status : Status)
      → EndsAs call words status → IsSilent status → call.after ≡ call.before
  silent words status ends is = (silent_call words status is ends).0

  pub no_dump : (words : Option Form) (status : Status)
      → EndsAs call words status → IsSilent status → (call.last ≡ call.first)
  no_dump words status ends is = (silent_call words status is ends).1

  pub no_form : (status : Status) → EndsAs call None status
      → (status ≡ BadWords) ⊎ (status ≡ OutOfMemory)
  no_form status ends = ends.0

  pub not_called : (status : Status) → EndsAs call None status
      → call.now ≡ call.was
  not_called status ends = ends.1.0

  pub not_written : (form : Form) (status : Status)
      → EndsAs call (Some form) status → IsTrue (looks_only form)
      → (call.last ≡ call.first)
  not_written form status (inl lacks) looks = lacks.1.2
  not_written (run bench name) status (inr row) looks =
      absurd (let h : false ≡ true = looks in let no : ⊥ = cc in no)
  not_written (ask name asked) status (inr row) looks = row.0
  not_written (gen seed agents items) status (inr row) looks =
      absurd (let h : false ≡ true = looks in let no : ⊥ = cc in no)

  pub nothing_read : (seed agents items : ℕ) (status : Status)
      → EndsAs call (Some (gen seed agents items)) status → call.now ≡ call.was
  nothing_read seed agents items status (inl lacks) = lacks.1.0
  nothing_read seed agents items status (inr row) = row.0

  pub not_dumped : (seed agents items : ℕ) (status : Status)
      → EndsAs call (Some (gen seed agents items)) status → (call.last ≡ call.first)
  not_dumped seed agents items status (inl lacks) = lacks.1.2
  not_dumped seed agents items status (inr row) = row.1.0

  pub not_named : (bench : List ℕ) (status : Status)
      → EndsAs call (Some (run bench None)) status → (call.last ≡ call.first)
  not_named bench status (inl lacks) = lacks.1.2
  not_named bench status (inr row) = row.0 refl

  -- ---- how a call of each form may end

  lacked : (Of : Status → Type 0) (status : Status) → Of OutOfMemory
      → (status ≡ OutOfMemory) × IsUntouchedBy → Of status
  lacked Of status is lacks = subst Of (sym lacks.0) is

  pub of_run : (bench : List ℕ) (name : Option (List ℕ)) (status : Status)
      → EndsAs call (Some (run bench name)) status → IsOfRun status
  of_run bench name status (inl lacks) = lacked IsOfRun status tt lacks
  of_run bench name status (inr (unnamed, inl stopped)) =
      stopped_run source bench call.was call.now status stopped.0
  of_run bench name status (inr (unnamed, inr played)) = played_ends _ sink_of name status played.0

  pub of_gen : (seed agents items : ℕ) (status : Status)
      → EndsAs call (Some (gen seed agents items)) status
      → IsOfGen status
  of_gen seed agents items status (inl lacks) = lacked IsOfGen status tt lacks
  of_gen seed agents items status (inr (same, (stays, inl lacks))) = subst IsOfGen (sym lacks.0) tt
  of_gen seed agents items status (inr (same, (stays, inr played))) = played_made _ sink_of status played.0

  pub of_look : (name : List ℕ) (asked : Asked) (status : Status)
      → EndsAs call (Some (ask name asked)) status → IsOfLook (look_at asked) status
  of_look name asked status (inl lacks) = lacked (IsOfLook (look_at asked)) status (inl tt) lacks
  of_look name asked status (inr row) =
      may_end source out sink_of call.was call.now call.before call.after call.told call.weights (ask name asked) status
      row

  pub of_check : (name : List ℕ) (status : Status)
      → EndsAs call (Some (check name)) status → IsOfCheck status
  of_check name status ends =
      look_as IsOfCheck (look_at to_check) (λ f. tt) tt tt tt tt (broken_as IsOfCheck tt (λ b. tt)) status
      (of_look name to_check status ends)

  pub of_audit : (name : List ℕ) (status : Status)
      → EndsAs call (Some (audit name)) status → IsOfAudit status
  of_audit name status ends =
      look_as IsOfAudit (look_at to_audit) (λ f. tt) tt tt tt tt (audit_as IsOfAudit tt audit_ends) status
      (of_look name to_audit status ends)

  pub of_show : (name : List ℕ) (status : Status)
      → EndsAs call (Some (show name)) status → IsOfCheck status
  of_show name status ends =
      look_as IsOfCheck (look_at to_show) (λ f. tt) tt tt tt tt (broken_as IsOfCheck tt (λ b. tt)) status
      (of_look name to_show status ends)

  pub of_find : (name : List ℕ) (steps : List StepView) (status : Status)
      → EndsAs call (Some (find name steps)) status → IsOfFind status
  of_find name steps status ends =
      look_as IsOfFind (look_at (to_find steps)) (λ f. tt) tt tt tt tt (match_as IsOfFind tt tt) status
      (of_look name (to_find steps) status ends)

  pub of_wave : (name : List ℕ) (from to : ℕ) (status : Status)
      → EndsAs call (Some (wave name from to)) status → IsOfWave status
  of_wave name from to status ends =
      look_as IsOfWave (look_at (to_wave from to)) (λ f. tt) tt tt tt tt (λ f. tt) status
      (of_look name (to_wave from to) status ends)

  pub dump_has_name : (bench : List ℕ) (status : Status)
      → EndsAs call (Some (run bench None)) status → status ≢ DumpFault
  dump_has_name bench status (inl lacks) e = let no = sym lacks.0 ∙ e in let bad : ⊥ = cc in bad
  dump_has_name bench status (inr (unnamed, inl stopped)) e =
      subst (λ (s : Status). StoppedAs bench_file bench s) e stopped.0
  dump_has_name bench status (inr (unnamed, inr played)) e =
      (subst (λ (s : Status). IsPlayed (Rose (out.faults call.before) (out.faults call.after)) sink_of
      None s) e played.0).1 refl

  -- ---- what a status of a stopped call means

  -- what stopped a call that was stopped, and did not lack memory
  stopped_row : (form : Form) (status : Status) → IsSilent status → status ≢ OutOfMemory
      → EndsAs call (Some form) status → StoppedBy form status
  stopped_row form status silent not (inl lacks) = absurd (not lacks.0)
  stopped_row form status silent not (inr row) = (row_stopped form status silent row).0

  no_words : (form : Form) → StoppedBy form BadWords → ⊥
  no_words (run bench name) stopped = stopped
  no_words (ask name asked) stopped = stopped
  no_words (gen seed agents items) stopped = let e = stopped.0 in let no : ⊥ = cc in no

  pub bad_words : (words : Option Form) → EndsAs call words BadWords
      → words ≡ None
  bad_words None ends = refl
  bad_words (Some form) ends = absurd (no_words form (stopped_row form BadWords tt (λ e. cc) ends))

  read_fault_row : (form : Form) → StoppedBy form ReadFault
      → Rose (source.faults call.was) (source.faults call.now)
  read_fault_row (run bench name) stopped = stopped.0
  read_fault_row (ask name asked) stopped = stopped.0
  read_fault_row (gen seed agents items) stopped = absurd (let e = stopped.0 in let no : ⊥ = cc in no)

  pub read_fault : (words : Option Form)
      → EndsAs call words ReadFault
      → Rose (source.faults call.was) (source.faults call.now)
  read_fault None (inl e, untouched) = absurd (let no : ⊥ = cc in no)
  read_fault None (inr e, untouched) = absurd (let no : ⊥ = cc in no)
  read_fault (Some form) ends = read_fault_row form (stopped_row form ReadFault tt (λ e. cc) ends)

  not_read_row : (form : Form) → IsTrue source.tells → StoppedBy form ReadFault
      → HasBegunNoOther form (source.begun_as call.was) (named_as call) (source.left call.was)
      (left_of call)
  not_read_row (run bench name) tells stopped = stopped.1 tells
  not_read_row (ask name asked) tells stopped = stopped.1 tells
  not_read_row (gen seed agents items) tells stopped = let e = stopped.0 in let no : ⊥ = cc in no

  pub not_read : (form : Form) → IsTrue source.tells
      → EndsAs call (Some form) ReadFault
      → HasBegunNoOther form (source.begun_as call.was) (named_as call) (source.left call.was)
      (left_of call)
  not_read form tells ends = not_read_row form tells (stopped_row form ReadFault tt (λ e. cc) ends)

  too_long_row : (form : Form) → IsTrue source.tells → StoppedBy form TooLong → IsTooLong form (held call)
  too_long_row (run bench name) tells stopped =
      elim (stopped tells) [ inl past ↦ past.long | inr both ↦ absurd both.1 ]
  too_long_row (ask name asked) tells stopped =
      elim (stopped tells) [ inl past ↦ inl past.long | inr both ↦ inr both.1 ]
  too_long_row (gen seed agents items) tells stopped = let e = stopped.0 in let no : ⊥ = cc in no

  pub too_long : (form : Form) → IsTrue source.tells
      → EndsAs call (Some form) TooLong
      → IsTooLong form (held call)
  too_long form tells ends = too_long_row form tells (stopped_row form TooLong tt (λ e. cc) ends)

  long_row : (form : Form) → IsTrue source.tells → StoppedBy form TooLong
      → HasReadTooLong form (held call) (left_of call) (named_as call)
  long_row (run bench name) tells stopped = elim (stopped tells) [ inl past ↦ past | inr both ↦ absurd both.1 ]
  long_row (ask name asked) tells stopped = stopped tells
  long_row (gen seed agents items) tells stopped = let e = stopped.0 in let no : ⊥ = cc in no

  pub long_read : (form : Form) → IsTrue source.tells
      → EndsAs call (Some form) TooLong
      → HasReadTooLong form (held call) (left_of call) (named_as call)
  long_read form tells ends = long_row form tells (stopped_row form TooLong tt (λ e. cc) ends)

  memory_row : (form : Form) → IsTrue source.tells → StoppedBy form OutOfMemory
      → (call.now ≡ call.was) ⊎ HasReadSome form (held call) (left_of call) (named_as call)
  memory_row (run bench name) tells stopped = inr (stopped tells)
  memory_row (ask name asked) tells stopped = inr (stopped tells)
  memory_row (gen seed agents items) tells stopped = inl stopped.1

  pub memory_read : (form : Form) → IsTrue source.tells
      → EndsAs call (Some form) OutOfMemory
      → (call.now ≡ call.was) ⊎ HasReadSome form (held call) (left_of call) (named_as call)
  memory_read form tells (inl lacks) = inl lacks.1.0
  memory_read form tells (inr row) = memory_row form tells (row_stopped form OutOfMemory tt row).0

  no_bench : (kind : DumpKind) → file_of kind ≡ bench_file → ⊥
  no_bench in_pieces e = cc
  no_bench kept_whole e = cc

  bench_row : (form : Form) → IsTrue source.tells → (fault : ScriptFault) → StoppedBy form (BadBench fault)
      → FromRun (Some form)
      (λ name. IsBadBench name (held call) (left_of call) (named_as call) fault)
  bench_row (run bench name) tells fault stopped =
      let read = stopped.1 tells in
      record {
        read = record { short = read.0.short; all = read.0.all; named = read.0.named };
        is_bad = read.1;
      }
  bench_row (ask name asked) tells fault stopped = no_bench (look_at asked).kind stopped.0
  bench_row (gen seed agents items) tells fault stopped = let e = stopped.0 in let no : ⊥ = cc in no

  pub bad_bench : (words : Option Form) → IsTrue source.tells → (fault : ScriptFault)
      → EndsAs call words (BadBench fault)
      → FromRun words (λ name. IsBadBench name (held call) (left_of call) (named_as call) fault)
  bad_bench None tells fault (inl e, untouched) = let no : ⊥ = cc in no
  bad_bench None tells fault (inr e, untouched) = let no : ⊥ = cc in no
  bad_bench (Some form) tells fault ends =
      bench_row form tells fault (stopped_row form (BadBench fault) tt (λ e. cc) ends)

  bad_as : (kind : DumpKind) (name : List ℕ) (fault : VcdFault) → IsTrue source.tells
      → StoppedAs (file_of kind) name (BadDump fault)
      → OfKind kind (IsBadDump name (held call) (left_of call) (named_as call) fault)
      (IsBadTable name (held call) (left_of call) (named_as call) fault)
  bad_as in_pieces name fault tells stopped =
      let read = stopped.1 tells in
      record {
        read = read.0;
        is_bad = read.1;
      }
  bad_as kept_whole name fault tells stopped =
      let read = stopped.1 tells in
      record {
        read = read.0;
        is_bad = read.1;
      }

  dump_row : (form : Form) → IsTrue source.tells → (fault : VcdFault) → StoppedBy form (BadDump fault)
      → FromLook (Some form)
      (λ name. IsBadDump name (held call) (left_of call) (named_as call) fault)
      (λ name. IsBadTable name (held call) (left_of call) (named_as call) fault)
  dump_row (run bench name) tells fault stopped = stopped.0
  dump_row (ask name asked) tells fault stopped = bad_as (look_at asked).kind name fault tells stopped
  dump_row (gen seed agents items) tells fault stopped = let e = stopped.0 in let no : ⊥ = cc in no

  pub bad_dump : (words : Option Form) → IsTrue source.tells → (fault : VcdFault)
      → EndsAs call words (BadDump fault)
      → FromLook words
      (λ name. IsBadDump name (held call) (left_of call) (named_as call) fault)
      (λ name. IsBadTable name (held call) (left_of call) (named_as call) fault)
  bad_dump None tells fault (inl e, untouched) = let no : ⊥ = cc in no
  bad_dump None tells fault (inr e, untouched) = let no : ⊥ = cc in no
  bad_dump (Some form) tells fault ends =
      dump_row form tells fault (stopped_row form (BadDump fault) tt (λ e. cc) ends)

  -- ---- what a failed sink means

  look_fails : (name : List ℕ) (look : Look) → LooksAs name look WriteFault
      → Rose (out.faults call.before) (out.faults call.after)
  look_fails name look (inl stopped) = absurd stopped.0
  look_fails name look (inr looked) =
      elim looked.ends [
        | inl same ↦ absurd (answer_writes (look.answer looked.found) (sym same))
        | inr failed ↦ failed.1
      ]

  write_row : (form : Form) → RowAs form WriteFault
      → Rose (out.faults call.before) (out.faults call.after)
  write_row (run bench name) (unnamed, inl stopped) = absurd stopped.0
  write_row (run bench name) (unnamed, inr played) = played.0.0
  write_row (ask name asked) (stays, ends) = look_fails name (look_at asked) ends
  write_row (gen seed agents items) (same, (stays, inl lacks)) =
      absurd (let e = lacks.0 in let no : ⊥ = cc in no)
  write_row (gen seed agents items) (same, (stays, inr played)) = played.0.0

  pub write_fault : (words : Option Form)
      → EndsAs call words WriteFault
      → Rose (out.faults call.before) (out.faults call.after)
  write_fault None (inl e, untouched) = absurd (let no : ⊥ = cc in no)
  write_fault None (inr e, untouched) = absurd (let no : ⊥ = cc in no)
  write_fault (Some form) (inl lacks) = absurd (let e = lacks.0 in let no : ⊥ = cc in no)
  write_fault (Some form) (inr row) = write_row form row

  begun_row : (form : Form) → RowAs form WriteFault → (call.last ≡ call.first)
  begun_row (run bench name) (unnamed, inl stopped) = absurd stopped.0
  begun_row (run bench name) (unnamed, inr played) = played.0.1
  begun_row (ask name asked) row = row.0
  begun_row (gen seed agents items) row = row.1.0

  pub not_begun : (words : Option Form)
      → EndsAs call words WriteFault → (call.last ≡ call.first)
  not_begun None ends = ends.1.2
  not_begun (Some form) (inl lacks) = lacks.1.2
  not_begun (Some form) (inr row) = begun_row form row

  dump_fails : (name : List ℕ) (look : Look) → LooksAs name look DumpFault → ⊥
  dump_fails name look (inl stopped) = stopped.0
  dump_fails name look (inr looked) =
      elim looked.ends [
        | inl same ↦ answer_dumps (look.answer looked.found) (sym same)
        | inr failed ↦ let e = failed.0 in cc
      ]

  dump_fault_row : (form : Form) → RowAs form DumpFault
      → Rose (dump.faults call.first) (dump.faults call.last)
  dump_fault_row (run bench name) (unnamed, inl stopped) = absurd stopped.0
  dump_fault_row (run bench name) (unnamed, inr played) = played.0.0
  dump_fault_row (ask name asked) (stays, ends) = absurd (dump_fails name (look_at asked) ends)
  dump_fault_row (gen seed agents items) (same, (stays, inl lacks)) =
      absurd (let e = lacks.0 in let no : ⊥ = cc in no)
  dump_fault_row (gen seed agents items) (same, (stays, inr played)) = played.0.0

  pub dump_fault : (words : Option Form)
      → EndsAs call words DumpFault → Rose (dump.faults call.first) (dump.faults call.last)
  dump_fault None (inl e, untouched) = absurd (let no : ⊥ = cc in no)
  dump_fault None (inr e, untouched) = absurd (let no : ⊥ = cc in no)
  dump_fault (Some form) (inl lacks) = absurd (let e = lacks.0 in let no : ⊥ = cc in no)
  dump_fault (Some form) (inr row) = dump_fault_row form row

  -- ---- what a look tells

  -- what the status tells of what was found, it tells of the trace
  looked_as : (name : List ℕ) (look : Look) (Tells : Status → Marks → List Sample → Type 0)
      → ((found : look.Found) (m : Marks) (w : List Sample) → found ≡ look.found m w
      → Tells (status_of (look.answer found)) m w)
      → ((m : Marks) (w : List Sample) → Tells WriteFault m w)
      → (status : Status) → IsTrue source.tells → HasRun status
      → ((status ≡ OutOfMemory) × IsUntouchedBy)
      ⊎ ((call.last ≡ call.first) × LooksAs name look status)
      → HasLookedAs (file_of look.kind) Tells status name (held call) (left_of call) (named_as call)
  looked_as name look Tells of_found of_fault status tells runs (inl lacks) = absurd (subst HasRun lacks.0 runs)
  looked_as name look Tells of_found of_fault status tells runs (inr (stays, ends)) =
      let looked = look_looked name look status runs ends in
      let it = looked.told tells in
      record {
        read = it.read;
        marks = it.marks;
        trace = it.trace;
        reads = it.reads;
        few = it.few;
        told =
            told_as out call.before call.after (λ s. Tells s it.marks it.trace)
            (status_of (look.answer looked.found)) status
            (of_found looked.found it.marks it.trace it.is_found) (of_fault it.marks it.trace) looked.ends;
      }

  pub looked : (name : List ℕ) (asked : Asked) (status : Status) → IsTrue source.tells → HasRun status
      → EndsAs call (Some (ask name asked)) status
      → HasLookedAs (file_of (look_at asked).kind) (TellsFound (look_at asked)) status name (held call) (left_of call)
      (named_as call)
  looked name asked status tells runs ends =
      looked_as name (look_at asked) (TellsFound (look_at asked))
      (λ found m w e. inl (ap (λ f. status_of ((look_at asked).answer f)) e)) (λ m w. inr refl) status tells runs ends

  pub judged : (name : List ℕ) (status : Status) → IsTrue source.tells → HasRun status
      → EndsAs call (Some (check name)) status
      → HasVerdict status name (held call) (left_of call) (named_as call)
  judged name status tells runs ends =
      looked_as name (look_at to_check) TellsVerdict tells_broken (λ m w. tt) status tells runs ends

  pub audited : (name : List ℕ) (status : Status) → IsTrue source.tells → HasRun status
      → EndsAs call (Some (audit name)) status
      → HasFinding status name (held call) (left_of call) (named_as call)
  audited name status tells runs ends =
      looked_as name (look_at to_audit) TellsFinding tells_found (λ m w. tt) status tells runs ends

  pub tabled : (name : List ℕ) (status : Status) → IsTrue source.tells → HasRun status
      → EndsAs call (Some (show name)) status
      → HasTable status name (held call) (left_of call) (named_as call)
  tabled name status tells runs ends =
      looked_as name (look_at to_show) TellsVerdict tells_broken (λ m w. tt) status tells runs ends

  pub searched : (name : List ℕ) (steps : List StepView) (status : Status) → IsTrue source.tells
      → HasRun status
      → EndsAs call (Some (find name steps)) status
      → HasLooked (TellsMatch steps) status name (held call) (left_of call) (named_as call)
  searched name steps status tells runs ends =
      looked_as name (look_at (to_find steps)) (λ s m w. TellsMatch steps s w)
      (λ found m w e. tells_match found steps w e) (λ m w. tt) status tells runs ends

  pub drawn : (name : List ℕ) (from to : ℕ) (status : Status) → IsTrue source.tells → HasRun status
      → EndsAs call (Some (wave name from to)) status
      → HasLooked TellsNothing status name (held call) (left_of call) (named_as call)
  drawn name from to status tells runs ends =
      looked_as name (look_at (to_wave from to)) (λ s m w. TellsNothing s w) (λ found m w e. tt) (λ m w. tt) status
      tells runs ends

  -- what was written of a look: the text of the trace, whatever trace the sink_of reads to
  printed : (name : List ℕ) (look : Look) (marks : Marks) (w : List Sample) (status : Status)
      → IsTrue source.tells
      → IsTrue out.tells → Reads (held call) marks w
      → ((status ≡ OutOfMemory) × IsUntouchedBy)
      ⊎ ((call.last ≡ call.first) × LooksAs name look status)
      → IsWritten status (look.text call.weights marks w) (out.holds call.before) (out.holds call.after)
  printed name look marks w status tells prints reads (inl lacks) =
      subst (λ (s : Status). IsWritten s (look.text call.weights marks w) (out.holds call.before)
      (out.holds call.after)) (sym lacks.0) tt
  printed name look marks w status tells prints reads (inr (stays, inl stopped)) =
      unwritten (look.text call.weights marks w) (out.holds call.before) (out.holds call.after) status
      (stopped_silent source (file_of look.kind) name call.was call.now status stopped.0)
  printed name look marks w status tells prints reads (inr (stays, inr looked)) =
      let it = looked.told tells in
      let text = ap (λ m. look.text call.weights m it.trace) (it.reads.1 ∙ sym reads.1)
      ∙ ap (λ v. look.text call.weights marks v) (it.reads.2 ∙ sym reads.2) in
      subst (λ (t : List ℕ). IsWritten status t (out.holds call.before) (out.holds call.after)) text
      (it.printed prints)

  pub looked_text : (name : List ℕ) (asked : Asked) (marks : Marks) (w : List Sample) (status : Status)
      → IsTrue source.tells → IsTrue out.tells → Reads (held call) marks w
      → EndsAs call (Some (ask name asked)) status
      → IsWritten status ((look_at asked).text call.weights marks w) (out.holds call.before) (out.holds call.after)
  looked_text name asked marks w status tells prints reads ends =
      printed name (look_at asked) marks w status tells prints reads ends

  pub told_text : (name : List ℕ) (marks : Marks) (w : List Sample) (status : Status) → IsTrue source.tells
      → IsTrue out.tells → Reads (held call) marks w
      → EndsAs call (Some (check name)) status
      → IsTold status marks w (out.holds call.before) (out.holds call.after)
  told_text name marks w status tells prints reads ends =
      told_line marks w (out.holds call.before) (out.holds call.after) status
      (printed name (look_at to_check) marks w status tells prints reads ends)

  pub audited_text : (name : List ℕ) (marks : Marks) (w : List Sample) (status : Status) → IsTrue source.tells
      → IsTrue out.tells → Reads (held call) marks w
      → EndsAs call (Some (audit name)) status
      → IsWritten status (finding_text marks w) (out.holds call.before) (out.holds call.after)
  audited_text name marks w status tells prints reads ends =
      printed name (look_at to_audit) marks w status tells prints reads ends

  pub tabled_text : (name : List ℕ) (marks : Marks) (w : List Sample) (status : Status) → IsTrue source.tells
      → IsTrue out.tells → Reads (held call) marks w
      → EndsAs call (Some (show name)) status
      → IsWritten status (show_text call.weights marks w) (out.holds call.before) (out.holds call.after)
  tabled_text name marks w status tells prints reads ends =
      printed name (look_at to_show) marks w status tells prints reads ends

  pub searched_text : (name : List ℕ) (steps : List StepView) (marks : Marks) (w : List Sample) (status : Status)
      → IsTrue source.tells → IsTrue out.tells → Reads (held call) marks w
      → EndsAs call (Some (find name steps)) status
      → IsWritten status (match_text steps w) (out.holds call.before) (out.holds call.after)
  searched_text name steps marks w status tells prints reads ends =
      printed name (look_at (to_find steps)) marks w status tells prints reads ends

  pub drawn_text : (name : List ℕ) (from to : ℕ) (marks : Marks) (w : List Sample) (status : Status)
      → IsTrue source.tells → IsTrue out.tells → Reads (held call) marks w
      → EndsAs call (Some (wave name from to)) status
      → IsWritten status (wave_text w from to) (out.holds call.before) (out.holds call.after)
  drawn_text name from to marks w status tells prints reads ends =
      printed name (look_at (to_wave from to)) marks w status tells prints reads ends

  -- ---- what a run leaves

  pub ran : (bench : List ℕ) (name : Option (List ℕ)) (status : Status) → HasRun status
      → EndsAs call (Some (run bench name)) status
      → HasRunFrom (λ plan. IsTrue source.tells
      → IsPlanOf bench (held call) (left_of call) (named_as call) plan) call.told
      (λ r. (IsTrue out.tells → IsLogged status (run_log r) (out.holds call.before)
      (out.holds call.after))
      × sink_of.Has status (run_dump r) name)
  ran bench name status runs (inl lacks) = absurd (subst HasRun lacks.0 runs)
  ran bench name status runs (inr (unnamed, inl stopped)) =
      absurd (run_is_not_silent status runs
      (stopped_silent source bench_file bench call.was call.now status stopped.0))
  ran bench name status runs (inr (unnamed, inr played)) = played.1

  pub generated : (seed agents items : ℕ) (status : Status) → HasRun status
      → EndsAs call (Some (gen seed agents items)) status
      → HasRunOf (call.told (made_plan seed agents items)) (made_plan seed agents items)
      (λ r. IsTrue out.tells
      → IsLogged status (run_summary seed agents items r) (out.holds call.before) (out.holds call.after))
  generated seed agents items status runs (inl lacks) = absurd (subst HasRun lacks.0 runs)
  generated seed agents items status runs (inr (same, (stays, inl lacks))) = absurd (subst HasRun lacks.0 runs)
  generated seed agents items status runs (inr (same, (stays, inr played))) = played.1
