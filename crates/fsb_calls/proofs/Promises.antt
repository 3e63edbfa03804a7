-- What `bench` promises of how a call ends, clause by clause, and that each follows from the relation.
use Rattle.std.proofs.Common.{◌≡◌, ◌≢◌, ◌⊎◌, ℕ, IsTrue, List, Option, Some, None, subst}
use Rattle.fsb_command.specs.Form.{Asked, Form, run, ask, check, audit, show, find, wave, gen, looks_only}
use Rattle.fsb_io.specs.Faults.{Rose}
use Rattle.fsb_io.specs.declared.sink.Sink.{Ghosts as SinkGhosts}
use Rattle.fsb_io.specs.declared.source.Source.{Ghosts as SourceGhosts}
use Rattle.fsb_top.specs.Printed.{run_dump, run_log, run_summary}
use Rattle.fsb_script.specs.Made.{made_plan}
use Rattle.fsb_script.specs.declared.fault.ScriptFault.{ScriptFault}
use Rattle.fsb_show.specs.ShowText.{show_text}
use Rattle.fsb_signal.specs.declared.marks.Marks.{Marks}
use Rattle.fsb_signal.specs.declared.sample.Sample.{Sample}
use Rattle.fsb_calls.specs.FileSays.{FromLook, FromRun, HasFinding, HasLooked, HasLookedAs}
use Rattle.fsb_calls.specs.StatusSays.{HasRun}
use Rattle.fsb_top.specs.BenchEnds.{HasRunFrom}
use Rattle.fsb_calls.specs.FileSays.{HasTable, HasVerdict, IsBadBench, IsBadDump}
use Rattle.fsb_top.specs.BenchEnds.{HasRunOf}
use Rattle.fsb_calls.specs.FileSays.{IsBadTable}
use Rattle.fsb_top.specs.BenchEnds.{IsDumped, IsLogged, IsOfAudit, IsOfCheck, IsOfFind}
use Rattle.fsb_calls.specs.StatusSays.{IsSilent, IsTold}
use Rattle.fsb_top.specs.BenchEnds.{IsOfGen, IsOfRun, IsOfWave, IsPlanOf, IsTooLong}
use Rattle.fsb_calls.specs.StatusSays.{TellsFound, TellsMatch, TellsNothing}
use Rattle.fsb_top.specs.BenchEnds.{IsOfLook, IsWritten}
use Rattle.fsb_top.specs.FileRead.{file_of}
use Rattle.fsb_top.specs.Looks.{finding_text, look_at, match_text}
use Rattle.fsb_calls.specs.FileSays.{HasBegunNoOther, HasReadSome, HasReadTooLong}
use Rattle.fsb_top.specs.declared.status.Status.{Status}
use Rattle.fsb_top.specs.declared.status.Status.TheVariants.{BadWords, BadBench, BadDump, ReadFault}
use Rattle.fsb_top.specs.declared.status.Status.TheVariants.{WriteFault, DumpFault, OutOfMemory}
use Rattle.fsb_top.specs.declared.status.Status.TheVariants.{TooLong}
use Rattle.fsb_trigger.specs.TriggerSteps.{StepView}
use Rattle.fsb_wave.specs.WaveText.{wave_text}
use Rattle.vcd_grammar.specs.Reading.{Reads}
use Rattle.vcd_grammar.specs.declared.fault.VcdFault.{VcdFault}
use Rattle.fsb_calls.specs.Calls.{Call, EndsAs, EndsSo, held, left_of, named_as, printed, printed_before}
use Rattle.fsb_calls.proofs.Clauses as so

module _ {S O D : Type 0} {source : SourceGhosts S} {out : SinkGhosts O}
    {dump : SinkGhosts D} (call : Call source out dump) where
  -- one run of the bench file's plan left its log and its dump
  abbrev pub HasRanAs : List ℕ → Option (List ℕ) → Status → Type 0
  HasRanAs name dump_name status =
      HasRunFrom (λ plan. IsTrue source.tells
      → IsPlanOf name (held call) (left_of call) (named_as call) plan) call.told
      (λ r. (IsTrue out.tells → IsLogged status (run_log r) (printed_before call) (printed call))
      × (IsTrue dump.tells → IsDumped status (run_dump r) dump_name
      (dump.holds call.first) (dump.begun_as call.first)
      (dump.holds call.last) (dump.begun_as call.last)))

  -- one run of the plan that was made left its summary
  abbrev pub HasMadeAs : ℕ → ℕ → ℕ → Status → Type 0
  HasMadeAs seed agents items status =
      HasRunOf (call.told (made_plan seed agents items)) (made_plan seed agents items)
      (λ r. IsTrue out.tells → IsLogged status (run_summary seed agents items r)
      (printed_before call) (printed call))

-- the clauses of `bench`, but for those of what a source holds and a log is named, and for `complete`
pub record Promised {S O D : Type 0} {source : SourceGhosts S} {out : SinkGhosts O}
    {dump : SinkGhosts D} (call : Call source out dump) : Type 0 where
  pub bad_words : call.status ≡ BadWords → call.words ≡ None
  pub no_form : call.words ≡ None → (call.status ≡ BadWords) ⊎ (call.status ≡ OutOfMemory)
  pub not_called : call.words ≡ None → call.now ≡ call.was
  pub read_fault : call.status ≡ ReadFault
      → Rose (source.faults call.was) (source.faults call.now)
  pub too_long : IsTrue source.tells → call.status ≡ TooLong → (form : Form)
      → call.words ≡ Some form → IsTooLong form (held call)
  pub bad_bench : IsTrue source.tells → (fault : ScriptFault) → call.status ≡ BadBench fault
      → FromRun call.words (λ name. IsBadBench name (held call) (left_of call) (named_as call) fault)
  pub bad_dump : IsTrue source.tells → (fault : VcdFault) → call.status ≡ BadDump fault
      → FromLook call.words (λ name. IsBadDump name (held call) (left_of call) (named_as call) fault)
      (λ name. IsBadTable name (held call) (left_of call) (named_as call) fault)
  pub long_read : IsTrue source.tells → call.status ≡ TooLong → (form : Form)
      → call.words ≡ Some form → HasReadTooLong form (held call) (left_of call) (named_as call)
  pub memory_read : IsTrue source.tells → call.status ≡ OutOfMemory → (form : Form)
      → call.words ≡ Some form
      → (call.now ≡ call.was) ⊎ HasReadSome form (held call) (left_of call) (named_as call)
  pub not_read : IsTrue source.tells → call.status ≡ ReadFault → (form : Form)
      → call.words ≡ Some form → HasBegunNoOther form (source.begun_as call.was) (named_as call)
      (source.left call.was) (left_of call)
  pub write_fault : call.status ≡ WriteFault
      → Rose (out.faults call.before) (out.faults call.after)
  pub dump_fault : call.status ≡ DumpFault
      → Rose (dump.faults call.first) (dump.faults call.last)
  pub dump_has_name : (bench : List ℕ) → call.words ≡ Some (run bench None)
      → call.status ≢ DumpFault
  pub of_run : (name : List ℕ) (dump : Option (List ℕ)) → call.words ≡ Some (run name dump)
      → IsOfRun call.status
  pub of_gen : (seed agents items : ℕ) → call.words ≡ Some (gen seed agents items)
      → IsOfGen call.status
  pub of_look : (name : List ℕ) (asked : Asked) → call.words ≡ Some (ask name asked)
      → IsOfLook (look_at asked) call.status
  pub of_check : (name : List ℕ) → call.words ≡ Some (check name) → IsOfCheck call.status
  pub of_audit : (name : List ℕ) → call.words ≡ Some (audit name) → IsOfAudit call.status
  pub of_show : (name : List ℕ) → call.words ≡ Some (show name) → IsOfCheck call.status
  pub of_find : (name : List ℕ) (steps : List StepView) → call.words ≡ Some (find name steps)
      → IsOfFind call.status
  pub of_wave : (name : List ℕ) (from to : ℕ) → call.words ≡ Some (wave name from to)
      → IsOfWave call.status
  pub looked : IsTrue source.tells → (name : List ℕ) (asked : Asked) → call.words ≡ Some (ask name asked)
      → HasRun call.status → HasLookedAs (file_of (look_at asked).kind) (TellsFound (look_at asked)) call.status name
      (held call) (left_of call) (named_as call)
  pub judged : IsTrue source.tells → (name : List ℕ) → call.words ≡ Some (check name)
      → HasRun call.status → HasVerdict call.status name (held call) (left_of call) (named_as call)
  pub audited : IsTrue source.tells → (name : List ℕ) → call.words ≡ Some (audit name)
      → HasRun call.status → HasFinding call.status name (held call) (left_of call) (named_as call)
  pub tabled : IsTrue source.tells → (name : List ℕ) → call.words ≡ Some (show name)
      → HasRun call.status → HasTable call.status name (held call) (left_of call) (named_as call)
  pub searched : IsTrue source.tells → (name : List ℕ) (steps : List StepView)
      → call.words ≡ Some (find name steps) → HasRun call.status
      → HasLooked (TellsMatch steps) call.status name (held call) (left_of call) (named_as call)
  pub drawn : IsTrue source.tells → (name : List ℕ) (from to : ℕ)
      → call.words ≡ Some (wave name from to) → HasRun call.status
      → HasLooked TellsNothing call.status name (held call) (left_of call) (named_as call)
  pub ran : (name : List ℕ) (dump_name : Option (List ℕ)) → call.words ≡ Some (run name dump_name)
      → HasRun call.status → HasRanAs call name dump_name call.status
  pub generated : (seed agents items : ℕ) → call.words ≡ Some (gen seed agents items)
      → HasRun call.status → HasMadeAs call seed agents items call.status
  pub silent : IsSilent call.status → call.after ≡ call.before
  pub looked_text : IsTrue source.tells → IsTrue out.tells → (m : Marks)
      (w : List Sample) → Reads (held call) m w → (name : List ℕ) (asked : Asked)
      → call.words ≡ Some (ask name asked)
      → IsWritten call.status ((look_at asked).text call.weights m w) (printed_before call) (printed call)
  pub line : IsTrue source.tells → IsTrue out.tells → (m : Marks) (w : List Sample)
      → Reads (held call) m w → (name : List ℕ) → call.words ≡ Some (check name)
      → IsTold call.status m w (printed_before call) (printed call)
  pub audited_text : IsTrue source.tells → IsTrue out.tells → (m : Marks)
      (w : List Sample) → Reads (held call) m w → (name : List ℕ)
      → call.words ≡ Some (audit name)
      → IsWritten call.status (finding_text m w) (printed_before call) (printed call)
  pub tabled_text : IsTrue source.tells → IsTrue out.tells → (m : Marks)
      (w : List Sample) → Reads (held call) m w → (name : List ℕ)
      → call.words ≡ Some (show name)
      → IsWritten call.status (show_text call.weights m w) (printed_before call) (printed call)
  pub searched_text : IsTrue source.tells → IsTrue out.tells → (m : Marks)
      (w : List Sample) → Reads (held call) m w → (name : List ℕ) (steps : List StepView)
      → call.words ≡ Some (find name steps)
      → IsWritten call.status (match_text steps w) (printed_before call) (printed call)
  pub drawn_text : IsTrue source.tells → IsTrue out.tells → (m : Marks)
      (w : List Sample) → Reads (held call) m w → (name : List ℕ) (from to : ℕ)
      → call.words ≡ Some (wave name from to)
      → IsWritten call.status (wave_text w from to) (printed_before call) (printed call)
  pub no_dump : IsSilent call.status → call.last ≡ call.first
  pub not_begun : call.status ≡ WriteFault → call.last ≡ call.first
  pub not_named : (bench : List ℕ) → call.words ≡ Some (run bench None) → call.last ≡ call.first
  pub nothing_read : (seed agents items : ℕ) → call.words ≡ Some (gen seed agents items)
      → call.now ≡ call.was
  pub not_dumped : (seed agents items : ℕ) → call.words ≡ Some (gen seed agents items)
      → call.last ≡ call.first
  pub not_written : (form : Form) → call.words ≡ Some form → IsTrue (looks_only form)
      → call.last ≡ call.first

module _ {S O D : Type 0} {source : SourceGhosts S} {out : SinkGhosts O}
    {dump : SinkGhosts D} (call : Call source out dump) (ends : EndsSo call) where
  -- the same of words with this form, and with this status
  of_words : (words : Option Form) → call.words ≡ words → EndsAs call words call.status
  of_words words e = subst (λ (w : Option Form). EndsAs call w call.status) e ends

  of_status : (s : Status) → call.status ≡ s → EndsAs call call.words s
  of_status s e = subst (λ (it : Status). EndsAs call call.words it) e ends

  of_both : (form : Form) (s : Status) → call.words ≡ Some form → call.status ≡ s
      → EndsAs call (Some form) s
  of_both form s e is = subst (λ (it : Status). EndsAs call (Some form) it) is (of_words (Some form) e)

  pub promised : Promised call
  promised = record {
    bad_words = λ e. so.bad_words call call.words (of_status BadWords e);
    no_form = λ e. so.no_form call call.status (of_words None e);
    not_called = λ e. so.not_called call call.status (of_words None e);
    read_fault = λ e. so.read_fault call call.words (of_status ReadFault e);
    too_long = λ tells is form e. so.too_long call form tells (of_both form TooLong e is);
    bad_bench = λ tells fault is.
        so.bad_bench call call.words tells fault (of_status (BadBench fault) is);
    bad_dump = λ tells fault is.
        so.bad_dump call call.words tells fault (of_status (BadDump fault) is);
    long_read = λ tells is form e. so.long_read call form tells (of_both form TooLong e is);
    memory_read = λ tells is form e. so.memory_read call form tells (of_both form OutOfMemory e is);
    not_read = λ tells is form e. so.not_read call form tells (of_both form ReadFault e is);
    write_fault = λ e. so.write_fault call call.words (of_status WriteFault e);
    dump_fault = λ e. so.dump_fault call call.words (of_status DumpFault e);
    dump_has_name = λ bench e.
        so.dump_has_name call bench call.status (of_words (Some (run bench None)) e);
    of_run = λ name dump e.
        so.of_run call name dump call.status (of_words (Some (run name dump)) e);
    of_gen = λ seed agents items e.
        so.of_gen call seed agents items call.status (of_words (Some (gen seed agents items)) e);
    of_look = λ name asked e. so.of_look call name asked call.status (of_words (Some (ask name asked)) e);
    of_check = λ name e. so.of_check call name call.status (of_words (Some (check name)) e);
    of_audit = λ name e. so.of_audit call name call.status (of_words (Some (audit name)) e);
    of_show = λ name e. so.of_show call name call.status (of_words (Some (show name)) e);
    of_find = λ name steps e.
        so.of_find call name steps call.status (of_words (Some (find name steps)) e);
    of_wave = λ name from to e.
        so.of_wave call name from to call.status (of_words (Some (wave name from to)) e);
    looked = λ tells name asked e runs.
        so.looked call name asked call.status tells runs (of_words (Some (ask name asked)) e);
    judged = λ tells name e runs.
        so.judged call name call.status tells runs (of_words (Some (check name)) e);
    audited = λ tells name e runs.
        so.audited call name call.status tells runs (of_words (Some (audit name)) e);
    tabled = λ tells name e runs.
        so.tabled call name call.status tells runs (of_words (Some (show name)) e);
    searched = λ tells name steps e runs.
        so.searched call name steps call.status tells runs (of_words (Some (find name steps)) e);
    drawn = λ tells name from to e runs.
        so.drawn call name from to call.status tells runs (of_words (Some (wave name from to)) e);
    ran = λ name dump e runs.
        so.ran call name dump call.status runs (of_words (Some (run name dump)) e);
    generated = λ seed agents items e runs.
        so.generated call seed agents items call.status runs
        (of_words (Some (gen seed agents items)) e);
    silent = λ is. so.silent call call.words call.status ends is;
    looked_text = λ tells prints m w reads name asked e.
        so.looked_text call name asked m w call.status tells prints reads (of_words (Some (ask name asked)) e);
    line = λ tells prints m w reads name e.
        so.told_text call name m w call.status tells prints reads (of_words (Some (check name)) e);
    audited_text = λ tells prints m w reads name e.
        so.audited_text call name m w call.status tells prints reads
        (of_words (Some (audit name)) e);
    tabled_text = λ tells prints m w reads name e.
        so.tabled_text call name m w call.status tells prints reads
        (of_words (Some (show name)) e);
    searched_text = λ tells prints m w reads name steps e.
        so.searched_text call name steps m w call.status tells prints reads
        (of_words (Some (find name steps)) e);
    drawn_text = λ tells prints m w reads name from to e.
        so.drawn_text call name from to m w call.status tells prints reads
        (of_words (Some (wave name from to)) e);
    no_dump = λ is. so.no_dump call call.words call.status ends is;
    not_begun = λ e. so.not_begun call call.words (of_status WriteFault e);
    not_named = λ bench e. so.not_named call bench call.status (of_words (Some (run bench None)) e);
    nothing_read = λ seed agents items e.
        so.nothing_read call seed agents items call.status
        (of_words (Some (gen seed agents items)) e);
    not_dumped = λ seed agents items e.
        so.not_dumped call seed agents items call.status
        (of_words (Some (gen seed agents items)) e);
    not_written = λ form e looks. so.not_written call form call.status (of_words (Some form) e) looks;
  }
