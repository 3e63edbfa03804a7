-- What a call of `bench` leaves behind: a row for each form of its words. It says what was read and
-- under which name, what that means, what was printed and dumped, and what stayed as it was.
use Rattle.std.specs.Prelude.{◌≡◌, ◌≢◌, ◌≤◌, ◌⊎◌, ℕ, IsTrue, List, Option, Some, None, length}
use Rattle.fsb_command.specs.Form.{Form, run, ask, gen}
use Rattle.fsb_hazard.specs.Told.{Told}
use Rattle.fsb_io.specs.Faults.{Rose}
use Rattle.fsb_io.specs.declared.sink.Sink.{Ghosts as SinkGhosts}
use Rattle.fsb_io.specs.declared.source.Source.{Ghosts as SourceGhosts}
use Rattle.fsb_play.specs.Printed.{run_dump, run_log, run_summary}
use Rattle.fsb_script.specs.Made.{made_plan}
use Rattle.fsb_script.specs.Plans.{PlanView}
use Rattle.fsb_signal.specs.declared.marks.Marks.{Marks}
use Rattle.fsb_signal.specs.declared.sample.Sample.{Sample}
use Rattle.fsb_timely.specs.Runs.{Run}
use Rattle.fsb_top.specs.BenchEnds.{HasRunFrom, HasRunOf, IsDumped, IsLogged, IsPlanOf, IsWritten}
use Rattle.fsb_top.specs.declared.status.Status.{Status}
use Rattle.fsb_top.specs.declared.status.Status.TheVariants.{BadWords, Done, DumpFault}
use Rattle.fsb_top.specs.declared.status.Status.TheVariants.{OutOfMemory, WriteFault}
use Rattle.vcd_grammar.specs.Reading.{Reads}
use Rattle.fsb_top.specs.FileRead.{bench_file, file_of}
use Rattle.fsb_top.specs.FileRead.{IsReadAll, IsStopped, sample_limit}
use Rattle.fsb_top.specs.Looks.{Look, look_at, status_of}

-- ---- commands that look at a dump

-- the dump was read whole, this was found in its trace, and the sink has the text of the trace
-- behind what it held, or a first part of the text where it failed
pub record HasTold {S O : Type 0} (text : Marks → List Sample → List ℕ) (name : List ℕ) (look : Look)
    (source : SourceGhosts S) (was now : S) (out : SinkGhosts O) (before after : O) (found : look.Found)
    (status : Status)
    : Type 0 where
  pub marks : Marks
  pub trace : List Sample
  pub read : IsReadAll source (file_of look.kind) name was now
  pub reads : Reads (source.holds was) marks trace
  pub few : length trace ≤ sample_limit (file_of look.kind)
  pub is_found : found ≡ look.found marks trace
  pub printed : IsTrue out.tells
      → IsWritten status (text marks trace) (out.holds before) (out.holds after)

-- the status is this one, or the sink of what is printed failed
abbrev pub EndsTold : {O : Type 0} → SinkGhosts O → O → O → Status → Status → Type 0
EndsTold out before after told status =
    (status ≡ told) ⊎ ((status ≡ WriteFault) × Rose (out.faults before) (out.faults after))

-- something was found, and the status is that of the answer to what was found, or the sink failed
pub record HasLookedAt {S O : Type 0} (text : Marks → List Sample → List ℕ) (name : List ℕ) (look : Look)
    (source : SourceGhosts S) (was now : S) (out : SinkGhosts O) (before after : O) (status : Status)
    : Type 0 where
  pub found : look.Found
  pub ends : EndsTold out before after (status_of (look.answer found)) status
  pub told : IsTrue source.tells
      → HasTold text name look source was now out before after found status

-- a dump was looked at, or the call was stopped before, and then nothing was printed
abbrev pub LookEnds
    : {S O : Type 0} → SourceGhosts S → SinkGhosts O → S → S → O → O → List (Sample → ℕ) → List ℕ
    → Look → Status → Type 0
LookEnds source out was now before after weights name look status =
    (IsStopped source (file_of look.kind) name was now status × (after ≡ before))
    ⊎ HasLookedAt (look.text weights) name look source was now out before after status

-- ---- the whole call

-- what is said of the sink of the dump: that it stays as it was, that it failed, and that after a
-- call with this status it has this dump of a run, where the words name one
pub record DumpCall : Type 1 where
  pub Stays : Type 0
  pub Fails : Type 0
  pub Has : Status → List ℕ → Option (List ℕ) → Type 0

-- the sink of the dump, before and after a call
abbrev pub dump_call : {D : Type 0} → SinkGhosts D → D → D → DumpCall
dump_call sink was now = record {
  Stays = now ≡ was;
  Fails = Rose (sink.faults was) (sink.faults now);
  Has = λ status text name. IsTrue sink.tells → IsDumped status text name
      (sink.holds was) (sink.begun_as was) (sink.holds now) (sink.begun_as now);
}

-- a run was made and its log or summary was printed; the sink of these failed, and then no dump was
-- begun; or the sink of the dump failed, and the words name a dump
abbrev pub IsPlayed : Type 0 → DumpCall → Option (List ℕ) → Status → Type 0
IsPlayed Failed dump name Done = Unit {0}
IsPlayed Failed dump name WriteFault = Failed × dump.Stays
IsPlayed Failed dump name DumpFault = dump.Fails × (name ≢ None)
IsPlayed Failed dump name _ = ⊥

module _ {O : Type 0} (out : SinkGhosts O) (dump : DumpCall) (before after : O) where
  -- a plan was run, and what was printed and dumped is of one run of it, or memory lacked; without
  -- a name for a dump nothing is dumped
  abbrev pub PlanEnds : List (Option Told) → PlanView → (Run → List ℕ) → Option (List ℕ) → Status
      → Type 0
  PlanEnds told plan text name status = (name ≡ None → dump.Stays)
      × (((status ≡ OutOfMemory) × (after ≡ before) × dump.Stays)
      ⊎ (IsPlayed (Rose (out.faults before) (out.faults after)) dump name status
      × HasRunOf told plan (λ r.
      (IsTrue out.tells → IsLogged status (text r) (out.holds before) (out.holds after))
      × dump.Has status (run_dump r) name)))

  -- the plan that is made from a seed was run, or memory lacked; nothing is dumped
  abbrev pub GenEnds : (PlanView → List (Option Told)) → ℕ → ℕ → ℕ → Status → Type 0
  GenEnds told seed agents items status = dump.Stays
      × (((status ≡ OutOfMemory) × (after ≡ before))
      ⊎ (IsPlayed (Rose (out.faults before) (out.faults after)) dump None status
      × HasRunOf (told (made_plan seed agents items)) (made_plan seed agents items)
      (λ r. IsTrue out.tells → IsLogged status (run_summary seed agents items r)
      (out.holds before) (out.holds after))))

module _ {S O : Type 0} (source : SourceGhosts S) (out : SinkGhosts O) (dump : DumpCall)
    (was now : S) (before after : O) where
  -- nothing was printed and nothing dumped
  abbrev pub IsSilentCall : Type 0
  IsSilentCall = (after ≡ before) × dump.Stays

  -- a dump was looked at, and nothing is dumped
  abbrev pub LookRow : List (Sample → ℕ) → List ℕ → Look → Status → Type 0
  LookRow weights name look status =
      dump.Stays × LookEnds source out was now before after weights name look status

  -- a bench file was run, or the call was stopped before; the log and the dump are of one run of
  -- the file's plan; without a name for a dump nothing is dumped
  abbrev pub RunEnds
      : (PlanView → List (Option Told)) → List ℕ → Option (List ℕ) → Status → Type 0
  RunEnds told bench name status = (name ≡ None → dump.Stays)
      × ((IsStopped source bench_file bench was now status × IsSilentCall)
      ⊎ (IsPlayed (Rose (out.faults before) (out.faults after)) dump name status
      × HasRunFrom (λ plan. IsTrue source.tells
      → IsPlanOf bench (source.holds was) (source.left now) (source.begun_as now) plan) told
      (λ r. (IsTrue out.tells
      → IsLogged status (run_log r) (out.holds before) (out.holds after))
      × dump.Has status (run_dump r) name)))

  -- the row of each form of the words, where the objects tell `told` once they were given the
  -- hazard lines of a plan, and the probes have these weights
  abbrev pub RowEnds
      : (PlanView → List (Option Told)) → List (Sample → ℕ) → Form → Status → Type 0
  RowEnds told weights (run bench name) status = RunEnds told bench name status
  RowEnds told weights (ask name asked) status = LookRow weights name (look_at asked) status
  RowEnds told weights (gen seed agents items) status =
      (now ≡ was) × GenEnds out dump before after told seed agents items status

  -- nothing was read, printed or dumped
  abbrev pub IsUntouched : Type 0
  IsUntouched = (now ≡ was) × (after ≡ before) × dump.Stays

  -- words of no form are told so, or memory lacked, and nothing is touched; for words with a form
  -- its row holds, or memory lacked before the call touched anything
  abbrev pub CallEnds
      : (PlanView → List (Option Told)) → List (Sample → ℕ) → Option Form → Status → Type 0
  CallEnds told weights None status =
      ((status ≡ BadWords) ⊎ (status ≡ OutOfMemory)) × IsUntouched
  CallEnds told weights (Some form) status =
      ((status ≡ OutOfMemory) × IsUntouched) ⊎ RowEnds told weights form status
