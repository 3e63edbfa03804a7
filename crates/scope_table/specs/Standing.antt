-- What a watcher that writes has written.
use Rattle.std.specs.Prelude.{◌≡◌, ℕ, ◌+◌, ◌≤◌, ◌++◌, [], ◌∷◌, List, Bool, IsTrue, if◌then◌else◌, nat_eq}
use Rattle.fsb_io.specs.Faults.{Rose}
use Rattle.fsb_trace.specs.At.{Trace}
use Rattle.row_texts.specs.Lines.{head_text}
use Rattle.request_lines.specs.declared.lines.RequestLines.{RequestLines}
use Rattle.request_lines.specs.Standing.{Stands}
use Rattle.request_lines.specs.Tables.{over_text}
use Rattle.vcd_way.specs.Events.{DumpEvent}
use Rattle.scope_check.specs.Parting.{HasParted}
use Rattle.scope_check.specs.Parts.{clocks_of}
use Rattle.scope_watch.specs.declared.stop.ScopeStop.{ScopeStop}
use Rattle.scope_watch.specs.declared.stop.ScopeStop.TheVariants as stops
use Rattle.scope_table.specs.declared.tabler.Tabler.{Tabler}

-- how many clocks came before a part that has so many, with an event more that is none of them
unfoldable pub start_after : ℕ → ℕ → DumpEvent → ℕ
start_after start inside e = if nat_eq inside 0 then start + clocks_of (e ∷ []) else start

-- the second has become of the first, which stood behind the line of the names, as it was shown these events: it writes to the
-- same sink, and the lines of the requests that are over in these samples of the part of the events were written
pub record HasTabled {D : Type 0} (tells : Bool) (holds : D → List ℕ) (faults : D → ℕ) (first now : Tabler D RequestLines) (events : List DumpEvent) : Type 0 where
  pub same : now.sink.ghost_name ≡ first.sink.ghost_name
  pub samples : Trace
  pub parted : HasParted now.parting first.part events samples
  pub start : now.start ≡ clocks_of parted.before
  pub stands : Stands now.lines first.form first.marks samples
  pub later : faults first.sink.now ≤ faults now.sink.now
  pub text : IsTrue tells → (begun : List ℕ) → holds first.sink.now ≡ begun ++ head_text first.form
      → holds now.sink.now ≡ begun ++ over_text first.form now.start first.marks samples

-- it has become so as its sink failed
pub record HasFailed {D : Type 0} (faults : D → ℕ) (first now : Tabler D RequestLines) : Type 0 where
  pub same : now.sink.ghost_name ≡ first.sink.ghost_name
  pub rose : Rose (faults first.sink.now) (faults now.sink.now)

-- why writing stops
abbrev pub IsStopOfWriting : ScopeStop → Type 0
IsStopOfWriting (stops.Bad fault) = ⊥
IsStopOfWriting stops.NoHeader = ⊥
IsStopOfWriting stops.ReadFault = ⊥
IsStopOfWriting stops.TooLong = ⊥
IsStopOfWriting stops.TooMany = ⊥
IsStopOfWriting stops.WriteFault = Unit {0}
IsStopOfWriting stops.Memory = Unit {0}
