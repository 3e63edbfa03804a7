-- What a watcher that writes has written.
use Rattle.std.specs.Prelude.{◌≡◌, ℕ, ◌≤◌, ◌^◌, ◌++◌, [], List, Bool, All, IsTrue, length}
use Rattle.fsb_signal.specs.declared.sample.Sample.{Sample}
use Rattle.fsb_io.specs.Faults.{Rose}
use Rattle.vcd_way.specs.Events.{DumpEvent}
use Rattle.scope_check.specs.Parting.{HasParted}
use Rattle.scope_write.specs.Samples.{Has64Lines}
use Rattle.scope_write.specs.Standing.{Stands}
use Rattle.scope_write.specs.Text.{shown_dump}
use Rattle.scope_copy.specs.declared.copier.Copier.{Copier}

-- the second has become of the first, which stood behind the header, as it was shown these events: it writes to the same
-- sink, and these samples of the part of the events were written
pub record HasCopied {D : Type 0} (tells : Bool) (holds : D → List ℕ) (faults : D → ℕ) (first now : Copier D) (events : List DumpEvent) : Type 0 where
  pub same : now.sink.ghost_name ≡ first.sink.ghost_name
  pub samples : List Sample
  pub parted : HasParted now.parting first.part events samples
  pub written : Stands now.writer first.there samples
  pub within : All Has64Lines samples
  pub few : length samples ≤ 10 ^ 18
  pub later : faults first.sink.now ≤ faults now.sink.now
  pub text : IsTrue tells → (begun : List ℕ) → holds first.sink.now ≡ begun ++ shown_dump first.there []
      → holds now.sink.now ≡ begun ++ shown_dump first.there samples

-- it has become so as its sink failed
pub record HasFailed {D : Type 0} (faults : D → ℕ) (first now : Copier D) : Type 0 where
  pub same : now.sink.ghost_name ≡ first.sink.ghost_name
  pub rose : Rose (faults first.sink.now) (faults now.sink.now)
