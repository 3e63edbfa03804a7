-- What a machine has found of the part of a dump.
use Rattle.std.specs.Prelude.{◌≡◌, ℕ, Bool, true, false, Option, Some, None, List, [], ◌∷◌}
use Rattle.fsb_signal.specs.declared.sample.Sample.{Sample}
use Rattle.vcd_way.specs.Events.{DumpEvent, samples_among}
use Rattle.scope_check.specs.declared.judging.Phase.{Phase}
use Rattle.scope_check.specs.declared.judging.Phase.TheVariants as phases
use Rattle.scope_check.specs.declared.part.Part.{Part}
use Rattle.scope_check.specs.declared.parting.Parting.{Parting}
use Rattle.scope_check.specs.Parts.{IsParted, is_none, quiet_run, clocks_of}

-- a sample that was taken, if one was
abbrev pub taken : Option Sample → List Sample
taken None = []
taken (Some sample) = sample ∷ []

-- this sample, if it was taken
abbrev pub taken_if : Bool → Sample → List Sample
taken_if true sample = sample ∷ []
taken_if false sample = []

-- where the part stands behind these events: it has not begun, and so many of the last are quiet; it goes on; it is over
abbrev pub IsReached : Phase → ℕ → List DumpEvent → List DumpEvent → List DumpEvent → Type 0
IsReached phases.Before run before part behind = (part ≡ []) × (behind ≡ []) × (run ≡ quiet_run before)
IsReached phases.Inside run before part behind = (is_none part ≡ false) × (behind ≡ [])
IsReached phases.After run before part behind = (is_none part ≡ false) × (is_none behind ≡ false)

-- the machine was made for this part, and took these events: these are the samples of the part of them
pub record HasParted (g : Parting) (p : Part) (events : List DumpEvent) (samples : List Sample) : Type 0 where
  pub before : List DumpEvent
  pub part : List DumpEvent
  pub behind : List DumpEvent
  pub asked : g.part ≡ p
  pub parted : IsParted p events before part behind
  pub samples_are : samples ≡ samples_among part
  pub start : g.start ≡ clocks_of before
  pub inside : g.inside ≡ clocks_of part
  pub stage : IsReached g.phase g.quiet before part behind
