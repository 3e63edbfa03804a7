-- The samples that a hunt was fed.
use Rattle.std.specs.Prelude.{◌≡◌, ◌<◌, ℕ, ◌+◌, Option, Some, None, List, length, map, option_map, slice_get, take}
use Rattle.fsb_signal.specs.declared.sample.Sample.{Sample}
use Rattle.fsb_trigger.specs.declared.hunt.Hunt.{Hunt}
use Rattle.fsb_trigger.specs.declared.trigger.Trigger.{Trigger}
use Rattle.fsb_trigger.specs.TriggerSteps.{StepView, view_of}
use Rattle.fsb_trigger.specs.Match.{latest, least_match}

-- the steps of a trigger
abbrev pub steps_in : Trigger → List StepView
steps_in trigger = map view_of trigger.steps.items

-- the clocks that are kept of a match, where there is one
abbrev pub Chain : Type 0
Chain = Option (List ℕ)

-- the first n clocks of those that are kept, where some are
abbrev pub kept : ℕ → Chain → Chain
kept n chain = option_map (take n) chain

-- the latest match of the steps up to step i is kept
abbrev pub KeepsAt : List Chain → List StepView → List Sample → ℕ → Type 0
KeepsAt chains steps h i = option_map (kept (i + 1)) (slice_get chains i) ≡ Some (latest steps h i)

-- for each of the first n steps the latest match of the steps up to it is kept
abbrev pub KeepsFirst : ℕ → List Chain → List StepView → List Sample → Type 0
KeepsFirst n chains steps h = (i : ℕ) → i < n → KeepsAt chains steps h i

-- for each step the latest match of the steps up to it is kept
pub record KeepsLatest (chains : List Chain) (steps : List StepView) (h : List Sample) : Type 0 where
  pub each : KeepsFirst (length steps) chains steps h

-- the hunt searches for these steps and was fed these samples: it found the least match, and as
-- long as there is none it keeps the latest match of the steps up to each
pub record Stands (hunt : Hunt) (steps : List StepView) (h : List Sample) : Type 0 where
  pub searches : steps_in hunt.trigger ≡ steps
  pub counts : hunt.count ≡ length h
  pub finds : kept (length steps) hunt.found ≡ least_match steps h
  pub keeps : hunt.found ≡ None → KeepsLatest hunt.latest steps h
