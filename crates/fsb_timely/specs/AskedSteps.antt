-- Asked, step by step: the choice and the hold that a step adds are what the objects answered that stand at that step.
use Rattle.std.specs.Prelude.{Bool, List, Option, Some, length, slice_get, true, ℕ, ◌≡◌, ◌<◌}
use Rattle.fsb_signal.specs.declared.lines.TheConstants.Lines.{ADS}
use Rattle.fsb_signal.specs.Samples.{line_at}
use Rattle.fsb_hazard.specs.declared.choice.Choice.{Choice}
use Rattle.fsb_hazard.specs.Told.{Told}
use Rattle.fsb_timely.specs.Asked.{IsChosen, IsHold}
use Rattle.fsb_timely.specs.Growth.{IsNext}
use Rattle.fsb_timely.specs.Runs.{Run, requests_below}

-- what the run has of clock c is what objects that tell this answered: the choice for the request that begins there, if one
-- does, and the hold
pub record IsAskedAt (objects : List (Option Told)) (r : Run) (c : ℕ) : Type 0 where
  pub chosen : (choice : Choice) → line_at ADS r.trace c ≡ true
      → slice_get r.choices (requests_below r.trace c) ≡ Some choice
      → IsChosen objects (requests_below r.trace c) choice
  pub held : (hold : Bool) → slice_get r.holds c ≡ Some hold → IsHold objects c hold

-- the run was asked step by step, where `standing c` is what the objects tell that stand at the step of clock c: between two
-- steps objects may come and go
pub record AskedInSteps (standing : ℕ → List (Option Told)) (r : Run) : Type 0 where
  pub at : (c : ℕ) → c < length r.trace → IsAskedAt (standing c) r c

-- what this step adds to the run is what objects that tell this answered: its choice, if it adds one, and its hold
pub record IsAskedStep (objects : List (Option Told)) (r s : Run) (step : IsNext r s) : Type 0 where
  pub chosen : (choice : Choice) → slice_get step.choices 0 ≡ Some choice → IsChosen objects (length r.choices) choice
  pub held : IsHold objects (length r.trace) step.hold
