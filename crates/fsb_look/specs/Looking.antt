-- What a seeker and a drawer have seen.
use Rattle.std.specs.Prelude.{◌≡◌, ℕ, None, List, [], option_map}
use Rattle.fsb_signal.specs.declared.sample.Sample.{Sample}
use Rattle.fsb_trigger.specs.Hunt.{Stands}
use Rattle.fsb_trigger.specs.Match.{least_match}
use Rattle.fsb_trigger.specs.TriggerSteps.{StepView}
use Rattle.fsb_wave.specs.Wave.{Stands as Draws}
use Rattle.fsb_look.specs.declared.find.Seeker.{Seeker}
use Rattle.fsb_look.specs.declared.wave.Drawer.{Drawer}

-- the seeker searches for these steps and has seen these samples: it found their least match, and as long as there is
-- none its hunt was fed them
pub record Seeks (seeker : Seeker) (steps : List StepView) (h : List Sample) : Type 0 where
  pub hunt : seeker.found ≡ None → Stands seeker.hunt steps h
  pub found : option_map (λ found. found.clocks) seeker.found ≡ least_match steps h

-- the seeker has seen nothing yet
abbrev pub CanSeek : Seeker → Type 0
CanSeek seeker = (steps : List StepView) × Seeks seeker steps []

-- a seeker that had seen nothing has seen these samples
abbrev pub HasSought : Seeker → Seeker → List Sample → Type 0
HasSought first now h = (steps : List StepView) × Seeks first steps [] × Seeks now steps h

-- the drawer has seen nothing yet
abbrev pub CanDraw : Drawer → Type 0
CanDraw drawer = (from : ℕ) × (to : ℕ) × Draws drawer.wave from to []

-- a drawer that had seen nothing has seen these samples
abbrev pub HasDrawn : Drawer → Drawer → List Sample → Type 0
HasDrawn first now h = (from : ℕ) × (to : ℕ) × Draws first.wave from to [] × Draws now.wave from to h
