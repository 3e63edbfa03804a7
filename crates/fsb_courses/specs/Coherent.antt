-- Which traces a coherent system could have made.
use Rattle.std.specs.Prelude.{◌≡◌, ◌<◌, ℕ, ◌+◌, false, List, length, take}
use Rattle.fsb_trace.specs.At.{Trace}
use Rattle.fsb_owners.specs.Joint.{Joint}
use Rattle.fsb_owners.specs.Shown.{is_spoiled}
use Rattle.fsb_courses.specs.Courses.{HasCourse}
use Rattle.fsb_courses.specs.Turns.{WaitTheirTurn}

-- a coherent system could have made what v shows of the line up to c, its last clock: the requests for the line wait for their
-- turn, and the line has a course through all clocks of v
pub record IsCoherentlyMade (first : List Joint) (v : Trace) (line c : ℕ) : Type 0 where
  pub turns : WaitTheirTurn v line c
  pub course : HasCourse first v line (c + 1)

-- so it is with each line in the first c + 1 samples, unless one of its requests failed hard in them
abbrev pub AreCoherentlyMade : List Joint → Trace → ℕ → Type 0
AreCoherentlyMade first w c =
    (line : ℕ) → is_spoiled (take (c + 1) w) line ≡ false → IsCoherentlyMade first (take (c + 1) w) line c

-- a coherent system could have made the trace: up to each of its clocks it is so
abbrev pub CouldBeMade : List Joint → Trace → Type 0
CouldBeMade first w = (c : ℕ) → c < length w → AreCoherentlyMade first w c
