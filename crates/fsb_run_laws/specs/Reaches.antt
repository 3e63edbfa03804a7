-- What the laws of a run share as a premise.
use Rattle.std.specs.Prelude.{◌≤◌, ℕ, length}
use Rattle.fsb_lawful.specs.Beginning.{KeepsBounds}
use Rattle.fsb_timely.specs.Runs.{Run}
use Rattle.fsb_timely.specs.Timely.{Timely}

-- the run is timely, its plan keeps the bounds of a bench file, and it has n clocks at least
pub record Reaches (r : Run) (n : ℕ) : Type 0 where
  pub timely : Timely r
  pub bounds : KeepsBounds r.plan
  pub long : n ≤ length r.trace
