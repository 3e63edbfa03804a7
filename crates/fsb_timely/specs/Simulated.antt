-- Simulated: what a run, its data and its log are together.
use Rattle.fsb_access.specs.Replay.{Served}
use Rattle.fsb_access.specs.ScriptOrder.{InOrder}
use Rattle.fsb_timely.specs.Runs.{Run}
use Rattle.fsb_timely.specs.Timely.{Timely}
use Rattle.fsb_timely.specs.Carried.{Carried}

-- the run is a simulation: it is timely, its data are carried, its log follows the scripts, and one byte memory serves it
pub record Simulated (r : Run) : Type 0 where
  pub timely : Timely r
  pub carried : Carried r
  pub in_order : InOrder r.plan.scripts r.log
  pub served : Served r.plan.mem r.log
