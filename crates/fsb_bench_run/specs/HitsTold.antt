-- The agents of a bench after the hits of a clock.
use Rattle.std.specs.Prelude.{◌≡◌, ℕ, Some, slice_get}
use Rattle.fsb_agent_view.specs.AgentViews.{AgentView}
use Rattle.fsb_agent_run.specs.Stages.{IsViewAfterHit}
use Rattle.fsb_timely.specs.Runs.{Run, past_of}
use Rattle.fsb_bench_view.specs.BenchSteps.{step_performed}
use Rattle.fsb_bench_view.specs.BusViews.{BenchView, next_clock_of}

-- the agents of the bench after the hits of its clock are those of this run after its hits there
pub record HasHitsOf (v : BenchView) (s : Run) : Type 0 where
  pub after : (a : ℕ) (w : AgentView) → slice_get (step_performed v).agents a ≡ Some w
      → IsViewAfterHit (past_of s) a (next_clock_of v) w
