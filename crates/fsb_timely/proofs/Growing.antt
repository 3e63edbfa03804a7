-- A simulation that grows by a clock, and the one of no clock.
use Rattle.std.proofs.Common.{ℕ, [], length, IsTrue, refl, arith}
use Rattle.fsb_access.specs.Replay.{Served}
use Rattle.fsb_access.specs.ScriptOrder.{AreOfItems, InOrder, script_of, steps_of}
use Rattle.fsb_script.specs.Plans.{PlanView}
use Rattle.fsb_signal.specs.Samples.{is_known_trace}
use Rattle.fsb_count.specs.Clocks.{count_where}
use Rattle.fsb_timely.specs.Carried.{carries_data}
use Rattle.fsb_timely.specs.Completions.{is_in_time}
use Rattle.fsb_timely.specs.Growth.{GrowsTo}
use Rattle.fsb_timely.specs.Runs.{Run, requests_below}
use Rattle.fsb_timely.specs.Simulated.{Simulated}
use Rattle.fsb_timely.specs.Timely.{Part, AtEachClock, holds_at, IsTimelyAt, Timely}
use Rattle.fsb_timely.proofs.Next.{each_clock-more, timely-more}

pub simulated-more : (r s : Run) → Simulated r → GrowsTo r s → IsTrue (is_known_trace s.trace)
    → IsTimelyAt s (length r.trace) → IsTrue (holds_at carries_data s (length r.trace))
    → InOrder s.plan.scripts s.log → Served s.plan.mem s.log → Simulated s
simulated-more r s old grows known new carried in_order served = grind (arith, timely-more, each_clock-more)

-- the run of no clock
abbrev nothing : PlanView → Run
nothing plan = record { plan = plan; choices = []; holds = []; trace = []; log = [] }

at_no_clock : (part : Part) (plan : PlanView) → AtEachClock part (nothing plan)
at_no_clock part plan = record { at = λ c l. absurd (omega (arith, l)) }

follows_nothing : (plan : PlanView) (agent : ℕ) → AreOfItems (script_of plan.scripts agent) (steps_of agent [])
follows_nothing plan agent = record { items = 0; same = refl }

timely_nothing : (plan : PlanView) → Timely (nothing plan)
unfolding requests_below count_where is_in_time
timely_nothing plan = grind arith

pub empty-simulated : (plan : PlanView)
    → Simulated (record { plan = plan; choices = []; holds = []; trace = []; log = [] })
empty-simulated plan = record {
  timely = timely_nothing plan;
  carried = at_no_clock _ plan;
  in_order = record { follows = follows_nothing plan; together = refl };
  served = refl;
}
