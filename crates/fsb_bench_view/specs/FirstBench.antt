-- The bench of a plan before its first clock.
use Rattle.std.specs.Prelude.{ℕ, Bool, false, List, [], ◌∷◌, replicate, None}
use Rattle.std.specs.List.{list_any}
use Rattle.fsb_access.specs.ScriptOrder.{script_of}
use Rattle.fsb_access.specs.declared.item.Item.{Item}
use Rattle.fsb_agent_view.specs.AgentEvents.{first_view}
use Rattle.fsb_agent_view.specs.AgentViews.{AgentView}
use Rattle.fsb_memory.specs.Controller.{start_bytes}
use Rattle.fsb_script.specs.Plans.{PlanView}
use Rattle.fsb_timely.specs.Kept.{is_named_in}
use Rattle.fsb_bench_view.specs.BusViews.{BenchView, BusView}

-- the agent of this number, before any event; its script is empty where the plan has none for it
abbrev pub first_agent : PlanView → ℕ → AgentView
first_agent plan n = first_view n (script_of plan.scripts n) plan.cache plan.ahead plan.profile

-- the four agents of a plan, before any event
abbrev pub first_agents : PlanView → List AgentView
first_agents plan = first_agent plan 0 ∷ first_agent plan 1 ∷ first_agent plan 2 ∷ first_agent plan 3 ∷ []

-- the scripts name the line
abbrev pub is_named_line : List (List Item) → ℕ → Bool
is_named_line scripts line = list_any (λ items. list_any (is_named_in line) items) scripts

-- a quiet bus with the agents and the memory of a plan
abbrev pub first_bus : PlanView → BusView
first_bus plan = record {
  agents = first_agents plan;
  queue = [];
  bridge = record { window = plan.bridge; waiting = [] };
  served = [];
  moved = replicate 32 0;
  memory = start_bytes plan.mem;
  latest = None;
  started = [];
  kept = replicate 4 false;
}

-- a quiet bus, and an empty run
abbrev pub first_bench : PlanView → BenchView
first_bench plan = record {
  bus = first_bus plan;
  run = record { plan = plan; choices = []; holds = []; trace = []; log = [] };
}
