-- How many accesses are still to come, and so how much room a log needs.
use Rattle.std.specs.Prelude.{◌≤◌, ℕ, ◌+◌, List, drop, sum_by}
use Rattle.fsb_access.specs.LogView.{LogView}
use Rattle.fsb_agent_view.specs.AgentViews.{AgentView}
use Rattle.fsb_plan_size.specs.AccessCount.{script_accesses}

-- the accesses of an agent's items from its next one on
abbrev pub accesses_left : AgentView → ℕ
accesses_left v = script_accesses (drop v.place v.items)

-- those of several agents
abbrev pub accesses_left_of : List AgentView → ℕ
accesses_left_of agents = sum_by accesses_left agents

-- the log has room for all accesses that are to come, and for eight entries more
abbrev pub HasLogRoom : List AgentView → LogView → Type 0
HasLogRoom agents log = accesses_left_of agents + 8 ≤ log.spare
