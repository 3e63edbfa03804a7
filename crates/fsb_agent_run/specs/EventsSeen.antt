-- Whether an agent may see its events, one after the other.
use Rattle.std.specs.Prelude.{◌&&◌, Bool, true, is_some, List, [], ◌∷◌}
use Rattle.fsb_agent_view.specs.AgentEvents.{AgentEvent, Arrived, Committed, GivenUp, HandedOn, Performed, Sent, UpgradeEnded, agent_after}
use Rattle.fsb_agent_view.specs.AgentViews.{AgentView}
use Rattle.fsb_agent_view.specs.Arriving.{hand_by, may_arrive, may_end_upgrade, may_give_up}
use Rattle.fsb_agent_view.specs.Snooping.{may_commit}
use Rattle.fsb_agent_view.specs.Wanting.{may_send}

-- the agent may see this event: it passes the test of the event, and has the bytes that it hands on
unfoldable pub may_see : AgentView → AgentEvent → Bool
may_see v (Performed clock) = true
may_see v (Sent clock number) = may_send v clock number
may_see v (Committed number mine request shared outcome) = may_commit v number mine outcome
may_see v (HandedOn number) = is_some (hand_by v number)
may_see v (Arrived clock number bytes) = may_arrive v number
may_see v (UpgradeEnded clock number) = may_end_upgrade v number
may_see v (GivenUp number) = may_give_up v number

-- the agent may see each of these events behind those before it
unfoldable pub may_see_all : AgentView → List AgentEvent → Bool
may_see_all v [] = true
may_see_all v (event ∷ events) = may_see v event && may_see_all (agent_after v event) events
