-- An agent's events, and the agent that stands for a list of them.
use Rattle.std.specs.Prelude.{◌≡◌, ℕ, Bool, List, [], fold, length, None}
use Rattle.fsb_access.specs.declared.item.Item.{Item}
use Rattle.fsb_encode.specs.declared.request.Request.{Request}
use Rattle.std.specs.Prelude.{replicate}
use Rattle.fsb_trace.specs.declared.outcome.Outcome.{Outcome}
use Rattle.fsb_agent_view.specs.Arriving.{line_arrived, given_up, handed_on, upgrade_ended}
use Rattle.fsb_agent_view.specs.Completing.{performed}
use Rattle.fsb_agent_view.specs.Idling.{idle_from, place_from}
use Rattle.fsb_agent_view.specs.Snooping.{committed}
use Rattle.fsb_agent_view.specs.AgentViews.{AgentView}
use Rattle.fsb_agent_view.specs.Wanting.{sent}

-- what happens to an agent
pub data AgentEvent : Type 0 where
  -- it performs its hit at a clock, if it has one
  Performed : (clock : ℕ) → AgentEvent
  -- its want at a clock begins as the request of this number
  Sent : (clock number : ℕ) → AgentEvent
  -- the snoop end of the request of this number: its own or not, the request, whether it is seen as shared, its outcome
  Committed : (number : ℕ) (mine : Bool) (request : Request) (shared : Bool) (outcome : Outcome) → AgentEvent
  -- it hands on the bytes that it owes to the transaction of this number
  HandedOn : (number : ℕ) → AgentEvent
  -- at a clock the last bytes of its request of this number come
  Arrived : (clock number : ℕ) (bytes : List ℕ) → AgentEvent
  -- at a clock its upgrade of this number ends, for which no data moved
  UpgradeEnded : (clock number : ℕ) → AgentEvent
  -- its request of this number is not outstanding any more
  GivenUp : (number : ℕ) → AgentEvent

-- the agent after an event
abbrev pub agent_after : AgentView → AgentEvent → AgentView
agent_after v (Performed clock) = performed v clock
agent_after v (Sent clock number) = sent v clock number
agent_after v (Committed number mine request shared outcome) = committed v number mine request shared outcome
agent_after v (HandedOn number) = handed_on v number
agent_after v (Arrived clock number bytes) = line_arrived v clock number bytes
agent_after v (UpgradeEnded clock number) = upgrade_ended v clock number
agent_after v (GivenUp number) = given_up v number

-- an agent before any event: of this number, with this script, an empty cache of so many lines, so many requests at most
-- outstanding, and this profile. It idles from clock 0 for the idle items in front of its script
abbrev pub first_view : ℕ → List Item → ℕ → ℕ → ℕ → AgentView
first_view number items lines ahead profile = record {
  number = number;
  items = items;
  ahead = ahead;
  profile = profile;
  lines = replicate lines None;
  buffers = record { fills = []; pushes = [] };
  outs = [];
  place = place_from items 0;
  idle_to = idle_from items 0;
  finished = None;
  last = 0;
}

-- an agent like this one, before any event
abbrev pub first_like : AgentView → AgentView
first_like v = first_view v.number v.items (length v.lines) v.ahead v.profile

-- the agent stands for these events: it is what they make of such an agent, one after the other
abbrev pub Stands : AgentView → List AgentEvent → Type 0
Stands v events = v ≡ fold agent_after (first_like v) events
