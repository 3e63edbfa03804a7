-- What the parts of an agent stand for.
use Rattle.std.specs.Prelude.{◌≡◌, ◌<◌, ◌≤◌, ℕ, Bool, true, ◌&&◌, ◌||◌, List, [], ◌∷◌, length, Option, None}
use Rattle.std.specs.List.{list_all}
use Rattle.fsb_access.specs.declared.access.Access.{Access}
use Rattle.fsb_access.specs.declared.item.Item.{Item}
use Rattle.fsb_access.specs.declared.item.Item.TheVariants.{One, Locked, Idle}
use Rattle.fsb_access.specs.Access.{accessed_line, is_lawful_access}
use Rattle.fsb_cache.specs.Sets.{CacheSets, HasRoomFor, sets_filled, states}
use Rattle.fsb_line.specs.declared.state.Mesi.{Mesi}
use Rattle.fsb_line.specs.States.{is_held, is_sole}
use Rattle.fsb_linebuf.specs.Buffers.{fill_on}
use Rattle.fsb_timely.specs.Scripts.{Need, is_load}
use Rattle.fsb_agent_view.specs.declared.want.OwnRequest.{OwnRequest}
use Rattle.fsb_agent_view.specs.AgentViews.{AgentView}
use Rattle.fsb_agent_view.specs.OwnRequests.{requests_granted}
use Rattle.fsb_agent_view.specs.Snooping.{with_fill}
use Rattle.fsb_agent_view.specs.Serving.{AtHand}
use Rattle.fsb_agent.specs.declared.hand.Hand.{Hand}
use Rattle.fsb_agent.specs.declared.need.LineNeed.{LineNeed}
use Rattle.fsb_agent.specs.declared.parts.Parts.{Parts}

-- what accesses work on
abbrev pub at_hand : Hand → AtHand
at_hand hand = record { lines = hand.cache; last = hand.last }

-- the agent that has these parts
abbrev pub parts_view : Parts → AgentView
parts_view parts = record {
  number = parts.number;
  items = parts.script;
  ahead = parts.ahead;
  profile = parts.profile;
  lines = parts.hand.cache;
  buffers = parts.buffers;
  outs = parts.outs.items;
  place = parts.place;
  idle_to = parts.idle_to;
  finished = parts.finished;
  last = parts.hand.last;
}

-- the need, after items with these lines
abbrev pub need_after : List ℕ → LineNeed → Need
need_after earlier need = record {
  line = need.line;
  alone = need.alone;
  chunk = need.chunk;
  locked = need.locked;
  earlier = earlier;
}

-- the access may be performed on these lines: a load on a line that is held, a store on one that is held alone
abbrev pub is_servable : CacheSets → Access → Bool
is_servable lines access =
    is_held (states lines (accessed_line access)) && (is_load access || is_sole (states lines (accessed_line access)))

-- the accesses of an item
abbrev pub accesses_in : Item → List Access
accesses_in (One access) = access ∷ []
accesses_in (Locked group) = group
accesses_in (Idle clocks) = []

-- the item may be performed: it has at most eight accesses, each lawful, and each may be performed on these lines
pub record IsPerformable (lines : CacheSets) (item : Item) : Type 0 where
  pub few : length (accesses_in item) ≤ 8
  pub lawful : list_all is_lawful_access (accesses_in item) ≡ true
  pub servable : list_all (is_servable lines) (accesses_in item) ≡ true

-- the agent that gets the line of its request in this state, with these bytes, and whose request keeps some bytes
abbrev pub won_by : AgentView → OwnRequest → Mesi → List ℕ → Option (List ℕ) → AgentView
won_by v out state bytes kept = record v {
  lines = sets_filled v.lines out.request.line state bytes;
  buffers = with_fill v.buffers out.request.line out.number;
  outs = requests_granted out.number kept v.outs;
}

-- the agent has room for the line of this request: in the line's set, and for its fill
pub record IsGrantable (v : AgentView) (out : OwnRequest) : Type 0 where
  pub few : length v.buffers.fills < 4
  pub free : fill_on out.request.line v.buffers.fills ≡ None
  pub room : HasRoomFor v.lines out.request.line
