-- What the end of a request does to an agent, and what the agent hands on.
use Rattle.std.specs.Prelude.{ℕ, Bool, true, false, not, ◌==◌, ◌&&◌, ◌||◌, is_some, List, [], Option, Some, None}
use Rattle.std.specs.List.{list_all, list_any}
use Rattle.std.specs.Option.{option_map, option_map_or}
use Rattle.fsb_access.specs.declared.log.Done.{Done}
use Rattle.fsb_cache.specs.Sets.{CacheSets, copies, sets_filled, sets_without}
use Rattle.fsb_line.specs.declared.state.Mesi.{Mesi}
use Rattle.fsb_line.specs.declared.state.Mesi.TheVariants.{Modified}
use Rattle.fsb_line.specs.States.{is_held, kind_owns}
use Rattle.fsb_linebuf.specs.Buffers.{Buffered, fills_without, promise_on, push_for, pushed_to, pushes_without}
use Rattle.fsb_timely.specs.Scripts.{Need, needs_of}
use Rattle.fsb_agent_view.specs.declared.want.OwnRequest.{OwnRequest}
use Rattle.fsb_agent_view.specs.Completing.{completed_by, completed_entries}
use Rattle.fsb_agent_view.specs.OwnRequests.{request_numbered, requests_without}
use Rattle.fsb_agent_view.specs.Snooping.{kind_asks}
use Rattle.fsb_agent_view.specs.AgentViews.{AgentView, is_served_by, may_complete, next_item_by, line_state_by}

-- the bytes that the agent owes to the transaction of this number
abbrev pub hand_by : AgentView → ℕ → Option (List ℕ)
hand_by v number = option_map (λ push. push.bytes) (push_for number v.buffers.pushes)

-- the agent after it handed them on
abbrev pub handed_on : AgentView → ℕ → AgentView
handed_on v number = record v { buffers = record v.buffers { pushes = pushes_without number v.buffers.pushes } }

-- the agent after its request with this number was cancelled or retried, or a write-back has ended
abbrev pub given_up : AgentView → ℕ → AgentView
given_up v number = record v { outs = requests_without number v.outs }

-- the line that comes brings what is needed: any line where the agent owns it, else one that is not needed alone
abbrev pub is_brought_by : ℕ → Bool → Need → Bool
is_brought_by line owns need = (need.line == line) && (owns || not need.alone)

-- the needed line is the one that comes, or serves
abbrev pub is_there_by : AgentView → ℕ → Need → Bool
is_there_by v line need = (need.line == line) || is_served_by v need

-- the line that comes completes an item with these needs: it brings one of them, and each other line serves
abbrev pub are_met_with : AgentView → ℕ → Bool → List Need → Bool
are_met_with v line owns needs = list_any (is_brought_by line owns) needs && list_all (is_there_by v line) needs

-- the agent has an arrival at a clock, where the line of this request comes: it may complete its next item, and the line
-- that comes completes it
abbrev pub is_arrival_by : AgentView → ℕ → OwnRequest → Bool
is_arrival_by v clock out =
    may_complete v clock
    && option_map_or (λ item. are_met_with v out.request.line (kind_owns (kind_asks out.request.kind)) (needs_of item)) (next_item_by v) false

-- the agent, the line with these bytes and its own, as long as its next item may be performed on it
abbrev pub with_bytes : AgentView → ℕ → List ℕ → AgentView
with_bytes v line bytes = record v { lines = sets_filled v.lines line Modified bytes }

-- the agent with the line that comes, after what that completes
abbrev pub met_by : AgentView → ℕ → OwnRequest → List ℕ → AgentView
met_by v clock out bytes =
    let there = with_bytes v out.request.line bytes in
    elim (is_arrival_by v clock out) [ true ↦ completed_by there clock | false ↦ there ]

-- the sets with the line in the state that it is held in, or without it
abbrev pub sets_settled : CacheSets → ℕ → Mesi → CacheSets
sets_settled sets line state =
    elim (is_held state) [ true ↦ sets_filled sets line state (copies sets line) | false ↦ sets_without sets line ]

-- the buffers after the line has come with these bytes: where it was promised, they are owed
abbrev pub buffers_landed : Buffered → ℕ → List ℕ → Buffered
buffers_landed buffers line bytes = record {
  fills = fills_without line buffers.fills;
  pushes = pushed_to (promise_on line buffers.fills) bytes buffers.pushes;
}

-- the agent after a line has come that was held in this state, and its request has ended
abbrev pub landed : AgentView → OwnRequest → Mesi → AgentView
landed v out state =
    let line = out.request.line in
    record v {
      lines = sets_settled v.lines line state;
      buffers = buffers_landed v.buffers line (copies v.lines line);
      outs = requests_without out.number v.outs;
    }

-- the agent after the line of this request has come with these bytes: its next item has used the line where it may, the
-- line is in the state that it is held in, and the bytes go on where they were promised
abbrev pub arrived_for : AgentView → ℕ → OwnRequest → List ℕ → AgentView
arrived_for v clock out bytes = landed (met_by v clock out bytes) out (line_state_by v out.request.line)

-- the entries of that item
abbrev pub met_entries : AgentView → ℕ → OwnRequest → List ℕ → List Done
met_entries v clock out bytes =
    elim (is_arrival_by v clock out) [ true ↦ completed_entries (with_bytes v out.request.line bytes) clock | false ↦ [] ]

-- the agent after the last bytes for its request with this number have come. For a reply the number is that of the
-- deferred request
abbrev pub line_arrived : AgentView → ℕ → ℕ → List ℕ → AgentView
line_arrived v clock number bytes =
    option_map_or (λ out. arrived_for v clock out bytes) (request_numbered number v.outs) v

-- the entries of what that completes
abbrev pub arrived_entries : AgentView → ℕ → ℕ → List ℕ → List Done
arrived_entries v clock number bytes =
    option_map_or (λ out. met_entries v clock out bytes) (request_numbered number v.outs) []

-- the agent after the end of its upgrade: where it was won, the bytes that were kept are those that come
abbrev pub ended_for : AgentView → ℕ → OwnRequest → AgentView
ended_for v clock out = elim out.kept [ Some bytes ↦ arrived_for v clock out bytes | None ↦ given_up v out.number ]

-- the entries of what that completes
abbrev pub ended_entries_for : AgentView → ℕ → OwnRequest → List Done
ended_entries_for v clock out = elim out.kept [ Some bytes ↦ met_entries v clock out bytes | None ↦ [] ]

-- the agent after the end of its upgrade with this number, which moved no data
abbrev pub upgrade_ended : AgentView → ℕ → ℕ → AgentView
upgrade_ended v clock number = option_map_or (ended_for v clock) (request_numbered number v.outs) v

-- the entries of what that completes
abbrev pub upgrade_entries : AgentView → ℕ → ℕ → List Done
upgrade_entries v clock number = option_map_or (ended_entries_for v clock) (request_numbered number v.outs) []

-- bytes may come for the agent's request with this number: it was granted
abbrev pub may_arrive : AgentView → ℕ → Bool
may_arrive v number = option_map_or (λ out. out.granted) (request_numbered number v.outs) false

-- the agent's upgrade with this number may end without data: it is outstanding, and no bytes are awaited for it
abbrev pub may_end_upgrade : AgentView → ℕ → Bool
may_end_upgrade v number =
    option_map_or (λ out. not out.granted || is_some out.kept) (request_numbered number v.outs) false

-- the agent's request with this number may be given up: it is outstanding, and was not granted
abbrev pub may_give_up : AgentView → ℕ → Bool
may_give_up v number = option_map_or (λ out. not out.granted) (request_numbered number v.outs) false
