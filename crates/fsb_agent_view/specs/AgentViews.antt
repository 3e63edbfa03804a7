-- An agent as its contracts see it, and what it has of a line.
use Rattle.std.specs.Prelude.{ℕ, Bool, false, if◌then◌else◌, not, ◌&&◌, ◌||◌, ◌==◌, is_none, nat_le, nat_lt, List, Option, slice_get}
use Rattle.std.specs.Option.{option_map_or}
use Rattle.fsb_access.specs.declared.item.Item.{Item}
use Rattle.fsb_cache.specs.Sets.{CacheSets, states}
use Rattle.fsb_line.specs.declared.state.Answer.{Answer}
use Rattle.fsb_line.specs.declared.state.Mesi.{Mesi}
use Rattle.fsb_line.specs.States.{answer_of, is_held, is_sole}
use Rattle.fsb_linebuf.specs.Buffers.{Buffered, fill_on}
use Rattle.fsb_timely.specs.Scripts.{Need}
use Rattle.fsb_agent_view.specs.declared.want.Finished.{Finished}
use Rattle.fsb_agent_view.specs.declared.want.OwnRequest.{OwnRequest}

-- an agent. The first four fields stay as they are
pub record AgentView : Type 0 where
  pub number : ℕ
  -- its script
  pub items : List Item
  -- how many requests it may have outstanding
  pub ahead : ℕ
  -- the profile of the bus
  pub profile : ℕ
  -- its cache. A line whose bytes have not come is there too: it has a fill
  pub lines : CacheSets
  -- its fills, with the transactions that they are promised to, and its pushes
  pub buffers : Buffered
  -- its outstanding requests
  pub outs : List OwnRequest
  -- the number of its next item: the first that is neither idle nor completed
  pub place : ℕ
  -- the clock up to which it idles
  pub idle_to : ℕ
  -- the item that it completed last
  pub finished : Option Finished
  -- the value that it loaded last, 0 before any load
  pub last : ℕ

-- the state of a line
abbrev pub line_state_by : AgentView → ℕ → Mesi
line_state_by v line = states v.lines line

-- what the agent answers at a snoop end of the line, whether its bytes have come or not
abbrev pub answer_by : AgentView → ℕ → Answer
answer_by v line = answer_of (line_state_by v line)

-- no bytes of the line are on their way: it is ready, where it is held
abbrev pub has_come : AgentView → ℕ → Bool
has_come v line = is_none (fill_on line v.buffers.fills)

-- the agent holds the line, and has it alone where that is needed
abbrev pub is_held_as : AgentView → ℕ → Bool → Bool
is_held_as v line alone = is_held (line_state_by v line) && (not alone || is_sole (line_state_by v line))

-- the line serves: the agent has it as it is needed, and it is ready
abbrev pub is_ready_for : AgentView → ℕ → Bool → Bool
is_ready_for v line alone = is_held_as v line alone && has_come v line

-- the agent has what is needed
abbrev pub is_met_by : AgentView → Need → Bool
is_met_by v need = is_held_as v need.line need.alone

-- the needed line serves
abbrev pub is_served_by : AgentView → Need → Bool
is_served_by v need = is_ready_for v need.line need.alone

-- an item was completed at the clock, where this is the last one that was
abbrev pub is_finished_at : Option Finished → ℕ → Bool
is_finished_at finished clock = option_map_or (λ last. last.clock == clock) finished false

-- an agent idles at the clock, which completed this item last, and idles up to a clock
abbrev pub is_idle_at : Option Finished → ℕ → ℕ → Bool
is_idle_at finished idle_to clock = not (is_finished_at finished clock) && nat_lt clock idle_to

-- it may complete its next item at the clock: it has not completed one there, and does not idle
abbrev pub may_complete_at : Option Finished → ℕ → ℕ → Bool
may_complete_at finished idle_to clock = not (is_finished_at finished clock) && nat_le idle_to clock

-- the number of its item at the clock, where its next one has this: an item that is completed there is still the next one
abbrev pub number_at : Option Finished → ℕ → ℕ → ℕ
number_at finished place clock = option_map_or (λ last. if last.clock == clock then last.item else place) finished place

-- the agent idles at the clock
abbrev pub is_idle_by : AgentView → ℕ → Bool
is_idle_by v clock = is_idle_at v.finished v.idle_to clock

-- the agent may complete its next item at the clock
abbrev pub may_complete : AgentView → ℕ → Bool
may_complete v clock = may_complete_at v.finished v.idle_to clock

-- the number of the agent's item at the clock
abbrev pub number_by : AgentView → ℕ → ℕ
number_by v clock = number_at v.finished v.place clock

-- the agent's next item
abbrev pub next_item_by : AgentView → Option Item
next_item_by v = slice_get v.items v.place
