-- What is told to the agents of a bus.
use Rattle.std.specs.Prelude.{ℕ, ◌+◌, ◌==◌, if◌then◌else◌, List, [], ◌∷◌, ◌++◌, fold, Option, Some, None}
use Rattle.fsb_access.specs.declared.log.Done.{Done}
use Rattle.fsb_agent_view.specs.AgentEvents.{AgentEvent, agent_after}
use Rattle.fsb_agent_view.specs.AgentViews.{AgentView}
use Rattle.fsb_agent_view.specs.Arriving.{hand_by}
use Rattle.fsb_agent_view.specs.Completing.{performed_entries}

-- the agents, the first of which has this number, after these events of each of them
abbrev pub agents_told : (ℕ → List AgentEvent) → ℕ → List AgentView → List AgentView
agents_told events n [] = []
agents_told events n (v ∷ vs) = fold agent_after v (events n) ∷ agents_told events (n + 1) vs

-- an event of every agent
abbrev pub for_all : AgentEvent → ℕ → List AgentEvent
for_all event n = event ∷ []

-- an event of one agent alone
abbrev pub for_one : ℕ → AgentEvent → ℕ → List AgentEvent
for_one a event n = if n == a then event ∷ [] else []

-- no event
abbrev pub for_none : ℕ → List AgentEvent
for_none n = []

-- of two answers the first one, if it is there
abbrev pub first_of : Option (List ℕ) → Option (List ℕ) → Option (List ℕ)
first_of None other = other
first_of (Some bytes) other = Some bytes

-- the bytes of the first agent that owes them to the transaction of this number
abbrev pub bytes_owed : ℕ → List AgentView → Option (List ℕ)
bytes_owed number [] = None
bytes_owed number (v ∷ vs) = first_of (hand_by v number) (bytes_owed number vs)

-- the entries of the agents' hits at a clock, in order
abbrev pub hit_entries : ℕ → List AgentView → List Done
hit_entries clock [] = []
hit_entries clock (v ∷ vs) = performed_entries v clock ++ hit_entries clock vs
