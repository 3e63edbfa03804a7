-- A worked agent: its one store needs a line that is handed over before its bytes have come.
use Rattle.std.specs.Prelude.{ℕ, true, false, List, [], ◌∷◌, fold, replicate}
use Rattle.fsb_access.specs.declared.access.Access.{Access}
use Rattle.fsb_access.specs.declared.access.Access.TheVariants.{Store}
use Rattle.fsb_access.specs.declared.access.Operand.TheVariants.{Literal}
use Rattle.fsb_access.specs.declared.item.Item.TheVariants.{One}
use Rattle.fsb_access.specs.declared.log.Done.{Done}
use Rattle.fsb_encode.specs.declared.request.Kind.TheVariants.{Invalidate}
use Rattle.fsb_encode.specs.declared.request.Request.{Request}
use Rattle.fsb_trace.specs.declared.outcome.Outcome.TheVariants.{Granted, Handed}
use Rattle.fsb_agent_view.specs.AgentEvents.{AgentEvent, Sent, Committed, Performed, Arrived, agent_after, first_view}
use Rattle.fsb_agent_view.specs.AgentViews.{AgentView}

-- a store of 1 into the byte at 40
abbrev pub worked_agent_store : Access
worked_agent_store = Store 1 64 (Literal 1)

-- the read and invalidate of its line, with the free ID of an agent
abbrev pub worked_request : ℕ → Request
worked_request did = record { kind = Invalidate; line = 2; chunk = 0; did = did; den = true }

-- agent 0 with that store and a cache of four lines
abbrev pub worked_agent : AgentView
worked_agent = first_view 0 (One worked_agent_store ∷ []) 4 1 1

-- its request begins at 2 and is granted at 6; at 9 the line is handed to agent 1, before its bytes have come
abbrev pub worked_agent_events : List AgentEvent
worked_agent_events =
    Sent 2 0 ∷ (Committed 0 true (worked_request 0) false Granted
    ∷ (Committed 1 false (worked_request 16) false Handed ∷ (Performed 11 ∷ [])))

-- the agent after these events
abbrev pub worked_before : AgentView
worked_before = fold agent_after worked_agent worked_agent_events

-- and after the bytes have come, at 11
abbrev pub worked_after : AgentView
worked_after = agent_after worked_before (Arrived 11 0 (replicate 32 0))

-- the entry of the store
abbrev pub worked_entry : Done
worked_entry = record { clock = 11; agent = 0; item = 0; part = 0; access = worked_agent_store; value = 1 }
