-- What a snoop end does to an agent: that of its own request, and that of another agent's.
use Rattle.std.specs.Prelude.{ℕ, Bool, true, false, not, ◌+◌, ◌&&◌, is_some, nat_lt, List, [], ◌∷◌, ◌++◌, replicate, length, count_by, Some, None}
use Rattle.std.specs.Option.{option_map_or}
use Rattle.fsb_cache.specs.Sets.{CacheSets, copies, sets_filled, sets_shared, sets_without}
use Rattle.fsb_encode.specs.declared.request.Kind.{Kind}
use Rattle.fsb_encode.specs.declared.request.Kind.TheVariants as kinds
use Rattle.fsb_encode.specs.declared.request.Request.{Request}
use Rattle.fsb_line.specs.declared.purpose.Purpose.{Purpose}
use Rattle.fsb_line.specs.declared.purpose.Purpose.TheVariants.{Own, Read, Upgrade, WriteBack}
use Rattle.fsb_line.specs.declared.state.Mesi.{Mesi}
use Rattle.fsb_line.specs.declared.state.Mesi.TheVariants.{Invalid, Shared, Exclusive, Modified}
use Rattle.fsb_line.specs.States.{after_snoop, asks_line, granted, is_held, is_modified}
use Rattle.fsb_linebuf.specs.Buffers.{Buffered, promised_to}
use Rattle.fsb_trace.specs.declared.outcome.Outcome.{Outcome}
use Rattle.fsb_trace.specs.declared.outcome.Outcome.TheVariants.{Granted, Handed, Retried, Deferred, Written, Replied, Failed, Upgraded}
use Rattle.fsb_agent_view.specs.declared.want.OwnRequest.{OwnRequest}
use Rattle.fsb_agent_view.specs.OwnRequests.{request_numbered, requests_granted}
use Rattle.fsb_agent_view.specs.AgentViews.{AgentView, has_come, line_state_by}

-- what a request of this kind asks of a line. A reply asks nothing of the others: it is no more to them than a write-back
abbrev pub kind_asks : Kind → Purpose
kind_asks kinds.Reply = WriteBack
kind_asks kinds.Invalidate = Own
kind_asks kinds.Read = Read
kind_asks kinds.WriteBack = WriteBack
kind_asks kinds.Upgrade = Upgrade

-- the bytes of a line that have not come
abbrev pub no_bytes : List ℕ
no_bytes = replicate 32 0

-- the buffers with a fill of the line, which the request of this number ends
abbrev pub with_fill : Buffered → ℕ → ℕ → Buffered
with_fill buffers line number =
    record buffers { fills = buffers.fills ++ record { line = line; number = number; promise = None } ∷ [] }

-- the buffers with bytes that are owed to the transaction of this number
abbrev pub with_push : Buffered → ℕ → List ℕ → Buffered
with_push buffers number bytes =
    record buffers { pushes = buffers.pushes ++ record { number = number; bytes = bytes } ∷ [] }

-- the agent that gets the line of its request, without its bytes
abbrev pub granted_by : AgentView → OwnRequest → Bool → AgentView
granted_by v out shared =
    let line = out.request.line in
    elim (asks_line (kind_asks out.request.kind)) [
      | false ↦ v
      | true ↦ record v {
        lines = sets_filled v.lines line (granted (kind_asks out.request.kind) shared) no_bytes;
        buffers = with_fill v.buffers line out.number;
        outs = requests_granted out.number None v.outs;
      }
    ]

-- the agent whose upgrade ends without data: where it still holds the line it has won, owns the line, and keeps its bytes
abbrev pub upgraded_by : AgentView → OwnRequest → AgentView
upgraded_by v out =
    let line = out.request.line in
    let bytes = copies v.lines line in
    elim (is_held (line_state_by v line)) [
      | false ↦ v
      | true ↦ record v {
        lines = sets_filled v.lines line Modified bytes;
        buffers = with_fill v.buffers line out.number;
        outs = requests_granted out.number (Some bytes) v.outs;
      }
    ]

-- the agent that writes a line back: it drops the line, and owes the bytes to the write-back
abbrev pub written_by : AgentView → OwnRequest → AgentView
written_by v out =
    let line = out.request.line in
    record v { lines = sets_without v.lines line; buffers = with_push v.buffers out.number (copies v.lines line) }

-- the agent after the snoop end of its own request
abbrev pub own_settled : AgentView → OwnRequest → Bool → Outcome → AgentView
own_settled v out shared Granted = granted_by v out shared
own_settled v out shared Handed = granted_by v out true
own_settled v out shared Retried = v
own_settled v out shared Deferred = v
own_settled v out shared Written = written_by v out
own_settled v out shared Replied = granted_by v out shared
own_settled v out shared Failed = v
own_settled v out shared Upgraded = upgraded_by v out

-- the state of a line after the snoop end of another agent's request; a reply changes nobody else's
abbrev pub state_snooped : Mesi → Kind → Outcome → Mesi
state_snooped state kind Granted = after_snoop state (kind_asks kind)
state_snooped state kind Handed = after_snoop state (kind_asks kind)
state_snooped state kind Retried = after_snoop state (kind_asks kind)
state_snooped state kind Deferred = after_snoop state (kind_asks kind)
state_snooped state kind Written = after_snoop state (kind_asks kind)
state_snooped state kind Replied = state
state_snooped state kind Failed = after_snoop state (kind_asks kind)
state_snooped state kind Upgraded = after_snoop state (kind_asks kind)

-- the sets with the line lowered to this state: dropped, Shared, or as it was
abbrev pub sets_lowered : CacheSets → ℕ → Mesi → CacheSets
sets_lowered sets line Invalid = sets_without sets line
sets_lowered sets line Shared = sets_shared sets line
sets_lowered sets line Exclusive = sets
sets_lowered sets line Modified = sets

-- the line is handed over with this outcome
abbrev pub is_handed : Outcome → Bool
is_handed Granted = false
is_handed Handed = true
is_handed Retried = false
is_handed Deferred = false
is_handed Written = false
is_handed Replied = false
is_handed Failed = false
is_handed Upgraded = false

-- the buffers of an agent that gives the line to the transaction of this number: its bytes are owed to it, or, where they
-- have not come, promised
abbrev pub buffers_giving : AgentView → ℕ → ℕ → Buffered
buffers_giving v line number =
    elim (has_come v line) [
      | true ↦ with_push v.buffers number (copies v.lines line)
      | false ↦ record v.buffers { fills = promised_to line number v.buffers.fills }
    ]

-- the agent gives the line: it has it Modified, and the line is handed to a request that asks for it
abbrev pub is_giver : AgentView → Request → Outcome → Bool
is_giver v request outcome =
    is_modified (line_state_by v request.line) && is_handed outcome && asks_line (kind_asks request.kind)

-- the agent after the snoop end of another agent's request, with its number
abbrev pub other_settled : AgentView → ℕ → Request → Outcome → AgentView
other_settled v number request outcome =
    let line = request.line in
    record v {
      lines = sets_lowered v.lines line (state_snooped (line_state_by v line) request.kind outcome);
      buffers = elim (is_giver v request outcome) [ true ↦ buffers_giving v line number | false ↦ v.buffers ];
    }

-- the agent after the snoop end of its own request with this number
abbrev pub own_committed : AgentView → ℕ → Bool → Outcome → AgentView
own_committed v number shared outcome =
    option_map_or (λ out. own_settled v out shared outcome) (request_numbered number v.outs) v

-- the agent after a snoop end, of its own request or of another agent's. For a reply the number and the request are those
-- of the deferred request. Another's request may have been seen as shared: that is nothing to this agent
abbrev pub committed : AgentView → ℕ → Bool → Request → Bool → Outcome → AgentView
committed v number true request shared outcome = own_committed v number shared outcome
committed v number false request shared outcome = other_settled v number request outcome

-- how many transactions the agent owes bytes to, as pushes and promises together
abbrev pub owed_count : Buffered → ℕ
owed_count buffers = length buffers.pushes + count_by (λ fill. is_some fill.promise) buffers.fills

-- a write-back may be settled as this: its line is Modified where it is written
abbrev pub may_be_settled : Outcome → Mesi → Bool
may_be_settled Granted state = true
may_be_settled Handed state = true
may_be_settled Retried state = true
may_be_settled Deferred state = true
may_be_settled Written state = is_modified state
may_be_settled Replied state = true
may_be_settled Failed state = true
may_be_settled Upgraded state = true

-- the agent's own request with this number may be settled as this: it is outstanding and was not granted yet, and what it
-- writes back is Modified
abbrev pub may_settle : AgentView → ℕ → Outcome → Bool
may_settle v number outcome =
    option_map_or (λ out. not out.granted && may_be_settled outcome (line_state_by v out.request.line)) (request_numbered number v.outs) false

-- the agent may see this snoop end: it owes bytes to fewer than eight transactions, and its own request may be settled so
abbrev pub may_commit : AgentView → ℕ → Bool → Outcome → Bool
may_commit v number true outcome = nat_lt (owed_count v.buffers) 8 && may_settle v number outcome
may_commit v number false outcome = nat_lt (owed_count v.buffers) 8
