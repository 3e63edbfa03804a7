-- What the wires show of a line at one clock, as far as it changes the joint states of the line.
use Rattle.std.specs.Prelude.{ℕ, ◌+◌, ◌<◌, Bool, not, if◌then◌else◌, List, map, Option, Some, None}
use Rattle.std.specs.Option.{option_and_then, option_map}
use Rattle.fsb_signal.specs.declared.lines.TheConstants.Lines.{HIT, HITM}
use Rattle.fsb_signal.specs.Samples.{line_at}
use Rattle.fsb_trace.specs.At.{Trace}
use Rattle.fsb_trace.specs.Requests.{is_reply, live_request_of}
use Rattle.fsb_owners.specs.Joint.{agents}
use Rattle.fsb_owners.specs.Shown.{agent_at, is_coming, is_for_line, is_turned, may_drop_at, names, origin_clock_of}
use Rattle.fsb_owners.specs.Shown.{purpose_at, snooped_at}
use Rattle.fsb_joint.specs.declared.line_clock.Begun.{Begun}
use Rattle.fsb_joint.specs.declared.line_clock.SnoopEnd.{SnoopEnd}

-- the request for the line that begins at c, where its agent and what it asks are known
unfoldable pub begun_at : Trace → ℕ → ℕ → Option Begun
begun_at v line c =
    if names v line c
    then option_and_then (λ a. option_map (λ k. record { agent = a; kind = k }) (purpose_at v c)) (agent_at v c)
    else None

-- the snoop end at c, of live request j, by an agent that asks so
unfoldable pub end_by : Trace → ℕ → ℕ → ℕ → Option SnoopEnd
end_by v c j q =
    option_and_then (λ a. option_map (λ k. record {
      asker = a;
      kind = k;
      is_reply = is_reply (live_request_of v j);
      hit = line_at HIT v c;
      hitm = line_at HITM v c;
      turned = is_turned v j;
    }) (purpose_at v q)) (agent_at v q)

-- the snoop end at c of a request for the line, or of the reply to one, where agent and kind are known
unfoldable pub ended_at : Trace → ℕ → ℕ → Option SnoopEnd
ended_at v line c =
    option_and_then (λ j. if is_for_line v line j then option_and_then (end_by v c j) (origin_clock_of v j) else None)
    (snooped_at v c)

-- for each agent, whether no bytes of the line are under way to it behind c
unfoldable pub ready_at : Trace → ℕ → ℕ → List Bool
ready_at v line c = map (λ a. not (is_coming v line a (c + 1))) agents

-- for each agent, whether it may drop a clean copy at c
unfoldable pub droppable_at : Trace → ℕ → ℕ → List Bool
droppable_at v line c = map (may_drop_at v line c) agents

-- the agent of the request, if there is one, is one of four
abbrev pub BegunByOne : Option Begun → Type 0
BegunByOne None = Unit
BegunByOne (Some begun) = begun.agent < 4

-- the agent of the snoop end, if there is one, is one of four
abbrev pub EndedByOne : Option SnoopEnd → Type 0
EndedByOne None = Unit
EndedByOne (Some end) = end.asker < 4
