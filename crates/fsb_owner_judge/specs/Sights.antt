-- What the wires show at one clock, of whichever line it is.
use Rattle.std.specs.Prelude.{ℕ, ◌<◌, Bool, ◌&&◌, not, nat_eq, if◌then◌else◌, Option, Some, None}
use Rattle.std.specs.Option.{option_and_then, option_map}
use Rattle.fsb_count.specs.Options.{is_some_and}
use Rattle.fsb_signal.specs.declared.lines.TheConstants.Lines.{HIT, HITM}
use Rattle.fsb_signal.specs.Samples.{line_at}
use Rattle.fsb_trace.specs.At.{Trace}
use Rattle.fsb_trace.specs.Requests.{is_reply, line_of, live_request_of}
use Rattle.fsb_owners.specs.Shown.{agent_at, is_held_back, is_still_asking, is_turned, names, origin_clock_of, origin_of}
use Rattle.fsb_owners.specs.Shown.{purpose_at, snooped_at}
use Rattle.fsb_owners.specs.Rules.{has_other_hit, is_write_back_purpose}
use Rattle.fsb_joint.specs.declared.line_clock.Begun.{Begun}
use Rattle.fsb_joint.specs.declared.line_clock.SnoopEnd.{SnoopEnd}
use Rattle.fsb_owner_judge.specs.declared.sights.Asking.{Asking}
use Rattle.fsb_owner_judge.specs.declared.sights.LineEnd.{LineEnd}

-- the request by this agent that begins at q and names this line
unfoldable pub asking_of : Trace → ℕ → ℕ → ℕ → Asking
asking_of v q line a = record {
  line = line;
  agent = a;
  kind = purpose_at v q;
  is_asked_twice = is_still_asking v line a q;
  is_held_back = is_held_back v line a q;
}

-- the request that begins at q, where it names a line
unfoldable pub asking_at : Trace → ℕ → Option Asking
asking_at v q =
    option_and_then (λ line. if names v line q then option_map (asking_of v q line) (agent_at v q) else None) (line_of v q)

-- the snoop end at c of live request j, where this agent's request for this line counts, which begins at q
unfoldable pub line_end_of : Trace → ℕ → ℕ → ℕ → ℕ → ℕ → LineEnd
line_end_of v c j q line a = record {
  line = line;
  asker = a;
  kind = purpose_at v q;
  is_reply = is_reply (live_request_of v j);
  hit = line_at HIT v c;
  hitm = line_at HITM v c;
  turned = is_turned v j;
  is_hit_wrong = is_some_and (origin_of v j) (λ i. has_other_hit v c i);
}

-- the same, of the line that the request at q names
unfoldable pub line_end_by : Trace → ℕ → ℕ → ℕ → Option LineEnd
line_end_by v c j q =
    option_and_then (λ line. if names v line q then option_map (line_end_of v c j q line) (agent_at v q) else None) (line_of v q)

-- the snoop end at c, where its request names a line, or answers one that does
unfoldable pub line_end_at : Trace → ℕ → Option LineEnd
line_end_at v c =
    option_and_then (λ j. option_and_then (line_end_by v c j) (origin_clock_of v j)) (snooped_at v c)

-- the request as it counts for its line, where its kind is known
unfoldable pub begun_of : Asking → Option Begun
begun_of asking = option_map (λ kind. record { agent = asking.agent; kind = kind }) asking.kind

-- the request as it counts for this line
unfoldable pub begun_for : ℕ → Option Asking → Option Begun
begun_for line None = None
begun_for line (Some asking) = if nat_eq asking.line line then begun_of asking else None

-- the snoop end as it counts for its line, where the kind of its request is known
unfoldable pub end_of_line : LineEnd → Option SnoopEnd
end_of_line end =
    option_map (λ kind. record {
      asker = end.asker;
      kind = kind;
      is_reply = end.is_reply;
      hit = end.hit;
      hitm = end.hitm;
      turned = end.turned;
    }) end.kind

-- the snoop end as it counts for this line
unfoldable pub ended_for : ℕ → Option LineEnd → Option SnoopEnd
ended_for line None = None
ended_for line (Some end) = if nat_eq end.line line then end_of_line end else None

-- it is the snoop end of a write-back
unfoldable pub is_of_write_back_end : LineEnd → Bool
is_of_write_back_end end = not end.is_reply && is_some_and end.kind is_write_back_purpose

-- the agent of the request, if there is one, is one of four
abbrev pub AsksAsOne : Option Asking → Type 0
AsksAsOne None = Unit
AsksAsOne (Some asking) = asking.agent < 4

-- the agent of the snoop end, if there is one, is one of four
abbrev pub EndsAsOne : Option LineEnd → Type 0
EndsAsOne None = Unit
EndsAsOne (Some end) = end.asker < 4
