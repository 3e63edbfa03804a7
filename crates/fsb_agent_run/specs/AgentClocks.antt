-- What happens to an agent at a clock of a run, as its events.
use Rattle.std.specs.Prelude.{ℕ, zero, suc, ◌+◌, Bool, nat_eq, if◌then◌else◌, List, [], ◌∷◌, ◌++◌, Option, Some, None}
use Rattle.std.specs.List.{find, flat_map}
use Rattle.std.specs.Option.{option_and_then, option_map, option_map_or}
use Rattle.fsb_count.specs.Clocks.{first_where}
use Rattle.fsb_count.specs.Options.{is_at, is_some_and}
use Rattle.fsb_trace.specs.declared.outcome.Outcome.TheVariants as outcomes
use Rattle.fsb_timely.specs.Past.{Grant, Past, SnoopEnd}
use Rattle.fsb_timely.specs.Grants.{begun_at, ended_requests, snooped_at}
use Rattle.fsb_timely.specs.Moments.{is_snoop_of}
use Rattle.fsb_timely.specs.Wants.{owed, want_of}
use Rattle.fsb_coherent.specs.Awaits.{awaited_by, cancelled_in, responded_in, snoop_end_below}
use Rattle.fsb_coherent.specs.Relation.{giver_at}
use Rattle.fsb_agent_view.specs.AgentEvents.{AgentEvent, Arrived, Committed, GivenUp, HandedOn, Performed, Sent, UpgradeEnded}

-- the first clock of agent a's outstanding request on the line: by that number a reply that grants the line serves it
unfoldable pub number_asked : Past → ℕ → ℕ → ℕ → Option ℕ
number_asked p a c line =
    option_map (λ owing. owing.claim.first) (find (λ owing. nat_eq owing.claim.line line) (owed p a c))

-- the agent that gives the bytes that are awaited after this snoop end at t, if one does
unfoldable pub giver_after_snoop : Past → ℕ → SnoopEnd → Option ℕ
giver_after_snoop p t s =
    option_and_then (λ awaited. giver_at p awaited.line t awaited.agent s) (awaited_by s)

-- the agent that gives the bytes of the request that begins at q, where its snoop end is at c or below
unfoldable pub giver_of : Past → ℕ → ℕ → Option ℕ
giver_of p c q =
    option_and_then (λ t. option_and_then (giver_after_snoop p t) (snooped_at p t))
    (first_where (λ t. is_some_and (snooped_at p t) (is_snoop_of q)) (c + 1))

-- agent a hands on the bytes of the request that responds at c, if it gives them
unfoldable pub handed_events : Past → ℕ → ℕ → List AgentEvent
handed_events p a c =
    option_map_or (λ q. if is_at (giver_of p c q) a then HandedOn q ∷ [] else []) (responded_in p c) []

-- the request that agent a begins at c
unfoldable pub sent_events : Past → ℕ → ℕ → List AgentEvent
sent_events p a c = option_map_or (λ claim. if nat_eq claim.agent a then Sent c c ∷ [] else []) (begun_at p c) []

-- the request that begins at q is given up, where it is agent a's
unfoldable pub given_up_events : Past → ℕ → ℕ → List AgentEvent
given_up_events p a q = option_map_or (λ claim. if nat_eq claim.agent a then GivenUp q ∷ [] else []) (begun_at p q) []

-- agent a's request that is cancelled at c
unfoldable pub cancelled_events : Past → ℕ → ℕ → List AgentEvent
cancelled_events p a c = option_map_or (given_up_events p a) (cancelled_in p c) []

-- the request is seen as shared at this snoop end, where it makes a grant; nothing rests on it where it makes none
unfoldable pub is_seen_shared : SnoopEnd → Bool
is_seen_shared s = is_some_and s.grant (λ grant. grant.shared)

-- the snoop end of the request that began at q as what its agent b wanted, for agent a
unfoldable pub committed_events : Past → ℕ → SnoopEnd → ℕ → ℕ → List AgentEvent
committed_events p a s b q =
    option_map_or (λ request. Committed q (nat_eq b a) request (is_seen_shared s) s.outcome ∷ []) (want_of p b q) []

-- the snoop end of a reply at c that makes this grant, for agent a: it is that of the deferred request
unfoldable pub replied_events : Past → ℕ → ℕ → SnoopEnd → Grant → List AgentEvent
replied_events p a c s grant =
    option_map_or (committed_events p a s grant.agent) (number_asked p grant.agent c grant.line) []

-- the snoop end of c, for agent a
unfoldable pub snoop_events_of : Past → ℕ → ℕ → SnoopEnd → List AgentEvent
snoop_events_of p a c s = elim s.claim [
  | Some claim ↦ committed_events p a s claim.agent s.first
  | None ↦ option_map_or (replied_events p a c s) s.grant []
]

-- the end at c of agent a's own request with this snoop end
unfoldable pub own_end_events : ℕ → SnoopEnd → (ℕ → List ℕ) → List AgentEvent
own_end_events c s bytes = elim s.outcome [
  | outcomes.Granted ↦ Arrived c s.first (bytes s.first) ∷ []
  | outcomes.Handed ↦ Arrived c s.first (bytes s.first) ∷ []
  | outcomes.Retried ↦ GivenUp s.first ∷ []
  | outcomes.Deferred ↦ []
  | outcomes.Written ↦ GivenUp s.first ∷ []
  | outcomes.Replied ↦ []
  | outcomes.Failed ↦ []
  | outcomes.Upgraded ↦ UpgradeEnded c s.first ∷ []
]

-- the end at c of a reply with this grant, for agent a: the deferred request's line comes
unfoldable pub reply_end_events : Past → ℕ → ℕ → (ℕ → List ℕ) → Grant → List AgentEvent
reply_end_events p a c bytes grant =
    if nat_eq grant.agent a
    then option_map_or (λ q. Arrived c q (bytes q) ∷ []) (number_asked p a c grant.line) []
    else []

-- the end at c of the request with this snoop end, for agent a
unfoldable pub ended_events : Past → ℕ → ℕ → (ℕ → List ℕ) → SnoopEnd → List AgentEvent
ended_events p a c bytes s = elim s.claim [
  | Some claim ↦ if nat_eq claim.agent a then own_end_events c s bytes else []
  | None ↦ option_map_or (reply_end_events p a c bytes) s.grant []
]

-- the end at c of the live request that begins at q, for agent a
unfoldable pub end_events_of : Past → ℕ → ℕ → (ℕ → List ℕ) → ℕ → List AgentEvent
end_events_of p a c bytes q = option_map_or (ended_events p a c bytes) (snoop_end_below p (c + 1) q) []

-- what happens to agent a at c of a run, in order: it hands on bytes, performs its hit, sends its request, and gives up
-- one that is cancelled; it sees the clock's snoop end; and something ends for it. What its lines bring are these bytes,
-- by the numbers of their requests
unfoldable pub events_of_agent : Past → ℕ → ℕ → (ℕ → List ℕ) → List AgentEvent
events_of_agent p a c bytes =
    handed_events p a c
    ++ (Performed c ∷ (sent_events p a c
    ++ (cancelled_events p a c
    ++ (option_map_or (snoop_events_of p a c) (snooped_at p c) []
    ++ flat_map (end_events_of p a c bytes) (ended_requests p c)))))

-- what happens to agent a below clock n of a run, in order
unfoldable pub events_of_agent_below : Past → ℕ → ℕ → (ℕ → List ℕ) → List AgentEvent
events_of_agent_below p a zero bytes = []
events_of_agent_below p a (suc c) bytes = events_of_agent_below p a c bytes ++ events_of_agent p a c bytes
