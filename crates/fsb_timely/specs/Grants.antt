-- Which agent has which line, said by the snoop ends and the requests that came before.
use Rattle.std.specs.Prelude.{◌≡◌, ◌<◌, IsTrue, ℕ, ◌%◌, ◌&&◌, ◌||◌, Bool, true, false, not, nat_eq, List, [], Option, Some, None, slice_get}
use Rattle.std.specs.List.{filter_map, list_any, range_with_len}
use Rattle.std.specs.Option.{option_map, option_map_or, option_and_then}
use Rattle.fsb_count.specs.Clocks.{any_where, last_where, holds_since}
use Rattle.fsb_count.specs.Options.{is_some_and}
use Rattle.fsb_encode.specs.declared.request.Kind.{Kind}
use Rattle.fsb_encode.specs.declared.request.Kind.TheVariants.{Invalidate, Read, Reply, Upgrade, WriteBack}
use Rattle.fsb_trace.specs.Requests.{is_write_back_kind}
use Rattle.fsb_timely.specs.Past.{Claim, Grant, SnoopEnd, Past}

-- the request of a symmetric agent that begins at t
unfoldable pub begun_at : Past → ℕ → Option Claim
begun_at p t =
    option_map (λ owing. owing.claim) (option_and_then (λ moment. moment.begun) (slice_get p.moments t))

-- the snoop end at t
unfoldable pub snooped_at : Past → ℕ → Option SnoopEnd
snooped_at p t = option_and_then (λ moment. moment.snooped) (slice_get p.moments t)

-- the first clocks of the live requests whose end is t
unfoldable pub ended_requests : Past → ℕ → List ℕ
ended_requests p t = option_map_or (λ moment. moment.ended) (slice_get p.moments t) []

-- the live request that begins at q has its end at t
unfoldable pub is_end_at : Past → ℕ → ℕ → Bool
is_end_at p t q = list_any (nat_eq q) (ended_requests p t)

-- the grant whose snoop end is t
unfoldable pub grant_at : Past → ℕ → Option Grant
grant_at p t = option_and_then (λ s. s.grant) (snooped_at p t)

-- the cache set of a line
unfoldable pub set_of : Past → ℕ → ℕ
set_of p line = line % p.plan.cache

-- the two lines are different lines of one cache set
unfoldable pub is_rival : Past → ℕ → ℕ → Bool
is_rival p line other = nat_eq (set_of p line) (set_of p other) && not (nat_eq line other)

-- a request of this kind makes its agent the owner of the line: a read and invalidate, or an upgrade
unfoldable pub is_owning : Kind → Bool
is_owning Reply = false
is_owning Invalidate = true
is_owning Read = false
is_owning WriteBack = false
is_owning Upgrade = true

-- the claim is the agent's, for the line
unfoldable pub is_claim_of : ℕ → ℕ → Claim → Bool
is_claim_of a line claim = nat_eq claim.agent a && nat_eq claim.line line

-- the claim is another agent's, for the line
unfoldable pub is_claim_of_other : ℕ → ℕ → Claim → Bool
is_claim_of_other a line claim = not (nat_eq claim.agent a) && nat_eq claim.line line

-- the line is granted to agent a at t: t is the snoop end of a grant of it
unfoldable pub is_granted : Past → ℕ → ℕ → ℕ → Bool
is_granted p a line t = is_some_and (grant_at p t) (λ grant. nat_eq grant.agent a && nat_eq grant.line line)

-- agent a begins a request for another line of the line's cache set at t, be it cancelled or retried later
unfoldable pub is_evicted : Past → ℕ → ℕ → ℕ → Bool
is_evicted p a line t = is_some_and (begun_at p t) (λ claim. nat_eq claim.agent a && is_rival p claim.line line)

-- the snoop end is that of a request whose claim and whose kind pass these tests
unfoldable pub is_snooped : (Claim → Bool) → (Kind → Bool) → SnoopEnd → Bool
is_snooped of_claim of_kind s = is_some_and s.claim of_claim && is_some_and s.kind of_kind

-- t is the snoop end of a live write-back of the line by agent a
unfoldable pub is_written_back : Past → ℕ → ℕ → ℕ → Bool
is_written_back p a line t = is_some_and (snooped_at p t) (is_snooped (is_claim_of a line) is_write_back_kind)

-- t is the snoop end of a live read and invalidate or upgrade of the line by another agent, whatever its outcome
unfoldable pub is_taken_away : Past → ℕ → ℕ → ℕ → Bool
is_taken_away p a line t = is_some_and (snooped_at p t) (is_snooped (is_claim_of_other a line) is_owning)

-- agent a loses the line at t, if it has it
unfoldable pub is_lost : Past → ℕ → ℕ → ℕ → Bool
is_lost p a line t = is_evicted p a line t || is_written_back p a line t || is_taken_away p a line t

-- agent a holds the line at c: it was granted to a below c, and not lost since
unfoldable pub holds_line : Past → ℕ → ℕ → ℕ → Bool
holds_line p a line c = holds_since (is_granted p a line) (is_lost p a line) c

-- the line was granted to agent a below c, and a did not lose it between that clock and c
pub record IsHeldSince (p : Past) (a line c : ℕ) : Type 0 where
  pub at : ℕ
  pub before : at < c
  pub granted : IsTrue (is_granted p a line at)
  pub kept : (t : ℕ) → at < t → t < c → is_lost p a line t ≡ false

-- the latest grant of the line to agent a below c
unfoldable pub latest_grant : Past → ℕ → ℕ → ℕ → Option Grant
latest_grant p a line c = option_and_then (grant_at p) (last_where (is_granted p a line) c)

-- the live request that begins at q has its end below c
unfoldable pub is_ended : Past → ℕ → ℕ → Bool
is_ended p c q = any_where (λ t. is_end_at p t q) c

-- the end of the latest grant of the line to agent a below n is below c
unfoldable pub has_arrived : Past → ℕ → ℕ → ℕ → ℕ → Bool
has_arrived p a line n c = is_some_and (latest_grant p a line n) (λ grant. is_ended p c grant.first)

-- the line is ready for agent a at c: the end of its latest grant is below c
abbrev pub is_ready : Past → ℕ → ℕ → ℕ → Bool
is_ready p a line c = has_arrived p a line c c

-- t is the snoop end of a live request of another agent that names the line
unfoldable pub is_named_by_other : Past → ℕ → ℕ → ℕ → Bool
is_named_by_other p a line t =
    is_some_and (snooped_at p t) (λ s. is_some_and s.claim (is_claim_of_other a line))

-- the grant is by a read and invalidate or an upgrade, or by a read with neither HIT# nor HITM# at its snoop end
unfoldable pub is_sole_grant : Grant → Bool
is_sole_grant grant = grant.owns || not grant.shared

-- agent a has the line for itself at c: it holds it, its latest grant is a sole one, and since that grant no live
-- request of another agent that names the line had its snoop end
unfoldable pub is_exclusive : Past → ℕ → ℕ → ℕ → Bool
is_exclusive p a line c =
    holds_line p a line c && is_some_and (latest_grant p a line c) is_sole_grant
    && holds_since (is_granted p a line) (is_named_by_other p a line) c

-- the line of the grant at t, where it is to agent a
unfoldable pub line_granted_at : Past → ℕ → ℕ → Option ℕ
line_granted_at p a t =
    option_and_then (λ grant. elim (nat_eq grant.agent a) [ true ↦ Some grant.line | false ↦ None ]) (grant_at p t)

-- the lines granted to agent a below c, in order
unfoldable pub lines_granted : Past → ℕ → ℕ → List ℕ
lines_granted p a c = filter_map (line_granted_at p a) (range_with_len 0 c)
