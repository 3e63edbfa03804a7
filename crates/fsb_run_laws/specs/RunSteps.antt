-- What a clock adds to the lists that a run goes by.
use Rattle.std.specs.Prelude.{ℕ, ◌+◌, ◌&&◌, ◌||◌, Bool, not, nat_eq, nat_lt, List, [], ◌∷◌, Option, Some, None, slice_get}
use Rattle.std.specs.List.{filter_map, list_any}
use Rattle.std.specs.Option.{option_map_or, option_and_then}
use Rattle.fsb_count.specs.Clocks.{all_where, first_where}
use Rattle.fsb_count.specs.Options.{is_at, is_some_and}
use Rattle.fsb_access.specs.declared.item.Item.{Item}
use Rattle.fsb_trace.specs.Outcome.{is_deferral}
use Rattle.fsb_timely.specs.Past.{Claim, Owing, Past, SnoopEnd}
use Rattle.fsb_timely.specs.Grants.{begun_at, ended_requests, snooped_at}
use Rattle.fsb_timely.specs.Moments.{is_snoop_of}
use Rattle.fsb_timely.specs.Scripts.{is_idle}
use Rattle.fsb_coherent.specs.Awaits.{cancelled_in, snoop_end_below}
use Rattle.fsb_coherent.specs.Relation.{is_cancelled_below, is_snooped_below}

-- what there is, as a list
unfoldable pub listed : {X : Type 0} → Option X → List X
listed o = option_map_or (λ x. x ∷ []) o []

-- the request of a symmetric agent that begins at n, as its agent knows it
unfoldable pub owing_begun : Past → ℕ → Option Owing
owing_begun p n = option_and_then (λ moment. moment.begun) (slice_get p.moments n)

-- the request that begins at q is neither cancelled below n nor has its snoop end there
unfoldable pub is_open_below : Past → ℕ → ℕ → Bool
is_open_below p n q = not (is_cancelled_below p n q) && not (is_snooped_below p n q)

-- the claims of the requests that began below n, and are neither cancelled nor snooped below n
unfoldable pub open_claims : Past → ℕ → List Claim
open_claims p n = filter_map (begun_at p) (all_where (is_open_below p n) n)

-- the request with this claim is neither cancelled at n nor has its snoop end there
unfoldable pub stays_open : Past → ℕ → Claim → Bool
stays_open p n claim =
    not (is_at (cancelled_in p n) claim.first) && not (is_some_and (snooped_at p n) (is_snoop_of claim.first))

-- the end of a request with this snoop end ends what is outstanding with this claim: it is the end of that request
-- itself, which was not Deferred, or of a reply that granted the claim's line to the claim's agent
unfoldable pub ends_claim : Claim → SnoopEnd → Bool
ends_claim claim s =
    elim s.claim [
      | Some own ↦ nat_eq own.first claim.first && not (is_deferral s.outcome)
      | None ↦ is_some_and s.grant (λ grant. nat_eq grant.agent claim.agent && nat_eq grant.line claim.line)
    ]

-- the live request that begins at q does so where its end is n
unfoldable pub ends_for : Past → ℕ → Claim → ℕ → Bool
ends_for p n claim q = is_some_and (snoop_end_below p (n + 1) q) (ends_claim claim)

-- the request with this claim stays outstanding behind n: it is not cancelled there, and nothing that ends there ends it
unfoldable pub stays_owed : Past → ℕ → Claim → Bool
stays_owed p n claim =
    not (is_at (cancelled_in p n) claim.first || list_any (ends_for p n claim) (ended_requests p n))

-- the first clock of the live request whose response is Retry at n
unfoldable pub retried_in : Past → ℕ → Option ℕ
retried_in p n = option_and_then (λ moment. moment.retried) (slice_get p.moments n)

-- item m lies behind item n, and is not idle
unfoldable pub is_behind : List Item → ℕ → ℕ → Bool
is_behind items n m = is_some_and (slice_get items m) (λ item. not (is_idle item)) && nat_lt n m

-- the number of the first item behind item n that is not idle
unfoldable pub next_behind : List Item → ℕ → ℕ → Option ℕ
next_behind items n count = first_where (is_behind items n) count
