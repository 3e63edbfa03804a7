-- What an agent owes in a run: the transactions whose bytes it gives, and has not handed on yet; and how its record has
-- them, as pushes and promises.
use Rattle.std.specs.Prelude.{◌≡◌, ℕ, ◌+◌, ◌&&◌, Bool, not, nat_eq, count_by, if◌then◌else◌, Option, Some, None}
use Rattle.std.specs.Option.{option_and_then, option_map}
use Rattle.fsb_count.specs.Clocks.{any_where, count_where, from_clock, last_where}
use Rattle.fsb_count.specs.Options.{is_at, is_some_and}
use Rattle.fsb_linebuf.specs.Buffers.{is_push_for, promise_on}
use Rattle.fsb_timely.specs.Past.{Claim, Past, SnoopEnd}
use Rattle.fsb_timely.specs.Grants.{begun_at, is_granted, snooped_at}
use Rattle.fsb_coherent.specs.Relation.{giver_at, is_responded_below}
use Rattle.fsb_agent_view.specs.AgentViews.{AgentView}
use Rattle.fsb_agent_view.specs.Snooping.{owed_count}
use Rattle.fsb_agent_run.specs.RunViews.{is_awaited}

-- agent a gives the bytes of a request with this claim by its snoop end at t: it hands the line over, or writes it back
unfoldable pub gives_claim : Past → ℕ → ℕ → SnoopEnd → Claim → Bool
gives_claim p a t s claim = is_at (giver_at p claim.line t claim.agent s) a

-- the claim of the request whose bytes agent a gives by a snoop end at t, if it gives any
unfoldable pub claim_given_by : Past → ℕ → ℕ → SnoopEnd → Option Claim
claim_given_by p a t s =
    option_and_then (λ claim. if gives_claim p a t s claim then Some claim else None) s.claim

-- the claim of the request whose bytes agent a gives by the snoop end at t, if there is one
unfoldable pub claim_given_at : Past → ℕ → ℕ → Option Claim
claim_given_at p a t = option_and_then (claim_given_by p a t) (snooped_at p t)

-- agent a gives the bytes of the request that begins at q by a snoop end below n
unfoldable pub is_given_below : Past → ℕ → ℕ → ℕ → Bool
is_given_below p a n q = any_where (λ t. is_some_and (claim_given_at p a t) (λ claim. nat_eq claim.first q)) n

-- agent a gives bytes by the snoop end at t, and they are not on the bus yet: the response is not below r
unfoldable pub owes_bytes_from : Past → ℕ → ℕ → ℕ → Bool
owes_bytes_from p a r t = is_some_and (claim_given_at p a t) (λ claim. not (is_responded_below p r claim.first))

-- agent a gives the line by the snoop end at t
unfoldable pub gives_line_at : Past → ℕ → ℕ → ℕ → Bool
gives_line_at p a line t = is_some_and (claim_given_at p a t) (λ claim. nat_eq claim.line line)

-- the request for which agent a gave the line by the snoop end at t, if the line was not granted to a between t and n
unfoldable pub given_since : Past → ℕ → ℕ → ℕ → ℕ → Option ℕ
given_since p a line n t =
    if any_where (from_clock (t + 1) (is_granted p a line)) n then None
    else option_map (λ claim. claim.first) (claim_given_at p a t)

-- the request to which the bytes of a line are promised that agent a awaits: the last one for which a gave the line,
-- where that was after a's latest grant of it
unfoldable pub promise_told : Past → ℕ → ℕ → ℕ → ℕ → Option ℕ
promise_told p a line n c =
    if is_awaited p a line n c
    then option_and_then (given_since p a line n) (last_where (gives_line_at p a line) n)
    else None

-- the bytes of its line are promised to the request that begins at q
unfoldable pub is_promised : Past → ℕ → ℕ → ℕ → ℕ → Bool
is_promised p a n c q = is_some_and (begun_at p q) (λ claim. is_at (promise_told p a claim.line n c) q)

-- agent a has bytes for the request that begins at q: it gives them, the response is not below r, and they are not only
-- promised
unfoldable pub is_pushed : Past → ℕ → ℕ → ℕ → ℕ → ℕ → Bool
is_pushed p a n r c q =
    is_given_below p a n q && not (is_responded_below p r q) && not (is_promised p a n c q)

-- the record has what agent a owes by the snoop ends below n, whose responses are not below r, where the ends below c
-- have brought their bytes: one push for each request for which a has the bytes, and no other push; of each line the
-- promise that a made; and as many of both as there are requests to which a owes bytes
pub record HasBytesOwed (p : Past) (a n r c : ℕ) (v : AgentView) : Type 0 where
  pub pushes : (q : ℕ) → count_by (is_push_for q) v.buffers.pushes ≡ (if is_pushed p a n r c q then 1 else 0)
  pub promises : (line : ℕ) → promise_on line v.buffers.fills ≡ promise_told p a line n c
  pub count : owed_count v.buffers ≡ count_where (owes_bytes_from p a r) n
