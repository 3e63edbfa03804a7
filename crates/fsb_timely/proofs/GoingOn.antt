-- What an agent has and does at a clock rests on the past below that clock.
use Rattle.std.proofs.Common.{ℕ, zero, suc, ◌<◌, ◌≤◌, ◌≡◌, slice_get, Bool, ◌&&◌, ◌||◌, nat_eq, nat_le, [], Option}
use Rattle.std.proofs.Common.{refl, ap, ◌∙◌, arith}
use Rattle.std.specs.Option.{option_map_or, option_and_then}
use Rattle.fsb_count.specs.Options.{is_some_and}
use Rattle.fsb_count.specs.Clocks.{AgreeBelow, last_where, from_clock, holds_since}
use Rattle.fsb_count.proofs.Interface.{any_where-same}
use Rattle.fsb_trace.specs.Requests.{is_write_back_kind}
use Rattle.fsb_timely.specs.Grants.{is_owning, begun_at, snooped_at, ended_requests, is_end_at, grant_at, set_of}
use Rattle.fsb_timely.specs.Grants.{is_rival, is_claim_of, is_claim_of_other, is_snooped, is_granted, is_evicted}
use Rattle.fsb_timely.specs.Grants.{is_written_back, is_taken_away, is_lost, holds_line, latest_grant, is_ended}
use Rattle.fsb_timely.specs.Grants.{has_arrived, is_ready, is_named_by_other, is_exclusive}
use Rattle.fsb_timely.specs.Past.{Past}
use Rattle.fsb_timely.specs.Growth.{GoesOn}
use Rattle.fsb_timely.proofs.Since.{last_where-found}

-- two pasts have the same plan, and the same moments below n
pub record Alike (n : ℕ) (p q : Past) : Type 0 where
  pub same_plan : p.plan ≡ q.plan
  pub same_moments : (t : ℕ) → t < n → slice_get p.moments t ≡ slice_get q.moments t

-- a past that goes on from another one is such
pub going-alike : (n : ℕ) (p q : Past) → GoesOn n p q → Alike n p q
going-alike n p q h = record { same_plan = h.same_plan; same_moments = h.same_moments }

-- tests that agree have the same last clock that passes
pub last-same : (f g : ℕ → Bool) (n : ℕ) → AgreeBelow n f g → last_where f n ≡ last_where g n
unfolding last_where
last-same f g zero a = refl
last-same f g (suc n) a = grind (arith, last-same f g n)

from-same : (f g : ℕ → Bool) (n d : ℕ) → AgreeBelow n f g → AgreeBelow n (from_clock d f) (from_clock d g)
unfolding from_clock
from-same f g n d a = record { same = λ c l. ap (λ b. nat_le d c && b) (a.same c l) }

snooped-same : (n : ℕ) (p q : Past) (t : ℕ) → Alike n p q → t < n → snooped_at p t ≡ snooped_at q t
unfolding snooped_at
snooped-same n p q t h l = ap (option_and_then (λ moment. moment.snooped)) (h.same_moments t l)

pub begun-same : (n : ℕ) (p q : Past) (t : ℕ) → Alike n p q → t < n → begun_at p t ≡ begun_at q t
unfolding begun_at
begun-same n p q t h l = grind arith

pub ends-same : (n : ℕ) (p q : Past) (t : ℕ) → Alike n p q → t < n → ended_requests p t ≡ ended_requests q t
unfolding ended_requests
ends-same n p q t h l = ap (λ o. option_map_or (λ moment. moment.ended) o []) (h.same_moments t l)

pub grant-same : (n : ℕ) (p q : Past) (t : ℕ) → Alike n p q → t < n → grant_at p t ≡ grant_at q t
unfolding grant_at
grant-same n p q t h l = ap (option_and_then (λ s. s.grant)) (snooped-same n p q t h l)

granted-same : (n : ℕ) (p q : Past) (a line c : ℕ) → Alike n p q → c ≤ n
    → AgreeBelow c (is_granted p a line) (is_granted q a line)
unfolding is_granted
granted-same n p q a line c h l = grind (arith, grant-same)

pub rival-same : (n : ℕ) (p q : Past) (line other : ℕ) → Alike n p q → is_rival p line other ≡ is_rival q line other
unfolding is_rival set_of
rival-same n p q line other h = grind arith

lost-same : (n : ℕ) (p q : Past) (a line c : ℕ) → Alike n p q → c ≤ n
    → AgreeBelow c (is_lost p a line) (is_lost q a line)
unfolding is_lost is_evicted is_written_back is_taken_away
lost-same n p q a line c h l = record {
  same = λ t m.
      let begun = begun-same n p q t h (omega arith) in
      let snooped = snooped-same n p q t h (omega arith) in
      let rival : (other : ℕ) → is_rival p other line ≡ is_rival q other line =
      λ other. rival-same n p q other line h in
      λ i. is_some_and (begun i) (λ claim. nat_eq claim.agent a && rival claim.line i)
      || is_some_and (snooped i) (is_snooped (is_claim_of a line) is_write_back_kind)
      || is_some_and (snooped i) (is_snooped (is_claim_of_other a line) is_owning);
}

pub holds_line-same : (n : ℕ) (p q : Past) (a line c : ℕ) → Alike n p q → c ≤ n
    → holds_line p a line c ≡ holds_line q a line c
unfolding holds_line holds_since
holds_line-same n p q a line c h l = grind (arith, last-same, any_where-same, from-same, granted-same, lost-same)

latest-by : (n : ℕ) (p q : Past) (a line c : ℕ) → Alike n p q → c ≤ n → (o : Option ℕ)
    → last_where (is_granted p a line) c ≡ o → option_and_then (grant_at p) o ≡ option_and_then (grant_at q) o
latest-by n p q a line c h1 h2 o h3 = grind (arith, last_where-found, grant-same)

pub latest_grant-same : (n : ℕ) (p q : Past) (a line c : ℕ) → Alike n p q → c ≤ n
    → latest_grant p a line c ≡ latest_grant q a line c
unfolding latest_grant
latest_grant-same n p q a line c h l =
    latest-by n p q a line c h l (last_where (is_granted p a line) c) refl
    ∙ ap (option_and_then (grant_at q))
    (last-same (is_granted p a line) (is_granted q a line) c (granted-same n p q a line c h l))

pub ended-same : (n : ℕ) (p q : Past) (c first : ℕ) → Alike n p q → c ≤ n → is_ended p c first ≡ is_ended q c first
unfolding is_ended is_end_at
ended-same n p q c first h l = grind (arith, any_where-same, ends-same)

pub is_ready-same : (n : ℕ) (p q : Past) (a line c : ℕ) → Alike n p q → c ≤ n
    → is_ready p a line c ≡ is_ready q a line c
unfolding has_arrived
is_ready-same n p q a line c h l = grind (arith, latest_grant-same, ended-same)

named-same : (n : ℕ) (p q : Past) (a line c : ℕ) → Alike n p q → c ≤ n
    → AgreeBelow c (is_named_by_other p a line) (is_named_by_other q a line)
unfolding is_named_by_other
named-same n p q a line c h l = grind (arith, snooped-same)

pub is_exclusive-same : (n : ℕ) (p q : Past) (a line c : ℕ) → Alike n p q → c ≤ n
    → is_exclusive p a line c ≡ is_exclusive q a line c
unfolding is_exclusive holds_since
is_exclusive-same n p q a line c h l =
    grind (arith, holds_line-same, latest_grant-same, last-same, any_where-same, from-same, granted-same, named-same)
