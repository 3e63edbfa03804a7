-- What an agent holds, one clock further.
use Rattle.std.proofs.Common.{ℕ, ◌+◌, ◌≡◌, Bool, true, false, not, ◌&&◌, ◌||◌, ap, add-one, if◌then◌else◌, arith}
use Rattle.std.specs.Option.{option_and_then}
use Rattle.fsb_count.specs.Options.{is_some_and}
use Rattle.fsb_count.proofs.Interface.{any_where-more, holds_since-more, last_where-passed, last_where-failed}
use Rattle.fsb_timely.specs.Past.{Past}
use Rattle.fsb_timely.specs.Grants.{is_end_at, is_ended, grant_at, is_granted, is_lost, holds_line, latest_grant}
use Rattle.fsb_timely.specs.Grants.{has_arrived, is_ready, is_named_by_other, is_sole_grant, is_exclusive}

-- a grant, and otherwise what was held and is not lost
pub holds_line-more : (p : Past) (a line c : ℕ)
    → holds_line p a line (c + 1) ≡ (is_granted p a line c || (holds_line p a line c && not (is_lost p a line c)))
unfolding holds_line
holds_line-more p a line c = holds_since-more (is_granted p a line) (is_lost p a line) c

latest-granted : (p : Past) (a line c : ℕ) → is_granted p a line c ≡ true → latest_grant p a line (c + 1) ≡ grant_at p c
unfolding latest_grant
latest-granted p a line c t =
    rw add-one (ap (option_and_then (grant_at p)) (last_where-passed (is_granted p a line) c t))

latest-kept : (p : Past) (a line c : ℕ) → is_granted p a line c ≡ false
    → latest_grant p a line (c + 1) ≡ latest_grant p a line c
unfolding latest_grant
latest-kept p a line c f = rw add-one (ap (option_and_then (grant_at p)) (last_where-failed (is_granted p a line) c f))

-- the grant at c is the latest one from then on, and otherwise the latest one stays
pub latest_grant-more : (p : Past) (a line c : ℕ)
    → latest_grant p a line (c + 1) ≡ (if is_granted p a line c then grant_at p c else latest_grant p a line c)
latest_grant-more p a line c = grind (arith, latest-granted, latest-kept)

regrouped : (h d s n l : Bool) → ((h && d) && s && (n && l)) ≡ ((h && s && n) && (d && l))
regrouped h d s n l = grind arith

-- a sole grant, and otherwise a line that was the agent's for itself, is not lost, and is named by no other agent
pub is_exclusive-more : (p : Past) (a line c : ℕ) → is_exclusive p a line (c + 1)
    ≡ (if is_granted p a line c then is_some_and (grant_at p c) is_sole_grant
    else (is_exclusive p a line c && (not (is_lost p a line c) && not (is_named_by_other p a line c))))
unfolding is_exclusive
is_exclusive-more p a line c = grind (arith, holds_line-more, holds_since-more, latest-granted, latest-kept)

-- a request has ended below the next clock where it has ended below this one, or ends at it
pub is_ended-more : (p : Past) (c q : ℕ) → is_ended p (c + 1) q ≡ (is_ended p c q || is_end_at p c q)
unfolding is_ended
is_ended-more p c q = any_where-more (λ t. is_end_at p t q) c

-- the request of the latest grant has ended, or ends at c
pub is_ready-more : (p : Past) (a line c : ℕ) → is_ready p a line (c + 1)
    ≡ is_some_and (if is_granted p a line c then grant_at p c else latest_grant p a line c)
    (λ grant. is_ended p c grant.first || is_end_at p c grant.first)
unfolding has_arrived
is_ready-more p a line c = grind (arith, latest_grant-more, is_ended-more)
