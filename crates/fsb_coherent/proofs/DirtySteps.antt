-- On which lines an agent is dirty, one clock further.
use Rattle.fsb_coherent.proofs.Words
use Words.{ℕ, ◌+◌, ◌≡◌, Bool, true, false, not, ◌&&◌, ◌||◌, if◌then◌else◌, Option, ap, ◌∙◌, arith, is_some_and, Grant}
use Words.{Past, grant_at, is_exclusive, is_granted, is_lost, is_named_by_other, is_sole_grant, latest_grant}
use Words.{is_counted, is_dirty, is_hit, is_stored_since, is_exclusive-more, latest_grant-more, is_dirty_below}
use Words.{is_dirty_through, is_dirtying, is_stored_below}

stored-hit : (p : Past) (a line n q : ℕ) → is_hit p a n ≡ true
    → is_stored_since p a line n q ≡ is_stored_below p a line (n + 1) q
unfolding is_stored_since is_stored_below is_counted
stored-hit p a line n q h = grind arith

stored-none : (p : Past) (a line n q : ℕ) → is_hit p a n ≡ false
    → is_stored_since p a line n q ≡ is_stored_below p a line n q
unfolding is_stored_since is_stored_below is_counted
stored-none p a line n q h = grind arith

pub dirty-hit : (p : Past) (a line n : ℕ) → is_hit p a n ≡ true → is_dirty p a line n ≡ is_dirty_through p a line n
unfolding is_dirty is_dirty_through
dirty-hit p a line n h = grind (arith, stored-hit)

pub dirty-none : (p : Past) (a line n : ℕ) → is_hit p a n ≡ false → is_dirty p a line n ≡ is_dirty_below p a line n
unfolding is_dirty is_dirty_below
dirty-none p a line n h = grind (arith, stored-none)

-- the hits of a clock count there: an agent that has one is dirty by its stores of the clock too
pub dirty-by-hits : (p : Past) (a line n : ℕ)
    → is_dirty p a line n ≡ (if is_hit p a n then is_dirty_through p a line n else is_dirty_below p a line n)
dirty-by-hits p a line n = grind (arith, dirty-hit, dirty-none)

both : (o : Option Grant) (f g : Grant → Bool)
    → (is_some_and o f && is_some_and o g) ≡ is_some_and o (λ x. f x && g x)
unfolding is_some_and
both o f g = grind arith

dirty-granted : (p : Past) (a line n : ℕ) → is_granted p a line n ≡ true
    → is_dirty_below p a line (n + 1) ≡ is_some_and (grant_at p n) (is_dirtying p a line (n + 1))
unfolding is_dirty_below is_dirtying
dirty-granted p a line n t =
    let exclusive = is_exclusive-more p a line n
    ∙ ap (λ b. if b then is_some_and (grant_at p n) is_sole_grant
    else (is_exclusive p a line n && (not (is_lost p a line n) && not (is_named_by_other p a line n)))) t in
    let latest = latest_grant-more p a line n ∙ ap (λ b. if b then grant_at p n else latest_grant p a line n) t in
    (λ i. exclusive i && is_some_and (latest i) (λ grant. grant.owns || is_stored_below p a line (n + 1) grant.first))
    ∙ both (grant_at p n) is_sole_grant (λ grant. grant.owns || is_stored_below p a line (n + 1) grant.first)

dirty-kept : (p : Past) (a line n : ℕ) → is_granted p a line n ≡ false
    → is_dirty_below p a line (n + 1)
    ≡ (is_dirty_through p a line n && (not (is_lost p a line n) && not (is_named_by_other p a line n)))
unfolding is_dirty_below is_dirty_through
dirty-kept p a line n f = grind (arith, is_exclusive-more, latest_grant-more)

-- dirty one clock on: by a grant at the clock, and otherwise where the agent was, its stores of the clock counted,
-- did not lose
-- the line and was not named by another
pub dirty-more : (p : Past) (a line n : ℕ) → is_dirty_below p a line (n + 1)
    ≡ (if is_granted p a line n then is_some_and (grant_at p n) (is_dirtying p a line (n + 1))
    else (is_dirty_through p a line n && (not (is_lost p a line n) && not (is_named_by_other p a line n))))
dirty-more p a line n = grind (arith, dirty-granted, dirty-kept)
