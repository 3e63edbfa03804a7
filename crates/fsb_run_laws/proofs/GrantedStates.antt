-- The state that a grant gives.
use Rattle.fsb_run_laws.proofs.Words
use Words.{ℕ, ◌+◌, ◌<◌, ◌≡◌, true, false, Some, sym, ap, ◌∙◌, arith, both_ways, false_from_ne_true, ltb-true}
use Words.{is_some_and, nat_lt-more, Grant, Past, grant_at, is_ended, is_granted, is_sole_grant, past_of, Run}
use Words.{holds_line-more, is_exclusive-more, ClockFacts, is_dirtying, is_stored_below, dirty-more, ended-later}
use Words.{granted-now, stored-parts, clock-facts, Reaches, state_below, state_of_tests, state_granted}

-- no store is logged above the end of a grant that is new
pub none-stored : (p : Past) (a line n : ℕ) (grant : Grant) → ClockFacts p line n → is_granted p a line n ≡ true
    → grant_at p n ≡ Some grant → is_stored_below p a line (n + 1) grant.first ≡ false
none-stored p a line n grant h t there = false_from_ne_true _ (λ stored.
    let now = granted-now p a line n h t in
    let there' = now.there in
    let same : now.grant ≡ grant = cc in
    let s = stored-parts p a line n grant.first stored in
    let below : s.done.clock < n + 1 = ltb-true s.done.clock (n + 1) (nat_lt-more s.done.clock n ∙ s.below) in
    let ended = ended-later p s.done.clock (n + 1) grant.first (omega arith) s.ended in
    both_ways (is_ended p (n + 1) grant.first)
    (ap (λ (g : Grant). is_ended p (n + 1) g.first) (sym same) ∙ now.unended) ended)

pub state-granted : (r : Run) (a line n : ℕ) (grant : Grant) → Reaches r (n + 1)
    → is_granted (past_of r) a line n ≡ true
    → grant_at (past_of r) n ≡ Some grant → state_below (past_of r) a line (n + 1) ≡ state_granted grant
unfolding state_below state_granted is_sole_grant is_dirtying is_some_and state_of_tests
state-granted r a line n grant h t there =
    grind (arith, clock-facts, holds_line-more, is_exclusive-more, dirty-more, none-stored)
