-- What is promised in a timely run: to whom, and that it has no response as long as the promise stands.
use Rattle.fsb_agent_run.proofs.Words
use Words.{ℕ, ◌+◌, ◌<◌, ◌≤◌, ◌≡◌, Bool, true, false, ◌&&◌, Some, length, sym, ap, subst, ◌∙◌, arith, option_and_then}
use Words.{both_ways, le-leb, any_where, from_clock, last_where, any_where-at, any_where-found, any_where-none}
use Words.{is_at-some, Claim, Grant, Past, SnoopEnd, grant_at, is_end_at, is_ended, is_granted, latest_grant}
use Words.{snooped_at, Run, past_of, Timely, last_where-found, KeepsBounds, some-and, responded_in, answers-in-order}
use Words.{grant-first, granted-parts, claim_given_at, given_since, gives_line_at, is_promised, promise_told}
use Words.{is_awaited}
use Rattle.fsb_agent_run.proofs.GivenBytes.{given, given-ungranted}

-- the latest grant of a line that an agent awaits
pub record AwaitsBy (p : Past) (a line n c : ℕ) : Type 0 where
  pub at : ℕ
  pub last : last_where (is_granted p a line) n ≡ Some at
  pub below : at < n
  pub granted : is_granted p a line at ≡ true
  pub end : SnoopEnd
  pub grant : Grant
  pub there : snooped_at p at ≡ Some end
  pub made : end.grant ≡ Some grant
  pub unended : is_ended p c grant.first ≡ false

same-grant : (p : Past) (t : ℕ) (s : SnoopEnd) (grant : Grant) → snooped_at p t ≡ Some s → grant_at p t ≡ Some grant
    → s.grant ≡ Some grant
unfolding grant_at
same-grant p t s grant e f = sym (ap (option_and_then (λ (x : SnoopEnd). x.grant)) e) ∙ f

pub awaits-by : (p : Past) (a line n c : ℕ) → is_awaited p a line n c ≡ true → AwaitsBy p a line n c
unfolding is_awaited latest_grant
awaits-by p a line n c e = grind (arith, some-and, last_where-found, granted-parts, same-grant)

-- the promise of a line: the snoop end at which it was made, and no grant of the line to the agent since
pub record IsPromisedAt (p : Past) (a line n c q : ℕ) : Type 0 where
  pub awaited : is_awaited p a line n c ≡ true
  pub at : ℕ
  pub below : at < n
  pub claim : Claim
  pub given : claim_given_at p a at ≡ Some claim
  pub names : claim.line ≡ line
  pub first : claim.first ≡ q
  pub since : any_where (from_clock (at + 1) (is_granted p a line)) n ≡ false

pub promised-at : (p : Past) (a line n c q : ℕ) → promise_told p a line n c ≡ Some q → IsPromisedAt p a line n c q
unfolding promise_told given_since gives_line_at
promised-at p a line n c q e = grind (arith, last_where-found, some-and)

-- nothing from a clock on
none-from : (test : ℕ → Bool) (k n t : ℕ) → any_where (from_clock k test) n ≡ false → k ≤ t → t < n → test t ≡ false
unfolding from_clock
none-from test k n t e l m = sym (ap (λ b. b && test t) (le-leb k t l)) ∙ any_where-none (from_clock k test) n e t m

ended-on : (p : Past) (u c q : ℕ) → u ≤ c → is_ended p u q ≡ true → is_ended p c q ≡ true
unfolding is_ended
ended-on p u c q l e =
    let v = any_where-found (λ t. is_end_at p t q) u e in
    let low : v.0 < u = v.1 in
    any_where-at (λ t. is_end_at p t q) c v.0 (omega arith) v.2

-- a promise is made behind the latest grant
pub promised-later : (r : Run) (a line n c q : ℕ) → Timely r → KeepsBounds r.plan → n ≤ length r.trace
    → (k : IsPromisedAt (past_of r) a line n c q) (w : AwaitsBy (past_of r) a line n c) → w.at < k.at
promised-later r a line n c q h bounds l k w = order-of w.at k.at not-later not-then
  where
    order-of : (x y : ℕ) → (y < x → ⊥) → (x ≡ y → ⊥) → x < y
    order-of x y f g = grind arith

    not-later : k.at < w.at → ⊥
    not-later late =
        both_ways (is_granted (past_of r) a line w.at)
        (none-from (is_granted (past_of r) a line) (k.at + 1) n w.at k.since (omega arith) w.below) w.granted

    not-then : w.at ≡ k.at → ⊥
    not-then same =
        let k_below : k.at < n = k.below in
        both_ways (is_granted (past_of r) a line k.at)
        (given-ungranted r a k.at line k.claim (given r a k.at k.claim h bounds (omega arith) k.given))
        (subst (λ t. is_granted (past_of r) a line t ≡ true) same w.granted)

-- a request that is promised the bytes of a line has no response while they are awaited
pub promised-unresponded : (r : Run) (a line n c q u : ℕ) → Timely r → KeepsBounds r.plan → n ≤ length r.trace
    → u ≤ c → u < length r.trace → promise_told (past_of r) a line n c ≡ Some q
    → responded_in (past_of r) u ≡ Some q → ⊥
promised-unresponded r a line n c q u h bounds l before within told responds =
    let p : Past = past_of r in
    let k = promised-at p a line n c q told in
    let w = awaits-by p a line n c k.awaited in
    let k_below : k.at < n = k.below in
    let w_below : w.at < n = w.below in
    let g = given r a k.at k.claim h bounds (omega arith) k.given in
    let order = answers-in-order r h in
    let earlier : w.at < k.at = promised-later r a line n c q h bounds l k w in
    let first : g.at.end.first ≡ q = sym g.first ∙ k.first in
    let ended = order.in_turn w.at k.at u w.end g.at.end w.there g.at.there earlier within (responds ∙ ap Some
    (sym first)) in
    let grant_first = grant-first r a line w.at w.end w.grant (omega arith) w.there w.made w.granted in
    both_ways (is_ended p c w.grant.first) w.unended
    (ended-on p u c w.grant.first before (subst (λ x. is_ended p u x ≡ true) (sym grant_first) ended))

-- so it is not promised where it responds
pub responded-unpromised : (r : Run) (a n c q u : ℕ) → Timely r → KeepsBounds r.plan → n ≤ length r.trace
    → u ≤ c → u < length r.trace → responded_in (past_of r) u ≡ Some q → is_promised (past_of r) a n c q ≡ false
unfolding is_promised
responded-unpromised r a n c q u h bounds l before within responds =
    grind (arith, some-and, promised-unresponded, is_at-some)
