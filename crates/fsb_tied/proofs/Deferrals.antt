-- The deferral of a line in the words of the run: a request that is Deferred and awaits its reply; and while there is
-- one the line is given to nobody.
use Rattle.fsb_tied.proofs.Words
use Words.{ℕ, ◌+◌, ◌<◌, ◌≤◌, ◌≡◌, ◌≢◌, Bool, true, false, Option, Some, None, refl, ap, ◌∙◌, ◌⊎◌, arith, inl, inr}
use Words.{and_from, both_ways, le-leb, any_where, from_clock, last_where, any_where-none, Kind, Request, Retry}
use Words.{is_never_held_up, LineDeferral, HITM, line_at, Outcome, Handed, Retried, Written, Claim, Past, SnoopEnd, Run}
use Words.{past_of, Timely, last_where-found, fits_kind, fits_write_back, deferral_at, deferral_below, deferred_to}
use Words.{defers_line, replies_line, outcome_by_turn, outcome_under, KeepsBounds, wants-lawfully}
use Rattle.fsb_tied.proofs.PendingLines.{HasNoReply, IsPutOff, pending-retried, put-off-as, put-off-at}
use Rattle.fsb_tied.proofs.ReplyGrants.{replies-there, reply-behind}
use Rattle.fsb_tied.proofs.SnoopClaims.{IsClaimed, IsSnooped}
use Rattle.fsb_tied.proofs.SnoopOutcomes.{kind-fits, outcome-shown}

deferral-by : (p : Past) (line n : ℕ) (d : LineDeferral) (o : Option ℕ) → last_where (defers_line p line) n ≡ o
    → deferral_below p line n ≡ Some d
    → (t : ℕ) × (o ≡ Some t) × (any_where (from_clock (t + 1) (replies_line p line)) n ≡ false)
    × (deferral_at p line t ≡ Some d)
unfolding deferral_below
deferral-by p line n d o h1 h2 = grind arith

-- the deferral of a line at n: live request j was Deferred on it at t, and no reply to j has its snoop end below n
pub record Awaits (r : Run) (line n : ℕ) (d : LineDeferral) : Type 0 where
  pub clock : ℕ
  pub number : ℕ
  pub put_off : IsPutOff r line clock number
  pub below : clock < n
  pub unreplied : HasNoReply r number n
  pub made : d ≡ deferred_to (past_of r) line clock put_off.end put_off.claim.agent
  pub agent : d.agent ≡ put_off.claim.agent

from-there : (test : ℕ → Bool) (first c : ℕ) → first ≤ c → test c ≡ true → from_clock first test c ≡ true
unfolding from_clock
from-there test first c l e = and_from _ _ (le-leb first c l) e

pub deferral-awaits : (r : Run) (line n : ℕ) (d : LineDeferral) → Timely r → KeepsBounds r.plan
    → deferral_below (past_of r) line n ≡ Some d → Awaits r line n d
unfolding deferred_to
deferral-awaits r line n d h bounds e =
    let p = past_of r in
    let k = deferral-by p line n d (last_where (defers_line p line) n) refl e in
    let t : ℕ = k.0 in
    let found = last_where-found (defers_line p line) n t k.1 in
    let j = put-off-at r line t found.1 in
    let there = put-off-as r line t j.0 j.1 in
    let as_made = k.3 in
    let made : d ≡ deferred_to p line t j.1.end j.1.claim.agent = cc in
    record {
      clock = t;
      number = j.0;
      put_off = j.1;
      below = found.0;
      unreplied = λ i x reply reached less.
          let behind = reply-behind r line t j.0 i x h j.1 reply reached in
          let there = from-there (replies_line p line) (t + 1) x (omega arith)
          (replies-there r line t j.0 i x h (wants-lawfully r bounds) bounds.few_ahead j.1 reply reached) in
          both_ways (from_clock (t + 1) (replies_line p line) x)
          (any_where-none (from_clock (t + 1) (replies_line p line)) n k.2 x less) there;
      made = made;
      agent = ap (λ x. x.agent) made;
    }

-- what is retried is retried or handed over
retried-by : (handed : Bool) (request : Request)
    → (outcome_under handed Retry (Some request) ≡ Handed) ⊎ (outcome_under handed Retry (Some request) ≡ Retried)
unfolding outcome_under outcome_by_turn
retried-by handed request = grind arith

pub retry-outcome : (r : Run) (n i : ℕ) (s : SnoopEnd) (claim : Claim) → IsSnooped r n i s → (c : IsClaimed r s claim)
    → s.turn ≡ Retry → (s.outcome ≡ Handed) ⊎ (s.outcome ≡ Retried)
retry-outcome r n i s claim k c e =
    let handed = line_at HITM r.trace n in
    let made = outcome-shown r n i s c.request k c.decoded ∙ ap (λ x. outcome_under handed x (Some c.request)) e in
    elim (retried-by handed c.request) [ inl one ↦ inl (made ∙ one) | inr one ↦ inr (made ∙ one) ]

held-fits : (kind : Kind) (outcome : Outcome) → fits_kind kind outcome ≡ true → outcome ≢ Written
    → is_never_held_up kind ≡ false
unfolding fits_kind fits_write_back
held-fits kind outcome h1 h2 = grind arith

-- a request that is neither handed over, retried nor a write-back finds no deferral on its line
pub given-free : (r : Run) (n i : ℕ) (s : SnoopEnd) (claim : Claim) → Timely r → KeepsBounds r.plan
    → IsSnooped r n i s → IsClaimed r s claim → s.outcome ≢ Handed → s.outcome ≢ Retried → s.outcome ≢ Written
    → deferral_below (past_of r) claim.line n ≡ None
given-free r n i s claim h bounds k c handed retried written =
    by (deferral_below (past_of r) claim.line n) refl
  where
    by : (o : Option LineDeferral) → deferral_below (past_of r) claim.line n ≡ o
        → deferral_below (past_of r) claim.line n ≡ None
    by None e = e
    by (Some d) e =
        let w = deferral-awaits r claim.line n d h bounds e in
        let fits = kind-fits r n i s claim h k c (λ x y. handed y) in
        let held = held-fits c.request.kind s.outcome fits written in
        let turn = pending-retried r n i s c.request claim.line w.clock w.number h k c.decoded c.names held
        w.put_off w.below w.unreplied in
        absurd (elim (retry-outcome r n i s claim k c turn) [ inl one ↦ handed one | inr one ↦ retried one ])
