-- The request whose end at a clock is awaited on a line: its snoop end, its claim, and whether memory takes its data.
use Rattle.fsb_tied.proofs.Words
use Words.{ℕ, ◌+◌, ◌<◌, ◌≤◌, ◌≡◌, true, false, nat_eq, List, [], ◌∷◌, Option, Some, None, length, refl, sym, ap, subst}
use Words.{◌∙◌, arith, and_parts, eqb-true, option_and_then, is_some_and, does_take, end_of, end_of-response}
use Words.{ended_requests, is_end_at, snooped_at, claim_at, live_claim_of, Claim, Grant, Past, SnoopEnd, Run, past_of}
use Words.{IsSnoopOf, Timely, settled_of, snoop-tied, tied-snoop, KeepsBounds, some-and, Awaited, awaited_by}
use Words.{does_end_on}
use Rattle.fsb_tied.proofs.AnswersInOrder.{answers-in-order}
use Rattle.fsb_tied.proofs.Awaiting.{awaited-there}
use Rattle.fsb_tied.proofs.Bridge.{ended-number, number-ended}
use Rattle.fsb_tied.proofs.CarryingRuns.{granted-await, written-await}
use Rattle.fsb_tied.proofs.ClocksOfRuns.{clock-facts}
use Rattle.fsb_tied.proofs.Moving.{EndsOn, end-on}
use Rattle.fsb_tied.proofs.PutLines.{takes_line}
use Rattle.fsb_tied.proofs.TakingSnoops.{IsTaking, taking, uncontested}
use Rattle.fsb_tied.proofs.WholeOrder.{answered, one-begins, orderly-whole}
use Rattle.fsb_tied.proofs.WrittenAlone.{writes-back-alone}

-- memory takes the data after a snoop end of a request for the line
pub taking-at : (r : Run) (line t : ℕ) (s : SnoopEnd) (claim : Claim) → Timely r → KeepsBounds r.plan
    → t < length r.trace → snooped_at (past_of r) t ≡ Some s → s.claim ≡ Some claim → claim.line ≡ line
    → does_take s.outcome ≡ true → IsTaking (past_of r) line t s
taking-at r line t s claim h bounds l there claims names takes =
    let settled = (clock-facts r line t h bounds l).settles.settled s claim there claims names in
    taking (past_of r) line t s settled.fits
    (uncontested r line t s (writes-back-alone r h bounds) there settled.fits) takes

live-claim : (r : Run) (i t : ℕ) (s : SnoopEnd) → IsSnoopOf r i t s → live_claim_of r.trace i ≡ s.claim
unfolding live_claim_of
live-claim r i t s tied = ap (option_and_then (claim_at r.trace)) tied.first ∙ sym tied.claim

live-settled : (r : Run) (i t : ℕ) (s : SnoopEnd) → IsSnoopOf r i t s → settled_of r (past_of r) i ≡ Some s.outcome
unfolding settled_of
live-settled r i t s tied = tied.outcome

-- where a request that puts the line into memory has its end at n, an end is awaited on the line there
pub taken-ends : (r : Run) (line n i : ℕ) → Timely r → KeepsBounds r.plan → n < length r.trace
    → end_of r.trace i ≡ Some n → takes_line r line i ≡ true → does_end_on (past_of r) line n ≡ true
unfolding is_some_and
taken-ends r line n i h bounds l e takes =
    let p : Past = past_of r in
    let o = orderly-whole r n h l in
    let u = end_of-response r.trace i n e in
    let low : u.0 ≤ n = u.2 in
    let a = answered r.trace i u.0 o u.1 in
    let gap : a.snoop + 2 ≤ u.0 = a.before in
    let k = snoop-tied r i a.snoop a.is_snoop in
    let s : SnoopEnd = k.0 in
    let parts = and_parts (is_some_and (live_claim_of r.trace i) (λ claim. nat_eq claim.line line))
    (is_some_and (settled_of r p i) does_take) takes in
    let c = some-and (live_claim_of r.trace i) (λ (x : Claim). nat_eq x.line line) parts.0 in
    let claims : s.claim ≡ Some c.0 = sym (live-claim r i a.snoop s k.1) ∙ c.1 in
    let takes' : does_take s.outcome ≡ true = grind (arith, live-settled) in
    let t = taking-at r line a.snoop s c.0 h bounds (omega arith) k.1.there claims
    (eqb-true c.0.line line c.2) takes' in
    let ends = number-ended r i n s.first l o (record { end = e; first = k.1.first }) in
    end-on p line n s.first t.awaited ends
    (awaited-there p (length r.trace) n a.snoop s (answers-in-order r h) (omega arith) k.1.there ∙ t.awaits) t.names

-- live request `number` has its end at n, which is awaited on the line after its snoop end
pub record EndsLine (r : Run) (line n : ℕ) : Type 0 where
  pub number : ℕ
  pub at : ℕ
  pub end : SnoopEnd
  pub below : at ≤ n
  pub tied : IsSnoopOf r number at end
  pub awaited : Awaited
  pub awaits : awaited_by end ≡ Some awaited
  pub names : awaited.line ≡ line
  pub ends : end_of r.trace number ≡ Some n
  pub alone : ended_requests (past_of r) n ≡ end.first ∷ []

one-only : (p : Past) (n q : ℕ) (qs : List ℕ) → ended_requests p n ≡ qs
    → ((x y : ℕ) (zs : List ℕ) → ended_requests p n ≡ x ∷ y ∷ zs → ⊥) → is_end_at p n q ≡ true
    → ended_requests p n ≡ q ∷ []
unfolding is_end_at
one-only p n q [] e few ends = absurd (let no : ⊥ = (let f = rw e at ends in cc) in no)
one-only p n q (x ∷ []) e few ends = grind arith
one-only p n q (x ∷ y ∷ zs) e few ends = absurd (few x y zs e)

pub ends-line : (r : Run) (line n : ℕ) → Timely r → n < length r.trace → EndsOn (past_of r) line n → EndsLine r line n
ends-line r line n h l k =
    let p : Past = past_of r in
    let e = ended-number r n k.number h l k.ends in
    let s = k.awaits in
    let tied = tied-snoop r s.at s.end s.there in
    let same : tied.0 ≡ e.0 = one-begins r.trace tied.0 e.0 k.number (tied.1.first ∙ ap Some s.first) e.1.first in
    let a = answers-in-order r h in
    let alone = one-only p n k.number (ended_requests p n) refl (λ x y zs f. a.few n x y zs l f) k.ends in
    record {
      number = e.0;
      at = s.at;
      end = s.end;
      below = s.below;
      tied = subst (λ i. IsSnoopOf r i s.at s.end) same tied.1;
      awaited = k.awaited;
      awaits = s.awaits;
      names = k.names;
      ends = e.1.end;
      alone = alone ∙ ap (λ q. q ∷ []) (sym s.first);
    }

-- the claim of the request, where memory takes its data
pub record ClaimsLine (s : SnoopEnd) (line : ℕ) : Type 0 where
  pub claim : Claim
  pub claims : s.claim ≡ Some claim
  pub names : claim.line ≡ line

pub claims-line : (r : Run) (line n : ℕ) (k : EndsLine r line n) → Timely r → KeepsBounds r.plan → n < length r.trace
    → does_take k.end.outcome ≡ true → ClaimsLine k.end line
unfolding does_take
claims-line r line n k h bounds l takes = by-grant k.end.claim k.end.grant refl refl
  where
    by-grant : (claim : Option Claim) (grant : Option Grant) → k.end.claim ≡ claim → k.end.grant ≡ grant
        → ClaimsLine k.end line
    by-grant claim None e f =
        let b = written-await k.end k.awaited f k.awaits in
        record { claim = b.claim; claims = b.claimed; names = b.names ∙ k.names }
    by-grant None (Some grant) e f =
        let b = granted-await k.end k.awaited grant f k.awaits in
        let same : Some b.grant ≡ Some grant = sym b.granted ∙ f in
        let one : b.grant ≡ grant = cc in
        let low = k.below in
        let names : grant.line ≡ line = ap (λ (g : Grant). g.line) (sym one) ∙ b.names ∙ k.names in
        let facts = clock-facts r line k.at h bounds (omega arith) in
        let replied = facts.settles.replied k.end grant k.tied.there e f names in
        absurd (let no : ⊥ = (let t = rw replied.replied at takes in cc) in no)
    by-grant (Some claim) (Some grant) e f =
        let b = granted-await k.end k.awaited grant f k.awaits in
        let same : Some b.grant ≡ Some grant = sym b.granted ∙ f in
        let one : b.grant ≡ grant = cc in
        let low = k.below in
        let names : grant.line ≡ line = ap (λ (g : Grant). g.line) (sym one) ∙ b.names ∙ k.names in
        let facts = clock-facts r line k.at h bounds (omega arith) in
        let elsewhere = facts.settles.elsewhere k.end claim grant k.tied.there e f in
        record { claim = claim; claims = e; names = sym elsewhere ∙ names }

-- so it is one that puts the line into memory
pub ending-takes : (r : Run) (line n : ℕ) (k : EndsLine r line n) → does_take k.end.outcome ≡ true
    → ClaimsLine k.end line → takes_line r line k.number ≡ true
unfolding is_some_and
ending-takes r line n k takes c = grind (arith, live-claim, live-settled)

-- and where memory takes none of its data it is not
pub ending-takes-none : (r : Run) (line n : ℕ) (k : EndsLine r line n) → does_take k.end.outcome ≡ false
    → takes_line r line k.number ≡ true → ⊥
unfolding is_some_and
ending-takes-none r line n k none takes = grind (arith, live-settled)
