-- An agent has at most one line of a cache set, held or asked for.
use Rattle.fsb_tied.proofs.Words
use Words.{ℕ, zero, suc, ◌+◌, ◌<◌, ◌≤◌, ◌≡◌, ◌⊎◌, true, false, not, Some, length, nat_eq, refl, sym, subst, ◌∙◌, inl}
use Words.{inr, arith, add-one, and_parts, both_ways, cases_Bool, cases_lt, false_from_ne_true, not-true, or_parts}
use Words.{is_some_and, ADS, line_at, Symmetric, Trace, is_outstanding, begins_at, line_at-agree, same_outstanding}
use Words.{begun_at, holds_line, is_evicted, is_granted, is_lost, is_rival, is_dirty, Claim, Past, Run, past_of, run_to}
use Words.{Timely, is_asked_for, is_same_set, outstanding_at, owed, holds_line-more, holds_line-says}
use Words.{is_outstanding-more, KeepsBounds, begins-after, grants-are-owed, length-cut, owes-less, run_to-agrees}
use Words.{some-and}
use Rattle.fsb_tied.proofs.Beginnings.{begun-want}
use Rattle.fsb_tied.proofs.Owing.{IsOwed, is-owed, listed-owed}
use Rattle.fsb_tied.proofs.Victims.{dirty-held, rival-other, rival-set, rival-sym}
use Rattle.fsb_tied.proofs.Wanted.{want-is}

-- where a request begins, no line of the set is asked for
pub begun-apart : (r : Run) (n : ℕ) (claim : Claim) → Timely r → KeepsBounds r.plan → n < length r.trace
    → begun_at (past_of r) n ≡ Some claim → (line : ℕ) → is_same_set (past_of r) claim.line line ≡ true
    → is_asked_for (owed (past_of r) claim.agent n) line ≡ false
begun-apart r n claim h bounds l begun line set =
    let k = begun-want r n claim h bounds l begun in
    let w = want-is (past_of r) claim.agent n k.request k.want in
    w.apart line (subst (λ x. is_same_set (past_of r) x line ≡ true) (sym k.line) set)

-- nobody owes anything at the first clock
none-first : (p : Past) (a line : ℕ) → is_asked_for (owed p a 0) line ≡ false
unfolding is_asked_for owed outstanding_at
none-first p a line = refl

out-before : (w : Trace) (c q : ℕ) → q < c → is_outstanding w (c + 1) q ≡ true → is_outstanding w c q ≡ true
out-before w c q l e = grind (arith, is_outstanding-more)

-- what is outstanding behind a clock at which a request begins was outstanding before it
out-earlier : (r : Run) (e q : ℕ) → Timely r → suc e < length r.trace → line_at ADS r.trace (suc e) ≡ true
    → q < suc e → is_outstanding (run_to r (suc e)).trace (suc e + 1) q ≡ true
    → is_outstanding (run_to r e).trace (e + 1) q ≡ true
out-earlier r e q h l t below out =
    let u = (run_to r e).trace in
    let v = (run_to r (suc e)).trace in
    let agree = run_to-agrees r (suc e) l in
    let here = sym (line_at-agree ADS (suc e + 1) r.trace v (suc e) agree (omega arith)) ∙ t in
    let size = length-cut r e (omega arith) in
    let begins = begins-after r e (suc e) h (omega arith) l here in
    let same = same_outstanding u v q begins (omega arith) in
    let before = out-before v (suc e) q below out in
    let one : suc e ≡ length u = omega arith in
    let two : length u ≡ e + 1 = size in
    subst (λ n. is_outstanding u n q ≡ true) two
    (sym same ∙ subst (λ n. is_outstanding v n q ≡ true) one before)

-- the agent begins the request for the line at n
abbrev pub BeginsFor : Run → ℕ → ℕ → ℕ → Type 0
BeginsFor r a line n = (claim : Claim) × (begun_at (past_of r) n ≡ Some claim) × (claim.agent ≡ a) × (claim.line ≡ line)

abbrev pub Asks : Run → ℕ → ℕ → ℕ → Type 0
Asks r a line n = is_asked_for (owed (past_of r) a n) line ≡ true

-- what an agent has asked for, by a claim
pub asks-as : (r : Run) (a line n : ℕ) (claim : Claim) → claim.agent ≡ a → claim.line ≡ line
    → is_asked_for (owed (past_of r) claim.agent n) claim.line ≡ true → Asks r a line n
asks-as r a line n claim e f asked = grind arith

-- what an agent owes behind the clock e + 1, if a request begins there: it owed that before, or begins it there
asked-begun : (r : Run) (a line n : ℕ) → Timely r → n < length r.trace → line_at ADS r.trace n ≡ true
    → (k : IsOwed r a line n) → k.clock < n → Asks r a line n
asked-begun r a line zero h l t k early = absurd (omega arith)
asked-begun r a line (suc e) h l t k early =
    let out = out-earlier r e k.clock h l t early k.out in
    asks-as r a line (suc e) k.claim k.agent k.names
    (listed-owed r e k.clock k.claim (omega arith) (omega arith) out k.begun)

no-begin : (r : Run) (a n : ℕ) → n < length r.trace → line_at ADS r.trace n ≡ false
    → begins_at (run_to r n).trace n (Symmetric a) ≡ false
unfolding begins_at
no-begin r a n l f = grind (arith, line_at-agree, run_to-agrees)

-- what an agent owes, one clock further: it owed that before, or begins it at the clock
asked-more : (r : Run) (a line n : ℕ) → Timely r → n < length r.trace → Asks r a line (suc n)
    → Asks r a line n ⊎ BeginsFor r a line n
unfolding is_asked_for
asked-more r a line n h l asked =
    elim (cases_Bool (line_at ADS r.trace n)) [
      | inr quiet ↦
          let less = owes-less r a n h l (no-begin r a n l quiet) in
          let now = subst (λ c. is_asked_for (owed (past_of r) a c) line ≡ true) (sym (add-one n)) asked in
          inl (less.among (λ owing. nat_eq owing.claim.line line) now)
      | inl begins ↦
          let k = is-owed r a line n l asked in
          let below = k.below in
          elim (cases_lt k.clock n) [
            | inl early ↦ inl (asked-begun r a line n h l begins k early)
            | inr late ↦
                let same : k.clock ≡ n = omega arith in
                inr (k.claim, subst (λ c. begun_at (past_of r) c ≡ Some k.claim) same k.begun, k.agent, k.names)
          ]
    ]

-- the agent holds the line, or has asked for it
abbrev pub Slot : Run → ℕ → ℕ → ℕ → Type 0
Slot r a line n = (holds_line (past_of r) a line n ≡ true) ⊎ Asks r a line n

-- the agent begins no request for another line of the set at n
abbrev pub DropsNot : Run → ℕ → ℕ → ℕ → Type 0
DropsNot r a line n =
    (claim : Claim) → begun_at (past_of r) n ≡ Some claim → claim.agent ≡ a
    → is_rival (past_of r) claim.line line ≡ true → ⊥

-- an agent that has asked for a line begins no request for another line of the set
asked-stays : (r : Run) (a line n : ℕ) → Timely r → KeepsBounds r.plan → n < length r.trace → Asks r a line n
    → DropsNot r a line n
asked-stays r a line n h1 h2 h3 h4 = grind (arith, begun-apart, rival-set)

evicted-by : (p : Past) (a line n : ℕ) (claim : Claim) → begun_at p n ≡ Some claim → claim.agent ≡ a
    → is_rival p claim.line line ≡ true → is_evicted p a line n ≡ true
unfolding is_evicted is_some_and
evicted-by p a line n claim begun agent rival = grind arith

-- one that holds it behind the clock, and was not granted it there, does neither
held-stays : (p : Past) (a line n : ℕ) → is_lost p a line n ≡ false → is_evicted p a line n ≡ false
unfolding is_lost
held-stays p a line n e = (or_parts _ _ (or_parts _ _ e).0).0

-- what an agent has one clock further it had, and it drops it not; or it begins the request for it
slot-before : (r : Run) (a line n : ℕ) → Timely r → KeepsBounds r.plan → n < length r.trace → Slot r a line (suc n)
    → (Slot r a line n × DropsNot r a line n) ⊎ BeginsFor r a line n
slot-before r a line n h bounds l (inr asked) = grind (arith, asked-more, asked-stays)
slot-before r a line n h bounds l (inl held) =
    let p = past_of r in
    let now = sym (holds_line-more p a line n) ∙ subst (λ c. holds_line p a line c ≡ true) (sym (add-one n)) held in
    elim (cases_Bool (is_granted p a line n)) [
      | inl granted ↦
          let asked = (grants-are-owed r h).granted a n line l granted in
          inl (inr asked, asked-stays r a line n h bounds l asked)
      | inr plain ↦
          let parts = and_parts (holds_line p a line n) (not (is_lost p a line n)) (rw plain at now) in
          let stays = held-stays p a line n (not-true _ parts.1) in
          inl (
            inl parts.0,
            λ claim begun agent rival.
                both_ways (is_evicted p a line n) stays (evicted-by p a line n claim begun agent rival),
          )
    ]

no-slot : (r : Run) (a line : ℕ) → Slot r a line 0 → ⊥
no-slot r a line (inl held) = let below = (holds_line-says (past_of r) a line 0 held).before in omega arith
no-slot r a line (inr asked) = both_ways _ (none-first (past_of r) a line) asked

-- an agent has no two lines of a set
pub one-slot : (r : Run) (a x y n : ℕ) → Timely r → KeepsBounds r.plan → n ≤ length r.trace
    → is_rival (past_of r) x y ≡ true → Slot r a x n → Slot r a y n → ⊥
one-slot r a x y zero h bounds l rival s t = no-slot r a x s
one-slot r a x y (suc n) h bounds l rival s t =
    let p = past_of r in
    elim (slot-before r a x n h bounds (omega arith) s) [
      | inl one ↦
          elim (slot-before r a y n h bounds (omega arith) t) [
            | inl two ↦ one-slot r a x y n h bounds (omega arith) rival one.0 two.0
            | inr two ↦
                one.1 two.0 two.1 two.2 (subst (λ k. is_rival p k x ≡ true) (sym two.3) (rival-sym p x y rival))
          ]
      | inr one ↦
          elim (slot-before r a y n h bounds (omega arith) t) [
            | inl two ↦ two.1 one.0 one.1 one.2 (subst (λ k. is_rival p k y ≡ true) (sym one.3) rival)
            | inr two ↦ rival-other p x y rival (same-line one two)
          ]
    ]
  where
    same-line : BeginsFor r a x n → BeginsFor r a y n → x ≡ y
    same-line one two = grind arith

-- what its agent drops for the line of a request that begins is not dirty
pub dropped-clean : (r : Run) (n : ℕ) (claim : Claim) (line : ℕ) → Timely r → KeepsBounds r.plan → n < length r.trace
    → begun_at (past_of r) n ≡ Some claim → is_rival (past_of r) claim.line line ≡ true
    → is_dirty (past_of r) claim.agent line n ≡ false
dropped-clean r n claim line h bounds l begun rival =
    let p = past_of r in
    let k = begun-want r n claim h bounds l begun in
    let w = want-is p claim.agent n k.request k.want in
    elim w.drops [
      | inl clean ↦ clean line (subst (λ x. is_rival p x line ≡ true) (sym k.line) rival)
      | inr dirty ↦
          false_from_ne_true _ (λ t.
          let own = subst (λ x. is_dirty p claim.agent x n ≡ true) k.line dirty in
          one-slot r claim.agent claim.line line n h bounds (omega arith) rival
          (inl (dirty-held p claim.agent claim.line n own)) (inl (dirty-held p claim.agent line n t)))
    ]

-- an agent that has asked for a line drops it not
pub asked-unevicted : (r : Run) (a line n : ℕ) → Timely r → KeepsBounds r.plan → n < length r.trace → Asks r a line n
    → is_evicted (past_of r) a line n ≡ false
unfolding is_evicted
asked-unevicted r a line n h bounds l asked = grind (arith, some-and, asked-stays)
