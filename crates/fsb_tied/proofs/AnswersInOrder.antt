-- Snoop ends, responses and ends of a past that come in the order of its live requests; and those of a timely run do.
use Rattle.fsb_tied.proofs.Words
use Words.{ℕ, ◌+◌, ◌<◌, ◌≤◌, ◌≡◌, Bool, true, ◌&&◌, List, ◌∷◌, Some, length, sym, ap, subst, ◌∙◌, arith, inl, inr}
use Words.{cases_lt, lt-leb, count_where, from_clock, is_some_and, any_where-at, nth_where-found, DRDY, line_at, Trace}
use Words.{does_move, moves_data, response_clock_of, end_of, snoop_end_of, AgreeTo-sym, end_of-moving, end_of-response}
use Words.{end_of-stays, response_clock_of-stays, snoop_end_of-rises, snoop_end_of-stays, count_where-none}
use Words.{ended_requests, is_end_at, is_ended, snooped_at, Past, SnoopEnd, Run, past_of, run_to, Timely, snoop-tied}
use Words.{tied-snoop, run_to-agrees, told-as-settled, turned-at, responded_in}
use Rattle.fsb_tied.proofs.Bridge.{ended-number, number-ended, number-responded, one-at-end, responded-number}
use Rattle.fsb_tied.proofs.WholeOrder.{answered, ended-before, one-begins, orderly-whole}

-- a response that is known by its snoop end
pub record HasSnoop (p : Past) (t q : ℕ) : Type 0 where
  pub at : ℕ
  pub end : SnoopEnd
  pub there : snooped_at p at ≡ Some end
  pub first : end.first ≡ q
  pub before : at + 2 ≤ t

-- an end that is known by its response
pub record HasResponse (p : Past) (t q : ℕ) : Type 0 where
  pub at : ℕ
  pub there : responded_in p at ≡ Some q
  pub before : at ≤ t

-- the clocks below m: a request has one snoop end, then one response, then one end; the responses come in the order of
-- the snoop ends, each behind the end before; one request at most ends at a clock, and where its data move that comes
-- behind its response
pub record AnswersInOrder (p : Past) (m : ℕ) : Type 0 where
  pub one_snoop : (t u : ℕ) (s e : SnoopEnd) → snooped_at p t ≡ Some s → snooped_at p u ≡ Some e → s.first ≡ e.first
      → t ≡ u
  pub snooped : (t q : ℕ) → t < m → responded_in p t ≡ Some q → HasSnoop p t q
  pub responded : (t q : ℕ) → t < m → is_end_at p t q ≡ true → HasResponse p t q
  pub in_turn : (t u n : ℕ) (s e : SnoopEnd) → snooped_at p t ≡ Some s → snooped_at p u ≡ Some e → t < u → n < m
      → responded_in p n ≡ Some e.first → is_ended p n s.first ≡ true
  pub one_response : (t u q : ℕ) → t < m → u < m → responded_in p t ≡ Some q → responded_in p u ≡ Some q → t ≡ u
  pub one_end : (t u q : ℕ) → t < m → u < m → is_end_at p t q ≡ true → is_end_at p u q ≡ true → t ≡ u
  pub few : (t q u : ℕ) (qs : List ℕ) → t < m → ended_requests p t ≡ q ∷ u ∷ qs → ⊥
  pub moves : (t u n : ℕ) (s : SnoopEnd) → snooped_at p t ≡ Some s → does_move s.outcome ≡ true → u < m → n < m
      → responded_in p u ≡ Some s.first → is_end_at p n s.first ≡ true → u < n

has-snoop : (r : Run) (t q : ℕ) → Timely r → t < length r.trace → responded_in (past_of r) t ≡ Some q
    → HasSnoop (past_of r) t q
has-snoop r t q h l e =
    let k = responded-number r t q h l e in
    let a = answered r.trace k.0 t (orderly-whole r t h l) k.1.response in
    let s = snoop-tied r k.0 a.snoop a.is_snoop in
    let clock : Some s.0.first ≡ Some q = sym s.1.first ∙ k.1.first in
    let first : s.0.first ≡ q = cc in
    record { at = a.snoop; end = s.0; there = s.1.there; first = first; before = a.before }

has-response : (r : Run) (t q : ℕ) → Timely r → t < length r.trace → is_end_at (past_of r) t q ≡ true
    → HasResponse (past_of r) t q
has-response r t q h l e =
    let k = ended-number r t q h l e in
    let p = end_of-response r.trace k.0 t k.1.end in
    let u : ℕ = p.0 in
    let low : u ≤ t = p.2 in
    record {
      at = u;
      there = number-responded r k.0 u q (omega arith) (orderly-whole r t h l)
          (record { response = p.1; first = k.1.first });
      before = low;
    }

-- the live request of a later snoop end comes later
rises : (r : Run) (i j t u : ℕ) → snoop_end_of r.trace i ≡ Some t → snoop_end_of r.trace j ≡ Some u → t < u → i < j
rises r i j t u e f l =
    elim (cases_lt i j) [
      | inl less ↦ less
      | inr more ↦ elim (cases_lt j i) [
        | inl less ↦
            let before = snoop_end_of-rises r.trace j i t less e in
            let there : snoop_end_of r.trace j ≡ Some before.0 = before.1 in
            let gap : before.0 + 3 ≤ t = before.2 in
            let same : before.0 ≡ u = cc in
            absurd (omega arith)
        | inr less ↦
            let same : i ≡ j = omega arith in
            let both : Some t ≡ Some u = sym e ∙ ap (snoop_end_of r.trace) same ∙ f in
            let clock : t ≡ u = cc in
            absurd (omega arith)
      ]
    ]

in-turn : (r : Run) (t u n : ℕ) (s e : SnoopEnd) → Timely r → snooped_at (past_of r) t ≡ Some s
    → snooped_at (past_of r) u ≡ Some e → t < u → n < length r.trace → responded_in (past_of r) n ≡ Some e.first
    → is_ended (past_of r) n s.first ≡ true
unfolding is_ended
in-turn r t u n s e h f g l m k =
    let o = orderly-whole r n h m in
    let a = tied-snoop r t s f in
    let b = tied-snoop r u e g in
    let i : ℕ = a.0 in
    let j : ℕ = b.0 in
    let found = responded-number r n e.first h m k in
    let same : found.0 ≡ j = one-begins r.trace found.0 j e.first found.1.first b.1.first in
    let response : response_clock_of r.trace j ≡ Some n = grind arith in
    let less = rises r i j t u a.1.reached b.1.reached l in
    let end = ended-before r.trace i j n o less response in
    let low : end.0 < n = end.2 in
    any_where-at (λ x. is_end_at (past_of r) x s.first) n end.0 low
    (number-ended r i end.0 s.first (omega arith) o (record { end = end.1; first = a.1.first }))

one-end : (r : Run) (t u q : ℕ) → Timely r → t < length r.trace → u < length r.trace
    → is_end_at (past_of r) t q ≡ true → is_end_at (past_of r) u q ≡ true → t ≡ u
one-end r t u q h l m e f =
    let a = ended-number r t q h l e in
    let b = ended-number r u q h m f in
    let number : a.0 ≡ b.0 = one-begins r.trace a.0 b.0 q a.1.first b.1.first in
    let both : Some t ≡ Some u = sym a.1.end ∙ ap (end_of r.trace) number ∙ b.1.end in
    cc

none-from : (test : ℕ → Bool) (n : ℕ) → count_where (from_clock n test) n ≡ 0
unfolding from_clock
none-from test n = count_where-none (from_clock n test) n (λ c l. ap (λ b. b && test c) (lt-leb n c l))

-- the fourth chunk of a transfer does not come with the response
later-chunk : (w : Trace) (i u n : ℕ) → moves_data w i ≡ true → response_clock_of w i ≡ Some u → end_of w i ≡ Some n
    → u ≡ n → ⊥
later-chunk w i u n moves e f same =
    let k = nth_where-found (from_clock u (line_at DRDY w)) 3 (length w) n (sym (end_of-moving w i u moves e) ∙ f) in
    let three : count_where (from_clock u (line_at DRDY w)) n ≡ 3 = k.2 in
    let none : count_where (from_clock u (line_at DRDY w)) n ≡ 0 = grind (arith, none-from) in
    omega arith

moves-on : (r : Run) (t u n : ℕ) (s : SnoopEnd) → Timely r → snooped_at (past_of r) t ≡ Some s
    → does_move s.outcome ≡ true → u < length r.trace → n < length r.trace → responded_in (past_of r) u ≡ Some s.first
    → is_end_at (past_of r) n s.first ≡ true → u < n
unfolding moves_data is_some_and does_move
moves-on r t u n s h e moves l m f g =
    let v = (run_to r n).trace in
    let a = tied-snoop r t s e in
    let b = responded-number r u s.first h l f in
    let c = ended-number r n s.first h m g in
    let i : ℕ = a.0 in
    let left : b.0 ≡ i = one-begins r.trace b.0 i s.first b.1.first a.1.first in
    let right : c.0 ≡ i = one-begins r.trace c.0 i s.first c.1.first a.1.first in
    let response : response_clock_of r.trace i ≡ Some u = grind arith in
    let end : end_of r.trace i ≡ Some n = subst (λ x. end_of r.trace x ≡ Some n) right c.1.end in
    let answer = answered r.trace i u (orderly-whole r n h m) response in
    let p = end_of-response r.trace i n end in
    let again : response_clock_of r.trace i ≡ Some p.0 = p.1 in
    let low : p.0 ≤ n = p.2 in
    let clock : p.0 ≡ u = cc in
    let gap : answer.snoop + 2 ≤ u = answer.before in
    let agree = run_to-agrees r n m in
    let cut = response_clock_of-stays (n + 1) r.trace v i u agree (omega arith) response in
    let last = end_of-stays (n + 1) r.trace v i answer.snoop n agree (omega arith) answer.is_snoop (omega arith) end in
    let told = told-as-settled r n i u h m cut in
    let turned = turned-at r n i told.snoop h m told.is_snoop in
    let before : told.snoop + 2 ≤ u = told.before in
    let back = AgreeTo-sym (n + 1) r.trace v agree in
    let whole = snoop_end_of-stays (n + 1) v r.trace i told.snoop back (omega arith) told.is_snoop in
    let at : Some told.snoop ≡ Some t = sym whole ∙ a.1.reached in
    let place : told.snoop ≡ t = cc in
    let both : Some turned.end ≡ Some s = sym turned.there ∙ ap (snooped_at (past_of r)) place ∙ e in
    let same : turned.end ≡ s = cc in
    let does : moves_data v i ≡ true = grind arith in
    elim (cases_lt u n) [
      | inl less ↦ less
      | inr more ↦ absurd (later-chunk v i u n does cut last (omega arith))
    ]

-- those of a timely run do, at all its clocks
pub answers-in-order : (r : Run) → Timely r → AnswersInOrder (past_of r) (length r.trace)
answers-in-order r h =
    grind (
      arith,
      tied-snoop,
      one-begins,
      has-snoop,
      has-response,
      in-turn,
      responded-number,
      one-end,
      one-at-end,
      moves-on,
    )
