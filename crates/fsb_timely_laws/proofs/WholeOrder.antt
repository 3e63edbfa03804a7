-- Where the parts hold throughout a run, asked of the whole run, its trace is orderly.
use Rattle.fsb_timely_laws.proofs.Words
use Words.{ℕ, zero, suc, ◌+◌, ◌-◌, ◌<◌, ◌≤◌, ◌≡◌, true, false, not, ◌&&◌, nat_eq, nat_le, Option, Some, None, length}
use Words.{refl, sym, ap, subst, ◌∙◌, inl, inr, arith, option_and_then, option_map_or, and_parts, cases_lt, eqb-true}
use Words.{le-leb, first_where-found, nth_where-found, ADS, BNR, line_at, Trace, line_back, responds_at}
use Words.{response_code_at, response_clock_of, response_code_of, live_count, Orderly, ads_before_end, may_answer-from}
use Words.{Responding, and4, and5, answered-before, not-true, one-response, response-before, responding-answer}
use Words.{same-beq, Past, Run, past_of, live_choice, drives_ads, drives_pair, has_free_winner, has_room, is_spaced}
use Words.{may_begin, starts_requests, code_due, drives_code, drives_data_busy, drives_data_ready, drives_ready}
use Words.{drives_responses, is_response_clock, keeps_data_quiet, number_responding, settled_of, Throughout}
use Words.{holds_in_whole}
use Rattle.fsb_trace.specs.Rules.{may_answer, next_response}
use Rattle.fsb_timely_laws.proofs.TransferParts.{responding-parts}

-- a request begins where none began one or two clocks before
begins-spaced : (r : Run) (p : Past) (q : ℕ) → starts_requests r p q ≡ true → line_at ADS r.trace q ≡ true
    → (line_back ADS r.trace q 1 ≡ false) × (line_back ADS r.trace q 2 ≡ false)
unfolding starts_requests drives_ads may_begin is_spaced
begins-spaced r p q e t =
    let ads = (and_parts (drives_ads r p q) (drives_pair r p q) e).0 in
    let may = sym (same-beq (line_at ADS r.trace q) (may_begin r p q) ads) ∙ t in
    let a = and4 (is_spaced r q) (has_room r q) (not (line_back BNR r.trace q 2)) (has_free_winner r p q) may in
    let b = and_parts (not (line_back ADS r.trace q 1)) (not (line_back ADS r.trace q 2)) a.0 in
    (not-true (line_back ADS r.trace q 1) b.0, not-true (line_back ADS r.trace q 2) b.1)

not-back : (w : Trace) (p q d : ℕ) → line_at ADS w p ≡ true → line_back ADS w q d ≡ false → q ≡ p + d → ⊥
unfolding line_back
not-back w p q d t f e =
    let same : q - d ≡ p = omega arith in
    let low : nat_le d q ≡ true = le-leb d q (omega arith) in
    let back : (nat_le d q && line_at ADS w (q - d)) ≡ true = rw (low, same) t in
    let no : false ≡ true = sym f ∙ back in cc no

whole-apart : (r : Run) (p q : ℕ) → Throughout starts_requests r → p < q → line_at ADS r.trace p ≡ true
    → line_at ADS r.trace q ≡ true → p + 3 ≤ q
unfolding holds_in_whole
whole-apart r p q h l t u =
    let b = begins-spaced r (past_of r) q (h.at q (ads_before_end r.trace q u)) u in
    elim (cases_lt (p + 2) q) [
      | inl far ↦ omega arith
      | inr near ↦
          elim (cases_lt (p + 1) q) [
            | inl two ↦ absurd (not-back r.trace p q 2 t b.1 (omega arith))
            | inr one ↦ absurd (not-back r.trace p q 1 t b.0 (omega arith))
          ]
    ]

-- a response is that of a request that is to respond there
due-by : (r : Run) (p : Past) (c : ℕ) (o : Option ℕ) → number_responding r c ≡ o
    → nat_eq (option_map_or response_code_of (option_and_then (settled_of r p) o) 0) 0 ≡ false
    → (j : ℕ) × (is_response_clock r c j ≡ true)
unfolding number_responding
due-by r p c None e f = absurd (let no : ⊥ = cc in no)
due-by r p c (Some j) e f = (j, (first_where-found (is_response_clock r c) (live_count r.trace) j e).1)

due-at : (r : Run) (p : Past) (c : ℕ) → drives_responses r p c ≡ true → responds_at r.trace c ≡ true
    → (j : ℕ) × (is_response_clock r c j ≡ true)
unfolding drives_responses drives_code responds_at code_due
due-at r p c e t =
    let a = and5 (drives_ready r c) (drives_code r p c) (drives_data_ready r p c) (drives_data_busy r p c)
    (keeps_data_quiet r c) e in
    let code = eqb-true (response_code_at r.trace c) (code_due r p c) a.1 in
    let some = not-true (nat_eq (response_code_at r.trace c) 0) t in
    due-by r p c (number_responding r c) refl (sym (ap (λ k. nat_eq k 0) code) ∙ some)

-- and it is the next one to respond
pub record Answers (r : Run) (t : ℕ) : Type 0 where
  pub number : ℕ
  pub responding : Responding r.trace (live_choice r number).resp t number
  pub next : number ≡ next_response r.trace t

answers-below : (r : Run) (n t : ℕ) → Throughout drives_responses r → t < n → t < length r.trace
    → responds_at r.trace t ≡ true → Answers r t
unfolding holds_in_whole
answers-below r zero t h l m e = absurd (omega arith)
answers-below r (suc n) t h l m e =
    let w = r.trace in
    let due = due-at r (past_of r) t (h.at t m) e in
    let j : ℕ = due.0 in
    let mine = responding-parts r t j due.1 in
    let low = answered-before w t j (responding-answer w (live_choice r j).resp t j mine) in
    elim (cases_lt j (next_response w t)) [
      | inl less ↦
          let p = response-before w t j (omega arith) less in
          let before : p.0 < t = p.1 in
          let b = answers-below r n p.0 h (omega arith) (omega arith) p.3 in
          let same : b.number ≡ j = b.next ∙ p.4 in
          let earlier = subst (λ k. Responding w (live_choice r k).resp p.0 k) same b.responding in
          absurd (let one = one-response w (live_choice r j).resp p.0 t j earlier mine in omega arith)
      | inr more ↦ record { number = j; responding = mine; next = omega arith }
    ]

whole-answers : (r : Run) (i t : ℕ) → Throughout drives_responses r → response_clock_of r.trace i ≡ Some t
    → may_answer r.trace t i ≡ true
unfolding response_clock_of next_response
whole-answers r i t h e =
    let w = r.trace in
    let p = nth_where-found (responds_at w) i (length w) t e in
    let b = answers-below r (t + 1) t h (omega arith) p.0 p.1 in
    let same : b.number ≡ i = b.next ∙ p.2 in
    let mine = subst (λ k. Responding w (live_choice r k).resp t k) same b.responding in
    may_answer-from w t i (responding-answer w (live_choice r i).resp t i mine)

pub orderly-throughout : (r : Run) → Throughout starts_requests r → Throughout drives_responses r → Orderly r.trace
orderly-throughout r starts responds = record {
  spaced = record { apart = λ p q l t u. whole-apart r p q starts l t u };
  timely = λ i t e. whole-answers r i t responds e;
}
