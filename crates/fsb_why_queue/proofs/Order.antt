-- Traces that break no rule keep the distance of requests and the time of responses.
use Rattle.std.proofs.Common.{ℕ, zero, suc, ◌+◌, ◌-◌, ◌<◌, ◌≤◌, ◌≡◌, Bool, true, false, ◌&&◌, ◌||◌, not, None}
use Rattle.std.proofs.Common.{[], ◌∷◌, ◌++◌, length, take, refl, sym, ap, subst, ◌∙◌, arith, inl, inr, nat_le, nat_lt}
use Rattle.std.proofs.lemmas.Bool.{cases_lt, lt-leb, lt-ltb, or_parts}
use Rattle.std.proofs.lemmas.List.{length-take-le}
use Rattle.std.proofs.Math.Seq.{take-length, take-suc}
use Rattle.fsb_signal.specs.declared.lines.TheConstants.Lines.{ADS}
use Rattle.fsb_signal.specs.declared.marks.Marks.{Marks}
use Rattle.fsb_signal.specs.declared.sample.Sample.{Sample}
use Rattle.fsb_signal.specs.Samples.{has_line}
use Rattle.fsb_trace.specs.At.{Trace, line_back}
use Rattle.fsb_trace.specs.Rules.{breaks, is_request_too_soon, is_response_early, phase_rules}
use Rattle.fsb_trace.specs.Verdict.{is_broken, verdict}
use Rattle.fsb_trace.proofs.Interface.{verdict-none}
use Rattle.fsb_laws.specs.OneMore.{OneMore, responds}
use Rattle.fsb_laws.specs.Orderly.{Orderly}
use Rattle.fsb_laws.specs.Progress.{may_answer_next}
use Rattle.fsb_laws.proofs.Interface.{line_at-new, line_at-old, may_answer-new, next_response-new, one_more, orderly-empty}
use Rattle.fsb_laws.proofs.Interface.{orderly-more, responds_at-new, spaced-more}
use Rattle.fsb_heads.specs.Heads.{snooped_count}
use Rattle.fsb_heads.proofs.Interface.{snoops_to}

module _ (h : Trace) (x : Sample) where
  abbrev v : Trace
  v = h ++ x ∷ []

  m : OneMore h x (h ++ x ∷ [])
  m = one_more h x

  back_new : (d : ℕ) → 1 ≤ d → line_back ADS v (length h) d ≡ line_back ADS h (length h) d
  unfolding line_back
  back_new d l =
      elim (cases_lt (length h) d) [
        | inl low ↦ rw (lt-leb d (length h) low) refl
        | inr high ↦
            ap (λ b. nat_le d (length h) && b)
            (line_at-old ADS h x v (length h - d) m (omega (arith, l, high)))
      ]

  far : is_request_too_soon v (length h) ≡ false → has_line x ADS ≡ true
      → (line_back ADS h (length h) 1 ≡ false) × (line_back ADS h (length h) 2 ≡ false)
  unfolding is_request_too_soon
  far f t =
      let g : (nat_lt (length h) 2 || line_back ADS v (length h) 1 || line_back ADS v (length h) 2) ≡ false =
      rw (line_at-new ADS h x v m ∙ t) at f in
      let two = or_parts _ _ g in
      let one = or_parts _ _ two.0 in
      (sym (back_new 1 (omega arith)) ∙ one.1, sym (back_new 2 (omega arith)) ∙ two.1)

  timely_cases : (b a : Bool) → (b && not a) ≡ false → b ≡ true → a ≡ true
  timely_cases true true e t = refl
  timely_cases true false e t = absurd (let no : ⊥ = cc in no)
  timely_cases false a e t = absurd (let no : ⊥ = cc in no)

  in_time : Orderly h → is_response_early v (length h) ≡ false → responds x ≡ true → may_answer_next h ≡ true
  unfolding is_response_early
  in_time o f =
      let g : (responds x && not (may_answer_next h)) ≡ false =
      rw (
        responds_at-new h x v m,
        next_response-new h x v m,
        may_answer-new h x v (snooped_count h) m o (snoops_to h),
      ) at f in
      timely_cases (responds x) (may_answer_next h) g

  stays : Orderly h → is_request_too_soon v (length h) ≡ false → is_response_early v (length h) ≡ false → Orderly v
  stays o soon early =
      orderly-more h x v (snooped_count h) m o (snoops_to h) (spaced-more h x v m o.spaced (far soon)) (in_time o early)

pub order_kept : (m : Marks) (h : Trace) (x : Sample) → Orderly h → breaks m (h ++ x ∷ []) (length h) 2 ≡ false
    → breaks m (h ++ x ∷ []) (length h) 13 ≡ false → Orderly (h ++ x ∷ [])
unfolding breaks phase_rules
order_kept m h x o a b = stays h x o a b

kept_at : (m : Marks) (w : Trace) (c j : ℕ) → verdict m w ≡ None → c < length w → j < 21
    → breaks m (take (c + 1) w) c j ≡ false
unfolding is_broken
kept_at m w c j none l k =
    let f : (nat_lt c (length w) && breaks m (take (c + 1) w) c j) ≡ false = verdict-none m w none c j k in
    rw (lt-ltb c (length w) l) at f

next_sample : (w : Trace) (n : ℕ) → n < length w → (x : Sample) × (take (n + 1) w ≡ take n w ++ x ∷ [])
next_sample [] n l = absurd (omega (arith, l))
next_sample (s ∷ w) n l =
    (_, ap (λ k. take k (s ∷ w)) (let one : n + 1 ≡ suc n = omega arith in one) ∙ take-suc (s ∷ w) n s l)

order_to : (m : Marks) (w : Trace) → verdict m w ≡ None → (n : ℕ) → n ≤ length w → Orderly (take n w)
order_to m w none zero l = orderly-empty
order_to m w none (suc n) l =
    let below : n < length w = omega (arith, l) in
    let k = next_sample w n below in
    let size : length (take n w) ≡ n = length-take-le n w (omega (arith, l)) in
    let one : n + 1 ≡ suc n = omega arith in
    let cut : take (suc n) w ≡ take n w ++ k.0 ∷ [] = ap (λ i. take i w) (sym one) ∙ k.1 in
    let kept : (j : ℕ) → j < 21 → breaks m (take n w ++ k.0 ∷ []) (length (take n w)) j ≡ false =
    λ j low. ap (λ u. breaks m u (length (take n w)) j) (sym k.1)
    ∙ ap (λ c. breaks m (take (n + 1) w) c j) size ∙ kept_at m w n j none below low in
    subst Orderly (sym cut)
    (order_kept m (take n w) k.0 (order_to m w none n (omega (arith, l))) (kept 2 (omega arith)) (kept 13 (omega arith)))

pub unbroken_order : (m : Marks) (w : Trace) → verdict m w ≡ None → Orderly w
unbroken_order m w none = subst Orderly (take-length w) (order_to m w none (length w) (omega arith))
