-- An orderly trace goes on orderly where its next sample keeps the distance and responds in time.
use Rattle.std.proofs.Common.{ℕ, zero, suc, ◌+◌, ◌-◌, ◌<◌, ◌≤◌, ◌≡◌, true, false, Some, [], length, refl, sym, ◌∙◌}
use Rattle.std.proofs.Common.{arith, inl, inr, subst, add-one}
use Rattle.std.proofs.lemmas.Bool.{cases_Bool, cases_lt, cases_eq, lt-ltb, le-leb, both_ways}
use Rattle.fsb_count.specs.Options.{is_some_and, is_before}
use Rattle.fsb_signal.specs.declared.lines.TheConstants.Lines.{ADS}
use Rattle.fsb_signal.specs.declared.sample.Sample.{Sample}
use Rattle.fsb_signal.specs.Samples.{has_line, line_at}
use Rattle.fsb_signal.proofs.Interface.{line_at-past}
use Rattle.fsb_trace.specs.At.{Trace, line_back}
use Rattle.fsb_trace.specs.Snoop.{snoop_end_of}
use Rattle.fsb_trace.specs.Outcome.{response_clock_of}
use Rattle.fsb_trace.specs.Response.{is_clear_before}
use Rattle.fsb_trace.specs.Rules.{may_answer}
use Rattle.fsb_trace.specs.Agree.{AgreeTo}
use Rattle.fsb_trace.proofs.Interface.{AgreeTo-sym, response_clock_of-stays, snoop_end_of-stays, snoop_end_of-before}
use Rattle.fsb_trace.proofs.Interface.{end_of-stays}
use Rattle.fsb_laws.specs.OneMore.{OneMore, responds}
use Rattle.fsb_laws.specs.Orderly.{Spaced, Orderly}
use Rattle.fsb_laws.specs.Progress.{SnoopsTo, response_count, may_answer_next}
use Rattle.fsb_laws.proofs.OneMoreFacts.{line_at-old, line_at-new}
use Rattle.fsb_laws.proofs.ResponseSteps.{has_answer, may_answer-from, response_there, response_counted}
use Rattle.fsb_laws.proofs.ResponseSteps.{response_count-more, response_clock_of-old, response_clock_of-new}
use Rattle.fsb_laws.proofs.ResponseSteps.{response_count-empty}
use Rattle.fsb_laws.proofs.EndFacts.{clear_parts}
use Rattle.fsb_laws.proofs.AnswerSteps.{may_answer-new}

-- a trace without clocks
pub spaced-empty : Spaced []
spaced-empty = record { apart = λ p q l t u. absurd (both_ways _ (line_at-past ADS [] p (omega arith)) t) }

pub orderly-empty : Orderly []
orderly-empty = record {
  spaced = spaced-empty;
  timely = λ i r e. absurd (let l = response_counted [] i r e in
      let none : response_count [] ≡ 0 = response_count-empty in omega arith);
}

not_back : (w : Trace) (n d p : ℕ) → d ≤ n → p ≡ n - d → line_back ADS w n d ≡ false → line_at ADS w p ≡ true → ⊥
unfolding line_back
not_back w n d p l e f t = both_ways _ (let g = rw (le-leb d n l) at f in
    subst (λ m. line_at ADS w m ≡ false) (sym e) g) t

far_enough : (h : Trace) (p : ℕ) → p < length h → line_at ADS h p ≡ true → line_back ADS h (length h) 1 ≡ false
    → line_back ADS h (length h) 2 ≡ false → p + 3 ≤ length h
far_enough h p l t f g =
    elim (cases_eq (p + 1) (length h)) [
      | inl one ↦ absurd (not_back h (length h) 1 p (omega arith) (omega arith) f t)
      | inr more ↦
          elim (cases_eq (p + 2) (length h)) [
            | inl two ↦ absurd (not_back h (length h) 2 p (omega arith) (omega arith) g t)
            | inr three ↦ omega (arith, more, three)
          ]
    ]

-- ADS# is asserted at clocks of the trace alone
pub ads_before_end : (w : Trace) (q : ℕ) → line_at ADS w q ≡ true → q < length w
ads_before_end w q t =
    elim (cases_lt q (length w)) [
      | inl l ↦ l
      | inr past ↦ absurd (both_ways _ (line_at-past ADS w q past) t)
    ]

-- a request that comes at the new clock keeps its distance
pub spaced-more : (h : Trace) (x : Sample) (v : Trace) → OneMore h x v → Spaced h
    → (has_line x ADS ≡ true → (line_back ADS h (length h) 1 ≡ false) × (line_back ADS h (length h) 2 ≡ false))
    → Spaced v
spaced-more h x v m s far =
    record {
      apart = λ p q l t u.
          let within : q < length v = ads_before_end v q u in
          let size : length v ≡ length h + 1 = m.size in
          let old_p : line_at ADS h p ≡ true = sym (line_at-old ADS h x v p m (omega arith)) ∙ t in
          elim (cases_lt q (length h)) [
            | inl old ↦ s.apart p q l old_p (sym (line_at-old ADS h x v q m old) ∙ u)
            | inr new ↦
                let here : q ≡ length h = omega arith in
                let asks : has_line x ADS ≡ true = sym (line_at-new ADS h x v m)
                ∙ subst (λ k. line_at ADS v k ≡ true) here u in
                let f = far asks in
                let apart = far_enough h p (omega arith) old_p f.0 f.1 in
                omega arith
          ];
    }

-- what may be answered at a clock may be answered in every trace that agrees up to it
clear-stays : (n : ℕ) (w v : Trace) (i s c : ℕ) → AgreeTo n w v → s + 2 ≤ c → c ≤ n → snoop_end_of w i ≡ Some s
    → is_clear_before w i c ≡ true → is_clear_before v i c ≡ true
unfolding is_clear_before is_before is_some_and
clear-stays n w v zero s c a l k e t = refl
clear-stays n w v (suc i) s c a l k e t =
    let p = clear_parts w i c t in
    let b = snoop_end_of-before w i s (rw add-one e) in
    rw (end_of-stays n w v i b.0 p.0 a (omega (arith, b.2)) b.1 (omega (arith, p.2)) p.1) (lt-ltb p.0 c p.2)

pub may_answer-stays : (n : ℕ) (w v : Trace) (c i : ℕ) → AgreeTo n w v → c ≤ n → may_answer w c i ≡ true
    → may_answer v c i ≡ true
may_answer-stays n w v c i a l t =
    let p = has_answer w c i t in
    may_answer-from v c i (record {
      snoop = p.snoop;
      is_snoop = snoop_end_of-stays n w v i p.snoop a (omega (arith, p.before)) p.is_snoop;
      before = p.before;
      clear = clear-stays n w v i p.snoop c a p.before l p.is_snoop p.clear;
    })

-- a response of the new trace that is no old one is the sample
pub response_now : (h : Trace) (x : Sample) (v : Trace) (i r : ℕ) → OneMore h x v
    → response_clock_of v i ≡ Some r → length h ≤ r → (i ≡ response_count h) × (r ≡ length h) × (responds x ≡ true)
response_now h x v i r m e l =
    let counted = response_counted v i r e in
    let more = response_count-more h x v m in
    elim (cases_lt i (response_count h)) [
      | inl old ↦
          let p = response_there h i old in
          let a : response_clock_of v i ≡ Some p.0 = response_clock_of-old h x v i m old ∙ p.1 in
          absurd (let same : r ≡ p.0 = cc in omega (arith, p.2))
      | inr new ↦
          elim (cases_Bool (responds x)) [
            | inl t ↦
                let here : i ≡ response_count h =
                (let one : response_count v ≡ response_count h + 1 = rw t at more in omega arith) in
                let b : response_clock_of v i ≡ Some (length h) =
                subst (λ k. response_clock_of v k ≡ Some (length h)) (sym here) (response_clock_of-new h x v m t) in
                (here, cc, t)
            | inr f ↦ absurd (let none : response_count v ≡ response_count h + 0 = rw f at more in omega arith)
          ]
    ]

-- the new trace is orderly where its requests keep their distance and the sample, if it is a response, may come
pub orderly-more : (h : Trace) (x : Sample) (v : Trace) (s : ℕ) → OneMore h x v → Orderly h → SnoopsTo h s
    → Spaced v → (responds x ≡ true → may_answer_next h ≡ true) → Orderly v
orderly-more h x v s m o to sp may =
    record {
      spaced = sp;
      timely = λ i r e.
          elim (cases_lt r (length h)) [
            | inl old ↦
                let before = response_clock_of-stays (length h) v h i r (AgreeTo-sym (length h) h v m.agree) old e in
                may_answer-stays (length h) h v r i m.agree (omega arith) (o.timely i r before)
            | inr new ↦
                let p = response_now h x v i r m e new in
                let here : may_answer v (length h) (response_count h) ≡ true = may_answer-new h x v s m o to
                ∙ may p.2 in
                subst (λ k. may_answer v k i ≡ true) (sym p.1)
                (subst (λ k. may_answer v (length h) k ≡ true) (sym p.0) here)
          ];
    }
