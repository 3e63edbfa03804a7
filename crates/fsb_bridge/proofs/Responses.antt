-- In a trace that breaks no rule, responses come behind snoop ends.
use Rattle.std.proofs.Common.{ℕ, ◌≡◌, ◌<◌, ◌≤◌, ◌+◌, Bool, true, false, ◌&&◌, not, nat_le, Some, None, length, take}
use Rattle.std.proofs.Common.{drop, refl, sym, ap, ◌∙◌, arith}
use Rattle.std.proofs.lemmas.Bool.{and_parts, leb-true, lt-ltb}
use Rattle.std.specs.List.{slice_get}
use Rattle.std.proofs.lemmas.List.{length-take-le, take-append-drop}
use Rattle.fsb_count.specs.Clocks.{count_where}
use Rattle.fsb_count.proofs.Interface.{count_where-same, nth_where-found}
use Rattle.fsb_signal.specs.declared.marks.Marks.{Marks}
use Rattle.fsb_signal.proofs.Interface.{slice_get-before}
use Rattle.fsb_trace.specs.At.{Trace, responds_at}
use Rattle.fsb_trace.specs.Agree.{AgreeTo}
use Rattle.fsb_trace.specs.Snoop.{snoop_end_of}
use Rattle.fsb_trace.specs.Outcome.{response_clock_of}
use Rattle.fsb_trace.specs.Response.{is_clear_before}
use Rattle.fsb_trace.specs.Rules.{breaks, is_response_early, may_answer, next_response}
use Rattle.fsb_trace.specs.Verdict.{is_broken, verdict}
use Rattle.fsb_trace.proofs.Interface.{AgreeTo-sym, breaks-13, responds_at-agree, snoop_end_of-stays, verdict-none}
use Rattle.fsb_bridge.specs.DeferralList.{RespondsInOrder}
use Rattle.fsb_bridge.proofs.Waits.{is_some_and-parts}

cut : (w : Trace) (n : ℕ) → n ≤ length w → AgreeTo n w (take n w)
cut w n l =
    let all : length (take n w) ≡ n = length-take-le n w l in
    record {
      left = l;
      right = omega arith;
      same = λ c k. ap (λ v. slice_get v c) (sym (take-append-drop n w))
          ∙ slice_get-before (take n w) (drop n w) c (omega arith);
    }

not_early : (a b : Bool) → a ≡ true → (a && not b) ≡ false → b ≡ true
not_early true true e f = refl
not_early true false e f = absurd (let no : ⊥ = cc in no)
not_early false b e f = absurd (let no : ⊥ = cc in no)

not_broken : (a b : Bool) → a ≡ true → (a && b) ≡ false → b ≡ false
not_broken true b e f = f
not_broken false b e f = absurd (let no : ⊥ = cc in no)

-- the response at r is one that may be given there, by the samples up to it
may : (m : Marks) (w : Trace) (r : ℕ) → verdict m w ≡ None → r < length w → responds_at w r ≡ true
    → may_answer (take (r + 1) w) r (next_response (take (r + 1) w) r) ≡ true
unfolding is_response_early is_broken
may m w r e l t =
    let v : Trace = take (r + 1) w in
    let agree : AgreeTo (r + 1) w v = cut w (r + 1) (omega arith) in
    let unbroken : breaks m v r 13 ≡ false =
    not_broken _ _ (lt-ltb r (length w) l) (verdict-none m w e r 13 (omega arith)) in
    let early : is_response_early v r ≡ false = sym (breaks-13 m v r) ∙ unbroken in
    not_early (responds_at v r) (may_answer v r (next_response v r))
    (sym (responds_at-agree (r + 1) w v r agree (omega arith)) ∙ t) early

ended_before : (v : Trace) (r i : ℕ) → may_answer v r i ≡ true → (s : ℕ) × (snoop_end_of v i ≡ Some s) × (s + 2 ≤ r)
unfolding may_answer
ended_before v r i t =
    let h = is_some_and-parts (snoop_end_of v i) (λ s. nat_le (s + 2) r) (and_parts _ (is_clear_before v i r) t).0 in
    (h.0, h.1, leb-true (h.0 + 2) r h.2)

next_is : (w : Trace) (r i : ℕ) → r < length w → count_where (responds_at w) r ≡ i
    → next_response (take (r + 1) w) r ≡ i
unfolding next_response
next_is w r i l e =
    let v : Trace = take (r + 1) w in
    let agree : AgreeTo (r + 1) w v = cut w (r + 1) (omega arith) in
    sym (count_where-same (responds_at w) (responds_at v) r
    (record { same = λ c k. responds_at-agree (r + 1) w v c agree (omega arith) })) ∙ e

pub responds-after : (m : Marks) (w : Trace) (i s r : ℕ) → verdict m w ≡ None → snoop_end_of w i ≡ Some s
    → response_clock_of w i ≡ Some r → s ≤ r
unfolding response_clock_of
responds-after m w i s r e f g =
    let h = nth_where-found (responds_at w) i (length w) r g in
    let v : Trace = take (r + 1) w in
    let agree : AgreeTo (r + 1) w v = cut w (r + 1) (let l : r < length w = h.0 in omega arith) in
    let k = ended_before v r i (rw (next_is w r i h.0 h.2) at (may m w r e h.0 h.1)) in
    let low : k.0 + 2 ≤ r = k.2 in
    let there : snoop_end_of w i ≡ Some k.0 =
    snoop_end_of-stays (r + 1) v w i k.0 (AgreeTo-sym (r + 1) w v agree) (omega arith) k.1 in
    let same : s ≡ k.0 = let a = sym f ∙ there in cc in
    omega arith

pub RespondsInOrder-accepted : (m : Marks) (w : Trace) (c : ℕ) → verdict m w ≡ None → RespondsInOrder w c
RespondsInOrder-accepted m w c e = record { after = λ i s r f g l. responds-after m w i s r e f g }
