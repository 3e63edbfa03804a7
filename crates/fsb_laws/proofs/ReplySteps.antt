-- Replies to deferred requests, one sample on.
use Rattle.std.proofs.Common.{ℕ, ◌+◌, ◌-◌, ◌<◌, ◌≤◌, ◌≡◌, true, false, cond, not, ◌&&◌, Option, Some, None, length}
use Rattle.std.proofs.Common.{refl, sym, ◌∙◌, arith, inl, inr, subst}
use Rattle.std.specs.Option.{option_and_then}
use Rattle.std.proofs.lemmas.Bool.{cases_Bool, cases_lt, cases_eq, cases_order, eqb-true, and_parts, and_left}
use Rattle.std.proofs.lemmas.Bool.{both_ways, le-ltb, false_from_ne_true}
use Rattle.std.proofs.lemmas.Option.{slice_get_past}
use Rattle.fsb_count.specs.Options.{is_some_and, is_before}
use Rattle.fsb_count.proofs.Interface.{first_where-at, first_where-off, first_where-found, first_where-none}
use Rattle.fsb_signal.specs.declared.lines.TheConstants.Lines.{ADS}
use Rattle.fsb_signal.specs.declared.sample.Sample.{Sample}
use Rattle.fsb_signal.specs.Samples.{line_at}
use Rattle.fsb_encode.specs.declared.request.Request.{Request}
use Rattle.fsb_encode.specs.declared.request.Pair.{Pair}
use Rattle.fsb_encode.specs.Decoded.{request_of}
use Rattle.fsb_trace.specs.At.{Trace, known_pair_at, request_at}
use Rattle.fsb_trace.specs.Requests.{is_live, live_request_of, is_reply}
use Rattle.fsb_trace.specs.Outcome.{response_clock_of}
use Rattle.fsb_trace.specs.Flight.{is_reply_to, is_live_reply_to, reply_clock_of}
use Rattle.fsb_trace.proofs.Interface.{request_at-agree, live_request_of-stays}
use Rattle.fsb_laws.specs.OneMore.{OneMore, cancels}
use Rattle.fsb_laws.specs.Orderly.{Orderly}
use Rattle.fsb_laws.specs.Progress.{response_count}
use Rattle.fsb_laws.proofs.OneMoreFacts.{line_at-old}
use Rattle.fsb_laws.proofs.LiveSteps.{is_live-ads, is_live-more}
use Rattle.fsb_laws.proofs.ResponseSteps.{has_answer, response_there, response_clock_of-old}

-- the last clock of a trace holds no request yet
no_pair : (w : Trace) (c : ℕ) → length w ≤ c → known_pair_at w c ≡ None
unfolding known_pair_at
no_pair w c l = rw (slice_get_past w c l) refl

without_second : (o : Option Pair)
    → option_and_then (λ a. option_and_then {U = Request} (λ b. request_of a b) None) o ≡ None
without_second None = refl
without_second (Some a) = refl

pub request_at-last : (w : Trace) (q : ℕ) → length w ≤ q + 1 → request_at w q ≡ None
unfolding request_at
request_at-last w q l = rw (no_pair w (q + 1) l) (without_second (known_pair_at w q))

pub request_at-old : (h : Trace) (x : Sample) (v : Trace) (q : ℕ) → OneMore h x v → q + 1 < length h
    → request_at v q ≡ request_at h q
request_at-old h x v q m l = sym (request_at-agree (length h) h v q m.agree l)

-- what a request that responded is stays
pub live_request_of-old : (h : Trace) (x : Sample) (v : Trace) (i : ℕ) → OneMore h x v → Orderly h
    → i < response_count h → live_request_of v i ≡ live_request_of h i
live_request_of-old h x v i m o l =
    let p = response_there h i l in
    let a = has_answer h p.0 i (o.timely i p.0 p.1) in
    sym (live_request_of-stays (length h) h v i a.snoop m.agree (omega (arith, a.before, p.2)) a.is_snoop)

-- a clock is that of a live reply as before, unless the sample cancels it
no_reply : (w : Trace) (i q : ℕ) → request_at w q ≡ None → is_live_reply_to w i q ≡ false
unfolding is_live_reply_to is_reply_to is_reply is_some_and
no_reply w i q e = rw e (grind arith)

pub reply_late : (w : Trace) (i q : ℕ) → length w ≤ q + 1 → is_live_reply_to w i q ≡ false
reply_late w i q l = no_reply w i q (request_at-last w q l)

no_ads : (w : Trace) (i q : ℕ) → line_at ADS w q ≡ false → is_live_reply_to w i q ≡ false
unfolding is_live_reply_to is_live
no_ads w i q f = rw f refl

pub is_reply_to-old : (h : Trace) (x : Sample) (v : Trace) (i q : ℕ) → OneMore h x v → Orderly h
    → i < response_count h → q + 1 < length h → is_reply_to v i q ≡ is_reply_to h i q
unfolding is_reply_to
is_reply_to-old h x v i q m o l k =
    rw (
      line_at-old ADS h x v q m (omega arith),
      request_at-old h x v q m k,
      live_request_of-old h x v i m o l,
      response_clock_of-old h x v i m l,
    ) refl

pub is_live_reply_to-old : (h : Trace) (x : Sample) (v : Trace) (i q : ℕ) → OneMore h x v → Orderly h
    → i < response_count h → q + 1 < length h
    → is_live_reply_to v i q ≡ (is_live_reply_to h i q && not (cancels x (length h) q))
unfolding is_live_reply_to
is_live_reply_to-old h x v i q m o l k =
    rw (is_live-more h x v q m (omega arith), is_reply_to-old h x v i q m o l k) (grind arith)

-- the reply of a request that responded: the sample may cancel it, or may be the second clock of the first one
not_before_it : (h : Trace) (x : Sample) (v : Trace) (i c : ℕ) → OneMore h x v → Orderly h
    → i < response_count h → c + 1 < length h → is_live_reply_to h i c ≡ false → is_live_reply_to v i c ≡ false
not_before_it h x v i c m o l k f = is_live_reply_to-old h x v i c m o l k ∙ and_left _ _ f

within : (h : Trace) (i q : ℕ) → is_live_reply_to h i q ≡ true → q < length h → q + 1 < length h
within h i q t l =
    elim (cases_lt (q + 1) (length h)) [
      | inl k ↦ k
      | inr k ↦ absurd (both_ways _ (reply_late h i q k) t)
    ]

reply_stays : (h : Trace) (x : Sample) (v : Trace) (i q : ℕ) → OneMore h x v → Orderly h → i < response_count h
    → reply_clock_of h i ≡ Some q → cancels x (length h) q ≡ false → reply_clock_of v i ≡ Some q
unfolding reply_clock_of
reply_stays h x v i q m o l e f =
    let p = first_where-found (is_live_reply_to h i) (length h) q e in
    let k : q + 1 < length h = within h i q p.1 p.0 in
    let size : length v ≡ length h + 1 = m.size in
    first_where-at (is_live_reply_to v i) (length v) q (omega arith)
    (is_live_reply_to-old h x v i q m o l k ∙ (rw (p.1, f) refl))
    (λ c less. not_before_it h x v i c m o l (omega arith) (p.2 c less))

far_behind : (h : Trace) (x : Sample) (v : Trace) (i q c : ℕ) → OneMore h x v → Orderly h
    → line_at ADS h q ≡ true → q + 3 ≡ length h → q < c → c < length v → is_live_reply_to v i c ≡ false
far_behind h x v i q c m o t e l k =
    let size : length v ≡ length h + 1 = m.size in
    elim (cases_lt c (length h)) [
      | inl old ↦
          no_ads v i c
          (false_from_ne_true _ (λ u. let far = o.spaced.apart q c l t (sym (line_at-old ADS h x v c m old)
          ∙ u) in omega arith))
      | inr new ↦ reply_late v i c (omega arith)
    ]

live_part : (w : Trace) (i q : ℕ) → is_live_reply_to w i q ≡ true → is_live w q ≡ true
unfolding is_live_reply_to
live_part w i q t = (and_parts _ _ t).0

-- a request that the sample cancels began three clocks before
pub cancelled_clock : (x : Sample) (n q : ℕ) → cancels x n q ≡ true → q + 3 ≡ n
unfolding cancels
cancelled_clock x n q t = eqb-true (q + 3) n (and_parts _ _ t).1

reply_goes : (h : Trace) (x : Sample) (v : Trace) (i q : ℕ) → OneMore h x v → Orderly h → i < response_count h
    → reply_clock_of h i ≡ Some q → cancels x (length h) q ≡ true → reply_clock_of v i ≡ None
unfolding reply_clock_of
reply_goes h x v i q m o l e t =
    let p = first_where-found (is_live_reply_to h i) (length h) q e in
    let here : q + 3 ≡ length h = cancelled_clock x (length h) q t in
    let asks : line_at ADS h q ≡ true = is_live-ads h q (live_part h i q p.1) in
    first_where-off (is_live_reply_to v i) (length v) (λ c less.
    elim (cases_order c q) [
      | inl same ↦ subst (λ d. is_live_reply_to v i d ≡ false) (sym same)
          (is_live_reply_to-old h x v i q m o l (omega arith) ∙ (rw (p.1, t) refl))
      | inr other ↦ elim other [
        | inl before ↦ not_before_it h x v i c m o l (omega arith) (p.2 c before)
        | inr behind ↦ far_behind h x v i q c m o asks here behind less
      ]
    ])

reply_comes : (h : Trace) (x : Sample) (v : Trace) (i : ℕ) → OneMore h x v → Orderly h → i < response_count h
    → reply_clock_of h i ≡ None → 0 < length h → is_live_reply_to v i (length h - 1) ≡ true
    → reply_clock_of v i ≡ Some (length h - 1)
unfolding reply_clock_of
reply_comes h x v i m o l e some t =
    let none = first_where-none (is_live_reply_to h i) (length h) e in
    let size : length v ≡ length h + 1 = m.size in
    first_where-at (is_live_reply_to v i) (length v) (length h - 1) (omega arith) t
    (λ c less. not_before_it h x v i c m o l (omega arith) (none c (omega arith)))

reply_waits : (h : Trace) (x : Sample) (v : Trace) (i : ℕ) → OneMore h x v → Orderly h → i < response_count h
    → reply_clock_of h i ≡ None → is_live_reply_to v i (length h - 1) ≡ false → reply_clock_of v i ≡ None
unfolding reply_clock_of
reply_waits h x v i m o l e f =
    let none = first_where-none (is_live_reply_to h i) (length h) e in
    let size : length v ≡ length h + 1 = m.size in
    first_where-off (is_live_reply_to v i) (length v) (λ c less.
    elim (cases_lt (c + 1) (length h)) [
      | inl old ↦ not_before_it h x v i c m o l old (none c (omega arith))
      | inr late ↦
          elim (cases_eq (c + 1) (length h)) [
            | inl last ↦
                subst (λ d. is_live_reply_to v i d ≡ false) (let same : length h - 1 ≡ c = omega arith in same) f
            | inr past ↦ reply_late v i c (omega (arith, late, past))
          ]
    ])

reply_cases : (h : Trace) (x : Sample) (v : Trace) (i : ℕ) (old : Option ℕ) → OneMore h x v → Orderly h
    → i < response_count h → 0 < length h → reply_clock_of h i ≡ old
    → reply_clock_of v i ≡ elim old [
      | Some q ↦ cond (cancels x (length h) q) None (Some q)
      | None ↦ cond (is_live_reply_to v i (length h - 1)) (Some (length h - 1)) None
    ]
reply_cases h x v i (Some q) m o l some e =
    elim (cases_Bool (cancels x (length h) q)) [
      | inl t ↦ reply_goes h x v i q m o l e t ∙ sym (rw t refl)
      | inr f ↦ reply_stays h x v i q m o l e f ∙ sym (rw f refl)
    ]
reply_cases h x v i None m o l some e =
    elim (cases_Bool (is_live_reply_to v i (length h - 1))) [
      | inl t ↦ reply_comes h x v i m o l e some t ∙ sym (rw t refl)
      | inr f ↦ reply_waits h x v i m o l e f ∙ sym (rw f refl)
    ]

pub reply_clock_of-more : (h : Trace) (x : Sample) (v : Trace) (i : ℕ) → OneMore h x v → Orderly h
    → i < response_count h → 0 < length h
    → reply_clock_of v i ≡ elim (reply_clock_of h i) [
      | Some q ↦ cond (cancels x (length h) q) None (Some q)
      | None ↦ cond (is_live_reply_to v i (length h - 1)) (Some (length h - 1)) None
    ]
reply_clock_of-more h x v i m o l some = reply_cases h x v i (reply_clock_of h i) m o l some refl

-- a request whose response is the new clock has no reply yet
too_early : (w : Trace) (i n c : ℕ) → response_clock_of w i ≡ Some n → c ≤ n → is_live_reply_to w i c ≡ false
unfolding is_live_reply_to is_reply_to is_before is_some_and
too_early w i n c e l = rw (e, le-ltb n c l) (grind arith)

pub reply_clock_of-fresh : (h : Trace) (x : Sample) (v : Trace) (i : ℕ) → OneMore h x v
    → response_clock_of v i ≡ Some (length h) → reply_clock_of v i ≡ None
unfolding reply_clock_of
reply_clock_of-fresh h x v i m e =
    let size : length v ≡ length h + 1 = m.size in
    first_where-off (is_live_reply_to v i) (length v) (λ c less. too_early v i (length h) c e (omega arith))
