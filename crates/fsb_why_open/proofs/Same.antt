-- What is outstanding where a request begins shows in the samples up to its first clock: the next sample, in
-- which it has its second one, changes nothing.
use Rattle.std.proofs.Common.{ℕ, ◌+◌, ◌<◌, ◌≤◌, ◌≡◌, Bool, true, false, Option, Some, None}
use Rattle.std.proofs.Common.{[], ◌∷◌, ◌++◌, length, refl, sym, ap, ◌∙◌, arith, inl, inr}
use Rattle.std.proofs.lemmas.Bool.{and_parts, and_right, both_ways, cases_lt, false_from_ne_true, le-ltb}
use Rattle.fsb_count.specs.Options.{is_before, is_some_and}
use Rattle.fsb_count.proofs.Interface.{first_where-at, first_where-found, first_where-none, is_before-from, is_before-parts}
use Rattle.fsb_signal.specs.declared.lines.TheConstants.Lines.{ADS}
use Rattle.fsb_signal.specs.declared.sample.Sample.{Sample}
use Rattle.fsb_signal.specs.Samples.{line_at}
use Rattle.fsb_trace.specs.At.{Trace, request_at}
use Rattle.fsb_trace.specs.Flight.{is_dropped, is_finished, is_live_reply_to, is_outstanding, is_reply_to, last_clock_of, reply_clock_of, reply_end_of}
use Rattle.fsb_trace.specs.Requests.{is_live, is_reply, live_number_of}
use Rattle.fsb_trace.specs.Outcome.{is_deferred, response_clock_of}
use Rattle.fsb_trace.specs.Response.{end_of}
use Rattle.fsb_trace.proofs.Interface.{AgreeTo-sym, is_cancelled-agree, is_live-agree, response_clock_of-stays}
use Rattle.fsb_laws.specs.OneMore.{OneMore}
use Rattle.fsb_laws.specs.Orderly.{Orderly}
use Rattle.fsb_laws.specs.Progress.{response_count}
use Rattle.fsb_laws.proofs.Interface.{deferred_response, end_of-kept, end_of-old, end_past, ended_known, is_cancelled-late, is_deferred-old, is_live-ads}
use Rattle.fsb_laws.proofs.Interface.{last_clock_of-deferred, last_clock_of-plain, line_at-old, live_number_of-more, live_request_of-old, one_more}
use Rattle.fsb_laws.proofs.Interface.{reply_end_of-none, request_at-last, request_at-old, response_clock_of-old, response_counted}
use Rattle.fsb_laws.proofs.OutstandingSteps.{reply_end_of-some}

-- a number that is reached below n in one trace exactly where it is in the other is below c in both
same_before : (n c : ℕ) (a b : Option ℕ) → c ≤ n → ((t : ℕ) → a ≡ Some t → t < n → b ≡ Some t)
    → ((t : ℕ) → b ≡ Some t → t < n → a ≡ Some t) → is_before b c ≡ is_before a c
unfolding is_before is_some_and
same_before n c None None l forth back = refl
same_before n c (Some t) None l forth back =
    elim (cases_lt t n) [
      | inl less ↦ absurd (let k = forth t refl less in let no : ⊥ = cc in no)
      | inr more ↦ sym (le-ltb t c (omega (arith, l, more)))
    ]
same_before n c None (Some u) l forth back =
    elim (cases_lt u n) [
      | inl less ↦ absurd (let k = back u refl less in let no : ⊥ = cc in no)
      | inr more ↦ le-ltb u c (omega (arith, l, more))
    ]
same_before n c (Some t) (Some u) l forth back =
    elim (cases_lt u n) [
      | inl less ↦ let k = back u refl less in let same : t ≡ u = cc in rw same refl
      | inr more ↦
          elim (cases_lt t n) [
            | inl less ↦ let k = forth t refl less in let same : t ≡ u = cc in rw same refl
            | inr late ↦ le-ltb u c (omega (arith, l, more)) ∙ sym (le-ltb t c (omega (arith, l, late)))
          ]
    ]

not_live : (w : Trace) (p : ℕ) → line_at ADS w p ≡ false → is_live w p ≡ false
unfolding is_live
not_live w p f = rw f refl

-- a reply that is not decoded is none
no_reply : (w : Trace) (i p : ℕ) → request_at w p ≡ None → is_live_reply_to w i p ≡ false
unfolding is_live_reply_to is_reply_to is_reply is_some_and
no_reply w i p e = rw e (grind arith)

reply_ads : (w : Trace) (i p : ℕ) → is_live_reply_to w i p ≡ true → line_at ADS w p ≡ true
unfolding is_live_reply_to
reply_ads w i p t = is_live-ads w p (and_parts _ _ t).0

reply_behind : (w : Trace) (i p : ℕ) → is_live_reply_to w i p ≡ true → is_before (response_clock_of w i) p ≡ true
unfolding is_live_reply_to is_reply_to
reply_behind w i p t = (and_parts _ _ (and_parts _ _ t).1).1

pub found_reply : (w : Trace) (i r : ℕ) → reply_clock_of w i ≡ Some r
    → (r < length w) × (is_live_reply_to w i r ≡ true) × ((k : ℕ) → k < r → is_live_reply_to w i k ≡ false)
unfolding reply_clock_of
found_reply w i r e = first_where-found (is_live_reply_to w i) (length w) r e

pub no_replies : (w : Trace) (i : ℕ) → reply_clock_of w i ≡ None → (k : ℕ) → k < length w → is_live_reply_to w i k ≡ false
unfolding reply_clock_of
no_replies w i e = first_where-none (is_live_reply_to w i) (length w) e

module _ (h : Trace) (x : Sample) (q : ℕ) (o : Orderly h) (last : length h ≡ q + 1) (asks : line_at ADS h q ≡ true) where
  abbrev v : Trace
  v = h ++ x ∷ []

  m : OneMore h x (h ++ x ∷ [])
  m = one_more h x

  pub far : (p : ℕ) → p < q → line_at ADS h p ≡ true → p + 3 ≤ q
  far p l t = o.spaced.apart p q l t asks

  pub ads_same : (p : ℕ) → p ≤ q → line_at ADS v p ≡ line_at ADS h p
  ads_same p l = line_at-old ADS h x v p m (omega (arith, last, l))

  pub request_same : (p : ℕ) → p < q → request_at v p ≡ request_at h p
  request_same p l = request_at-old h x v p m (omega (arith, last, l))

  live_cases : (p : ℕ) (b : Bool) → p < q → line_at ADS h p ≡ b → is_live v p ≡ is_live h p
  live_cases p true l t =
      let k = far p l t in sym (is_live-agree (length h) h v p m.agree (omega (arith, last, k)))
  live_cases p false l f = not_live v p (ads_same p (omega (arith, l)) ∙ f) ∙ sym (not_live h p f)

  pub live_same : (p : ℕ) → p < q → is_live v p ≡ is_live h p
  live_same p l = live_cases p (line_at ADS h p) l refl

  pub number_same : (p : ℕ) → p ≤ q → line_at ADS h p ≡ true → live_number_of v p ≡ live_number_of h p
  number_same p l t = sym (live_number_of-more h x v p m o.spaced (omega (arith, last, l)) t)

  pub dropped_same : (p : ℕ) → is_dropped v q p ≡ is_dropped h q p
  unfolding is_dropped
  dropped_same p =
      elim (cases_lt (p + 3) q) [
        | inl l ↦ rw (sym (is_cancelled-agree (length h) h v p m.agree (omega (arith, last, l)))) refl
        | inr l ↦ rw (le-ltb (p + 3) q l) (and_right _ _ refl ∙ sym (and_right _ _ refl))
      ]

  pub end_same : (i : ℕ) → is_before (end_of v i) q ≡ is_before (end_of h i) q
  end_same i =
      same_before (length h) q (end_of h i) (end_of v i) (omega (arith, last))
      (λ t e l. end_of-kept h x v i t m o e l) (λ t e l. end_of-old h x v i t m o e l)

  -- the request that begins at q has no end before
  own_live : is_live h q ≡ true
  unfolding is_live
  own_live = rw (asks, is_cancelled-late h q (omega (arith, last))) refl

  own_end : is_before (end_of v (live_number_of v q)) q ≡ false
  own_end =
      rw (number_same q (omega arith) asks) (end_same (live_number_of h q)
      ∙ false_from_ne_true _ (λ t.
      let p = is_before-parts (end_of h (live_number_of h q)) q t in
      both_ways _
      (ended_known h q (end_of h (live_number_of h q)) o (omega (arith, last)) own_live (omega (arith, last)) refl)
      (is_before-from (end_of h (live_number_of h q)) p.0 (length h) p.1 (omega (arith, last, p.2)))))

  -- replies to requests that responded
  pub reply_to_same : (i p : ℕ) → i < response_count h → p < q → is_reply_to v i p ≡ is_reply_to h i p
  unfolding is_reply_to
  reply_to_same i p k l =
      rw (
        ads_same p (omega (arith, l)),
        request_same p l,
        live_request_of-old h x v i m o k,
        response_clock_of-old h x v i m k,
      ) refl

  live_reply_same : (i p : ℕ) → i < response_count h → p < q → is_live_reply_to v i p ≡ is_live_reply_to h i p
  unfolding is_live_reply_to
  live_reply_same i p k l = rw (live_same p l, reply_to_same i p k l) refl

  pub reply_below : (i r : ℕ) → reply_clock_of h i ≡ Some r → r < q
  reply_below i r e =
      let f = found_reply h i r e in
      elim (cases_lt r q) [
        | inl l ↦ l
        | inr l ↦ absurd (both_ways _ (no_reply h i r (request_at-last h r (omega (arith, last, l)))) f.1)
      ]

  reply_end_some : (i r : ℕ) → i < response_count h → reply_clock_of h i ≡ Some r
      → is_before (reply_end_of v i) q ≡ is_before (reply_end_of h i) q
  unfolding reply_clock_of
  reply_end_some i r k e =
      let f = found_reply h i r e in
      let l = reply_below i r e in
      let there : reply_clock_of v i ≡ Some r =
      first_where-at (is_live_reply_to v i) (length v) r (omega (arith, last, l, m.size))
      (live_reply_same i r k l ∙ f.1) (λ c less. live_reply_same i c k (omega (arith, l, less)) ∙ f.2 c less) in
      ap (λ c. is_before c q) (reply_end_of-some v i r there)
      ∙ ap (λ j. is_before (end_of v j) q) (number_same r (omega (arith, l)) (reply_ads h i r f.1))
      ∙ end_same (live_number_of h r) ∙ sym (ap (λ c. is_before c q) (reply_end_of-some h i r e))

  never : (w : Trace) (i : ℕ) → reply_clock_of w i ≡ None → is_before (reply_end_of w i) q ≡ false
  unfolding is_before is_some_and
  never w i e = rw (reply_end_of-none w i e) refl

  -- of which the first one may begin at q
  reply_end_late : (i : ℕ) (c : Option ℕ) → i < response_count h → reply_clock_of h i ≡ None → reply_clock_of v i ≡ c
      → is_before (reply_end_of v i) q ≡ false
  reply_end_late i None k e f = never v i f
  reply_end_late i (Some r) k e f =
      let there = found_reply v i r f in
      elim (cases_lt r q) [
        | inl l ↦ absurd (both_ways _ (live_reply_same i r k l ∙ no_replies h i e r (omega (arith, last, l))) there.1)
        | inr l ↦
            elim (cases_lt q r) [
              | inl late ↦ absurd (both_ways _ (no_reply v i r (request_at-last v r (omega (arith, last, late, m.size)))) there.1)
              | inr early ↦
                  let same : r ≡ q = omega (arith, l, early) in
                  ap (λ c. is_before c q) (reply_end_of-some v i r f)
                  ∙ ap (λ p. is_before (end_of v (live_number_of v p)) q) same ∙ own_end
            ]
      ]

  reply_end_cases : (i : ℕ) (c : Option ℕ) → i < response_count h → reply_clock_of h i ≡ c
      → is_before (reply_end_of v i) q ≡ is_before (reply_end_of h i) q
  reply_end_cases i (Some r) k e = reply_end_some i r k e
  reply_end_cases i None k e = reply_end_late i (reply_clock_of v i) k e refl ∙ sym (never h i e)

  -- the last clock as outstanding
  responded_cases : (i : ℕ) (b : Bool) → i < response_count h → is_deferred h i ≡ b
      → is_before (last_clock_of v i) q ≡ is_before (last_clock_of h i) q
  responded_cases i true k e =
      rw (last_clock_of-deferred v i (is_deferred-old h x v i m o k ∙ e), last_clock_of-deferred h i e)
      (reply_end_cases i (reply_clock_of h i) k refl)
  responded_cases i false k e =
      rw (last_clock_of-plain v i (is_deferred-old h x v i m o k ∙ e), last_clock_of-plain h i e) (end_same i)

  unended : (i : ℕ) → response_count h ≤ i → is_before (end_of h i) q ≡ false
  unfolding is_before is_some_and
  unended i k = rw (end_past h i k) refl

  old_last : (i : ℕ) (b : Bool) → response_count h ≤ i → is_deferred h i ≡ b → is_before (last_clock_of h i) q ≡ false
  old_last i true k e =
      let r = deferred_response h i e in absurd (let l = response_counted h i r.0 r.1 in omega (arith, k, l))
  old_last i false k e = rw (last_clock_of-plain h i e) (unended i k)

  no_reply_yet : (i r : ℕ) → response_count h ≤ i → reply_clock_of v i ≡ Some r → ⊥
  no_reply_yet i r k e =
      let f = found_reply v i r e in
      let b = is_before-parts (response_clock_of v i) r (reply_behind v i r f.1) in
      let low : b.0 < length h = omega (arith, last, f.0, b.2, m.size) in
      let old = response_clock_of-stays (length h) v h i b.0 (AgreeTo-sym (length h) h v m.agree) low b.1 in
      let l = response_counted h i b.0 old in omega (arith, k, l)

  new_reply : (i : ℕ) (c : Option ℕ) → response_count h ≤ i → reply_clock_of v i ≡ c → is_before (reply_end_of v i) q ≡ false
  new_reply i None k e = never v i e
  new_reply i (Some r) k e = absurd (no_reply_yet i r k e)

  new_last : (i : ℕ) (b : Bool) → response_count h ≤ i → is_deferred v i ≡ b → is_before (last_clock_of v i) q ≡ false
  new_last i true k e = rw (last_clock_of-deferred v i e) (new_reply i (reply_clock_of v i) k refl)
  new_last i false k e = rw (last_clock_of-plain v i e) (end_same i ∙ unended i k)

  last_same : (i : ℕ) → is_before (last_clock_of v i) q ≡ is_before (last_clock_of h i) q
  last_same i =
      elim (cases_lt i (response_count h)) [
        | inl l ↦ responded_cases i (is_deferred h i) l refl
        | inr l ↦ new_last i (is_deferred v i) l refl ∙ sym (old_last i (is_deferred h i) l refl)
      ]

  finished_same : (p : ℕ) → p < q → line_at ADS h p ≡ true → is_finished v q p ≡ is_finished h q p
  unfolding is_finished
  finished_same p l t = rw (live_same p l, number_same p (omega (arith, l)) t, last_same (live_number_of h p)) refl

  outstanding_cases : (p : ℕ) (b : Bool) → p < q → line_at ADS h p ≡ b → is_outstanding v q p ≡ is_outstanding h q p
  unfolding is_outstanding
  outstanding_cases p true l t =
      rw (ads_same p (omega (arith, l)), request_same p l, dropped_same p, finished_same p l t) refl
  outstanding_cases p false l f = rw (ads_same p (omega (arith, l)), f) refl

  pub outstanding_same : (p : ℕ) → p < q → is_outstanding v q p ≡ is_outstanding h q p
  outstanding_same p l = outstanding_cases p (line_at ADS h p) l refl
