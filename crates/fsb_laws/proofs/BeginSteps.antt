-- What is outstanding where a request begins: it shows in the samples before.
use Rattle.std.proofs.Common.{ℕ, ◌+◌, ◌<◌, ◌≤◌, ◌≡◌, Bool, true, false, not, ◌&&◌, ◌||◌, nat_lt, Option, Some, None}
use Rattle.std.proofs.Common.{is_some, length, refl, sym, ap, ◌∙◌, arith, inl, inr}
use Rattle.std.proofs.lemmas.Bool.{cases_Bool, cases_lt, cases_eq, and_parts, and_left, and_right, and_from, or_left}
use Rattle.std.proofs.lemmas.Bool.{or_right, both_ways, ltb-true, lt-ltb, le-ltb, false_from_ne_true, not-false}
use Rattle.std.proofs.lemmas.Bool.{not_from_false}
use Rattle.fsb_count.specs.Options.{is_some_and, is_before}
use Rattle.fsb_count.proofs.Interface.{first_where-found, first_where-none, first_where-at, any_where-at, any_where-off}
use Rattle.fsb_count.proofs.Interface.{count_where-same}
use Rattle.fsb_signal.specs.declared.lines.TheConstants.Lines.{ADS}
use Rattle.fsb_signal.specs.Samples.{line_at}
use Rattle.fsb_trace.specs.At.{Trace, request_at}
use Rattle.fsb_trace.specs.Requests.{is_cancelled, is_live, live_clock_of, live_number_of, live_request_of}
use Rattle.fsb_trace.specs.Outcome.{response_clock_of, is_deferred}
use Rattle.fsb_trace.specs.Response.{end_of}
use Rattle.fsb_trace.specs.Flight.{is_dropped, has_ended, is_in_flight, is_reply_to, is_live_reply_to, reply_clock_of}
use Rattle.fsb_trace.specs.Flight.{reply_end_of, last_clock_of, is_finished, is_outstanding}
use Rattle.fsb_trace.specs.Deferral.{answers, is_answered}
use Rattle.fsb_trace.specs.Agree.{AgreeTo}
use Rattle.fsb_trace.proofs.Interface.{AgreeTo-sym, line_at-agree, request_at-agree, is_cancelled-agree, is_live-agree}
use Rattle.fsb_trace.proofs.Interface.{response_clock_of-stays, end_of-response, live_request_of-stays}
use Rattle.fsb_trace.proofs.Interface.{is_deferred-stays, live_clock_of-number}
use Rattle.fsb_laws.specs.Orderly.{Orderly}
use Rattle.fsb_laws.specs.Progress.{response_count}
use Rattle.fsb_laws.proofs.LiveSteps.{is_live-ads, is_cancelled-late}
use Rattle.fsb_laws.proofs.ResponseSteps.{has_answer, response_there, response_counted}
use Rattle.fsb_laws.proofs.EndFacts.{end_of-back, end_of-forth}
use Rattle.fsb_laws.proofs.OutstandingSteps.{deferred_response, end_after_clock, last_clock_of-plain}
use Rattle.fsb_laws.proofs.OutstandingSteps.{last_clock_of-deferred, reply_end_of-none, reply_end_of-some}

-- v goes on from u with a request, and both are orderly
pub record BeginsAfter (u v : Trace) : Type 0 where
  pub agree : AgreeTo (length u) u v
  pub asks : line_at ADS v (length u) ≡ true
  pub before : Orderly u
  pub after : Orderly v

far : (u v : Trace) (p : ℕ) → BeginsAfter u v → p < length u → line_at ADS v p ≡ true → p + 3 ≤ length u
far u v p b l t = b.after.spaced.apart p (length u) l t b.asks

same_ads : (u v : Trace) (p : ℕ) → BeginsAfter u v → p < length u → line_at ADS v p ≡ line_at ADS u p
same_ads u v p b l = sym (line_at-agree ADS (length u) u v p b.agree l)

not_live : (w : Trace) (p : ℕ) → line_at ADS w p ≡ false → is_live w p ≡ false
unfolding is_live
not_live w p f = rw f refl

same_request : (u v : Trace) (p : ℕ) → BeginsAfter u v → p + 3 ≤ length u → request_at v p ≡ request_at u p
same_request u v p b l = sym (request_at-agree (length u) u v p b.agree (omega arith))

-- numbers of live requests
below_live : (u v : Trace) (p c : ℕ) (t : Bool) → BeginsAfter u v → p < length u → line_at ADS u p ≡ true
    → c < p → line_at ADS u c ≡ t → is_live v c ≡ is_live u c
below_live u v p c true b l a k e =
    let apart : c + 3 ≤ p = b.before.spaced.apart c p k e a in
    sym (is_live-agree (length u) u v c b.agree (omega arith))
below_live u v p c false b l a k e =
    not_live v c (same_ads u v c b (omega arith) ∙ e) ∙ sym (not_live u c e)

same_number : (u v : Trace) (p : ℕ) → BeginsAfter u v → p < length u → line_at ADS u p ≡ true
    → live_number_of v p ≡ live_number_of u p
unfolding live_number_of
same_number u v p b l t =
    count_where-same (is_live v) (is_live u) p
    (record { same = λ c k. below_live u v p c (line_at ADS u c) b l t k refl })

-- ends before the request begins
end_before : (u v : Trace) (i : ℕ) (o k : Option ℕ) → BeginsAfter u v → end_of u i ≡ o → end_of v i ≡ k
    → is_before k (length u) ≡ is_before o (length u)
unfolding is_before is_some_and
end_before u v i None None b e f = refl
end_before u v i (Some s) None b e f =
    elim (cases_lt s (length u)) [
      | inl l ↦ let g = end_of-forth u v i s b.agree b.before e l in absurd (let no : ⊥ = cc in no)
      | inr l ↦ sym (le-ltb s (length u) l)
    ]
end_before u v i None (Some t) b e f =
    elim (cases_lt t (length u)) [
      | inl l ↦ let g = end_of-back u v i t b.agree b.before f l in absurd (let no : ⊥ = cc in no)
      | inr l ↦ le-ltb t (length u) l
    ]
end_before u v i (Some s) (Some t) b e f =
    elim (cases_lt t (length u)) [
      | inl l ↦ let g = end_of-back u v i t b.agree b.before f l in let same : s ≡ t = cc in rw same refl
      | inr l ↦
          elim (cases_lt s (length u)) [
            | inl k ↦ let g = end_of-forth u v i s b.agree b.before e k in let same : s ≡ t = cc in rw same refl
            | inr k ↦ le-ltb t (length u) l ∙ sym (le-ltb s (length u) k)
          ]
    ]

same_end_before : (u v : Trace) (i : ℕ) → BeginsAfter u v
    → is_before (end_of v i) (length u) ≡ is_before (end_of u i) (length u)
same_end_before u v i b = end_before u v i (end_of u i) (end_of v i) b refl refl

-- a number that is not below n is not before it
not_before : (n : ℕ) (o : Option ℕ) → ((e : ℕ) → o ≡ Some e → n ≤ e) → is_before o n ≡ false
unfolding is_before is_some_and
not_before n None f = refl
not_before n (Some e) f = le-ltb e n (f e refl)

-- the end of a request that begins late is late
late_end : (w : Trace) (p n : ℕ) → Orderly w → p < length w → is_live w p ≡ true → n ≤ p + 6
    → is_before (end_of w (live_number_of w p)) n ≡ false
late_end w p n o l t late =
    not_before n (end_of w (live_number_of w p)) (λ e f.
    let q = end_after_clock w (live_number_of w p) e o f in
    let c = live_clock_of-number w p l t in
    let a = q.1 in
    let same : q.0 ≡ p = cc in
    omega (arith, q.2))

live_reply : (w : Trace) (i q : ℕ) → reply_clock_of w i ≡ Some q
    → (is_live w q ≡ true) × (is_live_reply_to w i q ≡ true) × (q < length w)
    × ((k : ℕ) → k < q → is_live_reply_to w i k ≡ false)
unfolding reply_clock_of is_live_reply_to
live_reply w i q e =
    let p = first_where-found (is_live_reply_to w i) (length w) q e in ((and_parts _ _ p.1).0, p.1, p.0, p.2)

late_reply_cases : (w : Trace) (i n : ℕ) (o : Option ℕ) → Orderly w → reply_clock_of w i ≡ o
    → ((q : ℕ) → o ≡ Some q → n ≤ q + 3) → is_before (reply_end_of w i) n ≡ false
late_reply_cases w i n None o e late = ap (λ k. is_before k n) (reply_end_of-none w i e)
    ∙ not_before n None (λ e f. absurd (let no : ⊥ = cc in no))
late_reply_cases w i n (Some q) o e late =
    let p = live_reply w i q e in
    let l = late q refl in
    ap (λ k. is_before k n) (reply_end_of-some w i q e) ∙ late_end w q n o p.2 p.0 (omega arith)

late_reply : (w : Trace) (i n : ℕ) → Orderly w → ((q : ℕ) → reply_clock_of w i ≡ Some q → n ≤ q + 3)
    → is_before (reply_end_of w i) n ≡ false
late_reply w i n o late = late_reply_cases w i n (reply_clock_of w i) o refl late

-- requests that responded before
-- whether a request that was answered before is deferred stays
pub same_deferred : (u v : Trace) (i : ℕ) → BeginsAfter u v → i < response_count u → is_deferred v i ≡ is_deferred u i
same_deferred u v i b l =
    let p = response_there u i l in
    let a = has_answer u p.0 i (b.before.timely i p.0 p.1) in
    sym (is_deferred-stays (length u) u v i a.snoop p.0 b.agree (omega (arith, a.before, p.2)) a.is_snoop p.2 p.1)

pub same_live_request : (u v : Trace) (i : ℕ) → BeginsAfter u v → i < response_count u
    → live_request_of v i ≡ live_request_of u i
same_live_request u v i b l =
    let p = response_there u i l in
    let a = has_answer u p.0 i (b.before.timely i p.0 p.1) in
    sym (live_request_of-stays (length u) u v i a.snoop b.agree (omega (arith, a.before, p.2)) a.is_snoop)

same_response : (u v : Trace) (i : ℕ) → BeginsAfter u v → i < response_count u
    → response_clock_of v i ≡ response_clock_of u i
same_response u v i b l =
    let p = response_there u i l in
    response_clock_of-stays (length u) u v i p.0 b.agree p.2 p.1 ∙ sym p.1

same_reply_to : (u v : Trace) (i q : ℕ) → BeginsAfter u v → i < response_count u → q + 3 ≤ length u
    → is_reply_to v i q ≡ is_reply_to u i q
unfolding is_reply_to
same_reply_to u v i q b l k =
    rw (
      same_ads u v q b (omega arith),
      same_request u v q b k,
      same_live_request u v i b l,
      same_response u v i b l,
    ) refl

same_live_reply : (u v : Trace) (i q : ℕ) → BeginsAfter u v → i < response_count u → q + 3 < length u
    → is_live_reply_to v i q ≡ is_live_reply_to u i q
unfolding is_live_reply_to
same_live_reply u v i q b l k =
    rw (sym (is_live-agree (length u) u v q b.agree k), same_reply_to u v i q b l (omega arith)) refl

no_reply_found : (u v : Trace) (i q : ℕ) → BeginsAfter u v → i < response_count u → reply_clock_of v i ≡ Some q
    → ((k : ℕ) → k + 3 < length u → is_live_reply_to u i k ≡ false) → length u ≤ q + 3
no_reply_found u v i q b l e none =
    elim (cases_lt (q + 3) (length u)) [
      | inr late ↦ late
      | inl early ↦
          let p = live_reply v i q e in
          absurd (both_ways _ (none q early) (sym (same_live_reply u v i q b l early) ∙ p.1))
    ]

known_reply : (u v : Trace) (i q : ℕ) → BeginsAfter u v → i < response_count u → reply_clock_of u i ≡ Some q
    → q + 3 < length u → reply_clock_of v i ≡ Some q
unfolding reply_clock_of
known_reply u v i q b l e k =
    let p = first_where-found (is_live_reply_to u i) (length u) q e in
    first_where-at (is_live_reply_to v i) (length v) q (let r = b.agree.right in omega arith)
    (same_live_reply u v i q b l k ∙ p.1)
    (λ c less. same_live_reply u v i c b l (omega arith) ∙ p.2 c less)

none_at_all : (u : Trace) (i : ℕ) → reply_clock_of u i ≡ None → (k : ℕ) → k < length u → is_live_reply_to u i k ≡ false
unfolding reply_clock_of
none_at_all u i e k l = first_where-none (is_live_reply_to u i) (length u) e k l

reply_end_cases : (u v : Trace) (i : ℕ) (o : Option ℕ) → BeginsAfter u v → i < response_count u
    → reply_clock_of u i ≡ o → is_before (reply_end_of v i) (length u) ≡ is_before (reply_end_of u i) (length u)
reply_end_cases u v i None b l e =
    late_reply v i (length u) b.after (λ q f. no_reply_found u v i q b l f (λ k m. none_at_all u i e k (omega arith)))
    ∙ sym (late_reply u i (length u) b.before (λ q f. absurd (let no : ⊥ = cc in no)))
reply_end_cases u v i (Some q) b l e =
    let p = live_reply u i q e in
    elim (cases_lt (q + 3) (length u)) [
      | inl known ↦
          let f = known_reply u v i q b l e known in
          let same = same_number u v q b p.2 (is_live-ads u q p.0) in
          rw (reply_end_of-some v i q f, reply_end_of-some u i q e, same) (same_end_before u v (live_number_of u q) b)
      | inr late ↦
          late_reply v i (length u) b.after (λ c f. no_reply_found u v i c b l f (λ k m. p.3 k (omega arith)))
          ∙ sym (late_reply u i (length u) b.before (λ c f. let same : q ≡ c = cc in omega arith))
    ]

reply_begins_after : (w : Trace) (i r q : ℕ) → response_clock_of w i ≡ Some r → is_live_reply_to w i q ≡ true → r < q
unfolding is_live_reply_to is_reply_to is_before is_some_and
reply_begins_after w i r q e t =
    let before : is_some_and (response_clock_of w i) (λ m. nat_lt m q) ≡ true = (and_parts _ _ (and_parts _ _ t).1).1 in
    let here : nat_lt r q ≡ true = rw e at before in
    ltb-true r q here

reply_after : (w : Trace) (i r e : ℕ) (o : Option ℕ) → Orderly w → response_clock_of w i ≡ Some r
    → reply_clock_of w i ≡ o → reply_end_of w i ≡ Some e → r ≤ e
reply_after w i r e None o f g k = let none = reply_end_of-none w i g in absurd (let no : ⊥ = cc in no)
reply_after w i r e (Some q) o f g k =
    let p = live_reply w i q g in
    let l = reply_begins_after w i r q f p.1 in
    let z = end_after_clock w (live_number_of w q) e o (sym (reply_end_of-some w i q g) ∙ k) in
    let c = live_clock_of-number w q p.2 p.0 in
    let a = z.1 in
    let same : z.0 ≡ q = cc in
    omega (arith, z.2)

-- the last clock as outstanding lies before the request where it does by the samples before
last_plain_or : (w : Trace) (i e : ℕ) (t : Bool) → is_deferred w i ≡ t → Orderly w → last_clock_of w i ≡ Some e
    → (r : ℕ) × (response_clock_of w i ≡ Some r) × (r ≤ e)
last_plain_or w i e false d o f = end_of-response w i e (sym (last_clock_of-plain w i d) ∙ f)
last_plain_or w i e true d o f =
    let p = deferred_response w i d in
    (p.0, p.1, reply_after w i p.0 e (reply_clock_of w i) o p.1 refl (sym (last_clock_of-deferred w i d) ∙ f))

last_response : (w : Trace) (i e : ℕ) → Orderly w → last_clock_of w i ≡ Some e
    → (r : ℕ) × (response_clock_of w i ≡ Some r) × (r ≤ e)
last_response w i e o f = last_plain_or w i e (is_deferred w i) refl o f

responded_later : (u v : Trace) (i e : ℕ) → BeginsAfter u v → response_count u ≤ i → last_clock_of v i ≡ Some e
    → length u ≤ e
responded_later u v i e b l f =
    let p = last_response v i e b.after f in
    elim (cases_lt p.0 (length u)) [
      | inr late ↦ omega (arith, p.2)
      | inl early ↦
          let back = response_clock_of-stays (length u) v u i p.0 (AgreeTo-sym (length u) u v b.agree) early p.1 in
          absurd (let k = response_counted u i p.0 back in omega arith)
    ]

no_last : (u : Trace) (i e : ℕ) → Orderly u → response_count u ≤ i → last_clock_of u i ≡ Some e → ⊥
no_last u i e o l f =
    let p = last_response u i e o f in
    let k = response_counted u i p.0 p.1 in
    omega arith

last_before_cases : (u v : Trace) (i : ℕ) (t : Bool) → BeginsAfter u v → i < response_count u
    → is_deferred u i ≡ t → is_before (last_clock_of v i) (length u) ≡ is_before (last_clock_of u i) (length u)
last_before_cases u v i false b l e =
    rw (last_clock_of-plain v i (same_deferred u v i b l ∙ e), last_clock_of-plain u i e) (same_end_before u v i b)
last_before_cases u v i true b l e =
    rw (last_clock_of-deferred v i (same_deferred u v i b l ∙ e), last_clock_of-deferred u i e)
    (reply_end_cases u v i (reply_clock_of u i) b l refl)

same_last_before : (u v : Trace) (i : ℕ) → BeginsAfter u v
    → is_before (last_clock_of v i) (length u) ≡ is_before (last_clock_of u i) (length u)
same_last_before u v i b =
    elim (cases_lt i (response_count u)) [
      | inl l ↦ last_before_cases u v i (is_deferred u i) b l refl
      | inr l ↦
          not_before (length u) (last_clock_of v i) (λ e f. responded_later u v i e b l f)
          ∙ sym (not_before (length u) (last_clock_of u i) (λ e f. absurd (no_last u i e b.before l f)))
    ]

-- a request whose liveness is not known yet has no last clock before
last_after_plain : (w : Trace) (i e : ℕ) (t : Bool) → is_deferred w i ≡ t → Orderly w
    → last_clock_of w i ≡ Some e → (q : ℕ) × (live_clock_of w i ≡ Some q) × (q + 6 ≤ e)
last_after_plain w i e false d o f = end_after_clock w i e o (sym (last_clock_of-plain w i d) ∙ f)
last_after_plain w i e true d o f =
    let p = deferred_response w i d in
    let r = reply_after w i p.0 e (reply_clock_of w i) o p.1 refl (sym (last_clock_of-deferred w i d) ∙ f) in
    let q = end_after_clock w i p.0 o p.2 in
    (q.0, q.1, omega (arith, q.2))

late_finish : (w : Trace) (p n : ℕ) → Orderly w → p < length w → is_live w p ≡ true → n ≤ p + 6
    → is_before (last_clock_of w (live_number_of w p)) n ≡ false
late_finish w p n o l t late =
    not_before n (last_clock_of w (live_number_of w p)) (λ e f.
    let q = last_after_plain w (live_number_of w p) e (is_deferred w (live_number_of w p)) refl o f in
    let c = live_clock_of-number w p l t in
    let a = q.1 in
    let same : q.0 ≡ p = cc in
    omega (arith, q.2))

late_not_finished : (w : Trace) (p n : ℕ) (t : Bool) → Orderly w → p < length w → is_live w p ≡ t → n ≤ p + 6
    → is_finished w n p ≡ false
unfolding is_finished
late_not_finished w p n true o l t late = rw (t, late_finish w p n o l t late) refl
late_not_finished w p n false o l t late = rw t refl

same_finished_known : (u v : Trace) (p : ℕ) → BeginsAfter u v → p + 3 < length u → line_at ADS u p ≡ true
    → is_finished v (length u) p ≡ is_finished u (length u) p
unfolding is_finished
same_finished_known u v p b l t =
    rw (
      sym (is_live-agree (length u) u v p b.agree l),
      same_number u v p b (omega arith) t,
      same_last_before u v (live_number_of u p) b,
    ) refl

same_finished : (u v : Trace) (p : ℕ) → BeginsAfter u v → p < length u → line_at ADS u p ≡ true
    → is_finished v (length u) p ≡ is_finished u (length u) p
same_finished u v p b l t =
    let right = b.agree.right in
    elim (cases_lt (p + 3) (length u)) [
      | inl known ↦ same_finished_known u v p b known t
      | inr late ↦
          late_not_finished v p (length u) (is_live v p) b.after (omega arith) refl (omega arith)
          ∙ sym (late_not_finished u p (length u) (is_live u p) b.before l refl (omega arith))
    ]

same_dropped : (u v : Trace) (p : ℕ) → BeginsAfter u v → is_dropped v (length u) p ≡ is_dropped u (length u) p
unfolding is_dropped
same_dropped u v p b =
    elim (cases_lt (p + 3) (length u)) [
      | inl l ↦ rw (sym (is_cancelled-agree (length u) u v p b.agree l)) refl
      | inr l ↦ rw (le-ltb (p + 3) (length u) l) (and_right _ _ refl ∙ sym (and_right _ _ refl))
    ]

-- a request is outstanding where another begins as the samples before say
outstanding_asked : (u v : Trace) (p : ℕ) → BeginsAfter u v → p < length u → line_at ADS u p ≡ true
    → is_outstanding v (length u) p ≡ is_outstanding u (length u) p
unfolding is_outstanding
outstanding_asked u v p b l t =
    let ads : line_at ADS v p ≡ true = same_ads u v p b l ∙ t in
    rw (ads, t, same_request u v p b (far u v p b l ads), same_dropped u v p b, same_finished u v p b l t) refl

outstanding_off : (w : Trace) (n p : ℕ) → line_at ADS w p ≡ false → is_outstanding w n p ≡ false
unfolding is_outstanding
outstanding_off w n p f = rw f refl

pub same_outstanding : (u v : Trace) (p : ℕ) → BeginsAfter u v → p < length u
    → is_outstanding v (length u) p ≡ is_outstanding u (length u) p
same_outstanding u v p b l =
    elim (cases_Bool (line_at ADS u p)) [
      | inl t ↦ outstanding_asked u v p b l t
      | inr f ↦ outstanding_off v (length u) p (same_ads u v p b l ∙ f) ∙ sym (outstanding_off u (length u) p f)
    ]

reply_part : (w : Trace) (i q : ℕ) → is_live_reply_to w i q ≡ true → is_reply_to w i q ≡ true
unfolding is_live_reply_to
reply_part w i q t = (and_parts _ _ t).1

ended_off : (w : Trace) (p n : ℕ) (t : Bool) → Orderly w → p < length w → is_live w p ≡ t → n ≤ p + 6
    → (is_live w p && is_before (end_of w (live_number_of w p)) n) ≡ false
ended_off w p n true o l t late = and_right _ _ (late_end w p n o l t late)
ended_off w p n false o l t late = and_left _ _ t

-- a Deferred request is answered where another begins exactly where a live reply to it began before
in_flight_late : (u v : Trace) (q : ℕ) → BeginsAfter u v → q < length u → line_at ADS v q ≡ true
    → q + 3 ≡ length u → is_in_flight v (length u) q ≡ true
unfolding is_in_flight is_dropped has_ended
in_flight_late u v q b l t e =
    let right = b.agree.right in
    rw (t, lt-ltb q (length u) l, le-ltb (q + 3) (length u) (omega arith))
    (rw (and_right (is_cancelled v q) false refl)
    (not_from_false _ (ended_off v q (length u) (is_live v q) b.after (omega arith) refl (omega arith))))

answers_by_reply : (u v : Trace) (i q : ℕ) → BeginsAfter u v → i < response_count u
    → reply_clock_of u i ≡ Some q → answers v (length u) i q ≡ true
unfolding answers
answers_by_reply u v i q b l e =
    let p = live_reply u i q e in
    let asks : line_at ADS v q ≡ true = same_ads u v q b p.2 ∙ is_live-ads u q p.0 in
    let apart : q + 3 ≤ length u = far u v q b p.2 asks in
    let reply : is_reply_to v i q ≡ true = same_reply_to u v i q b l apart ∙ reply_part u i q p.1 in
    elim (cases_eq (q + 3) (length u)) [
      | inl late ↦ and_from _ _ reply (or_left _ _ (in_flight_late u v q b p.2 asks late))
      | inr known ↦
          and_from _ _ reply (or_right _ _ (sym (is_live-agree (length u) u v q b.agree (omega (arith, known))) ∙ p.0))
    ]

answered_some : (u v : Trace) (i q : ℕ) → BeginsAfter u v → i < response_count u → reply_clock_of u i ≡ Some q
    → is_answered v (length u) i ≡ true
unfolding is_answered
answered_some u v i q b l e =
    let p = live_reply u i q e in
    any_where-at (answers v (length u) i) (length u) q p.2 (answers_by_reply u v i q b l e)

reply_has_ads : (w : Trace) (i q : ℕ) → is_reply_to w i q ≡ true → line_at ADS w q ≡ true
unfolding is_reply_to
reply_has_ads w i q t = (and_parts _ _ (and_parts _ _ (and_parts _ _ t).0).0).0

cancelled_where : (w : Trace) (q : ℕ) → line_at ADS w q ≡ true → is_live w q ≡ false → is_cancelled w q ≡ true
unfolding is_live
cancelled_where w q t f = not-false _ (let g : (true && not (is_cancelled w q)) ≡ false = rw t at f in g)

gone : (w : Trace) (n q : ℕ) → is_cancelled w q ≡ true → q + 3 < n → (is_in_flight w n q || is_live w q) ≡ false
unfolding is_in_flight is_dropped is_live
gone w n q t l = rw (t, lt-ltb (q + 3) n l) (grind arith)

not_answering : (u v : Trace) (i q : ℕ) → BeginsAfter u v → i < response_count u
    → is_live_reply_to u i q ≡ false → q < length u → answers v (length u) i q ≡ true → ⊥
unfolding answers is_live_reply_to
not_answering u v i q b l f k t =
    let p = and_parts _ _ t in
    let asks : line_at ADS v q ≡ true = reply_has_ads v i q p.0 in
    let apart : q + 3 ≤ length u = far u v q b k asks in
    let reply : is_reply_to u i q ≡ true = sym (same_reply_to u v i q b l apart) ∙ p.0 in
    let dead : is_live u q ≡ false = false_from_ne_true _ (λ live. both_ways _ f (and_from _ _ live reply)) in
    let cancelled : is_cancelled u q ≡ true = cancelled_where u q (sym (same_ads u v q b k) ∙ asks) dead in
    elim (cases_lt (q + 3) (length u)) [
      | inl known ↦
          both_ways _ (gone v (length u) q (sym (is_cancelled-agree (length u) u v q b.agree known)
          ∙ cancelled) known) p.1
      | inr late ↦ both_ways _ (is_cancelled-late u q late) cancelled
    ]

answered_none : (u v : Trace) (i : ℕ) → BeginsAfter u v → i < response_count u → reply_clock_of u i ≡ None
    → is_answered v (length u) i ≡ false
unfolding is_answered
answered_none u v i b l e =
    any_where-off (answers v (length u) i) (length u) (λ q k.
    false_from_ne_true _ (not_answering u v i q b l (none_at_all u i e q k) k))

answered_cases : (u v : Trace) (i : ℕ) (o : Option ℕ) → BeginsAfter u v → i < response_count u
    → reply_clock_of u i ≡ o → is_answered v (length u) i ≡ is_some o
answered_cases u v i None b l e = answered_none u v i b l e
answered_cases u v i (Some q) b l e = answered_some u v i q b l e

pub same_answered : (u v : Trace) (i : ℕ) → BeginsAfter u v → i < response_count u
    → is_answered v (length u) i ≡ is_some (reply_clock_of u i)
same_answered u v i b l = answered_cases u v i (reply_clock_of u i) b l refl
