-- Requests in flight, one sample on.
use Rattle.std.proofs.Common.{ℕ, ◌+◌, ◌-◌, ◌<◌, ◌≤◌, ◌≡◌, Bool, true, false, cond, not, ◌&&◌, ◌||◌, nat_le, Option}
use Rattle.std.proofs.Common.{Some, None, [], ◌∷◌, ◌++◌, drop, filter, length, refl, sym, ap, ◌∙◌, arith, inl, inr}
use Rattle.std.proofs.Common.{length-drop}
use Rattle.std.proofs.lemmas.Bool.{cases_Bool, cases_lt, and_left, and_right, and_from, lt-ltb, le-ltb, le-leb, lt-leb}
use Rattle.std.proofs.Math.Bool.{and-true}
use Rattle.fsb_count.specs.Options.{is_some_and, is_before, is_at}
use Rattle.fsb_count.specs.Clocks.{count_where, all_where}
use Rattle.fsb_count.proofs.Interface.{nth_where-at, length-all_where, is_before-more}
use Rattle.fsb_signal.specs.declared.lines.TheConstants.Lines.{ADS}
use Rattle.fsb_signal.specs.declared.sample.Sample.{Sample}
use Rattle.fsb_signal.specs.Samples.{has_line, line_at}
use Rattle.fsb_trace.specs.At.{Trace}
use Rattle.fsb_trace.specs.Requests.{is_cancelled, is_live, live_clock_of, live_count, live_number_of}
use Rattle.fsb_trace.specs.Response.{end_of}
use Rattle.fsb_trace.specs.Flight.{is_dropped, has_ended, is_in_flight, in_flight}
use Rattle.fsb_trace.proofs.Interface.{snoop_end_of-clock, end_of-response}
use Rattle.fsb_laws.specs.OneMore.{OneMore, cancels}
use Rattle.fsb_laws.specs.Orderly.{Orderly}
use Rattle.fsb_laws.specs.Progress.{EndsTo}
use Rattle.fsb_laws.specs.Leaving.{leaves}
use Rattle.fsb_laws.proofs.Clocks.{all_where-same, all_where-filter, all_where-drop, all_where-more}
use Rattle.fsb_laws.proofs.OneMoreFacts.{line_at-old}
use Rattle.fsb_laws.proofs.LiveSteps.{is_live-ads, is_cancelled-more, is_cancelled-late, is_live-more, is_live-new}
use Rattle.fsb_laws.proofs.LiveSteps.{live_number_of-more, not_cancelled}
use Rattle.fsb_laws.proofs.ResponseSteps.{has_answer}
use Rattle.fsb_laws.proofs.EndFacts.{end_of-old, end_of-kept}

not_old : (h : Trace) (x : Sample) (v : Trace) (i t : ℕ) (p : Option ℕ) → OneMore h x v → Orderly h
    → end_of h i ≡ Some t → end_of v i ≡ p → length h ≤ t → is_before p (length h) ≡ false
unfolding is_before is_some_and
not_old h x v i t None m or e f l = refl
not_old h x v i t (Some u) m or e f l =
    elim (cases_lt u (length h)) [
      | inl k ↦ let g = end_of-old h x v i u m or f k in absurd (let same : t ≡ u = cc in omega arith)
      | inr k ↦ le-ltb u (length h) k
    ]

-- an end is below the new clock in the new trace exactly where it is in the old one
end_before_cases : (h : Trace) (x : Sample) (v : Trace) (i : ℕ) (o p : Option ℕ) → OneMore h x v → Orderly h
    → end_of h i ≡ o → end_of v i ≡ p → is_before p (length h) ≡ is_before o (length h)
unfolding is_before is_some_and
end_before_cases h x v i (Some t) p m or e f =
    elim (cases_lt t (length h)) [
      | inl l ↦ let k = end_of-kept h x v i t m or e l in rw (sym f ∙ k) refl
      | inr l ↦ not_old h x v i t p m or e f l ∙ sym (le-ltb t (length h) l)
    ]
end_before_cases h x v i None None m or e f = refl
end_before_cases h x v i None (Some t) m or e f =
    elim (cases_lt t (length h)) [
      | inl l ↦ let k = end_of-old h x v i t m or f l in absurd (let no : ⊥ = cc in no)
      | inr l ↦ le-ltb t (length h) l
    ]

pub end_before-same : (h : Trace) (x : Sample) (v : Trace) (i : ℕ) → OneMore h x v → Orderly h
    → is_before (end_of v i) (length h) ≡ is_before (end_of h i) (length h)
end_before-same h x v i m o = end_before_cases h x v i (end_of h i) (end_of v i) m o refl refl

-- a request of which it is not known whether it is live has not ended
pub ended_known : (h : Trace) (q : ℕ) (o : Option ℕ) → Orderly h → q < length h → is_live h q ≡ true
    → length h ≤ q + 3 → end_of h (live_number_of h q) ≡ o → is_before o (length h) ≡ false
unfolding is_before is_some_and live_number_of live_clock_of
ended_known h q None o l t late e = refl
ended_known h q (Some u) o l t late e =
    elim (cases_lt u (length h)) [
      | inr k ↦ le-ltb u (length h) k
      | inl k ↦
          let i : ℕ = count_where (is_live h) q in
          let p = end_of-response h i u e in
          let a = has_answer h p.0 i (o.timely i p.0 p.1) in
          let c = snoop_end_of-clock h i a.snoop a.is_snoop in
          let f = nth_where-at (is_live h) (length h) q l t in
          let g = c.is_clock in
          let same : c.clock ≡ q = cc in
          absurd (omega (arith, c.above, a.before, p.2))
    ]

-- at the end of a trace, a request is in flight where it is live and has not ended
form : (a c b : Bool) → (((a && true) && not c) && not ((a && not c) && b)) ≡ ((a && not c) && not b)
form a c b = grind arith

-- at the end of the trace a request is dropped where it is cancelled
pub dropped_form : (w : Trace) (q : ℕ) → is_dropped w (length w) q ≡ is_cancelled w q
unfolding is_dropped
dropped_form w q =
    elim (cases_lt (q + 3) (length w)) [
      | inl l ↦ rw (lt-ltb (q + 3) (length w) l) (and-true (is_cancelled w q))
      | inr l ↦ rw (is_cancelled-late w q l) refl
    ]

pub is_in_flight-end : (w : Trace) (q : ℕ) → q < length w
    → is_in_flight w (length w) q ≡ (is_live w q && not (is_before (end_of w (live_number_of w q)) (length w)))
unfolding is_in_flight has_ended is_live
is_in_flight-end w q l =
    rw (lt-ltb q (length w) l, dropped_form w q)
    (form (line_at ADS w q) (is_cancelled w q) (is_before (end_of w (live_number_of w q)) (length w)))

-- whether a request is in flight at the new clock shows in the old trace
now_form : (w : Trace) (n q : ℕ) → q < n
    → is_in_flight w n q ≡ (line_at ADS w q && not (is_dropped w n q) && not (has_ended w n q))
unfolding is_in_flight
now_form w n q l = rw (lt-ltb q n l) (grind arith)

dropped_now : (h : Trace) (x : Sample) (v : Trace) (q : ℕ) → OneMore h x v
    → is_dropped v (length h) q ≡ is_dropped h (length h) q
unfolding is_dropped
dropped_now h x v q m =
    elim (cases_lt (q + 3) (length h)) [
      | inl l ↦ rw (is_cancelled-more h x v q m l) refl
      | inr l ↦ rw (le-ltb (q + 3) (length h) l) (and_right _ _ refl ∙ sym (and_right _ _ refl))
    ]

ended_now_live : (h : Trace) (x : Sample) (v : Trace) (q : ℕ) → OneMore h x v → Orderly h → q < length h
    → is_live h q ≡ true → has_ended v (length h) q ≡ has_ended h (length h) q
unfolding has_ended
ended_now_live h x v q m o l t =
    let same : live_number_of v q ≡ live_number_of h q =
    sym (live_number_of-more h x v q m o.spaced l (is_live-ads h q t)) in
    elim (cases_lt (q + 3) (length h)) [
      | inl known ↦
          rw (
            is_live-more h x v q m l,
            same,
            end_before-same h x v (live_number_of h q) m o,
            t,
            not_cancelled x (length h) q (λ f. omega arith),
          ) refl
      | inr late ↦
          let none = ended_known h q (end_of h (live_number_of h q)) o l t late refl in
          rw (same, end_before-same h x v (live_number_of h q) m o, none) (and_right _ _ refl
          ∙ sym (and_right _ _ refl))
    ]

ended_now_not : (h : Trace) (x : Sample) (v : Trace) (q : ℕ) → OneMore h x v → q < length h
    → is_live h q ≡ false → has_ended v (length h) q ≡ has_ended h (length h) q
unfolding has_ended
ended_now_not h x v q m l f = rw (is_live-more h x v q m l, f) refl

ended_now : (h : Trace) (x : Sample) (v : Trace) (q : ℕ) → OneMore h x v → Orderly h → q < length h
    → has_ended v (length h) q ≡ has_ended h (length h) q
ended_now h x v q m o l =
    elim (cases_Bool (is_live h q)) [
      | inl t ↦ ended_now_live h x v q m o l t
      | inr f ↦ ended_now_not h x v q m l f
    ]

pub is_in_flight-now : (h : Trace) (x : Sample) (v : Trace) (q : ℕ) → OneMore h x v → Orderly h → q < length h
    → is_in_flight v (length h) q ≡ is_in_flight h (length h) q
is_in_flight-now h x v q m o l =
    now_form v (length h) q l
    ∙ (rw (line_at-old ADS h x v q m l, dropped_now h x v q m, ended_now h x v q m o l)
    (sym (now_form h (length h) q l)))

-- the requests in flight at the new clock, while the sample has not come
pub in_flight-now : (h : Trace) (x : Sample) (v : Trace) → OneMore h x v → Orderly h
    → in_flight v (length h) ≡ in_flight h (length h)
unfolding in_flight
in_flight-now h x v m o =
    all_where-same _ _ (length h) (record { same = λ q l. is_in_flight-now h x v q m o l })

-- they are the live requests from the first without its end on
before_end : (h : Trace) (e i : ℕ) → EndsTo h e → not (is_before (end_of h i) (length h)) ≡ nat_le e i
unfolding is_before is_some_and
before_end h e i to =
    elim (cases_lt i e) [
      | inl l ↦ let p = to.reached i l in rw (p.1, lt-ltb p.0 (length h) p.2, lt-leb e i l) refl
      | inr l ↦ rw (to.above i l, le-leb e i l) refl
    ]

pub in_flight-live : (h : Trace) (e : ℕ) → EndsTo h e
    → in_flight h (length h) ≡ drop e (all_where (is_live h) (length h))
unfolding in_flight live_number_of
in_flight-live h e to =
    all_where-same _ (λ q. is_live h q && nat_le e (count_where (is_live h) q)) (length h)
    (record {
      same = λ q l. is_in_flight-end h q l
          ∙ ap (λ b. is_live h q && b) (before_end h e (count_where (is_live h) q) to);
    })
    ∙ all_where-drop (is_live h) e (length h)

-- how many they are
pub in_flight-count : (h : Trace) (e : ℕ) → EndsTo h e → length (in_flight h (length h)) ≡ live_count h - e
unfolding live_count
in_flight-count h e to =
    ap length (in_flight-live h e to) ∙ length-drop e (all_where (is_live h) (length h))
    ∙ ap (λ k. k - e) (length-all_where (is_live h) (length h))

step_form : (live cancel before at : Bool)
    → ((live && not cancel) && not (before || at))
    ≡ ((live && not before) && not (cancel || (live && not cancel) && at))
step_form live cancel before at = grind arith

more_live : (h : Trace) (x : Sample) (v : Trace) (q : ℕ) → OneMore h x v → Orderly h → q < length h
    → is_live h q ≡ true → is_in_flight v (length v) q ≡ (is_in_flight h (length h) q && not (leaves h x v q))
unfolding leaves
more_live h x v q m o l t =
    let size : length v ≡ length h + 1 = m.size in
    let same : live_number_of v q ≡ live_number_of h q =
    sym (live_number_of-more h x v q m o.spaced l (is_live-ads h q t)) in
    is_in_flight-end v q (omega arith)
    ∙ (rw (
      size,
      is_before-more (end_of v (live_number_of v q)) (length h),
      is_live-more h x v q m l,
      same,
      end_before-same h x v (live_number_of h q) m o,
      is_in_flight-end h q l,
    )
    (step_form (is_live h q) (cancels x (length h) q) (is_before (end_of h (live_number_of h q)) (length h))
    (is_at (end_of v (live_number_of h q)) (length h))))

more_not : (h : Trace) (x : Sample) (v : Trace) (q : ℕ) → OneMore h x v → q < length h → is_live h q ≡ false
    → is_in_flight v (length v) q ≡ (is_in_flight h (length h) q && not (leaves h x v q))
more_not h x v q m l f =
    let size : length v ≡ length h + 1 = m.size in
    is_in_flight-end v q (omega arith) ∙ and_left _ _ (is_live-more h x v q m l ∙ and_left _ _ f)
    ∙ sym (and_left _ _ (is_in_flight-end h q l ∙ and_left _ _ f))

pub is_in_flight-more : (h : Trace) (x : Sample) (v : Trace) (q : ℕ) → OneMore h x v → Orderly h → q < length h
    → is_in_flight v (length v) q ≡ (is_in_flight h (length h) q && not (leaves h x v q))
is_in_flight-more h x v q m o l =
    elim (cases_Bool (is_live h q)) [
      | inl t ↦ more_live h x v q m o l t
      | inr f ↦ more_not h x v q m l f
    ]

not_before_begun : (w : Trace) (q : ℕ) → q < length w → length w ≤ q + 1 → Orderly w → is_live w q ≡ true
    → is_in_flight w (length w) q ≡ true
not_before_begun w q l late o t =
    is_in_flight-end w q l
    ∙ and_from _ _ t (rw (ended_known w q (end_of w (live_number_of w q)) o l t (omega arith) refl) refl)

-- the request that begins with the sample is in flight after it
pub is_in_flight-new : (h : Trace) (x : Sample) (v : Trace) → OneMore h x v → Orderly v
    → is_in_flight v (length v) (length h) ≡ has_line x ADS
is_in_flight-new h x v m o =
    let size : length v ≡ length h + 1 = m.size in
    elim (cases_Bool (has_line x ADS)) [
      | inl t ↦ not_before_begun v (length h) (omega arith) (omega arith) o (is_live-new h x v m ∙ t) ∙ sym t
      | inr f ↦ is_in_flight-end v (length h) (omega arith) ∙ and_left _ _ (is_live-new h x v m ∙ f) ∙ sym f
    ]

old_ones : (h : Trace) (x : Sample) (v : Trace) → OneMore h x v → Orderly h
    → all_where (is_in_flight v (length h + 1)) (length h)
    ≡ filter (λ q. not (leaves h x v q)) (all_where (is_in_flight h (length h)) (length h))
old_ones h x v m o =
    all_where-same _ (λ q. is_in_flight h (length h) q && not (leaves h x v q)) (length h)
    (record { same = λ q l. ap (λ n. is_in_flight v n q) (sym m.size) ∙ is_in_flight-more h x v q m o l })
    ∙ all_where-filter (is_in_flight h (length h)) (λ q. not (leaves h x v q)) (length h)

new_one : (h : Trace) (x : Sample) (v : Trace) → OneMore h x v → Orderly v
    → is_in_flight v (length h + 1) (length h) ≡ has_line x ADS
new_one h x v m o = ap (λ n. is_in_flight v n (length h)) (sym m.size) ∙ is_in_flight-new h x v m o

-- with the sample, those leave that it cancels or ends, and the request that it begins comes
pub in_flight-more : (h : Trace) (x : Sample) (v : Trace) → OneMore h x v → Orderly h → Orderly v
    → in_flight v (length v) ≡ filter (λ q. not (leaves h x v q)) (in_flight h (length h))
    ++ cond (has_line x ADS) (length h ∷ []) []
unfolding in_flight
in_flight-more h x v m o ov =
    rw (m.size) (all_where-more (is_in_flight v (length h + 1)) (length h)
    ∙ ap (λ xs. xs ++ cond (is_in_flight v (length h + 1) (length h)) (length h ∷ []) []) (old_ones h x v m o)
    ∙ ap (λ b. filter (λ q. not (leaves h x v q)) (all_where (is_in_flight h (length h)) (length h))
    ++ cond b (length h ∷ []) []) (new_one h x v m ov))
