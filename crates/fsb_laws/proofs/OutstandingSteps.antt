-- Outstanding requests, one sample on.
use Rattle.std.proofs.Common.{ℕ, ◌+◌, ◌-◌, ◌<◌, ◌≤◌, ◌≡◌, Bool, true, false, cond, not, ◌&&◌, ◌||◌, Option, Some, None}
use Rattle.std.proofs.Common.{length, refl, sym, ap, ◌∙◌, arith, inl, inr, subst}
use Rattle.std.proofs.lemmas.Option.{cond_some}
use Rattle.std.proofs.lemmas.Bool.{cases_Bool, cases_lt, and_parts, and_right, both_ways, lt-ltb}
use Rattle.fsb_count.specs.Options.{is_some_and, is_before, is_at}
use Rattle.fsb_count.proofs.Interface.{first_where-found, is_before-none, is_before-more}
use Rattle.fsb_signal.specs.declared.lines.TheConstants.Lines.{ADS}
use Rattle.fsb_signal.specs.declared.sample.Sample.{Sample}
use Rattle.fsb_signal.specs.Samples.{line_at}
use Rattle.fsb_trace.specs.At.{Trace, request_at}
use Rattle.fsb_trace.specs.Requests.{is_cancelled, is_live, live_clock_of, live_number_of, is_reply}
use Rattle.fsb_trace.specs.declared.outcome.Outcome.{Outcome}
use Rattle.fsb_trace.specs.declared.outcome.Outcome.TheVariants.{Granted, Handed, Retried, Deferred, Written, Replied}
use Rattle.fsb_trace.specs.declared.outcome.Outcome.TheVariants.{Failed, Upgraded}
use Rattle.fsb_trace.specs.Outcome.{response_clock_of, live_response_of, outcome_of, moves_data, is_deferred, does_move}
use Rattle.fsb_trace.specs.Outcome.{is_deferral}
use Rattle.fsb_trace.specs.Response.{end_of}
use Rattle.fsb_trace.specs.Flight.{is_live_reply_to, reply_clock_of, reply_number_of, reply_end_of, last_clock_of}
use Rattle.fsb_trace.specs.Flight.{is_finished, is_outstanding}
use Rattle.fsb_trace.proofs.Interface.{AgreeTo-sym, snoop_end_of-clock, response_clock_of-stays, live_response_of-is}
use Rattle.fsb_trace.proofs.Interface.{end_of-response, end_of-still}
use Rattle.fsb_laws.specs.OneMore.{OneMore, cancels}
use Rattle.fsb_laws.specs.Orderly.{Orderly}
use Rattle.fsb_laws.specs.Progress.{response_count}
use Rattle.fsb_laws.specs.Leaving.{ends_at}
use Rattle.fsb_laws.proofs.LiveSteps.{is_live-ads, is_live-more, live_number_of-more}
use Rattle.fsb_laws.proofs.ResponseSteps.{has_answer, response_there, response_counted, is_deferred-old}
use Rattle.fsb_laws.proofs.FlightSteps.{end_before-same, ended_known, dropped_form}
use Rattle.fsb_laws.proofs.OrderlySteps.{response_now}
use Rattle.fsb_laws.proofs.ReplySteps.{cancelled_clock, reply_clock_of-more, reply_clock_of-fresh}

-- at the end of a trace, a request is outstanding where it is live, no reply, and not finished
outstanding_form : (a r c b : Bool)
    → ((((a && true) && not r) && not c) && not ((a && not c) && b)) ≡ (((a && not c) && not r) && not b)
outstanding_form a r c b = grind arith

pub is_outstanding-end : (w : Trace) (q : ℕ) → q < length w
    → is_outstanding w (length w) q
    ≡ (is_live w q && not (is_reply (request_at w q))
    && not (is_before (last_clock_of w (live_number_of w q)) (length w)))
unfolding is_outstanding is_finished is_live
is_outstanding-end w q l =
    rw (lt-ltb q (length w) l, dropped_form w q)
    (outstanding_form (line_at ADS w q) (is_reply (request_at w q)) (is_cancelled w q)
    (is_before (last_clock_of w (live_number_of w q)) (length w)))

-- a Deferred request has its response, and its data do not move
deferred_outcome : (w : Trace) (i : ℕ) (o : Option Outcome) → outcome_of w i ≡ o
    → is_some_and o is_deferral ≡ true → is_some_and o does_move ≡ false
unfolding is_some_and is_deferral does_move
deferred_outcome w i None e t = refl
deferred_outcome w i (Some Granted) e t = absurd (let no : ⊥ = cc in no)
deferred_outcome w i (Some Handed) e t = absurd (let no : ⊥ = cc in no)
deferred_outcome w i (Some Retried) e t = refl
deferred_outcome w i (Some Deferred) e t = refl
deferred_outcome w i (Some Written) e t = absurd (let no : ⊥ = cc in no)
deferred_outcome w i (Some Replied) e t = absurd (let no : ⊥ = cc in no)
deferred_outcome w i (Some Failed) e t = refl
deferred_outcome w i (Some Upgraded) e t = absurd (let no : ⊥ = cc in no)

pub deferred_still : (w : Trace) (i : ℕ) → is_deferred w i ≡ true → moves_data w i ≡ false
unfolding is_deferred moves_data
deferred_still w i t = deferred_outcome w i (outcome_of w i) refl t

deferred_there : (w : Trace) (i : ℕ) (o : Option ℕ) → live_response_of w i ≡ o → is_deferred w i ≡ true
    → (r : ℕ) × (live_response_of w i ≡ Some r)
unfolding is_deferred outcome_of is_some_and
deferred_there w i None e t = absurd (let f : false ≡ true = rw e at t in let no : ⊥ = cc in no)
deferred_there w i (Some r) e t = (r, e)

pub deferred_response : (w : Trace) (i : ℕ) → is_deferred w i ≡ true
    → (r : ℕ) × (response_clock_of w i ≡ Some r) × (end_of w i ≡ Some r)
deferred_response w i t =
    let p = deferred_there w i (live_response_of w i) refl t in
    (p.0, live_response_of-is w i p.0 p.1, end_of-still w i (deferred_still w i t) ∙ p.1)

-- an end lies six clocks after the first clock of its request at least
pub end_after_clock : (w : Trace) (i e : ℕ) → Orderly w → end_of w i ≡ Some e
    → (q : ℕ) × (live_clock_of w i ≡ Some q) × (q + 6 ≤ e)
end_after_clock w i e o f =
    let p = end_of-response w i e f in
    let a = has_answer w p.0 i (o.timely i p.0 p.1) in
    let c = snoop_end_of-clock w i a.snoop a.is_snoop in
    (c.clock, c.is_clock, omega (arith, c.above, a.before, p.2))

-- the last clock as outstanding, by whether the request is Deferred
pub last_clock_of-plain : (w : Trace) (i : ℕ) → is_deferred w i ≡ false → last_clock_of w i ≡ end_of w i
unfolding last_clock_of
last_clock_of-plain w i f = rw f refl

pub last_clock_of-deferred : (w : Trace) (i : ℕ) → is_deferred w i ≡ true → last_clock_of w i ≡ reply_end_of w i
unfolding last_clock_of
last_clock_of-deferred w i t = rw t refl

pub reply_end_of-none : (w : Trace) (i : ℕ) → reply_clock_of w i ≡ None → reply_end_of w i ≡ None
unfolding reply_end_of reply_number_of
reply_end_of-none w i e = rw e refl

pub reply_end_of-some : (w : Trace) (i q : ℕ) → reply_clock_of w i ≡ Some q
    → reply_end_of w i ≡ end_of w (live_number_of w q)
unfolding reply_end_of reply_number_of
reply_end_of-some w i q e = rw e refl

-- a request that is Deferred neither before nor after the sample is finished with its end
pub finished-plain : (h : Trace) (x : Sample) (v : Trace) (i : ℕ) → OneMore h x v → Orderly h
    → is_deferred h i ≡ false → is_deferred v i ≡ false
    → is_before (last_clock_of v i) (length v)
    ≡ (is_before (last_clock_of h i) (length h) || is_at (end_of v i) (length h))
finished-plain h x v i m o f g =
    rw (last_clock_of-plain v i g, last_clock_of-plain h i f, m.size)
    (is_before-more (end_of v i) (length h)
    ∙ ap (λ b. b || is_at (end_of v i) (length h)) (end_before-same h x v i m o))

-- one that is Deferred by the sample ends with it and is not finished
pub record IsNewlyDeferred (h v : Trace) (i : ℕ) : Type 0 where
  pub number : i ≡ response_count h
  pub response : response_clock_of v i ≡ Some (length h)
  pub end : end_of v i ≡ Some (length h)
  pub reply : reply_clock_of v i ≡ None
  pub unfinished : is_before (last_clock_of v i) (length v) ≡ false

pub newly_deferred : (h : Trace) (x : Sample) (v : Trace) (i : ℕ) → OneMore h x v → Orderly h
    → is_deferred h i ≡ false → is_deferred v i ≡ true → IsNewlyDeferred h v i
newly_deferred h x v i m o f t =
    let p = deferred_response v i t in
    let new : length h ≤ p.0 =
    elim (cases_lt i (response_count h)) [
      | inl old ↦ absurd (both_ways _ f (sym (is_deferred-old h x v i m o old) ∙ t))
      | inr none ↦
          elim (cases_lt p.0 (length h)) [
            | inr l ↦ l
            | inl early ↦
                let back = response_clock_of-stays (length h) v h i p.0 (AgreeTo-sym (length h) h v m.agree)
                early p.1 in
                absurd (let l = response_counted h i p.0 back in omega arith)
          ]
    ] in
    let now = response_now h x v i p.0 m p.1 new in
    let here : response_clock_of v i ≡ Some (length h) = subst (λ r. response_clock_of v i ≡ Some r) now.1 p.1 in
    let none = reply_clock_of-fresh h x v i m here in
    record {
      number = now.0;
      response = here;
      end = subst (λ r. end_of v i ≡ Some r) now.1 p.2;
      reply = none;
      unfinished = ap (λ k. is_before k (length v)) (last_clock_of-deferred v i t ∙ reply_end_of-none v i none)
          ∙ is_before-none (length v);
    }

pub not_finished-newly : (h : Trace) (x : Sample) (v : Trace) (i : ℕ) → OneMore h x v → Orderly h
    → is_deferred h i ≡ false → is_deferred v i ≡ true → is_before (last_clock_of v i) (length v) ≡ false
not_finished-newly h x v i m o f t = (newly_deferred h x v i m o f t).unfinished

-- one that was Deferred before is finished with the end of its reply
later_end : (w : Trace) (q : ℕ) → Orderly w → q < length w → is_live w q ≡ true → length w ≤ q + 3
    → is_before (end_of w (live_number_of w q)) (length w) ≡ false
later_end w q o l t late = ended_known w q (end_of w (live_number_of w q)) o l t late refl

-- the reply of a request is live
pub live_of_reply : (w : Trace) (i q : ℕ) → reply_clock_of w i ≡ Some q → (is_live w q ≡ true) × (q < length w)
unfolding reply_clock_of is_live_reply_to
live_of_reply w i q e =
    let p = first_where-found (is_live_reply_to w i) (length w) q e in ((and_parts _ _ p.1).0, p.0)

ends_live : (v : Trace) (n q : ℕ) → is_live v q ≡ true → is_at (end_of v (live_number_of v q)) n ≡ ends_at v n q
unfolding ends_at
ends_live v n q t = rw t refl

-- one that is not live does not end
pub ends_dead : (v : Trace) (n q : ℕ) → is_live v q ≡ false → ends_at v n q ≡ false
unfolding ends_at
ends_dead v n q f = rw f refl

deferred_kept : (h : Trace) (x : Sample) (v : Trace) (i q : ℕ) → OneMore h x v → Orderly h → Orderly v
    → is_deferred v i ≡ true → is_deferred h i ≡ true → reply_clock_of h i ≡ Some q
    → reply_clock_of v i ≡ Some q → is_before (last_clock_of v i) (length v)
    ≡ (is_before (last_clock_of h i) (length h) || ends_at v (length h) q)
deferred_kept h x v i q m o ov t u e f =
    let p = live_of_reply h i q e in
    let k = live_of_reply v i q f in
    let same : live_number_of h q ≡ live_number_of v q =
    live_number_of-more h x v q m o.spaced p.1 (is_live-ads h q p.0) in
    rw (
      last_clock_of-deferred v i t,
      last_clock_of-deferred h i u,
      reply_end_of-some v i q f,
      reply_end_of-some h i q e,
      same,
      m.size,
    )
    (is_before-more (end_of v (live_number_of v q)) (length h)
    ∙ ap (λ b. b || is_at (end_of v (live_number_of v q)) (length h)) (end_before-same h x v (live_number_of v q) m o)
    ∙ ap (λ b. is_before (end_of h (live_number_of v q)) (length h) || b) (ends_live v (length h) q k.0))

deferred_cancelled : (h : Trace) (x : Sample) (v : Trace) (i q : ℕ) → OneMore h x v → Orderly h
    → is_deferred v i ≡ true → is_deferred h i ≡ true → reply_clock_of h i ≡ Some q
    → cancels x (length h) q ≡ true → reply_clock_of v i ≡ None
    → is_before (last_clock_of v i) (length v) ≡ (is_before (last_clock_of h i) (length h) || ends_at v (length h) q)
deferred_cancelled h x v i q m o t u e c f =
    let p = live_of_reply h i q e in
    let here : q + 3 ≡ length h = cancelled_clock x (length h) q c in
    let dead : is_live v q ≡ false = is_live-more h x v q m p.1 ∙ (rw c (and_right _ _ refl)) in
    ap (λ k. is_before k (length v)) (last_clock_of-deferred v i t ∙ reply_end_of-none v i f)
    ∙ is_before-none (length v)
    ∙ sym (rw (
      last_clock_of-deferred h i u,
      reply_end_of-some h i q e,
      later_end h q o p.1 p.0 (omega arith),
      ends_dead v (length h) q dead,
    ) refl)

-- by the reply that the request had before
abbrev pub ends_by : Trace → ℕ → Option ℕ → Bool
ends_by v n reply = is_some_and reply (ends_at v n)

deferred_waiting : (h : Trace) (x : Sample) (v : Trace) (i : ℕ) (o : Option ℕ) → OneMore h x v → Orderly v
    → is_deferred v i ≡ true → is_deferred h i ≡ true → reply_clock_of h i ≡ None → reply_clock_of v i ≡ o
    → ((q : ℕ) → o ≡ Some q → length v ≤ q + 3)
    → is_before (last_clock_of v i) (length v) ≡ (is_before (last_clock_of h i) (length h) || false)
deferred_waiting h x v i None m ov t u e f late =
    ap (λ k. is_before k (length v)) (last_clock_of-deferred v i t ∙ reply_end_of-none v i f)
    ∙ is_before-none (length v)
    ∙ sym (rw (last_clock_of-deferred h i u, reply_end_of-none h i e, is_before-none (length h)) refl)
deferred_waiting h x v i (Some q) m ov t u e f late =
    let p = live_of_reply v i q f in
    ap (λ k. is_before k (length v)) (last_clock_of-deferred v i t ∙ reply_end_of-some v i q f)
    ∙ later_end v q ov p.1 p.0 (late q refl)
    ∙ sym (rw (last_clock_of-deferred h i u, reply_end_of-none h i e, is_before-none (length h)) refl)

finished_cases : (h : Trace) (x : Sample) (v : Trace) (i : ℕ) (old : Option ℕ) → OneMore h x v → Orderly h
    → Orderly v → i < response_count h → 0 < length h → is_deferred v i ≡ true → is_deferred h i ≡ true
    → reply_clock_of h i ≡ old → is_before (last_clock_of v i) (length v)
    ≡ (is_before (last_clock_of h i) (length h) || ends_by v (length h) old)
unfolding is_some_and
finished_cases h x v i (Some q) m o ov l some t u e =
    let more = reply_clock_of-more h x v i m o l some in
    elim (cases_Bool (cancels x (length h) q)) [
      | inl c ↦ deferred_cancelled h x v i q m o t u e c (let g = rw (e, c) at more in g)
      | inr f ↦ deferred_kept h x v i q m o ov t u e (let g = rw (e, f) at more in g)
    ]
finished_cases h x v i None m o ov l some t u e =
    let more = rw e at (reply_clock_of-more h x v i m o l some) in
    deferred_waiting h x v i (cond (is_live_reply_to v i (length h - 1)) (Some (length h - 1)) None) m ov t u e more
    (λ q f. let k = cond_some (is_live_reply_to v i (length h - 1)) (length h - 1) q f in let size = m.size in
    omega (arith, k.1, m.size))

pub finished-deferred : (h : Trace) (x : Sample) (v : Trace) (i : ℕ) → OneMore h x v → Orderly h → Orderly v
    → is_deferred h i ≡ true → is_before (last_clock_of v i) (length v)
    ≡ (is_before (last_clock_of h i) (length h) || ends_by v (length h) (reply_clock_of h i))
finished-deferred h x v i m o ov u =
    let p = deferred_response h i u in
    let l = response_counted h i p.0 p.1 in
    let there = response_there h i l in
    finished_cases h x v i (reply_clock_of h i) m o ov l (omega (arith, there.2)) (is_deferred-old h x v i m o l
    ∙ u) u refl
