-- A row, one sample on.
use Rattle.std.proofs.Common.{ℕ, ◌+◌, ◌-◌, ◌<◌, ◌≤◌, ◌≡◌, Bool, true, false, cond, not, ◌&&◌, ◌||◌, Option, Some, None}
use Rattle.std.proofs.Common.{length, refl, sym, ap, ◌∙◌, arith, inl, inr, subst}
use Rattle.std.specs.Option.{option_map, option_and_then}
use Rattle.std.proofs.lemmas.Bool.{and_parts, and_right, both_ways, cases_Bool, cases_lt, eq-eqb, false_from_ne_true}
use Rattle.fsb_count.specs.Options.{is_at, is_before, is_some_and}
use Rattle.fsb_count.proofs.Interface.{is_at-some}
use Rattle.fsb_signal.specs.declared.lines.Lines.{Lines}
use Rattle.fsb_signal.specs.declared.lines.TheConstants.Lines.{ADS, DEFER, HIT, HITM}
use Rattle.fsb_signal.specs.declared.sample.Sample.{Sample}
use Rattle.fsb_signal.specs.Samples.{has_line, line_at, response_of}
use Rattle.fsb_trace.specs.At.{Trace, request_at, line_back}
use Rattle.fsb_trace.specs.Requests.{is_cancelled, is_live, is_reply, have_same_id, live_count, line_of, live_clock_of, live_number_of, live_request_of, seen_at}
use Rattle.fsb_trace.specs.Winner.{winner_at}
use Rattle.fsb_trace.specs.declared.who.Who.{Who}
use Rattle.fsb_trace.specs.declared.who.Who.TheVariants.{Symmetric, Priority}
use Rattle.std.specs.Prelude.{slice_get, ◌/◌, nat_lt}
use Rattle.fsb_trace.specs.Snoop.{line_at_snoop_end, snoop_end_of}
use Rattle.fsb_trace.specs.Outcome.{is_deferral, is_deferred, live_response_of, outcome_of, response_clock_of, told_by, told_with}
use Rattle.fsb_trace.specs.Response.{end_of}
use Rattle.fsb_trace.specs.Flight.{is_live_reply_to, is_reply_to, reply_clock_of}
use Rattle.fsb_trace.proofs.Interface.{live_clock_of-number, live_response_of-is, live_response_of-there, request_at-agree, winner_at-agree}
use Rattle.fsb_trace.specs.declared.seen.Seen.{Seen}
use Rattle.fsb_trace.specs.declared.outcome.Outcome.{Outcome}
use Rattle.fsb_laws.specs.OneMore.{OneMore, cancels}
use Rattle.fsb_laws.specs.Orderly.{Orderly, Spaced}
use Rattle.fsb_laws.specs.Progress.{response_count}
use Rattle.std.proofs.lemmas.Option.{cond_some}
use Rattle.std.proofs.lemmas.Bool.{le-leb}
use Rattle.fsb_trace.proofs.Interface.{AgreeTo-sym, snoop_end_of-stays}
use Rattle.fsb_laws.proofs.Interface.{deferred_response, is_deferred-old, is_live-ads, live_of_reply, live_request_of-old, newly_deferred}
use Rattle.fsb_laws.proofs.Interface.{reply_clock_of-more, response_clock_of-old, response_code_at-new, response_counted}
use Rattle.fsb_laws.proofs.ResponseSteps.{outcome_of-old}
use Rattle.fsb_laws.proofs.Interface.{has_answer, is_cancelled-late, is_live-more, line_at-new, line_at-old, live_number_of-more}
use Rattle.fsb_owner_table.specs.declared.happened.Happened.{Happened}
use Rattle.fsb_owner_table.specs.declared.row.Row.{Row}
use Rattle.fsb_owner_table.specs.declared.row.Snooped.{Snooped}
use Rattle.fsb_owner_table.specs.Rows.{outcome_at, reached, reached_by_reply, reply_at, row_at, snoop_at, snooped_by}
use Rattle.fsb_owner_table.specs.Happened.{begun_row, Goes, reaches}
use Rattle.fsb_owner_table.specs.RowAfter.{answer_of, clock_after, is_row_answered_by, is_row_deferred, reply_after, reply_clock_after, row_after, row_told_by, seen_after, snooped_now}
use Rattle.fsb_owner_table.proofs.Reached.{end_clocks, reached-dead, reached-forth, reached-goes, reached-live, reached-parts, response_clocks, snoop_clocks, AreClocks}

-- the line, by the winner and the sample
abbrev line_by : Option Who → Option Sample → Option ℕ
line_by winner sample =
    elim winner [
      | Some who ↦ elim who [ Symmetric a ↦ option_map (λ s. s.addr.bits / 4) sample | Priority ↦ None ]
      | None ↦ None
    ]

line_of-is : (w : Trace) (q : ℕ) → line_of w q ≡ line_by (winner_at w q) (slice_get w q)
unfolding line_of
line_of-is w q = refl

pub request_of : (w : Trace) (i q : ℕ) → live_clock_of w i ≡ Some q → live_request_of w i ≡ request_at w q
unfolding live_request_of
request_of w i q e = rw e refl

outcome_live : (w : Trace) (q : ℕ) → is_live w q ≡ true → outcome_at w q ≡ outcome_of w (live_number_of w q)
unfolding outcome_at
outcome_live w q t = rw t refl

both_none : {A : Type 0} (b : Bool) → cond {A = Option A} b None None ≡ None
both_none true = refl
both_none false = refl

untold : (w : Trace) (i : ℕ) → response_clock_of w i ≡ None → outcome_of w i ≡ None
unfolding outcome_of live_response_of
untold w i e = rw (e, both_none {A = ℕ} (nat_lt i (live_count w))) refl

-- a request without its response has no outcome
pub no_outcome : (w : Trace) (q : ℕ) → reached response_clock_of w q ≡ None → outcome_at w q ≡ None
unfolding outcome_at
no_outcome w q e =
    elim (cases_Bool (is_live w q)) [
      | inl t ↦ rw t (untold w _ (sym (reached-live response_clock_of w q t) ∙ e))
      | inr f ↦ rw f refl
    ]

-- whether a request is Deferred, by its row

pub deferred_is : (w : Trace) (q : ℕ) → is_row_deferred (row_at w q) ≡ (is_live w q && is_deferred w (live_number_of w q))
unfolding row_at outcome_at is_deferred is_some_and
deferred_is w q =
    elim (cases_Bool (is_live w q)) [
      | inl t ↦ rw t refl
      | inr f ↦ rw f refl
    ]

pub reply_deferred : (w : Trace) (q : ℕ) → is_live w q ≡ true → is_deferred w (live_number_of w q) ≡ true
    → reply_at w q ≡ reply_clock_of w (live_number_of w q)
unfolding reply_at
reply_deferred w q t d = rw (t, d) refl

pub reply_plain : (w : Trace) (q : ℕ) → (is_live w q && is_deferred w (live_number_of w q)) ≡ false → reply_at w q ≡ None
unfolding reply_at
reply_plain w q f = rw f refl

no_answer : (row : Row) (o : Option Row) → is_row_deferred row ≡ false → answer_of row o ≡ None
no_answer row None f = refl
no_answer row (Some begun) f = rw f refl

answer_clock : (row : Row) (v : Trace) (n p : ℕ) → answer_of row (begun_row v n) ≡ Some p → p ≡ n - 1
unfolding begun_row row_at seen_at
answer_clock row v n p e =
    elim (cases_Bool (line_back ADS v n 1)) [
      | inl t ↦ sym (cond_some _ (n - 1) p (rw t at e)).1
      | inr f ↦ absurd (let none = rw f at e in let no : ⊥ = cc in no)
    ]

pub second_false : (a b : Bool) → (a && b) ≡ false → a ≡ true → b ≡ false
second_false true b f t = f
second_false false b f t = absurd (let no : ⊥ = cc in no)

same_tests : (a b c : Bool) → (true && (a && (b && c))) ≡ (((true && a) && b) && c)
same_tests a b c = grind arith

-- two rows are the same where all of them is
rows_same : {s t : Seen} {l m : Option ℕ} {a b : Option Snooped} {c d : Option ℕ} {e f : Option Outcome} {i j : Option ℕ}
    {k n : Option ℕ} {o p : Option ℕ} {q r : Option ℕ} → s ≡ t → l ≡ m → a ≡ b → c ≡ d → e ≡ f → i ≡ j → k ≡ n → o ≡ p
    → q ≡ r → ◌≡◌ {A = Row}
    (record { seen = s; line = l; snoop = a; response = c; outcome = e; end = i; reply = k; reply_snoop = o; reply_end = q })
    (record { seen = t; line = m; snoop = b; response = d; outcome = f; end = j; reply = n; reply_snoop = p; reply_end = r })
rows_same e1 e2 e3 e4 e5 e6 e7 e8 e9 = rw (e1, e2, e3, e4, e5, e6, e7, e8, e9) refl

not_both : (c d k : Bool) → not c ≡ (not d && not k) → c ≡ (d || k)
not_both true true k e = refl
not_both true false true e = refl
not_both true false false e = absurd (let no : ⊥ = cc in no)
not_both false true k e = absurd (let no : ⊥ = cc in no)
not_both false false true e = absurd (let no : ⊥ = cc in no)
not_both false false false e = refl

module _ {h : Trace} {x : Sample} {v : Trace} {happened : Happened} {q : ℕ} {row : Row} (g : Goes h x v happened q row) where
  more : OneMore h x v
  more = g.happens.more

  less : q < length h
  less = omega (arith, g.decoded)

  pub cancelled_goes : is_cancelled v q ≡ (is_cancelled h q || cancels x (length h) q)
  unfolding is_live
  cancelled_goes =
      let asks : line_at ADS v q ≡ true = line_at-old ADS h x v q more less ∙ g.asks in
      not_both _ _ _ (let e = is_live-more h x v q more less in rw (asks, g.asks) at e)

  pub seen_goes : seen_at v q ≡ record {
    clock = q;
    who = winner_at h q;
    request = request_at h q;
    cancelled = is_cancelled h q || cancels x (length h) q;
  }
  unfolding seen_at
  seen_goes =
      rw (
        winner_at-agree (length h) h v q more.agree (omega (arith, less)),
        request_at-agree (length h) h v q more.agree g.decoded,
        cancelled_goes,
      ) refl

  pub line_goes : line_of v q ≡ line_of h q
  line_goes =
      line_of-is v q
      ∙ rw (sym (winner_at-agree (length h) h v q more.agree (omega (arith, less))), sym (more.agree.same q less)) refl
      ∙ sym (line_of-is h q)

  pub response_goes : reached response_clock_of v q
      ≡ cond (reaches response_clock_of v (length h) q) (Some (length h)) (reached response_clock_of h q)
  response_goes =
      reached-goes (response_clocks more g.happens.orderly g.happens.after) more g.happens.orderly.spaced q g.asks less

  pub end_goes : reached end_of v q
      ≡ cond (reaches end_of v (length h) q) (Some (length h)) (reached end_of h q)
  end_goes =
      reached-goes (end_clocks more g.happens.orderly g.happens.after) more g.happens.orderly.spaced q g.asks less

  snoop_end_goes : reached snoop_end_of v q
      ≡ cond (reaches snoop_end_of v (length h) q) (Some (length h)) (reached snoop_end_of h q)
  snoop_end_goes =
      reached-goes (snoop_clocks more g.happens.orderly g.happens.after) more g.happens.orderly.spaced q g.asks less

  old_snoop : (o : Option ℕ) → reached snoop_end_of h q ≡ o → option_map (snooped_by v) o ≡ option_map (snooped_by h) o
  unfolding snooped_by
  old_snoop None e = refl
  old_snoop (Some s) e =
      let l : s < length h =
      (snoop_clocks more g.happens.orderly g.happens.after).inside _ s (reached-parts snoop_end_of h q s e).1 in
      rw (
        line_at-old HIT h x v s more l,
        line_at-old HITM h x v s more l,
        line_at-old DEFER h x v s more l,
      ) refl

  new_snoop : snooped_by v (length h) ≡ snooped_now (length h) x
  unfolding snooped_by
  new_snoop = rw (line_at-new HIT h x v more, line_at-new HITM h x v more, line_at-new DEFER h x v more) refl

  snoop_cases : (b : Bool) → reaches snoop_end_of v (length h) q ≡ b
      → snoop_at v q ≡ cond b (Some (snooped_now (length h) x)) (snoop_at h q)
  unfolding snoop_at
  snoop_cases true e =
      rw (snoop_end_goes, e) (ap (λ s. Some s) new_snoop)
  snoop_cases false e =
      rw (snoop_end_goes, e) (old_snoop (reached snoop_end_of h q) refl)

  pub snoop_goes : snoop_at v q
      ≡ cond (reaches snoop_end_of v (length h) q) (Some (snooped_now (length h) x)) (snoop_at h q)
  snoop_goes = snoop_cases _ refl

  -- the number of the request

  pub number : live_number_of h q ≡ live_number_of v q
  number = live_number_of-more h x v q more g.happens.orderly.spaced less g.asks

  live_before : is_live v q ≡ true → is_live h q ≡ true
  live_before t = (and_parts _ _ (sym (is_live-more h x v q more less) ∙ t)).0

  -- its outcome

  outcome_told : is_live h q ≡ true → is_live v q ≡ true → response_clock_of v (live_number_of v q) ≡ Some (length h)
      → Some (row_told_by (row_at h q) (response_of x)) ≡ outcome_of v (live_number_of v q)
  unfolding outcome_of told_by row_at seen_at snoop_at snooped_by line_at_snoop_end is_some_and
  outcome_told lh lv e =
      let j : ℕ = live_number_of v q in
      let a = has_answer v (length h) j (g.happens.after.timely j (length h) e) in
      let s : ℕ = a.snoop in
      let l : s < length h = omega (arith, a.before) in
      let old : snoop_end_of h j ≡ Some s =
      snoop_end_of-stays (length h) v h j s (AgreeTo-sym (length h) h v more.agree) l a.is_snoop in
      let kept : reached snoop_end_of h q ≡ Some s =
      reached-live snoop_end_of h q lh ∙ ap (snoop_end_of h) number ∙ old in
      let asked : live_request_of v j ≡ request_at h q =
      request_of v j q (live_clock_of-number v q (omega (arith, less, more.size)) lv)
      ∙ sym (request_at-agree (length h) h v q more.agree g.decoded) in
      rw (
        kept,
        live_response_of-there v j s a.is_snoop,
        e,
        response_code_at-new h x v more,
        a.is_snoop,
        asked,
        line_at-old HITM h x v s more l,
      ) refl

  outcome_cases : (b : Bool) → reaches response_clock_of v (length h) q ≡ b
      → cond b (Some (row_told_by (row_at h q) (response_of x))) (outcome_at h q) ≡ outcome_at v q
  unfolding reaches
  outcome_cases true e =
      let p = reached-parts response_clock_of v q (length h) (is_at-some _ _ e) in
      outcome_told (live_before p.0) p.0 p.1 ∙ sym (outcome_live v q p.0)
  outcome_cases false e =
      outcome_stays (reached response_clock_of h q) refl (response_goes ∙ rw e refl)
    where
      outcome_stays : (o : Option ℕ) → reached response_clock_of h q ≡ o → reached response_clock_of v q ≡ reached response_clock_of h q
          → outcome_at h q ≡ outcome_at v q
      outcome_stays None f k = no_outcome h q f ∙ sym (no_outcome v q (k ∙ f))
      outcome_stays (Some r) f k =
          let old = reached-parts response_clock_of h q r f in
          let new = reached-parts response_clock_of v q r (k ∙ f) in
          outcome_live h q old.0
          ∙ sym (outcome_of-old h x v _ more g.happens.orderly (response_counted h _ r old.1))
          ∙ ap (outcome_of v) number ∙ sym (outcome_live v q new.0)

  -- its reply

  answers_back : line_back ADS v (length h) 1 ≡ line_at ADS v (length h - 1)
  unfolding line_back
  answers_back = rw (le-leb 1 (length h) (omega (arith, g.decoded))) refl

  not_asked : (i : ℕ) → line_at ADS v (length h - 1) ≡ false → is_live_reply_to v i (length h - 1) ≡ false
  unfolding is_live_reply_to is_live
  not_asked i f = rw f refl

  answered : (i : ℕ) → live_number_of h q ≡ i → is_live h q ≡ true → is_deferred h i ≡ true → i < response_count h
      → line_at ADS v (length h - 1) ≡ true
      → is_live_reply_to v i (length h - 1) ≡ is_row_answered_by (row_at h q) (row_at v (length h - 1))
  unfolding is_live_reply_to is_reply_to is_live row_at seen_at
  answered i number_is live deferred counted t =
      let size : length v ≡ length h + 1 = more.size in
      let asked : live_request_of v i ≡ request_at h q =
      live_request_of-old h x v i more g.happens.orderly counted
      ∙ request_of h i q (ap (λ k. live_clock_of h k) (sym number_is) ∙ live_clock_of-number h q less live) in
      let told : response_clock_of v i ≡ reached response_clock_of h q =
      response_clock_of-old h x v i more counted
      ∙ ap (response_clock_of h) (sym number_is) ∙ sym (reached-live response_clock_of h q live) in
      let told_deferred : is_some_and (outcome_at h q) is_deferral ≡ true =
      deferred_is h q ∙ (rw (live, number_is, deferred) refl) in
      rw (t, is_cancelled-late v (length h - 1) (omega (arith, size, g.decoded)), asked, told, told_deferred)
      (sym (same_tests (is_reply (request_at v (length h - 1))) (have_same_id (request_at v (length h - 1)) (request_at h q))
      (is_before (reached response_clock_of h q) (length h - 1))))

  answer_there : cond (is_row_answered_by (row_at h q) (row_at v (length h - 1))) (Some (length h - 1)) None
      ≡ answer_of (row_at h q) (Some (row_at v (length h - 1)))
  unfolding row_at seen_at
  answer_there = refl

  is_answer : (i : ℕ) → live_number_of h q ≡ i → is_live h q ≡ true → is_deferred h i ≡ true → i < response_count h
      → cond (is_live_reply_to v i (length h - 1)) (Some (length h - 1)) None ≡ answer_of (row_at h q) (begun_row v (length h))
  unfolding begun_row
  is_answer i number_is live deferred counted =
      elim (cases_Bool (line_at ADS v (length h - 1))) [
        | inr f ↦ rw (answers_back, f, not_asked i f) refl
        | inl t ↦
            rw (answers_back, t)
            (ap (λ b. cond b (Some (length h - 1)) None) (answered i number_is live deferred counted t) ∙ answer_there)
      ]

  reply_kept : (i : ℕ) (o : Option ℕ) → live_number_of h q ≡ i → is_live h q ≡ true → is_deferred h i ≡ true
      → i < response_count h → reply_clock_of h i ≡ o
      → reply_after (row_at h q) happened o ≡ reply_clock_of v i
  reply_kept i None number_is live deferred counted e =
      ap (answer_of (row_at h q)) g.happens.begun
      ∙ sym (is_answer i number_is live deferred counted)
      ∙ sym (rw e at (reply_clock_of-more h x v i more g.happens.orderly counted (omega (arith, g.decoded))))
  reply_kept i (Some p) number_is live deferred counted e =
      rw (g.happens.cancelled p)
      (sym (rw e at (reply_clock_of-more h x v i more g.happens.orderly counted (omega (arith, g.decoded)))))

  -- where it was Deferred before
  reply_old : is_live h q ≡ true → is_deferred h (live_number_of h q) ≡ true
      → reply_after (row_at h q) happened (reply_at h q) ≡ reply_at v q
  reply_old live deferred =
      let i : ℕ = live_number_of h q in
      let p = deferred_response h i deferred in
      let counted = response_counted h i p.0 p.1 in
      let there : reached response_clock_of h q ≡ Some p.0 = reached-live response_clock_of h q live ∙ p.1 in
      let still = reached-parts response_clock_of v q p.0
      (reached-forth (response_clocks more g.happens.orderly g.happens.after) more g.happens.orderly.spaced q g.asks less p.0 there) in
      let now : is_deferred v (live_number_of v q) ≡ true =
      ap (is_deferred v) (sym number) ∙ is_deferred-old h x v i more g.happens.orderly counted ∙ deferred in
      ap (reply_after (row_at h q) happened) (reply_deferred h q live deferred)
      ∙ reply_kept i (reply_clock_of h i) refl live deferred counted refl
      ∙ ap (reply_clock_of v) number
      ∙ sym (reply_deferred v q still.0 now)

  -- where it was not
  reply_fresh : (is_live h q && is_deferred h (live_number_of h q)) ≡ false → reply_at v q ≡ None
  reply_fresh f =
      elim (cases_Bool (is_live v q && is_deferred v (live_number_of v q))) [
        | inr k ↦ reply_plain v q k
        | inl t ↦
            let p = and_parts _ _ t in
            let i : ℕ = live_number_of h q in
            let not_yet : is_deferred h i ≡ false = second_false _ _ f (live_before p.0) in
            let now : is_deferred v i ≡ true = ap (is_deferred v) number ∙ p.1 in
            reply_deferred v q p.0 p.1 ∙ ap (reply_clock_of v) (sym number)
            ∙ (newly_deferred h x v i more g.happens.orderly not_yet now).reply
      ]

  pub reply_goes : reply_after (row_at h q) happened (reply_at h q) ≡ reply_at v q
  reply_goes =
      elim (cases_Bool (is_live h q && is_deferred h (live_number_of h q))) [
        | inl t ↦ let p = and_parts _ _ t in reply_old p.0 p.1
        | inr f ↦
            ap (reply_after (row_at h q) happened) (reply_plain h q f)
            ∙ no_answer (row_at h q) happened.begun (deferred_is h q ∙ f) ∙ sym (reply_fresh f)
      ]

  -- what is reached of its reply

  pub of_live_reply : (p : ℕ) → reply_at h q ≡ Some p → (is_live h p ≡ true) × (p < length h)
  of_live_reply p e =
      elim (cases_Bool (is_live h q && is_deferred h (live_number_of h q))) [
        | inl t ↦
            let k = and_parts _ _ t in
            live_of_reply h (live_number_of h q) p (sym (reply_deferred h q k.0 k.1) ∙ e)
        | inr f ↦ absurd (let none = reply_plain h q f in let no : ⊥ = cc in no)
      ]

  module _ (f : Trace → ℕ → Option ℕ) (clocks : AreClocks f h v) where
    reply_waits : (o : Option ℕ) → reply_at v q ≡ o → ((p : ℕ) → o ≡ Some p → p ≡ length h - 1)
        → None ≡ option_and_then (reached f v) o
    reply_waits None e begun = refl
    reply_waits (Some p) e begun = sym (too_late (reached f v p) refl)
      where
        too_late : (t : Option ℕ) → reached f v p ≡ t → reached f v p ≡ None
        too_late None k = k
        too_late (Some t) k =
            let parts = reached-parts f v p t k in
            let size : length v ≡ length h + 1 = more.size in
            let at : p ≡ length h - 1 = begun p refl in
            absurd (omega (
              arith,
              at,
              size,
              g.decoded,
              clocks.late p t (omega (arith, at, size, g.decoded)) parts.0 parts.1,
              clocks.within _ t parts.1,
            ))

    reply_moves : (p : ℕ) → reply_at h q ≡ Some p
        → cond (reaches f v (length h) p) (Some (length h)) (reached f h p) ≡ reached f v p
    reply_moves p e =
        let k = of_live_reply p e in
        sym (reached-goes clocks more g.happens.orderly.spaced p (is_live-ads h p k.0) k.1)

    reply_stays : (p : ℕ) → reply_at h q ≡ Some p → (b : Bool) → cancels x (length h) p ≡ b
        → reached f v p ≡ option_and_then (reached f v) (cond b None (Some p))
    reply_stays p e false c = refl
    reply_stays p e true c =
        let k = of_live_reply p e in
        reached-dead f v p (is_live-more h x v p more k.1 ∙ (rw c (and_right _ _ refl)))

    reply_clock_cases : (event : Option ℕ) → ((p : ℕ) → is_at event p ≡ reaches f v (length h) p) → (o : Option ℕ)
        → reply_at h q ≡ o
        → reply_clock_after event o (length h) (option_and_then (reached f h) o) ≡ option_and_then (reached f v) (reply_at v q)
    reply_clock_cases event says None e =
        reply_waits (reply_at v q) refl (λ p k.
        answer_clock (row_at h q) v (length h) p
        (ap (answer_of (row_at h q)) (sym g.happens.begun)
        ∙ ap (reply_after (row_at h q) happened) (sym e) ∙ reply_goes ∙ k))
    reply_clock_cases event says (Some p) e =
        rw (says p) (reply_moves p e)
        ∙ reply_stays p e (cancels x (length h) p) refl
        ∙ ap (option_and_then (reached f v))
        (rw (sym (g.happens.cancelled p)) refl ∙ ap (reply_after (row_at h q) happened) (sym e) ∙ reply_goes)

    pub reply_clock_goes : (event : Option ℕ) → ((p : ℕ) → is_at event p ≡ reaches f v (length h) p)
        → reply_clock_after event (reply_at h q) (length h) (reached_by_reply f h q) ≡ reached_by_reply f v q
    unfolding reached_by_reply
    reply_clock_goes event says = reply_clock_cases event says (reply_at h q) refl

  -- all of it

  seen_same : seen_after (row_at h q) happened ≡ seen_at v q
  unfolding row_at seen_at
  seen_same = rw (g.happens.cancelled q) (sym seen_goes)

  snoop_same : cond (is_at happened.snooped q) (Some (snooped_now happened.clock x)) (snoop_at h q) ≡ snoop_at v q
  snoop_same = rw (g.happens.snooped q, g.happens.clock) (sym snoop_goes)

  response_same : clock_after happened.answered q happened.clock (reached response_clock_of h q) ≡ reached response_clock_of v q
  response_same = rw (g.happens.answered q, g.happens.clock) (sym response_goes)

  outcome_same : cond (is_at happened.answered q) (Some (row_told_by (row_at h q) (response_of x))) (outcome_at h q)
      ≡ outcome_at v q
  outcome_same = rw (g.happens.answered q) (outcome_cases _ refl)

  end_same : clock_after happened.ended q happened.clock (reached end_of h q) ≡ reached end_of v q
  end_same = rw (g.happens.ended q, g.happens.clock) (sym end_goes)

  reply_snoop_same : reply_clock_after happened.snooped (reply_at h q) happened.clock (reached_by_reply snoop_end_of h q)
      ≡ reached_by_reply snoop_end_of v q
  reply_snoop_same =
      rw (g.happens.clock)
      (reply_clock_goes snoop_end_of (snoop_clocks more g.happens.orderly g.happens.after) happened.snooped g.happens.snooped)

  reply_end_same : reply_clock_after happened.ended (reply_at h q) happened.clock (reached_by_reply end_of h q)
      ≡ reached_by_reply end_of v q
  reply_end_same =
      rw (g.happens.clock)
      (reply_clock_goes end_of (end_clocks more g.happens.orderly g.happens.after) happened.ended g.happens.ended)

  pub row_moves : row_after (row_at h q) happened x ≡ row_at v q
  unfolding row_after row_at seen_at
  row_moves =
      rows_same seen_same (sym line_goes) snoop_same response_same outcome_same end_same reply_goes reply_snoop_same
      reply_end_same

pub row_goes : (h : Trace) (x : Sample) (v : Trace) (happened : Happened) (q : ℕ) (row : Row) → Goes h x v happened q row
    → row_after row happened x ≡ row_at v q
row_goes h x v happened q row g = rw (g.is_row) (row_moves g)
