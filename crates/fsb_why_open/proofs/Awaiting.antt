-- Rule 18 of replies: the Deferred requests that await one, by the rows.
use Rattle.std.proofs.Common.{ℕ, ◌+◌, ◌-◌, ◌<◌, ◌≤◌, ◌≡◌, Bool, true, false, cond, not, ◌&&◌, ◌||◌, nat_lt, Option, Some, None}
use Rattle.std.proofs.Common.{[], ◌∷◌, ◌++◌, List, length, refl, sym, ap, subst, ◌∙◌, arith, inl, inr, is_some}
use Rattle.std.specs.List.{list_any}
use Rattle.std.specs.Option.{option_and_then}
use Rattle.std.proofs.lemmas.Bool.{and_from, and_parts, both_ways, cases_Bool, false_from_ne_true, lt-ltb, or_cases, or_left, or_right}
use Rattle.fsb_count.specs.Clocks.{any_where}
use Rattle.fsb_count.specs.Options.{is_before, is_some_and}
use Rattle.fsb_count.proofs.Interface.{any_where-at, any_where-found, is_before-parts, nth_where-found}
use Rattle.fsb_encode.specs.declared.request.Request.{Request}
use Rattle.fsb_signal.specs.declared.lines.TheConstants.Lines.{ADS}
use Rattle.fsb_signal.specs.declared.marks.Marks.{Marks}
use Rattle.fsb_signal.specs.declared.sample.Sample.{Sample}
use Rattle.fsb_signal.specs.Samples.{line_at}
use Rattle.fsb_trace.specs.declared.who.Who.{Who}
use Rattle.fsb_trace.specs.At.{Trace, request_at}
use Rattle.fsb_trace.specs.Deferral.{answers, is_answered}
use Rattle.fsb_trace.specs.Flight.{has_ended, is_dropped, is_in_flight, is_live_reply_to, is_reply_to, reply_clock_of}
use Rattle.fsb_trace.specs.Requests.{have_same_id, is_cancelled, is_live, is_reply, live_clock_of, live_count, live_number_of, live_request_of, seen_at}
use Rattle.fsb_trace.specs.Outcome.{is_deferred, response_clock_of}
use Rattle.fsb_trace.specs.Response.{end_of}
use Rattle.fsb_trace.specs.Rules.{awaits_reply, breaks, is_begun_wrongly, is_outstanding_wrong, phase_rules}
use Rattle.fsb_trace.proofs.Interface.{AgreeTo-sym, live_below_count, live_clock_of-number, response_clock_of-stays, snoop_end_of-clock}
use Rattle.fsb_laws.specs.Progress.{response_count}
use Rattle.fsb_laws.proofs.Interface.{deferred_response, has_answer, is_deferred-old, is_live-ads, live_request_of-old, one_more, response_clock_of-old, response_counted}
use Rattle.fsb_owner_table.specs.declared.row.Row.{Row}
use Rattle.fsb_owner_table.specs.Kept.{is_row_closed, is_row_dropped, row_last_clock, rows_of}
use Rattle.fsb_owner_table.specs.RowAfter.{is_row_deferred}
use Rattle.fsb_owner_table.specs.Rows.{reached, reached_by_reply, reply_at, row_at}
use Rattle.fsb_owner_table.proofs.Closed.{left_is}
use Rattle.fsb_owner_table.proofs.KeptRows.{clock_is, dropped_of, last_of}
use Rattle.fsb_owner_table.proofs.Reached.{reached-dead, reached-live}
use Rattle.fsb_owner_table.proofs.RowGoes.{deferred_is, reply_deferred, request_of}
use Rattle.fsb_owner_feed.proofs.FoundRows.{passes}
use Rattle.fsb_reasons.specs.declared.reason.Reason.TheVariants.{ReplyUnawaited}
use Rattle.fsb_reasons.specs.RuleOf.{rule_of}
use Rattle.fsb_why.specs.Explains.{IsReason}
use Rattle.fsb_why_open.specs.Open.{IsFirstClock, is_row_answered, is_row_answering, is_row_in_flight, is_row_reply_to, row_awaits}
use Rattle.fsb_why_open.proofs.InFlight.{dropped_more}
use Rattle.fsb_why_open.proofs.KeptOnes.{any_rows}
use Rattle.fsb_why_open.proofs.Same.{ads_same, dropped_same, found_reply, live_same, no_replies, number_same, reply_below, reply_to_same}
use Rattle.fsb_why_open.proofs.Taking.{line_is, request_of_row}

-- two tests that hold in the same cases
same_bool : (a b : Bool) → (a ≡ true → b ≡ true) → (b ≡ true → a ≡ true) → a ≡ b
same_bool true b f g = sym (f refl)
same_bool false true f g = g refl
same_bool false false f g = refl

-- what a row shows of a request
response_of_row : (h : Trace) (p : ℕ) → (row_at h p).response ≡ reached response_clock_of h p
unfolding row_at
response_of_row h p = refl

reply_of_row : (h : Trace) (p : ℕ) → (row_at h p).reply ≡ reply_at h p
unfolding row_at
reply_of_row h p = refl

cancelled_of_row : (h : Trace) (p : ℕ) → (row_at h p).seen.cancelled ≡ is_cancelled h p
unfolding row_at seen_at
cancelled_of_row h p = refl

dead : (h : Trace) (p : ℕ) → is_cancelled h p ≡ true → is_live h p ≡ false
unfolding is_live
dead h p t = rw t (grind arith)

cancelled : (h : Trace) (p : ℕ) → line_at ADS h p ≡ true → is_live h p ≡ false → is_cancelled h p ≡ true
unfolding is_live
cancelled h p t f = cancelled_by (line_at ADS h p) (is_cancelled h p) t f
  where
    cancelled_by : (a c : Bool) → a ≡ true → (a && not c) ≡ false → c ≡ true
    cancelled_by true true t f = refl
    cancelled_by true false t f = absurd (let no : ⊥ = cc in no)
    cancelled_by false c t f = absurd (let no : ⊥ = cc in no)

-- a cancelled request has no last clock, and a Deferred one without a reply has none
dead_last : (h : Trace) (p c : ℕ) → is_live h p ≡ false → is_before (row_last_clock (row_at h p)) c ≡ false
unfolding is_before is_some_and
dead_last h p c f =
    let plain : is_row_deferred (row_at h p) ≡ false = deferred_is h p ∙ (rw f refl) in
    ap (λ o. is_before o c) (last_of h p ∙ ap (λ k. cond k (reached_by_reply end_of h p) (reached end_of h p)) plain
    ∙ reached-dead end_of h p f)

waiting_last : (h : Trace) (p c : ℕ) → is_row_deferred (row_at h p) ≡ true → reply_at h p ≡ None
    → is_before (row_last_clock (row_at h p)) c ≡ false
unfolding is_before is_some_and reached_by_reply
waiting_last h p c t e =
    ap (λ o. is_before o c) (last_of h p ∙ ap (λ k. cond k (reached_by_reply end_of h p) (reached end_of h p)) t
    ∙ ap (option_and_then (reached end_of h)) e)

none_from : (o : Option ℕ) → is_some o ≡ false → o ≡ None
none_from None e = refl
none_from (Some a) e = absurd (let no : ⊥ = cc in no)

some_from : (o : Option ℕ) → is_some o ≡ true → (r : ℕ) × (o ≡ Some r)
some_from None e = absurd (let no : ⊥ = cc in no)
some_from (Some a) e = (a, refl)

or_first : (a b : Bool) → (a || b) ≡ true → b ≡ false → a ≡ true
or_first true b t f = refl
or_first false b t f = absurd (let no : ⊥ = cc in no)

reply_part : (w : Trace) (i r : ℕ) → is_live_reply_to w i r ≡ true → is_reply_to w i r ≡ true
unfolding is_live_reply_to
reply_part w i r t = (and_parts _ _ t).1

live_part : (w : Trace) (i r : ℕ) → is_live_reply_to w i r ≡ true → is_live w r ≡ true
unfolding is_live_reply_to
live_part w i r t = (and_parts _ _ t).0

reply_asks : (w : Trace) (i r : ℕ) → is_reply_to w i r ≡ true → line_at ADS w r ≡ true
unfolding is_reply_to
reply_asks w i r t = (and_parts _ _ (and_parts _ _ (and_parts _ _ t).0).0).0

neither : (a b : Bool) → (a || b) ≡ false → a ≡ false
neither true b e = absurd (let no : ⊥ = cc in no)
neither false b e = refl

module _ {rows : List Row} {q : ℕ} {who : Option Who} {reply : Option Request} {h : Trace} {x : Sample} (b : IsFirstClock rows q who reply h x) where
  abbrev v : Trace
  v = h ++ x ∷ []

  back : length h - 1 ≡ q
  back = omega (arith, b.last)

  flying : (row : Row) (p : ℕ) → row ≡ row_at h p → is_row_in_flight q row ≡ true → is_row_dropped row q ≡ false
  flying row p e t = neither (is_row_dropped row q) (is_before row.end q) (not_true _ t)
    where
      not_true : (a : Bool) → not a ≡ true → a ≡ false
      not_true true e = absurd (let no : ⊥ = cc in no)
      not_true false e = refl

  answering_open : (row : Row) (p : ℕ) → is_row_answering row q (row_at h p) ≡ true
      → is_row_closed (row_at h p) (length h - 3) ≡ false
  answering_open row p t =
      let a = and_parts (row_at h p).seen.cancelled (is_row_in_flight q (row_at h p) && is_row_reply_to row (row_at h p)) t in
      let f = and_parts (is_row_in_flight q (row_at h p)) (is_row_reply_to row (row_at h p)) a.1 in
      let gone : is_cancelled h p ≡ true = sym (cancelled_of_row h p) ∙ a.0 in
      let kept = flying (row_at h p) p refl f.0 in
      let early : length h - 3 ≤ q = omega (arith, b.last) in
      false_from_ne_true (is_row_closed (row_at h p) (length h - 3)) (λ k.
      elim (or_cases (is_row_dropped (row_at h p) (length h - 3)) (is_before (row_last_clock (row_at h p)) (length h - 3)) k) [
        | inl dropped ↦
            both_ways (is_row_dropped (row_at h p) q) kept (dropped_more (row_at h p) (length h - 3) q early dropped)
        | inr last ↦
            both_ways (is_before (row_last_clock (row_at h p)) (length h - 3)) (dead_last h p (length h - 3) (dead h p gone)) last
      ])

  -- of a live Deferred request
  module _ (p : ℕ) (low : p < q) (live : is_live h p ≡ true) (deferred : is_deferred h (live_number_of h p) ≡ true) where
    abbrev i : ℕ
    i = live_number_of h p

    responded : i < response_count h
    responded = let r = deferred_response h i deferred in response_counted h i r.0 r.1

    own_clock : live_clock_of h i ≡ Some p
    own_clock = live_clock_of-number h p (omega (arith, b.last, low)) live

    own_request : live_request_of h i ≡ request_at h p
    own_request = request_of h i p own_clock

    reply_is : reply_at h p ≡ reply_clock_of h i
    reply_is = reply_deferred h p live deferred

    reply_to_row : (r : ℕ) → line_at ADS h r ≡ true → is_row_reply_to (row_at h p) (row_at h r) ≡ is_reply_to h i r
    unfolding is_reply_to
    reply_to_row r t =
        rw (t, request_of_row h r, request_of_row h p, response_of_row h p, clock_is h r, own_request, reached-live response_clock_of h p live)
        (grind arith)

    flying_is : (r : ℕ) → r < q → is_live h r ≡ false → line_at ADS h r ≡ true
        → is_in_flight v q r ≡ not (is_dropped h q r)
    unfolding is_in_flight has_ended
    flying_is r l f t =
        rw (
          ads_same h x q b.orderly b.last b.asks r (omega (arith, l)),
          t,
          lt-ltb r q l,
          dropped_same h x q b.orderly b.last b.asks r,
          live_same h x q b.orderly b.last b.asks r l,
          f,
        ) (grind arith)

    flying_row : (r : ℕ) → is_live h r ≡ false → is_row_in_flight q (row_at h r) ≡ not (is_dropped h q r)
    unfolding has_ended
    flying_row r f = ap not (left_is (row_at h r) h r q refl) ∙ (rw f (grind arith))

    answered_forth : is_row_answered (rows_of h) q (row_at h p) ≡ true → is_answered v q i ≡ true
    unfolding is_answered answers
    answered_forth t =
        elim (or_cases _ _ t) [
          | inl some ↦
              let s = some_from (reply_clock_of h i) (ap is_some (sym (reply_of_row h p ∙ reply_is)) ∙ some) in
              let f = found_reply h i s.0 s.1 in
              let l = reply_below h x q b.orderly b.last b.asks i s.0 s.1 in
              any_where-at (answers v q i) q s.0 l
              (and_from _ _ (reply_to_same h x q b.orderly b.last b.asks i s.0 responded l ∙ reply_part h i s.0 f.1)
              (or_right _ _ (live_same h x q b.orderly b.last b.asks s.0 l ∙ live_part h i s.0 f.1)))
          | inr any ↦
              let f = any_where-found (passes (is_row_answering (row_at h p) q) h) q
              (sym (ap (λ n. any_where (passes (is_row_answering (row_at h p) q) h) n) back)
              ∙ (sym (any_rows (is_row_answering (row_at h p) q) h (answering_open (row_at h p)) (length h - 1)) ∙ any)) in
              let a = and_parts _ _ f.2 in
              let c = and_parts _ _ a.1 in
              let d = and_parts _ _ c.1 in
              let gone = dead h f.0 (sym (cancelled_of_row h f.0) ∙ c.0) in
              any_where-at (answers v q i) q f.0 f.1
              (and_from _ _ (reply_to_same h x q b.orderly b.last b.asks i f.0 responded f.1 ∙ (sym (reply_to_row f.0 a.0) ∙ d.1))
              (or_left _ _ (flying_is f.0 f.1 gone a.0 ∙ (sym (flying_row f.0 gone) ∙ d.0))))
        ]

    answered_live : (r : ℕ) → r < q → is_reply_to h i r ≡ true → is_live h r ≡ true → is_some (reply_clock_of h i) ≡ true
    unfolding is_live_reply_to
    answered_live r l t k =
        elim (cases_Bool (is_some (reply_clock_of h i))) [
          | inl some ↦ some
          | inr none ↦
              absurd (both_ways _ (no_replies h i (none_from _ none) r (omega (arith, b.last, l))) (and_from _ _ k t))
        ]

    answered_back : is_answered v q i ≡ true → is_row_answered (rows_of h) q (row_at h p) ≡ true
    unfolding is_answered answers
    answered_back t =
        let f = any_where-found (answers v q i) q t in
        let a = and_parts _ _ f.2 in
        let to = sym (reply_to_same h x q b.orderly b.last b.asks i f.0 responded f.1) ∙ a.0 in
        let asks = reply_asks h i f.0 to in
        elim (cases_Bool (is_live h f.0)) [
          | inl k ↦
              or_left _ _ (ap is_some (reply_of_row h p ∙ reply_is) ∙ answered_live f.0 f.1 to k)
          | inr k ↦
              or_right _ _
              (any_rows (is_row_answering (row_at h p) q) h (answering_open (row_at h p)) (length h - 1)
              ∙ (ap (λ n. any_where (passes (is_row_answering (row_at h p) q) h) n) back
              ∙ any_where-at (passes (is_row_answering (row_at h p) q) h) q f.0 f.1
              (and_from _ _ asks (and_from _ _ (cancelled_of_row h f.0 ∙ cancelled h f.0 asks k)
              (and_from _ _ (flying_row f.0 k ∙ (sym (flying_is f.0 f.1 k asks)
              ∙ or_first _ _ a.1 (live_same h x q b.orderly b.last b.asks f.0 f.1 ∙ k)))
              (reply_to_row f.0 asks ∙ to))))))
        ]

    pub answered_is : is_row_answered (rows_of h) q (row_at h p) ≡ is_answered v q i
    answered_is = same_bool _ _ answered_forth answered_back

    -- it awaits the reply in the rows as in the trace
    pub awaits_is : row_awaits rows q reply (row_at h p) ≡ awaits_reply v q i
    unfolding awaits_reply
    awaits_is =
        rw (
          b.kept,
          answered_is,
          b.decoded,
          deferred_is h p,
          live,
          deferred,
          request_of_row h p,
          response_of_row h p,
          reached-live response_clock_of h p live,
          is_deferred-old h x v i (one_more h x) b.orderly responded,
          live_request_of-old h x v i (one_more h x) b.orderly responded,
          own_request,
          response_clock_of-old h x v i (one_more h x) responded,
        )
        (grind arith)

  awaiting_open : (p : ℕ) → row_awaits rows q reply (row_at h p) ≡ true → is_row_closed (row_at h p) (length h - 3) ≡ false
  awaiting_open p t =
      let rest : Bool = is_before (row_at h p).response q && not (is_row_answered rows q (row_at h p)) in
      let a = and_parts (is_row_deferred (row_at h p)) (have_same_id (row_at h p).seen.request reply && rest) t in
      let k = and_parts (is_live h p) (is_deferred h (live_number_of h p)) (sym (deferred_is h p) ∙ a.0) in
      let c = and_parts (have_same_id (row_at h p).seen.request reply) rest a.1 in
      let d = and_parts (is_before (row_at h p).response q) (not (is_row_answered rows q (row_at h p))) c.1 in
      let none : is_some (row_at h p).reply ≡ false =
      neither (is_some (row_at h p).reply) (list_any (is_row_answering (row_at h p) q) rows)
      (not_true (is_row_answered rows q (row_at h p)) d.1) in
      false_from_ne_true (is_row_closed (row_at h p) (length h - 3)) (λ closed.
      elim (or_cases (is_row_dropped (row_at h p) (length h - 3)) (is_before (row_last_clock (row_at h p)) (length h - 3)) closed) [
        | inl dropped ↦
            let gone = (and_parts (is_cancelled h p) (nat_lt (p + 3) (length h - 3)) (sym (dropped_of h p (length h - 3)) ∙ dropped)).0 in
            both_ways (is_live h p) (dead h p gone) k.0
        | inr last ↦
            both_ways (is_before (row_last_clock (row_at h p)) (length h - 3))
            (waiting_last h p (length h - 3) a.0 (sym (reply_of_row h p) ∙ none_from (row_at h p).reply none)) last
      ])
    where
      not_true : (a : Bool) → not a ≡ true → a ≡ false
      not_true true e = absurd (let no : ⊥ = cc in no)
      not_true false e = refl

  awaits_forth : list_any (row_awaits rows q reply) rows ≡ true → any_where (awaits_reply v q) (live_count v) ≡ true
  awaits_forth t =
      let f = any_where-found (passes (row_awaits rows q reply) h) q
      (sym (ap (λ n. any_where (passes (row_awaits rows q reply) h) n) back)
      ∙ (sym (any_rows (row_awaits rows q reply) h awaiting_open (length h - 1))
      ∙ (sym (ap (list_any (row_awaits rows q reply)) b.kept) ∙ t))) in
      let p : ℕ = f.0 in
      let low : p < q = f.1 in
      let a = and_parts (line_at ADS h p) (row_awaits rows q reply (row_at h p)) f.2 in
      let c = and_parts (is_row_deferred (row_at h p)) (have_same_id (row_at h p).seen.request reply
      && (is_before (row_at h p).response q && not (is_row_answered rows q (row_at h p)))) a.1 in
      let k = and_parts (is_live h f.0) (is_deferred h (live_number_of h f.0)) (sym (deferred_is h f.0) ∙ c.0) in
      let within : p < length v = omega (arith, b.last, low, (one_more h x).size) in
      let clock = live_clock_of-number v f.0 within
      (live_same h x q b.orderly b.last b.asks f.0 f.1 ∙ k.0) in
      let number = number_same h x q b.orderly b.last b.asks f.0 (omega (arith, f.1)) a.0 in
      any_where-at (awaits_reply v q) (live_count v) (live_number_of h f.0)
      (live_below_count v (live_number_of h f.0) f.0 (subst (λ j. live_clock_of v j ≡ Some f.0) number clock))
      (sym (awaits_is f.0 f.1 k.0 k.1) ∙ a.1)

  -- a request that responded before the reply began is in the rows
  awaiting_row : (i t : ℕ) → response_clock_of h i ≡ Some t → t < q → is_deferred h i ≡ true
      → (p : ℕ) × (p < q) × (is_live h p ≡ true) × (live_number_of h p ≡ i)
  unfolding live_clock_of live_number_of
  awaiting_row i t e l d =
      let a = has_answer h t i (b.orderly.timely i t e) in
      let c = snoop_end_of-clock h i a.snoop a.is_snoop in
      let f = nth_where-found (is_live h) i (length h) c.clock c.is_clock in
      (c.clock, omega (arith, c.above, a.before, l), f.1, f.2)

  awaits_back : any_where (awaits_reply v q) (live_count v) ≡ true → list_any (row_awaits rows q reply) rows ≡ true
  unfolding awaits_reply
  awaits_back t =
      let f = any_where-found (awaits_reply v q) (live_count v) t in
      let a = and_parts _ _ f.2 in
      let c = and_parts _ _ a.0 in
      let d = and_parts _ _ c.0 in
      let r = is_before-parts (response_clock_of v f.0) q c.1 in
      let old = response_clock_of-stays (length h) v h f.0 r.0 (AgreeTo-sym (length h) h v (one_more h x).agree) (omega (arith, b.last, r.2)) r.1 in
      let counted = response_counted h f.0 r.0 old in
      let deferred = sym (is_deferred-old h x v f.0 (one_more h x) b.orderly counted) ∙ d.0 in
      let p = awaiting_row f.0 r.0 old r.2 deferred in
      let here = subst (λ j. is_deferred h j ≡ true) (sym p.3) deferred in
      let passed = awaits_is p.0 p.1 p.2 here ∙ subst (λ j. awaits_reply v q j ≡ true) (sym p.3) f.2 in
      ap (list_any (row_awaits rows q reply)) b.kept
      ∙ (any_rows (row_awaits rows q reply) h awaiting_open (length h - 1)
      ∙ (ap (λ n. any_where (passes (row_awaits rows q reply) h) n) back
      ∙ any_where-at (passes (row_awaits rows q reply) h) q p.0 p.1 (and_from _ _ (is_live-ads h p.0 p.2) passed)))

  pub awaited_is : list_any (row_awaits rows q reply) rows ≡ any_where (awaits_reply v q) (live_count v)
  awaited_is = same_bool _ _ awaits_forth awaits_back

  pub reply_kept : (m : Marks) → is_reply reply ≡ true → list_any (row_awaits rows q reply) rows ≡ true
      → breaks m v (q + 1) 18 ≡ false
  unfolding breaks phase_rules is_outstanding_wrong is_begun_wrongly
  reply_kept m t any =
      let at : q + 1 - 1 ≡ q = omega arith in
      rw (at, sym b.decoded, t, sym awaited_is ∙ any) (grind arith)

  pub unawaited_is : (m : Marks) (r : Request) → is_reply reply ≡ true → reply ≡ Some r
      → list_any (row_awaits rows q reply) rows ≡ false → IsReason m v (q + 1) 18 (ReplyUnawaited r.did)
  unfolding rule_of
  unawaited_is m r t some none =
      let at : q + 1 - 1 ≡ q = omega arith in
      record {
        rule = refl;
        holds = rw at (
          line_is b 0,
          ap is_reply (sym b.decoded) ∙ t,
          (r, sym b.decoded ∙ some, refl),
          sym awaited_is ∙ none,
        );
      }

pub no_reply_none : (r : Option Request) → r ≡ None → is_reply r ≡ false
unfolding is_reply is_some_and
no_reply_none r e = rw e refl
