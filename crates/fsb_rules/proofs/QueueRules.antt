-- The rules of snoops, responses, targets and data, with a new sample.
use Rattle.std.proofs.Common.{ℕ, ◌+◌, ◌<◌, ◌≡◌, Bool, true, false, ◌&&◌, ◌||◌, Option, Some, None, [], ◌∷◌, ◌++◌}
use Rattle.std.proofs.Common.{length}
use Rattle.std.proofs.Common.{refl, sym, ap, ◌∙◌, arith, inl, inr, subst, cond, not, nat_le, is_some, zero, suc, nat_lt}
use Rattle.std.proofs.lemmas.Bool.{cases_lt, and_parts, and_left, both_ways, cases_eq, false_from_ne_true, and_right}
use Rattle.std.proofs.lemmas.Bool.{lt-ltb, lt-leb, or_parts}
use Rattle.fsb_count.specs.Options.{is_some_and, is_at, is_before}
use Rattle.fsb_count.specs.Clocks.{any_where, count_where, from_clock}
use Rattle.fsb_count.proofs.Interface.{any_where-at, any_where-off, is_at-if, is_at-some}
use Rattle.fsb_count.proofs.Interface.{is_some_and-none, is_before-if, is_before-from, count_where-same}
use Rattle.fsb_signal.specs.declared.lines.TheConstants.Lines.{HIT, HITM, DEFER, TRDY, DRDY, DBSY}
use Rattle.fsb_signal.specs.declared.sample.Sample.{Sample}
use Rattle.fsb_signal.specs.Samples.{has_line, response_of, line_at}
use Rattle.fsb_trace.specs.At.{Trace}
use Rattle.fsb_trace.specs.Requests.{live_count}
use Rattle.fsb_trace.specs.Snoop.{snoop_end_of}
use Rattle.fsb_trace.specs.Rules.{is_snoop_line_alone, is_result_unfit_for, is_snoop_result_unfit}
use Rattle.fsb_trace.specs.Rules.{is_response_early, is_code_for, responds_soundly, has_code_at}
use Rattle.fsb_trace.specs.Rules.{is_code_wrong, is_ready_in_time, is_ready_wrongly, is_target_ready_wrong}
use Rattle.fsb_trace.specs.Rules.{is_request_too_soon}
use Rattle.fsb_trace.specs.Rules.{is_transferring_of, is_transferring, is_data_wrong}
use Rattle.fsb_trace.proofs.Interface.{snoop_end_of-clock, snoop_end_of-rises, live_below_count, snoop_end_of-stays}
use Rattle.fsb_trace.proofs.Interface.{line_at_snoop_end-stays, live_request_of-stays}
use Rattle.fsb_trace.specs.Response.{takes, ready_clock_of}
use Rattle.fsb_trace.specs.Outcome.{moves_data}
use Rattle.fsb_laws.specs.OneMore.{OneMore, responds}
use Rattle.fsb_laws.specs.Orderly.{Spaced, Orderly}
use Rattle.fsb_laws.specs.Progress.{ends_snoop_of, is_snoop_due, response_count, may_answer_next}
use Rattle.fsb_laws.specs.Progress.{transfer_after, transfer_of}
use Rattle.fsb_laws.proofs.Interface.{ended_where, is_snoop_clock-more, live_clock_of-less}
use Rattle.fsb_laws.proofs.Interface.{request_at-old, snoop_end_of-more, snoop_end_of-old, one_more}
use Rattle.fsb_laws.proofs.Interface.{next_response-new, may_answer-new, may_answer_next-parts}
use Rattle.fsb_laws.proofs.Interface.{has_ready, ready_clock_of-old, ready_clock_of-next}
use Rattle.fsb_laws.proofs.Interface.{chunks_of-form, count_where-none, is_transferring-last, is_transferring-none}
use Rattle.fsb_laws.proofs.Interface.{line_at-old, moves_data-old, response_clock_of-new, orderly-more, spaced-more}
use Rattle.fsb_laws.proofs.Interface.{response_clock_of-old, response_count-kept, response_count-more, response_there}
use Rattle.fsb_laws.proofs.Interface.{transferring_form}
use Rattle.fsb_heads.specs.Heads.{snooped_count, MovesWith}
use Rattle.fsb_heads.proofs.Interface.{snoops_to}
use Rattle.fsb_rules.specs.declared.live.LiveRequest.{LiveRequest}
use Rattle.fsb_rules.specs.declared.in_flight.InFlight.{InFlight}
use Rattle.fsb_rules.specs.Live.{IsLive}
use Rattle.fsb_rules.specs.InFlight.{IsAt, InTime}
use Rattle.fsb_rules.proofs.LiveTests.{live-early}
use Rattle.fsb_rules.proofs.Samples.{responds-last, code-last}
use Rattle.fsb_rules.proofs.Lines.{line_at-last}
use Rattle.fsb_rules.proofs.StartRules.{too_soon_not}

-- a live request that has its snoop end in the longer history is live there too
pub live_ended : {h : Trace} {x : Sample} {v : Trace} {a : LiveRequest} (m : OneMore h x v) (i t : ℕ)
    → Spaced h → IsLive h i a → snoop_end_of v i ≡ Some t → IsLive v i a
live_ended {h} {x} {v} {a} m i t s l e =
    let c = snoop_end_of-clock v i t e in
    let size = m.size in
    let old = live_clock_of-less h x v i c.clock m s (omega (arith, c.above, c.within)) c.is_clock in
    let f = l.clock in
    let same : c.clock ≡ a.clock = cc in
    record {
      request = l.request;
      clock = c.is_clock ∙ ap (λ n. Some n) same;
      decoded = request_at-old h x v a.clock m (live-early l) ∙ l.decoded;
      same = l.same;
    }

-- a test that one number alone can pass
any_alone : (p : ℕ → Bool) (n s : ℕ) (b : Bool) → p s ≡ b → (p s ≡ true → s < n)
    → ((i : ℕ) → p i ≡ true → i ≡ s) → any_where p n ≡ b
any_alone p n s true e l one = any_where-at p n s (l e) e
any_alone p n s false e l one =
    any_where-off p n (λ i k. false_from_ne_true _ (λ t. both_ways _ e (subst (λ j. p j ≡ true) (one i t) t)))

ends_here : (v : Trace) (n i : ℕ) → is_result_unfit_for v n i ≡ true → snoop_end_of v i ≡ Some n
unfolding is_result_unfit_for
ends_here v n i t = is_at-some (snoop_end_of v i) n (and_parts _ _ t).0

-- without a snoop line each snoop result fits
fits : (a b c : Bool) → (a && (b && (false || false) || c && false)) ≡ false
fits true true true = refl
fits true true false = refl
fits true false true = refl
fits true false false = refl
fits false b c = refl

module _ {q : InFlight} {n : ℕ} {h : Trace} (a : IsAt q n h) (x : Sample) where
  -- the request that is snooped next has its snoop end with the sample, or not yet, and no other has
  pub end_new : snoop_end_of (h ++ x ∷ []) (snooped_count h)
      ≡ cond (ends_snoop_of h (snooped_count h) x) (Some (length h)) None
  end_new = snoop_end_of-more h x _ (snooped_count h) (one_more h x) a.orderly.spaced (snoops_to h)

  pub ended_now : {r : LiveRequest} → ends_snoop_of h (snooped_count h) x ≡ true → IsLive h (snooped_count h) r
      → IsLive (h ++ x ∷ []) (snooped_count h) r × (snoop_end_of (h ++ x ∷ []) (snooped_count h) ≡ Some (length h))
  ended_now e l =
      let end : snoop_end_of (h ++ x ∷ []) (snooped_count h) ≡ Some (length h) = end_new ∙ (rw e refl) in
      (live_ended (one_more h x) (snooped_count h) (length h) a.orderly.spaced l end, end)

  ends_alone : (i : ℕ) → snoop_end_of (h ++ x ∷ []) i ≡ Some (length h) → i ≡ snooped_count h
  ends_alone i e =
      let m = one_more h x in
      let s : ℕ = snooped_count h in
      elim (cases_lt i s) [
        | inl old ↦
            let p = (snoops_to h).reached i old in
            let g = snoop_end_of-old h x _ s i m (snoops_to h) old ∙ p.1 in
            let same : p.0 ≡ length h = cc in
            absurd (omega (arith, p.2))
        | inr new ↦
            elim (cases_eq i s) [
              | inl same ↦ same
              | inr other ↦
                  let b = snoop_end_of-rises _ s i (length h) (omega (arith, other)) e in
                  let c = ended_where h x _ s s b.0 m a.orderly.spaced (snoops_to h) (omega arith) b.1 in
                  absurd (omega (arith, b.2, c))
            ]
      ]

  -- 12 snoop results of write-backs and replies
  pub rule_12 : is_snoop_result_unfit (h ++ x ∷ []) (length h)
      ≡ is_result_unfit_for (h ++ x ∷ []) (length h) (snooped_count h)
  unfolding is_snoop_result_unfit
  rule_12 =
      any_alone (is_result_unfit_for (h ++ x ∷ []) (length h)) (live_count (h ++ x ∷ [])) (snooped_count h) _ refl
      (λ t. let c = snoop_end_of-clock _ (snooped_count h) (length h) (ends_here _ (length h) (snooped_count h) t) in
      live_below_count _ (snooped_count h) c.clock c.is_clock)
      (λ i t. ends_alone i (ends_here _ (length h) i t))

  pub fits_unended : ends_snoop_of h (snooped_count h) x ≡ false
      → is_snoop_result_unfit (h ++ x ∷ []) (length h) ≡ false
  unfolding is_result_unfit_for
  fits_unended f =
      rule_12 ∙ and_left _ _ (ap (λ o. is_at o (length h)) end_new
      ∙ is_at-if (length h) (ends_snoop_of h (snooped_count h) x) ∙ f)

  pub fits_silent : (has_line x HIT || has_line x HITM || has_line x DEFER) ≡ false
      → is_snoop_result_unfit (h ++ x ∷ []) (length h) ≡ false
  unfolding is_result_unfit_for
  fits_silent s =
      let p = or_parts (has_line x HIT || has_line x HITM) (has_line x DEFER) s in
      let r = or_parts (has_line x HIT) (has_line x HITM) p.0 in
      rule_12 ∙ (rw (
        line_at-last HITM h x,
        line_at-last DEFER h x,
        line_at-last HIT h x,
        r.0,
        r.1,
        p.1,
      ) (fits _ _ _))

-- what is told of the next request is the same in both traces
module _ {h : Trace} {x : Sample} {v : Trace} (m : OneMore h x v) (may : may_answer_next h ≡ true) where
  takes_same : takes v (response_count h) ≡ takes h (response_count h)
  unfolding takes
  takes_same =
      let p = may_answer_next-parts h may in
      rw (
        sym (live_request_of-stays (length h) h v (response_count h) p.0 m.agree (omega (arith, p.2)) p.1),
        sym (line_at_snoop_end-stays HITM (length h) h v (response_count h) p.0 m.agree (omega (arith, p.2)) p.1),
      ) refl

  code_same : (code : ℕ) → is_code_for v (response_count h) code ≡ is_code_for h (response_count h) code
  unfolding is_code_for
  code_same code =
      let p = may_answer_next-parts h may in
      rw (
        sym (live_request_of-stays (length h) h v (response_count h) p.0 m.agree (omega (arith, p.2)) p.1),
        sym (line_at_snoop_end-stays HITM (length h) h v (response_count h) p.0 m.agree (omega (arith, p.2)) p.1),
        sym (line_at_snoop_end-stays DEFER (length h) h v (response_count h) p.0 m.agree (omega (arith, p.2)) p.1),
      ) refl

  next_is_live : response_count h < live_count v
  next_is_live =
      let p = may_answer_next-parts h may in
      let s = snoop_end_of-stays (length h) h v (response_count h) p.0 m.agree (omega (arith, p.2)) p.1 in
      let c = snoop_end_of-clock v (response_count h) p.0 s in
      live_below_count v (response_count h) c.clock c.is_clock

-- the rules of snoop lines and of response timing, and whether the target is ready, after an orderly history
in_time_by : (n : ℕ) (b : Bool) → is_some_and (cond b (Some n) None) (λ y. nat_le (y + 2) n) ≡ false
unfolding is_some_and
in_time_by n true = lt-leb (n + 2) n (omega arith)
in_time_by n false = refl

module _ (h : Trace) (x : Sample) (o : Orderly h) where
  -- 11 snoop lines in snoop clocks
  pub rule_11 : is_snoop_line_alone (h ++ x ∷ []) (length h)
      ≡ ((has_line x HIT || has_line x HITM || has_line x DEFER)
      && not (is_snoop_due h (snooped_count h) (length h)))
  unfolding is_snoop_line_alone
  rule_11 =
      rw (
        line_at-last HIT h x,
        line_at-last HITM h x,
        line_at-last DEFER h x,
        is_snoop_clock-more h x _ (snooped_count h) (one_more h x) o.spaced (snoops_to h),
      ) refl

  -- 13 response timing
  pub rule_13 : is_response_early (h ++ x ∷ []) (length h) ≡ (responds x && not (may_answer_next h))
  unfolding is_response_early
  rule_13 =
      let m = one_more h x in
      rw (
        responds-last h x,
        next_response-new h x _ m,
        may_answer-new h x _ (snooped_count h) m o (snoops_to h),
      ) refl

  ready_cases : (old : Option ℕ) → ready_clock_of h (response_count h) ≡ old
      → (is_before (ready_clock_of (h ++ x ∷ []) (response_count h)) (length h) ≡ is_some old)
      × (is_some_and (ready_clock_of (h ++ x ∷ []) (response_count h)) (λ y. nat_le (y + 2) (length h))
      ≡ is_some_and old (λ y. nat_le (y + 2) (length h)))
  ready_cases (Some y) e =
      let now = ready_clock_of-old h x _ (response_count h) y (one_more h x) e in (
        is_before-from _ y (length h) now (has_ready h (response_count h) y e).within,
        ap (λ r. is_some_and r (λ c. nat_le (c + 2) (length h))) now,
      )
  ready_cases None e =
      let now = rw e at (ready_clock_of-next h x _ (snooped_count h) (one_more h x) o (snoops_to h)) in (
        ap (λ r. is_before r (length h)) now ∙ is_before-if (length h) (has_line x TRDY && may_answer_next h),
        ap (λ r. is_some_and r (λ c. nat_le (c + 2) (length h))) now
            ∙ in_time_by (length h) (has_line x TRDY && may_answer_next h)
            ∙ sym (is_some_and-none (λ y. nat_le (y + 2) (length h))),
      )

  takes_cases : (b : Bool) → may_answer_next h ≡ b
      → (takes (h ++ x ∷ []) (response_count h) && b) ≡ (b && takes h (response_count h))
  takes_cases true e = rw (takes_same (one_more h x) e) (grind arith)
  takes_cases false e = and_right _ _ refl

  pub ready_wrongly : is_ready_wrongly (h ++ x ∷ []) (length h) (response_count h)
      ≡ (not (may_answer_next h && takes h (response_count h)) || is_some (ready_clock_of h (response_count h)))
  unfolding is_ready_wrongly
  ready_wrongly =
      rw (
        may_answer-new h x _ (snooped_count h) (one_more h x) o (snoops_to h),
        takes_cases (may_answer_next h) refl,
        (ready_cases (ready_clock_of h (response_count h)) refl).0,
      ) refl

  pub ready_in_time : is_ready_in_time (h ++ x ∷ []) (length h) (response_count h)
      ≡ is_some_and (ready_clock_of h (response_count h)) (λ y. nat_le (y + 2) (length h))
  unfolding is_ready_in_time
  ready_in_time = (ready_cases (ready_clock_of h (response_count h)) refl).1

timely_cases : (b a : Bool) → (b && not a) ≡ false → b ≡ true → a ≡ true
timely_cases true true e t = refl
timely_cases true false e t = absurd (let no : ⊥ = cc in no)
timely_cases false a e t = absurd (let no : ⊥ = cc in no)

-- a sample that keeps the rules of request spacing and of response timing
module _ (h : Trace) (x : Sample) (o : Orderly h) (early : is_response_early (h ++ x ∷ []) (length h) ≡ false) where
  answers_next : responds x ≡ true → may_answer_next h ≡ true
  answers_next = timely_cases (responds x) (may_answer_next h) (sym (rule_13 h x o) ∙ early)

  sound_answers : responds_soundly (h ++ x ∷ []) (length h) ≡ true → may_answer_next h ≡ true
  unfolding responds_soundly
  sound_answers s = answers_next (sym (responds-last h x) ∙ (and_parts _ _ s).0)

  -- 14 response code
  code_cases : (b : Bool) → responds_soundly (h ++ x ∷ []) (length h) ≡ b
      → (b && not (has_code_at (h ++ x ∷ []) (length h) (response_count h)))
      ≡ (b && not (may_answer_next h && is_code_for h (response_count h) (response_of x)))
  unfolding has_code_at
  code_cases false e = refl
  code_cases true e =
      let m = one_more h x in
      let may = sound_answers e in
      rw (
        lt-ltb (response_count h) (live_count (h ++ x ∷ [])) (next_is_live m may),
        code-last h x,
        code_same m may (response_of x),
        may,
      ) refl

  pub rule_14 : is_code_wrong (h ++ x ∷ []) (length h)
      ≡ (responds_soundly (h ++ x ∷ []) (length h)
      && not (may_answer_next h && is_code_for h (response_count h) (response_of x)))
  unfolding is_code_wrong
  rule_14 = rw (next_response-new h x _ (one_more h x)) (code_cases (responds_soundly (h ++ x ∷ []) (length h)) refl)

  -- 15 target ready
  late_cases : (b c : Bool) → responds_soundly (h ++ x ∷ []) (length h) ≡ b
      → (b && takes (h ++ x ∷ []) (response_count h) && c)
      ≡ (b && (may_answer_next h && takes h (response_count h)) && c)
  late_cases false c e = refl
  late_cases true c e = rw (sound_answers e, takes_same (one_more h x) (sound_answers e)) refl

  pub rule_15 : is_target_ready_wrong (h ++ x ∷ []) (length h)
      ≡ (has_line x TRDY && is_ready_wrongly (h ++ x ∷ []) (length h) (response_count h)
      || responds_soundly (h ++ x ∷ []) (length h) && (may_answer_next h && takes h (response_count h))
      && not (is_ready_in_time (h ++ x ∷ []) (length h) (response_count h)))
  unfolding is_target_ready_wrong
  rule_15 =
      rw (
        line_at-last TRDY h x,
        next_response-new h x _ (one_more h x),
        late_cases (responds_soundly (h ++ x ∷ []) (length h))
            (not (is_ready_in_time (h ++ x ∷ []) (length h) (response_count h))) refl,
      ) refl

  pub orderly_next : is_request_too_soon (h ++ x ∷ []) (length h) ≡ false → Orderly (h ++ x ∷ [])
  orderly_next soon =
      let m = one_more h x in
      orderly-more h x _ (snooped_count h) m o (snoops_to h) (spaced-more h x _ m o.spaced (too_soon_not m soon))
      answers_next

-- 16 data transfer
pub rule_16 : (h : Trace) (x : Sample) → is_data_wrong (h ++ x ∷ []) (length h)
    ≡ (has_line x DRDY && not (is_transferring (h ++ x ∷ []) (length h))
    || not (has_line x DBSY) && is_transferring (h ++ x ∷ []) (length h + 1)
    || has_line x DBSY && not (is_transferring (h ++ x ∷ []) (length h + 1)))
unfolding is_data_wrong
rule_16 h x = rw (line_at-last DRDY h x, line_at-last DBSY h x) refl

module _ {q : InFlight} {n : ℕ} {x : Sample} {h : Trace} (t : InTime q n x h) where
  pub answers_in_time : responds x ≡ true → may_answer_next h ≡ true
  answers_in_time = answers_next h x t.here.orderly t.timely

  pub orderly_after : Orderly (h ++ x ∷ [])
  orderly_after = orderly_next h x t.here.orderly t.timely t.apart

-- Whether data are on the way at the end of an orderly trace.
some_form : (b : Bool) (k : ℕ) → is_some (cond b (Some k) None) ≡ b
some_form true k = refl
some_form false k = refl

transfer_some : (w : Trace) (i : ℕ) → i < response_count w
    → is_some (transfer_after w (suc i)) ≡ is_transferring_of w (length w) i
unfolding transfer_after
transfer_some w i l =
    let p = response_there w i l in
    rw (chunks_of-form w i p.0 p.1)
    (some_form (is_transferring_of w (length w) i) (count_where (from_clock p.0 (line_at DRDY w)) (length w)))

end_cases : (w : Trace) (n : ℕ) → Orderly w → response_count w ≡ n
    → is_transferring w (length w) ≡ is_some (transfer_after w n)
unfolding transfer_after
end_cases w zero o c = is_transferring-none w (length w) c
end_cases w (suc i) o c = is_transferring-last w (length w) i o c (omega arith) ∙ sym (transfer_some w i (omega arith))

is_transferring-end : (w : Trace) → Orderly w → is_transferring w (length w) ≡ is_some (transfer_of w)
unfolding transfer_of
is_transferring-end w o = end_cases w (response_count w) o refl

-- before a response none of its chunks came
pub none_from : (v : Trace) (n : ℕ) → count_where (from_clock n (line_at DRDY v)) n ≡ 0
unfolding from_clock
none_from v n = count_where-none (from_clock n (line_at DRDY v)) n (λ c l. and_left _ _ (lt-leb n c l))

and_some : (b : Bool) (k : ℕ) → k ≡ 0 → (b && nat_lt k 4) ≡ b
and_some true k e = rw e refl
and_some false k e = refl

module _ {h : Trace} {x : Sample} {v : Trace} (m : OneMore h x v) where
  pub same_count : (r : ℕ) → count_where (from_clock r (line_at DRDY v)) (length h)
      ≡ count_where (from_clock r (line_at DRDY h)) (length h)
  unfolding from_clock
  same_count r =
      count_where-same (from_clock r (line_at DRDY v)) (from_clock r (line_at DRDY h)) (length h)
      (record { same = λ c l. ap (λ b. nat_le r c && b) (line_at-old DRDY h x v c m l) })

  -- at the new clock, before its chunk: where the sample is a response, whether its data move
  is_transferring-begun : Orderly v → responds x ≡ true
      → is_transferring v (length h) ≡ moves_data v (response_count h)
  is_transferring-begun o t =
      let more : response_count v ≡ response_count h + 1 = rw t at (response_count-more h x v m) in
      is_transferring-last v (length h) (response_count h) o (omega arith) (omega (arith, m.size))
      ∙ transferring_form v (length h) (response_count h) (length h) (response_clock_of-new h x v m t)
      ∙ and_some (moves_data v (response_count h)) _ (none_from v (length h))

  -- where it is none, whether data are on the way
  pub same_transfer : (i : ℕ) → Orderly h → i < response_count h
      → is_transferring_of v (length h) i ≡ is_transferring_of h (length h) i
  same_transfer i o l =
      let p = response_there h i l in
      transferring_form v (length h) i p.0 (response_clock_of-old h x v i m l ∙ p.1)
      ∙ (rw (moves_data-old h x v i m o l, same_count p.0) (sym (transferring_form h (length h) i p.0 p.1)))

  kept_cases : (n : ℕ) → Orderly h → Orderly v → response_count h ≡ n → response_count v ≡ n
      → is_transferring v (length h) ≡ is_some (transfer_after h n)
  unfolding transfer_after
  kept_cases zero o ov c d = is_transferring-none v (length h) d
  kept_cases (suc i) o ov c d =
      is_transferring-last v (length h) i ov d (omega (arith, m.size))
      ∙ same_transfer i o (omega arith) ∙ sym (transfer_some h i (omega arith))

  is_transferring-kept : Orderly h → Orderly v → responds x ≡ false
      → is_transferring v (length h) ≡ is_some (transfer_of h)
  unfolding transfer_of
  is_transferring-kept o ov f = kept_cases (response_count h) o ov refl (response_count-kept h x v m f)

-- data are on the way at the clock of the sample, and after it
module _ {q : InFlight} {n : ℕ} {x : Sample} {h : Trace} {begins : Bool} (t : InTime q n x h)
    (w : MovesWith x begins h) where
  now_cases : (b : Bool) → responds x ≡ b
      → is_transferring (h ++ x ∷ []) (length h) ≡ cond b begins (is_some (transfer_of h))
  now_cases true e = is_transferring-begun (one_more h x) (orderly_after t) e ∙ sym (w.moves_is e)
  now_cases false e = is_transferring-kept (one_more h x) t.here.orderly (orderly_after t) e

  pub moving_now : is_transferring (h ++ x ∷ []) (length h) ≡ cond (responds x) begins (is_some (transfer_of h))
  moving_now = now_cases (responds x) refl

pub moving_after : (h : Trace) (x : Sample) → Orderly h → is_request_too_soon (h ++ x ∷ []) (length h) ≡ false
    → is_response_early (h ++ x ∷ []) (length h) ≡ false
    → is_transferring (h ++ x ∷ []) (length h + 1) ≡ is_some (transfer_of (h ++ x ∷ []))
moving_after h x o soon early =
    ap (is_transferring (h ++ x ∷ [])) (sym (one_more h x).size) ∙ is_transferring-end _ (orderly_next h x o early soon)
