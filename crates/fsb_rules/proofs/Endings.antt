-- Which request ends with a sample.
use Rattle.std.proofs.Common.{ℕ, ◌+◌, ◌<◌, ◌≤◌, ◌≡◌, Bool, true, false, cond, ◌&&◌, nat_eq, Option, Some, None, [], ◌∷◌}
use Rattle.std.proofs.Common.{◌++◌, is_some, is_none, length, refl, sym, ap, ◌∙◌, arith, inl, inr, subst, add-one}
use Rattle.std.proofs.lemmas.Bool.{cases_lt, cases_eq, and_parts, and_from, both_ways, eq-eqb, ne_eqb}
use Rattle.std.proofs.lemmas.Bool.{false_from_ne_true}
use Rattle.fsb_count.specs.Options.{is_some_and}
use Rattle.fsb_count.proofs.Interface.{nth_where-one, is_at-some, is_at-from}
use Rattle.fsb_signal.specs.declared.lines.TheConstants.Lines.{DRDY}
use Rattle.fsb_signal.specs.declared.sample.Sample.{Sample}
use Rattle.fsb_signal.specs.Samples.{has_line, response_of}
use Rattle.fsb_trace.specs.At.{Trace}
use Rattle.fsb_trace.specs.Requests.{is_live, live_clock_of, live_number_of}
use Rattle.fsb_trace.specs.Outcome.{told_by, does_move, is_deferral, is_deferred, moves_data}
use Rattle.fsb_trace.specs.Response.{end_of}
use Rattle.fsb_trace.specs.Rules.{is_transferring_of}
use Rattle.fsb_trace.proofs.Interface.{live_clock_of-number}
use Rattle.fsb_laws.specs.OneMore.{OneMore, responds}
use Rattle.fsb_laws.specs.Orderly.{Orderly}
use Rattle.fsb_laws.specs.Progress.{SnoopsTo, EndsTo, response_count, transfer_of, chunk_step}
use Rattle.fsb_laws.specs.Leaving.{ends_at}
use Rattle.fsb_laws.proofs.Interface.{response_count-more, outcome_of-new, moves_data-old, one_more}
use Rattle.fsb_laws.proofs.Interface.{response_count-kept, ends_to-still, ends_to-moving, transfer_parts, end_of-old}
use Rattle.fsb_laws.proofs.Interface.{end_of-kept, transfer_of-begun, transfer_of-kept, may_answer_next-parts}
use Rattle.fsb_laws.proofs.Interface.{deferred_still}
use Rattle.fsb_heads.specs.Heads.{snooped_count}
use Rattle.fsb_heads.proofs.Interface.{snoops_to}
use Rattle.fsb_rules.specs.declared.live.LiveRequest.{LiveRequest}
use Rattle.fsb_rules.specs.declared.live.Ended.{Ended}
use Rattle.fsb_rules.specs.declared.live.Snooped.{Snooped}
use Rattle.fsb_rules.specs.declared.in_flight.InFlight.{InFlight}
use Rattle.fsb_rules.specs.Live.{IsSnooped}
use Rattle.fsb_rules.specs.InFlight.{InTime}
use Rattle.fsb_rules.specs.Endings.{NoneEnds, EndsAlone, SaysEnded}
use Rattle.fsb_rules.proofs.QueueRules.{answers_in_time, orderly_after}
use Rattle.fsb_rules.proofs.QueueGoes.{answers_below, last_kept, live_same}

below_end : (v : Trace) (e j t : ℕ) → EndsTo v e → end_of v j ≡ Some t → j < e
below_end v e j t to f =
    elim (cases_lt j e) [
      | inl l ↦ l
      | inr l ↦ let none = to.above j l in absurd (let no : ⊥ = cc in no)
    ]

module _ {h : Trace} {x : Sample} {v : Trace} (m : OneMore h x v) (o : Orderly h) {e : ℕ} (to : EndsTo h e) where
  -- an end at the new clock is the next one
  new_end : (j : ℕ) → end_of v j ≡ Some (length h) → e ≤ j
  new_end j f =
      elim (cases_lt j e) [
        | inr l ↦ l
        | inl l ↦
            let p = to.reached j l in
            let k = end_of-kept h x v j p.0 m o p.1 p.2 in
            let same : p.0 ≡ length h = cc in
            absurd (omega (arith, p.2))
      ]

  none_ends : EndsTo v e → NoneEnds v (length h)
  none_ends now =
      record { none = λ j f. let low = new_end j f in let high = below_end v e j (length h) now f in omega arith }

  one_end : EndsTo v (e + 1) → end_of v e ≡ Some (length h)
  one_end now =
      let p = now.reached e (omega arith) in
      elim (cases_lt p.0 (length h)) [
        | inl old ↦
            let f = end_of-old h x v e p.0 m o p.1 old in
            let none = to.above e (omega arith) in absurd (let no : ⊥ = cc in no)
        | inr new ↦
            let same : p.0 ≡ length h = omega (arith, p.2, m.size) in
            p.1 ∙ ap (λ t. Some t) same
      ]

  ends_alone : (ended : Ended) → EndsTo v (e + 1) → live_clock_of v e ≡ Some ended.request.clock
      → is_deferred v e ≡ ended.is_deferred → EndsAlone v (length h) ended
  ends_alone ended now clock deferred =
      record {
        number = e;
        clock = clock;
        end = one_end now;
        deferred = deferred;
        alone = λ j f. let low = new_end j f in let high = below_end v (e + 1) j (length h) now f in omega arith;
      }

-- a response that moves no data ends its request
deferred_new : (h : Trace) (x : Sample) (v : Trace) (s : ℕ) → OneMore h x v → SnoopsTo h s
    → response_count h < s → responds x ≡ true
    → is_deferred v (response_count h) ≡ is_deferral (told_by h (response_count h) (response_of x))
unfolding is_deferred is_some_and
deferred_new h x v s m to l t = rw (outcome_of-new h x v s m to l t) refl

no_transfer : (comes : Bool) → chunk_step comes (cond false (Some 0) None) ≡ None
unfolding chunk_step
no_transfer comes = refl

some_transfer : (comes : Bool) → (k : ℕ) × (chunk_step comes (cond true (Some 0) None) ≡ Some k)
unfolding chunk_step
some_transfer true = (1, refl)
some_transfer false = (0, refl)

-- without a response, the last chunk ends its request
moving_moves : (w : Trace) (i : ℕ) → is_transferring_of w (length w) i ≡ true → moves_data w i ≡ true
unfolding is_transferring_of
moving_moves w i t = (and_parts _ _ t).0

not_deferred : (w : Trace) (i : ℕ) → moves_data w i ≡ true → is_deferred w i ≡ false
not_deferred w i t = false_from_ne_true _ (λ d. both_ways _ (deferred_still w i d) t)

module _ {q : InFlight} {n : ℕ} {x : Sample} {h : Trace} (t : InTime q n x h) where
  abbrev v : Trace
  v = h ++ x ∷ []

  m : OneMore h x (h ++ x ∷ [])
  m = one_more h x

  count_next : responds x ≡ true → response_count v ≡ response_count h + 1
  count_next r = rw r at (response_count-more h x v m)

  transfer_begun : (moves : Bool) → responds x ≡ true
      → does_move (told_by h (response_count h) (response_of x)) ≡ moves
      → transfer_of v ≡ chunk_step (has_line x DRDY) (cond moves (Some 0) None)
  transfer_begun moves r e =
      transfer_of-begun h x v (snooped_count h) m (snoops_to h) (answers_below t r) r
      ∙ ap (λ c. chunk_step (has_line x DRDY) (cond c (Some 0) None)) e

  -- with a response whose data do not move
  at_once : {w : Snooped} (moves : Bool) (r : responds x ≡ true) → IsSnooped h (response_count h) w
      → does_move (told_by h (response_count h) (response_of x)) ≡ moves
      → SaysEnded v (length h) (cond moves None
      (Some (record { request = w.request; is_deferred = is_deferral (told_by h (response_count h) (response_of x)) })))
  at_once true r s e =
      let some = some_transfer (has_line x DRDY) in
      none_ends m t.here.orderly
      (ends_to-still h t.here.orderly (may_answer_next-parts h (answers_in_time t r)).3)
      (ends_to-moving v some.0 (response_count h) (orderly_after t) (transfer_begun true r e ∙ some.1)
      (count_next r ∙ add-one (response_count h)))
  at_once {w} false r s e =
      let ends : EndsTo v (response_count h + 1) =
      subst (EndsTo v) (count_next r)
      (ends_to-still v (orderly_after t) (transfer_begun false r e ∙ no_transfer (has_line x DRDY))) in
      ends_alone m t.here.orderly
      (ends_to-still h t.here.orderly (may_answer_next-parts h (answers_in_time t r)).3) _ ends
      (live_same t.here x (response_count h) w.clock (answers_below t r) s.end s.live).clock
      (deferred_new h x v (snooped_count h) m (snoops_to h) (answers_below t r) r)

  pub ended_new : {w : Snooped} (code : ℕ) → code ≡ response_of x → responds x ≡ true
      → IsSnooped h (response_count h) w
      → SaysEnded v (length h) (cond (does_move (told_by h (response_count h) code)) None
      (Some (record { request = w.request; is_deferred = is_deferral (told_by h (response_count h) code) })))
  ended_new code e r s = rw e (at_once (does_move (told_by h (response_count h) (response_of x))) r s refl)

  -- with the last chunk
  last_cases : (o p : Option ℕ) → responds x ≡ false → transfer_of h ≡ o → transfer_of v ≡ p
      → (is_some o && is_none p) ≡ true
      → (a : LiveRequest) × (q.last ≡ Some a)
      × SaysEnded v (length h) (Some (record { request = a; is_deferred = false }))
  last_cases None p f e g k = absurd (let no : ⊥ = cc in no)
  last_cases (Some c) (Some d) f e g k = absurd (let no : ⊥ = cc in no)
  last_cases (Some c) None f e g k =
      let p = transfer_parts h c e in
      let same = response_count-kept h x v m f in
      let l = (last_kept t f).kept p.0 (same ∙ p.1) in
      let moves : moves_data v p.0 ≡ true =
      moves_data-old h x v p.0 m t.here.orderly (omega (arith, p.1)) ∙ moving_moves h p.0 p.2 in (
        l.0,
        l.1,
        ends_alone m t.here.orderly (ends_to-moving h c p.0 t.here.orderly e p.1) _
            (subst (EndsTo v) (same ∙ p.1 ∙ sym (add-one p.0)) (ends_to-still v (orderly_after t) g)) l.2.clock
            (not_deferred v p.0 moves),
      )

  pub ended_last : responds x ≡ false → (is_some (transfer_of h) && is_none (transfer_of v)) ≡ true
      → (a : LiveRequest) × (q.last ≡ Some a)
      × SaysEnded v (length h) (Some (record { request = a; is_deferred = false }))
  ended_last f k = last_cases (transfer_of h) (transfer_of v) f refl refl k

  -- with another sample none does
  none_cases : (o p : Option ℕ) → responds x ≡ false → transfer_of h ≡ o → transfer_of v ≡ p
      → (is_some o && is_none p) ≡ false → NoneEnds v (length h)
  unfolding chunk_step
  none_cases None p f e g k =
      let now : transfer_of v ≡ None = transfer_of-kept h x v m t.here.orderly f ∙ (rw e refl) in
      none_ends m t.here.orderly (ends_to-still h t.here.orderly e)
      (subst (EndsTo v) (response_count-kept h x v m f) (ends_to-still v (orderly_after t) now))
  none_cases (Some c) None f e g k = absurd (let no : ⊥ = cc in no)
  none_cases (Some c) (Some d) f e g k =
      let p = transfer_parts h c e in
      none_ends m t.here.orderly (ends_to-moving h c p.0 t.here.orderly e p.1)
      (ends_to-moving v d p.0 (orderly_after t) g (response_count-kept h x v m f ∙ p.1))

  pub ended_none : responds x ≡ false → (is_some (transfer_of h) && is_none (transfer_of v)) ≡ false
      → SaysEnded v (length h) None
  ended_none f k = none_cases (transfer_of h) (transfer_of v) f refl refl k

-- whether a live request ends at the clock
pub ends_at-none : (v : Trace) (n p : ℕ) → NoneEnds v n → ends_at v n p ≡ false
unfolding ends_at
ends_at-none v n p e = false_from_ne_true _ (λ t. e.none (live_number_of v p) (is_at-some _ n (and_parts _ _ t).1))

module _ {v : Trace} {n : ℕ} {e : Ended} (a : EndsAlone v n e) (p : ℕ) (l : p < length v) (t : is_live v p ≡ true) where
  -- the request that ends is this one
  pub ended_number : e.request.clock ≡ p → a.number ≡ live_number_of v p
  unfolding live_clock_of
  ended_number same =
      nth_where-one (is_live v) a.number (live_number_of v p) (length v) p (a.clock ∙ ap (λ m. Some m) same)
      (live_clock_of-number v p l t)

  pub ends_at-some : ends_at v n p ≡ nat_eq e.request.clock p
  unfolding ends_at
  ends_at-some =
      elim (cases_eq e.request.clock p) [
        | inl same ↦
            and_from _ _ t
            (is_at-from (end_of v (live_number_of v p)) n (subst (λ i. end_of v i ≡ Some n) (ended_number same) a.end))
            ∙ sym (eq-eqb e.request.clock p same)
        | inr other ↦
            false_from_ne_true _ (λ u.
            let number = a.alone (live_number_of v p) (is_at-some _ n (and_parts _ _ u).1) in
            let c : live_clock_of v a.number ≡ Some p =
            subst (λ i. live_clock_of v i ≡ Some p) number (live_clock_of-number v p l t) in
            let d = a.clock in
            other (let same : e.request.clock ≡ p = cc in same))
            ∙ sym (ne_eqb e.request.clock p other)
      ]
