-- Reasons of the rules for the next response: 13 to 15.
use Rattle.std.proofs.Common.{ℕ, zero, suc, ◌+◌, ◌≤◌, ◌≡◌, Bool, true, false, cond, ◌&&◌, ◌||◌, not, nat_le, nat_eq}
use Rattle.std.proofs.Common.{Option, Some, None, refl, sym, ap, subst, ◌∙◌, inl, inr}
use Rattle.std.proofs.lemmas.Bool.{cases_Bool, cases_lt, and_parts, and_from, and_cases, and_left, and_right, or_cases, or_parts}
use Rattle.std.proofs.lemmas.Bool.{or_from, or_left, or_right, lt-leb, le-leb, le-ltb, lt-ltb, not-true, not_from_false, both_ways}
use Rattle.std.specs.Option.{option_map}
use Rattle.fsb_count.specs.Options.{is_some_and, is_before}
use Rattle.fsb_count.proofs.Interface.{is_before-parts, is_before-from}
use Rattle.fsb_signal.specs.declared.lines.TheConstants.Lines.{HITM, DEFER, TRDY}
use Rattle.fsb_signal.specs.declared.marks.Marks.{Marks}
use Rattle.fsb_signal.specs.Samples.{line_at}
use Rattle.fsb_trace.specs.declared.outcome.Outcome.{Outcome}
use Rattle.fsb_trace.specs.declared.outcome.Outcome.TheVariants.{Granted, Handed, Retried, Deferred, Written, Upgraded}
use Rattle.fsb_trace.specs.At.{Trace, responds_at, response_code_at}
use Rattle.fsb_trace.specs.Requests.{live_count, live_clock_of, live_request_of, is_write_back, is_upgrade}
use Rattle.fsb_trace.specs.Snoop.{snoop_end_of, line_at_snoop_end}
use Rattle.fsb_trace.specs.Outcome.{response_code_of}
use Rattle.fsb_trace.specs.Response.{takes, end_of, is_clear_before, answer_from, ready_clock_of}
use Rattle.fsb_trace.specs.Rules.{next_response, may_answer, is_response_early, has_den, is_code_for, responds_soundly}
use Rattle.fsb_trace.specs.Rules.{has_code_at, is_code_wrong, is_ready_in_time, is_ready_wrongly, is_target_ready_wrong}
use Rattle.fsb_reasons.specs.declared.reason.Concerned.{Concerned}
use Rattle.fsb_reasons.specs.declared.reason.Wait.{Wait}
use Rattle.fsb_reasons.specs.declared.reason.Wait.TheVariants.{NoSnoopEnd, SnoopEnd, NotClear}
use Rattle.fsb_reasons.specs.declared.reason.Reason.TheVariants.{NothingToAnswer, ResponseEarly, CodeForNone, CodeUnsettled, CodeWrong, ReadyForNone, ReadyUnsettled, ReadyUnwanted, ReadyEarly, ReadyTwice, ResponseUnready}
use Rattle.fsb_reasons.specs.RuleOf.{rule_of}
use Rattle.fsb_reasons.specs.Holds.{Holds, HasReason, Waits, expected_of, may_defer_of}
use Rattle.fsb_reasons.proofs.Words.{live_there, live_past, no_end}

-- what waits may not be answered

pub waits-none : (v : Trace) (c i : ℕ) (w : Wait) → Waits v c i w → may_answer v c i ≡ false
unfolding may_answer is_some_and is_clear_before
waits-none v c i NoSnoopEnd h = and_left _ _ (ap (λ o. is_some_and o (λ s. nat_le (s + 2) c)) h)
waits-none v c i (SnoopEnd s) h =
    and_left _ _ (ap (λ o. is_some_and o (λ s. nat_le (s + 2) c)) h.0 ∙ lt-leb (s + 2) c h.1)
waits-none v c i (NotClear end) h =
    let k = h.1 in
    let busy : is_clear_before v (suc k.0) c ≡ false = ap (λ o. is_before o c) k.2 ∙ k.3 in
    and_right _ _ (subst (λ x. is_clear_before v x c ≡ false) (sym k.1) busy)

not_clear : (v : Trace) (c i s : ℕ) → snoop_end_of v i ≡ Some s → s + 2 ≤ c → is_clear_before v i c ≡ false
    → (w : Wait) × Waits v c i w
unfolding is_clear_before
not_clear v c zero s e l f = absurd (let no : ⊥ = cc in no)
not_clear v c (suc j) s e l f = (NotClear (end_of v j), ((s, e, l), (j, refl, refl, f)))

waits-cases : (v : Trace) (c i : ℕ) (o : Option ℕ) → snoop_end_of v i ≡ o
    → (is_some_and o (λ s. nat_le (s + 2) c) && is_clear_before v i c) ≡ false → (w : Wait) × Waits v c i w
unfolding is_some_and
waits-cases v c i None e f = (NoSnoopEnd, e)
waits-cases v c i (Some s) e f =
    elim (cases_lt c (s + 2)) [
      | inl early ↦ (SnoopEnd s, (e, early))
      | inr late ↦ elim (and_cases _ _ f) [
        | inl g ↦ absurd (both_ways _ g (le-leb (s + 2) c late))
        | inr g ↦ not_clear v c i s e late g
      ]
    ]

-- what may not be answered waits
pub waits : (v : Trace) (c i : ℕ) → may_answer v c i ≡ false → (w : Wait) × Waits v c i w
unfolding may_answer
waits v c i f = waits-cases v c i (snoop_end_of v i) refl f

-- past the live requests nothing waits for an answer, and nothing takes
no_answer : (v : Trace) (c i : ℕ) → live_count v ≤ i → may_answer v c i ≡ false
no_answer v c i l = waits-none v c i NoSnoopEnd (no_end v i l)

no_takes : (v : Trace) (i : ℕ) → live_count v ≤ i → takes v i ≡ false
unfolding takes live_request_of is_write_back line_at_snoop_end is_some_and
no_takes v i l = rw (live_past v i l, no_end v i l) refl

-- 13

early : (v : Trace) (c i : ℕ) → responds_at v c ≡ true → i ≡ next_response v c → may_answer v c i ≡ false
    → is_response_early v c ≡ true
unfolding is_response_early
early v c i t e f = and_from _ _ t (not_from_false _ (subst (λ x. may_answer v c x ≡ false) e f))

pub nothing_to_answer-sound : (m : Marks) (v : Trace) (c number : ℕ) → Holds m v c (NothingToAnswer number)
    → is_response_early v c ≡ true
nothing_to_answer-sound m v c number h = early v c number h.0 (h.1).0 (no_answer v c number (h.1).1)

pub response_early-sound : (m : Marks) (v : Trace) (c : ℕ) (request : Concerned) (w : Wait) (earliest : Option ℕ)
    → Holds m v c (ResponseEarly request w earliest) → is_response_early v c ≡ true
response_early-sound m v c request w earliest h =
    early v c request.number h.0 (h.1).0 (waits-none v c request.number w h.2)

pub reason_13 : (m : Marks) (v : Trace) (c : ℕ) → is_response_early v c ≡ true → HasReason m v c 13
unfolding is_response_early rule_of
reason_13 m v c t =
    let p = and_parts _ _ t in
    let n : ℕ = next_response v c in
    elim (cases_lt n (live_count v)) [
      | inl live ↦
          let q = live_there v n live in
          let w = waits v c n (not-true _ p.1) in
          record {
            reason = ResponseEarly (record { number = n; clock = q.0 }) w.0 (answer_from v n);
            rule = refl;
            holds = (p.0, (refl, q.1), w.1, refl);
          }
      | inr past ↦ record { reason = NothingToAnswer n; rule = refl; holds = (p.0, (refl, past)) }
    ]

-- 14

or-false : (b : Bool) → b ≡ (b || false)
or-false true = refl
or-false false = refl

code_cases : (e : Outcome → Bool) (h w d n u : Bool)
    → cond h (e Handed) (cond w (e Written) (cond d (e Retried || n && e Deferred) (cond u (e Upgraded) (e Granted))))
    ≡ (e (cond h Handed (cond w Written (cond d Retried (cond u Upgraded Granted))))
    || (not h && not w && d && n) && e Deferred)
code_cases e true w d n u = or-false (e Handed)
code_cases e false true d n u = or-false (e Written)
code_cases e false false true n u = refl
code_cases e false false false n true = or-false (e Upgraded)
code_cases e false false false n false = or-false (e Granted)

code_for : (v : Trace) (i code : ℕ) → is_code_for v i code
    ≡ (nat_eq code (response_code_of (expected_of v i)) || may_defer_of v i && nat_eq code (response_code_of Deferred))
unfolding is_code_for expected_of may_defer_of
code_for v i code =
    code_cases (λ o. nat_eq code (response_code_of o)) (line_at_snoop_end HITM v i) (is_write_back (live_request_of v i))
    (line_at_snoop_end DEFER v i) (has_den (live_request_of v i)) (is_upgrade (live_request_of v i))

code_wrong : (v : Trace) (c i : ℕ) → responds_soundly v c ≡ true → i ≡ next_response v c
    → has_code_at v c i ≡ false → is_code_wrong v c ≡ true
unfolding is_code_wrong
code_wrong v c i t e f = and_from _ _ t (not_from_false _ (subst (λ x. has_code_at v c x ≡ false) e f))

no_code : (v : Trace) (c i : ℕ) → live_count v ≤ i → has_code_at v c i ≡ false
unfolding has_code_at
no_code v c i l = and_left _ _ (le-ltb i (live_count v) l)

other_code : (v : Trace) (c i : ℕ) → is_code_for v i (response_code_at v c) ≡ false → has_code_at v c i ≡ false
unfolding has_code_at
other_code v c i f = and_right _ _ f

pub code_for_none-sound : (m : Marks) (v : Trace) (c number code : ℕ) → Holds m v c (CodeForNone number code)
    → is_code_wrong v c ≡ true
code_for_none-sound m v c number code h = code_wrong v c number h.0 (h.2).0 (no_code v c number (h.2).1)

and_middle : (a b n : Bool) → (a && b && false && n) ≡ false
and_middle true true n = refl
and_middle true false n = refl
and_middle false b n = refl

no_defer : (v : Trace) (i : ℕ) → snoop_end_of v i ≡ None → may_defer_of v i ≡ false
unfolding may_defer_of line_at_snoop_end is_some_and
no_defer v i e =
    rw e (and_middle true (not (is_write_back (live_request_of v i))) (has_den (live_request_of v i)))

pub code_unsettled-sound : (m : Marks) (v : Trace) (c : ℕ) (request : Concerned) (found : ℕ) (expected : Outcome)
    → Holds m v c (CodeUnsettled request found expected) → is_code_wrong v c ≡ true
code_unsettled-sound m v c request found expected h =
    let i : ℕ = request.number in
    let one : nat_eq found (response_code_of (expected_of v i)) ≡ false =
    ap (λ o. nat_eq found (response_code_of o)) h.4 ∙ h.5 in
    let other : (may_defer_of v i && nat_eq found (response_code_of Deferred)) ≡ false =
    and_left _ _ (no_defer v i h.3) in
    let off : is_code_for v i found ≡ false = code_for v i found ∙ or_from _ _ one other in
    code_wrong v c i h.0 (h.2).0 (other_code v c i (ap (is_code_for v i) h.1 ∙ off))

pub code_wrong-sound : (m : Marks) (v : Trace) (c : ℕ) (request : Concerned) (snoop_end found : ℕ)
    (expected : Outcome) (may_defer : Bool) → Holds m v c (CodeWrong request snoop_end found expected may_defer)
    → is_code_wrong v c ≡ true
code_wrong-sound m v c request snoop_end found expected may_defer h =
    let i : ℕ = request.number in
    let one : nat_eq found (response_code_of (expected_of v i)) ≡ false =
    ap (λ o. nat_eq found (response_code_of o)) h.4 ∙ h.6 in
    let other : (may_defer_of v i && nat_eq found (response_code_of Deferred)) ≡ false =
    ap (λ b. b && nat_eq found (response_code_of Deferred)) h.5 ∙ h.7 in
    let off : is_code_for v i found ≡ false = code_for v i found ∙ or_from _ _ one other in
    code_wrong v c i h.0 (h.2).0 (other_code v c i (ap (is_code_for v i) h.1 ∙ off))

code-cases : (m : Marks) (v : Trace) (c n q : ℕ) (o : Option ℕ) → n ≡ next_response v c → live_clock_of v n ≡ Some q
    → responds_soundly v c ≡ true → snoop_end_of v n ≡ o
    → nat_eq (response_code_at v c) (response_code_of (expected_of v n)) ≡ false
    → (may_defer_of v n && nat_eq (response_code_at v c) (response_code_of Deferred)) ≡ false → HasReason m v c 14
unfolding rule_of
code-cases m v c n q None next e t s a b = record {
  reason = CodeUnsettled (record { number = n; clock = q }) (response_code_at v c) (expected_of v n);
  rule = refl;
  holds = (t, refl, (next, e), s, refl, a);
}
code-cases m v c n q (Some end) next e t s a b = record {
  reason = CodeWrong (record { number = n; clock = q }) end (response_code_at v c) (expected_of v n)
      (may_defer_of v n);
  rule = refl;
  holds = (t, refl, (next, e), s, refl, refl, a, b);
}

pub reason_14 : (m : Marks) (v : Trace) (c : ℕ) → is_code_wrong v c ≡ true → HasReason m v c 14
unfolding is_code_wrong has_code_at rule_of
reason_14 m v c t =
    let p = and_parts _ _ t in
    let n : ℕ = next_response v c in
    elim (cases_lt n (live_count v)) [
      | inl live ↦
          let q = live_there v n live in
          elim (and_cases _ _ (not-true _ p.1)) [
            | inl dead ↦ absurd (both_ways _ dead (lt-ltb n (live_count v) live))
            | inr off ↦
                let both = or_parts _ _ (sym (code_for v n (response_code_at v c)) ∙ off) in
                code-cases m v c n q.0 (snoop_end_of v n) refl q.1 p.0 refl both.0 both.1
          ]
      | inr past ↦ record {
        reason = CodeForNone n (response_code_at v c);
        rule = refl;
        holds = (p.0, refl, (refl, past));
      }
    ]

-- 15

ready_wrong : (v : Trace) (c i : ℕ) → line_at TRDY v c ≡ true → i ≡ next_response v c
    → is_ready_wrongly v c i ≡ true → is_target_ready_wrong v c ≡ true
unfolding is_target_ready_wrong
ready_wrong v c i t e w = or_left _ _ (and_from _ _ t (subst (λ x. is_ready_wrongly v c x ≡ true) e w))

wrongly_unfit : (v : Trace) (c i : ℕ) → (takes v i && may_answer v c i) ≡ false → is_ready_wrongly v c i ≡ true
unfolding is_ready_wrongly
wrongly_unfit v c i f = or_left _ _ (not_from_false _ f)

wrongly_twice : (v : Trace) (c i : ℕ) → is_before (ready_clock_of v i) c ≡ true → is_ready_wrongly v c i ≡ true
unfolding is_ready_wrongly
wrongly_twice v c i t = or_right _ _ t

pub ready_for_none-sound : (m : Marks) (v : Trace) (c number : ℕ) → Holds m v c (ReadyForNone number)
    → is_target_ready_wrong v c ≡ true
ready_for_none-sound m v c number h =
    ready_wrong v c number h.0 (h.1).0 (wrongly_unfit v c number (and_left _ _ (no_takes v number (h.1).1)))

unsettled_takes : (v : Trace) (i : ℕ) → snoop_end_of v i ≡ None → is_write_back (live_request_of v i) ≡ false
    → takes v i ≡ false
unfolding takes line_at_snoop_end is_some_and
unsettled_takes v i e f = rw (e, f) refl

pub ready_unsettled-sound : (m : Marks) (v : Trace) (c : ℕ) (request : Concerned)
    → Holds m v c (ReadyUnsettled request) → is_target_ready_wrong v c ≡ true
ready_unsettled-sound m v c request h =
    let i : ℕ = request.number in
    ready_wrong v c i h.0 (h.1).0 (wrongly_unfit v c i (and_left _ _ (unsettled_takes v i h.2 h.3)))

pub ready_unwanted-sound : (m : Marks) (v : Trace) (c : ℕ) (request : Concerned) (snoop_end : ℕ)
    → Holds m v c (ReadyUnwanted request snoop_end) → is_target_ready_wrong v c ≡ true
ready_unwanted-sound m v c request snoop_end h =
    ready_wrong v c request.number h.0 (h.1).0 (wrongly_unfit v c request.number (and_left _ _ h.3))

pub ready_early-sound : (m : Marks) (v : Trace) (c : ℕ) (request : Concerned) (w : Wait) (earliest : Option ℕ)
    → Holds m v c (ReadyEarly request w earliest) → is_target_ready_wrong v c ≡ true
ready_early-sound m v c request w earliest h =
    let i : ℕ = request.number in
    ready_wrong v c i h.0 (h.1).0 (wrongly_unfit v c i (and_right _ _ (waits-none v c i w h.3)))

pub ready_twice-sound : (m : Marks) (v : Trace) (c : ℕ) (request : Concerned) (ready : ℕ)
    → Holds m v c (ReadyTwice request ready) → is_target_ready_wrong v c ≡ true
ready_twice-sound m v c request ready h =
    let i : ℕ = request.number in
    ready_wrong v c i h.0 (h.1).0 (wrongly_twice v c i (is_before-from _ ready c h.2 h.3))

unready : (v : Trace) (c i : ℕ) → responds_soundly v c ≡ true → i ≡ next_response v c → takes v i ≡ true
    → is_ready_in_time v c i ≡ false → is_target_ready_wrong v c ≡ true
unfolding is_target_ready_wrong
unready v c i s e t f =
    let takes_next = subst (λ x. takes v x ≡ true) e t in
    let late = subst (λ x. is_ready_in_time v c x ≡ false) e f in
    or_right _ _ (and_from _ _ (and_from _ _ s takes_next) (not_from_false _ late))

pub response_unready-sound : (m : Marks) (v : Trace) (c : ℕ) (request : Concerned) (ready earliest : Option ℕ)
    → Holds m v c (ResponseUnready request ready earliest) → is_target_ready_wrong v c ≡ true
response_unready-sound m v c request ready earliest h = unready v c request.number h.0 (h.1).0 h.2 h.4

unwanted-reason : (m : Marks) (v : Trace) (c n q : ℕ) (o : Option ℕ) → n ≡ next_response v c
    → live_clock_of v n ≡ Some q → line_at TRDY v c ≡ true → snoop_end_of v n ≡ o → takes v n ≡ false
    → HasReason m v c 15
unfolding rule_of takes
unwanted-reason m v c n q None next e t s f = record {
  reason = ReadyUnsettled (record { number = n; clock = q });
  rule = refl;
  holds = (t, (next, e), s, (or_parts _ _ f).0);
}
unwanted-reason m v c n q (Some end) next e t s f = record {
  reason = ReadyUnwanted (record { number = n; clock = q }) end;
  rule = refl;
  holds = (t, (next, e), s, f);
}

trdy-reason : (m : Marks) (v : Trace) (c n : ℕ) → n ≡ next_response v c → line_at TRDY v c ≡ true
    → is_ready_wrongly v c n ≡ true → HasReason m v c 15
unfolding is_ready_wrongly rule_of
trdy-reason m v c n e t w =
    elim (cases_lt n (live_count v)) [
      | inr past ↦ record { reason = ReadyForNone n; rule = refl; holds = (t, (e, past)) }
      | inl live ↦
          let q = live_there v n live in
          elim (cases_Bool (takes v n)) [
            | inr unwanted ↦ unwanted-reason m v c n q.0 (snoop_end_of v n) e q.1 t refl unwanted
            | inl wanted ↦ elim (cases_Bool (may_answer v c n)) [
              | inr off ↦
                  let wait = waits v c n off in
                  record {
                    reason = ReadyEarly (record { number = n; clock = q.0 }) wait.0 (answer_from v n);
                    rule = refl;
                    holds = (t, (e, q.1), wanted, wait.1, refl);
                  }
              | inl may ↦ elim (or_cases _ _ w) [
                | inl g ↦ absurd (both_ways _ (not-true _ g) (and_from _ _ wanted may))
                | inr before ↦
                    let y = is_before-parts (ready_clock_of v n) c before in
                    record {
                      reason = ReadyTwice (record { number = n; clock = q.0 }) y.0;
                      rule = refl;
                      holds = (t, (e, q.1), y.1, y.2);
                    }
              ]
            ]
          ]
    ]

unready-reason : (m : Marks) (v : Trace) (c n : ℕ) → n ≡ next_response v c → responds_soundly v c ≡ true
    → takes v n ≡ true → is_ready_in_time v c n ≡ false → HasReason m v c 15
unfolding rule_of
unready-reason m v c n e s t f =
    elim (cases_lt n (live_count v)) [
      | inr past ↦ absurd (both_ways _ (no_takes v n past) t)
      | inl live ↦
          let q = live_there v n live in
          record {
            reason = ResponseUnready (record { number = n; clock = q.0 }) (ready_clock_of v n)
                (option_map (λ y. y + 2) (ready_clock_of v n));
            rule = refl;
            holds = (s, (e, q.1), t, refl, f, refl);
          }
    ]

pub reason_15 : (m : Marks) (v : Trace) (c : ℕ) → is_target_ready_wrong v c ≡ true → HasReason m v c 15
unfolding is_target_ready_wrong
reason_15 m v c t =
    elim (or_cases _ _ t) [
      | inl trdy ↦ let p = and_parts _ _ trdy in trdy-reason m v c (next_response v c) refl p.0 p.1
      | inr late ↦
          let p = and_parts _ _ late in
          let q = and_parts _ _ p.0 in
          unready-reason m v c (next_response v c) refl q.0 q.1 (not-true _ p.1)
    ]
