-- A trace that breaks no phase rule is orderly, and what is Deferred in it had DEFER#.
use Rattle.std.proofs.Common.{ℕ, zero, suc, ◌+◌, ◌-◌, ◌<◌, ◌≤◌, ◌≡◌, Bool, true, false, ◌&&◌, ◌||◌, not, nat_eq, nat_lt}
use Rattle.std.proofs.Common.{length, take}
use Rattle.std.proofs.Common.{[], ◌∷◌, Option, Some, None, refl, sym, ap, ◌∙◌, arith, inl, inr, if◌then◌else◌}
use Rattle.std.specs.Prelude.{slice_get}
use Rattle.std.specs.Option.{option_map}
use Rattle.std.proofs.lemmas.Bool.{and_parts, both_ways, cases_eq, eqb-true, le-leb, lt-ltb}
use Rattle.std.proofs.lemmas.List.{length-take-le}
use Rattle.fsb_count.specs.Clocks.{count_where}
use Rattle.fsb_count.specs.Options.{is_some_and}
use Rattle.fsb_count.proofs.Interface.{count_where-same, nth_where-found}
use Rattle.fsb_signal.specs.declared.lines.TheConstants.Lines.{ADS, DEFER, HITM}
use Rattle.fsb_signal.specs.declared.marks.Marks.{Marks}
use Rattle.fsb_signal.specs.Samples.{line_at}
use Rattle.fsb_encode.specs.declared.request.Request.{Request}
use Rattle.fsb_encode.specs.declared.request.Kind.TheVariants as kinds
use Rattle.fsb_trace.specs.Agree.{AgreeTo}
use Rattle.fsb_trace.specs.At.{Trace, line_back, responds_at, response_code_at}
use Rattle.fsb_trace.specs.Requests.{is_upgrade, is_write_back, live_count, live_request_of}
use Rattle.fsb_trace.specs.Snoop.{line_at_snoop_end, snoop_end_of}
use Rattle.fsb_trace.specs.Outcome.{is_deferral, is_deferred, live_response_of, outcome_by_kind, outcome_of, response_clock_of}
use Rattle.fsb_trace.specs.Outcome.{response_code_of, told_by}
use Rattle.fsb_trace.specs.declared.outcome.Outcome.TheVariants.{Deferred, Failed, Granted, Handed, Replied, Retried}
use Rattle.fsb_trace.specs.declared.outcome.Outcome.TheVariants.{Upgraded, Written}
use Rattle.fsb_trace.specs.Rules.{breaks, has_code_at, has_den, is_code_for, is_code_wrong, is_request_too_soon}
use Rattle.fsb_trace.specs.Rules.{is_response_early}
use Rattle.fsb_trace.specs.Rules.{may_answer, next_response, responds_soundly}
use Rattle.fsb_trace.specs.Verdict.{is_broken, verdict}
use Rattle.fsb_trace.proofs.Interface.{AgreeTo-sym, breaks-13, breaks-14, breaks-2, line_at-agree, line_at_snoop_end-stays}
use Rattle.fsb_trace.proofs.Interface.{live_response_of-there, responds_at-agree, response_code_at-agree, verdict-none}
use Rattle.fsb_laws.specs.Orderly.{Orderly}
use Rattle.fsb_laws.proofs.Interface.{ads_before_end, may_answer-stays}
use Rattle.fsb_owner_laws.proofs.AgreeWords.{put_off}
use Rattle.fsb_owner_laws.proofs.AskedOnce.{deferred_quiet, off_then}

pub slice_get-take : (n : ℕ) (w : Trace) (c : ℕ) → c < n → slice_get (take n w) c ≡ slice_get w c
slice_get-take zero w c l = absurd (omega (arith, l))
slice_get-take (suc n) [] c l = refl
slice_get-take (suc n) (x ∷ w) zero l = refl
slice_get-take (suc n) (x ∷ w) (suc c) l = slice_get-take n w c (omega (arith, l))

pub prefix-agree : (v : Trace) (c : ℕ) → c < length v → AgreeTo (c + 1) (take (c + 1) v) v
prefix-agree v c l =
    let size = length-take-le (c + 1) v (omega (arith, l)) in
    record { left = omega (arith, size); right = omega (arith, l); same = λ d m. slice_get-take (c + 1) v d m }

unbroken : (m : Marks) (v : Trace) (c j : ℕ) → verdict m v ≡ None → c < length v → j < 21 → breaks m (take (c + 1) v) c j ≡ false
unfolding is_broken
unbroken m v c j h l k =
    off_then (nat_lt c (length v)) (breaks m (take (c + 1) v) c j) (verdict-none m v h c j k) (lt-ltb c (length v) l)

or_off : (a b c : Bool) → (a || b || c) ≡ false → (b ≡ false) × (c ≡ false)
or_off false false false e = (refl, refl)
or_off true b c e = absurd (cc)
or_off false true c e = absurd (cc)
or_off false false true e = absurd (cc)

back : (u : Trace) (q d p : ℕ) → d ≤ q → p ≡ q - d → line_at ADS u p ≡ true → line_back ADS u q d ≡ true
unfolding line_back
back u q d p l e t = rw (le-leb d q l) (ap (line_at ADS u) (sym e) ∙ t)

apart : (m : Marks) (v : Trace) → verdict m v ≡ None → (p q : ℕ) → p < q → line_at ADS v p ≡ true
    → line_at ADS v q ≡ true → p + 3 ≤ q
unfolding is_request_too_soon
apart m v h p q l tp tq =
    let below = ads_before_end v q tq in
    let u = take (q + 1) v in
    let a = prefix-agree v q below in
    let here : line_at ADS u q ≡ true = line_at-agree ADS (q + 1) u v q a (omega arith) ∙ tq in
    let there : line_at ADS u p ≡ true = line_at-agree ADS (q + 1) u v p a (omega (arith, l)) ∙ tp in
    let free = or_off (nat_lt q 2) (line_back ADS u q 1) (line_back ADS u q 2)
    (off_then (line_at ADS u q) (nat_lt q 2 || line_back ADS u q 1 || line_back ADS u q 2)
    (sym (breaks-2 m u q) ∙ unbroken m v q 2 h below (omega arith)) here) in
    elim (cases_eq (p + 1) q) [
      | inl one ↦ absurd (both_ways (line_back ADS u q 1) free.0 (back u q 1 p (omega (arith, one)) (omega (arith, one)) there))
      | inr more ↦ elim (cases_eq (p + 2) q) [
        | inl two ↦ absurd (both_ways (line_back ADS u q 2) free.1 (back u q 2 p (omega (arith, two)) (omega (arith, two)) there))
        | inr three ↦ omega (arith, l, more, three)
      ]
    ]

next-agree : (v : Trace) (r i : ℕ) → r < length v → count_where (responds_at v) r ≡ i → next_response (take (r + 1) v) r ≡ i
unfolding next_response
next-agree v r i l e =
    count_where-same (responds_at (take (r + 1) v)) (responds_at v) r
    (record { same = λ c m. responds_at-agree (r + 1) (take (r + 1) v) v c (prefix-agree v r l) (omega (arith, m)) }) ∙ e

not_off : (b : Bool) → not b ≡ false → b ≡ true
not_off true e = refl
not_off false e = absurd (cc)

in_time : (m : Marks) (v : Trace) → verdict m v ≡ None → (i r : ℕ) → response_clock_of v i ≡ Some r → may_answer v r i ≡ true
unfolding response_clock_of is_response_early
in_time m v h i r e =
    let f = nth_where-found (responds_at v) i (length v) r e in
    let u = take (r + 1) v in
    let a = prefix-agree v r f.0 in
    let here : responds_at u r ≡ true = responds_at-agree (r + 1) u v r a (omega arith) ∙ f.1 in
    let may = not_off (may_answer u r (next_response u r))
    (off_then (responds_at u r) (not (may_answer u r (next_response u r)))
    (sym (breaks-13 m u r) ∙ unbroken m v r 13 h f.0 (omega arith)) here) in
    may_answer-stays (r + 1) u v r i a (omega arith) (ap (may_answer u r) (sym (next-agree v r i f.0 f.2)) ∙ may)

pub sound_orderly : (m : Marks) (v : Trace) → verdict m v ≡ None → Orderly v
sound_orderly m v h = record { spaced = record { apart = apart m v h }; timely = in_time m v h }

-- the code of a Deferred request
by_kind : (request : Option Request) → is_deferral (outcome_by_kind request) ≡ false
unfolding is_deferral outcome_by_kind
by_kind None = refl
by_kind (Some request) = elim request.kind as (λ k. is_deferral (elim k [
  | kinds.WriteBack ↦ Written
  | kinds.Upgrade ↦ Upgraded
  | kinds.Reply ↦ Replied
  | kinds.Read ↦ Granted
  | kinds.Invalidate ↦ Granted
]) ≡ false)
    [ kinds.WriteBack ↦ refl | kinds.Upgrade ↦ refl | kinds.Reply ↦ refl | kinds.Read ↦ refl | kinds.Invalidate ↦ refl ]

told_code : (a b c d : Bool) (request : Option Request)
    → is_deferral (if a then Failed else (if b then Handed else (if c then Retried else (if d then Deferred else outcome_by_kind request)))) ≡ true
    → (a ≡ false) × (d ≡ true)
unfolding is_deferral
told_code true b c d request e = absurd (let no : ⊥ = cc in no)
told_code false true c d request e = absurd (let no : ⊥ = cc in no)
told_code false false true d request e = absurd (let no : ⊥ = cc in no)
told_code false false false true request e = (refl, refl)
told_code false false false false request e = absurd (both_ways (is_deferral (outcome_by_kind request)) (by_kind request) e)

coded : (v : Trace) (i : ℕ) (o : Option ℕ) (r : ℕ) → o ≡ Some r
    → is_some_and (option_map (λ r. told_by v i (response_code_at v r)) o) is_deferral ≡ true
    → (nat_eq (response_code_at v r) (response_code_of Failed) ≡ false) × (nat_eq (response_code_at v r) (response_code_of Deferred) ≡ true)
unfolding is_some_and told_by
coded v i o r e t =
    told_code (nat_eq (response_code_at v r) (response_code_of Failed)) (line_at_snoop_end HITM v i)
    (nat_eq (response_code_at v r) (response_code_of Retried)) (nat_eq (response_code_at v r) (response_code_of Deferred)) (live_request_of v i)
    (let k = rw e at t in k)

deferred_code : (v : Trace) (i s r : ℕ) → is_deferred v i ≡ true → snoop_end_of v i ≡ Some s → response_clock_of v i ≡ Some r
    → (nat_eq (response_code_at v r) (response_code_of Failed) ≡ false) × (nat_eq (response_code_at v r) (response_code_of Deferred) ≡ true)
unfolding is_deferred outcome_of
deferred_code v i s r d e f = coded v i (live_response_of v i) r (live_response_of-there v i s e ∙ f) d

must_defer : (h w d u : Bool) (request : Option Request) (code : ℕ) → h ≡ false → code ≡ 2
    → (if h then nat_eq code (response_code_of Handed)
    else (if w then nat_eq code (response_code_of Written)
    else (if d then nat_eq code (response_code_of Retried) || has_den request && nat_eq code (response_code_of Deferred)
    else (if u then nat_eq code (response_code_of Upgraded) else nat_eq code (response_code_of Granted))))) ≡ true
    → d ≡ true
unfolding response_code_of
must_defer h w true u request code e f t = refl
must_defer h true false u request code e f t = absurd (let k = rw (e, f) at t in let no : ⊥ = cc in no)
must_defer h false false true request code e f t = absurd (let k = rw (e, f) at t in let no : ⊥ = cc in no)
must_defer h false false false request code e f t = absurd (let k = rw (e, f) at t in let no : ⊥ = cc in no)

code_defers : (u : Trace) (i code : ℕ) → line_at_snoop_end HITM u i ≡ false → nat_eq code (response_code_of Deferred) ≡ true
    → is_code_for u i code ≡ true → line_at_snoop_end DEFER u i ≡ true
unfolding is_code_for response_code_of
code_defers u i code h c t =
    must_defer (line_at_snoop_end HITM u i) (is_write_back (live_request_of u i)) (line_at_snoop_end DEFER u i)
    (is_upgrade (live_request_of u i)) (live_request_of u i) code h (eqb-true code 2 c) t

soundly : (u : Trace) (r : ℕ) → responds_at u r ≡ true → nat_eq (response_code_at u r) (response_code_of Failed) ≡ false
    → responds_soundly u r ≡ true
unfolding responds_soundly
soundly u r t f = rw (t, f) refl

has_code : (u : Trace) (r i : ℕ) → has_code_at u r i ≡ true → is_code_for u i (response_code_at u r) ≡ true
unfolding has_code_at
has_code u r i t = (and_parts (nat_lt i (live_count u)) (is_code_for u i (response_code_at u r)) t).1

response_found : (v : Trace) (i r : ℕ) → response_clock_of v i ≡ Some r
    → (r < length v) × (responds_at v r ≡ true) × (count_where (responds_at v) r ≡ i)
unfolding response_clock_of
response_found v i r e = nth_where-found (responds_at v) i (length v) r e

pub sound_defers : (m : Marks) (v : Trace) (i : ℕ) → verdict m v ≡ None → is_deferred v i ≡ true
    → line_at_snoop_end DEFER v i ≡ true
unfolding is_code_wrong
sound_defers m v i h d =
    let p = put_off v i (sound_orderly m v h) d in
    let r = p.response in
    let f = response_found v i r p.is_response in
    let u = take (r + 1) v in
    let a = prefix-agree v r f.0 in
    let code : response_code_at u r ≡ response_code_at v r = response_code_at-agree (r + 1) u v r a (omega arith) in
    let k = deferred_code v i p.snoop r d p.is_snoop p.is_response in
    let sound = soundly u r (responds_at-agree (r + 1) u v r a (omega arith) ∙ f.1)
    (ap (λ n. nat_eq n (response_code_of Failed)) code ∙ k.0) in
    let has = not_off (has_code_at u r (next_response u r))
    (off_then (responds_soundly u r) (not (has_code_at u r (next_response u r)))
    (sym (breaks-14 m u r) ∙ unbroken m v r 14 h f.0 (omega arith)) sound) in
    let fits = has_code u r i (ap (has_code_at u r) (sym (next-agree v r i f.0 f.2)) ∙ has) in
    let back = AgreeTo-sym (r + 1) u v a in
    let low : p.snoop < r + 1 = omega (arith, p.before) in
    let quiet : line_at_snoop_end HITM u i ≡ false =
    sym (line_at_snoop_end-stays HITM (r + 1) v u i p.snoop back low p.is_snoop) ∙ deferred_quiet v i d in
    line_at_snoop_end-stays DEFER (r + 1) v u i p.snoop back low p.is_snoop
    ∙ code_defers u i (response_code_at u r) quiet (ap (λ n. nat_eq n (response_code_of Deferred)) code ∙ k.1) fits
