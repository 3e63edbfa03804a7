-- Which lines are spoiled, one sample on.
use Rattle.std.proofs.Common.{ℕ, ◌+◌, ◌<◌, ◌≤◌, ◌≡◌, true, false, ◌||◌, length, Option, Some, None}
use Rattle.std.proofs.Common.{refl, sym, ap, ◌∙◌, arith, inl, inr}
use Rattle.std.proofs.lemmas.Bool.{and_parts, and_from, cases_lt, false_from_ne_true, or_cases, or_left, or_right}
use Rattle.fsb_count.specs.Clocks.{first_where}
use Rattle.fsb_count.specs.Options.{is_at, is_some_and}
use Rattle.fsb_count.proofs.Interface.{any_where-at, any_where-found, first_where-at, first_where-found, is_at-from, is_at-some}
use Rattle.fsb_count.proofs.Interface.{nth_where-found, nth_where-rises}
use Rattle.fsb_signal.specs.declared.sample.Sample.{Sample}
use Rattle.fsb_trace.specs.At.{Trace, responds_at}
use Rattle.fsb_trace.specs.Outcome.{live_response_of, outcome_of, response_clock_of}
use Rattle.fsb_trace.specs.Requests.{live_count}
use Rattle.fsb_trace.specs.Snoop.{snoop_end_of}
use Rattle.fsb_trace.proofs.Interface.{live_below_count, live_response_of-is, outcome_of-stays, snoop_end_of-clock, snoop_end_of-stays}
use Rattle.fsb_laws.specs.OneMore.{OneMore}
use Rattle.fsb_laws.specs.Orderly.{Orderly}
use Rattle.fsb_laws.proofs.Interface.{has_answer}
use Rattle.fsb_owners.specs.Shown.{is_failure, is_for_line, is_spoiled, names, origin_clock_of}
use Rattle.fsb_owner_laws.proofs.AgreeEnders.{for_line-from, origin_parts}
use Rattle.fsb_owner_laws.proofs.AgreePossible.{some_and}
use Rattle.fsb_owner_laws.proofs.AgreeWords.{Alike, names-agree, same_answers, turned_round}
use Rattle.fsb_owner_rows.specs.Kept.{answered_at}
use Rattle.fsb_owner_fails.specs.Fails.{fails_at, fails_for}

-- what failed for the line has its response, and before it its snoop end
record IsFailed (w : Trace) (line j : ℕ) : Type 0 where
  response : ℕ
  is_response : response_clock_of w j ≡ Some response
  snoop : ℕ
  is_snoop : snoop_end_of w j ≡ Some snoop
  before : snoop + 2 ≤ response
  within : response < length w
  clock : ℕ
  begins : origin_clock_of w j ≡ Some clock
  named : names w line clock ≡ true
  failure : is_some_and (outcome_of w j) is_failure ≡ true

told_there : (w : Trace) (j : ℕ) (o : Option ℕ) → live_response_of w j ≡ o → is_some_and (outcome_of w j) is_failure ≡ true
    → (r : ℕ) × (live_response_of w j ≡ Some r)
unfolding outcome_of is_some_and
told_there w j None e t = absurd (let f : false ≡ true = rw e at t in let no : ⊥ = cc in no)
told_there w j (Some r) e t = (r, e)

in_trace : (w : Trace) (j r : ℕ) → response_clock_of w j ≡ Some r → r < length w
unfolding response_clock_of
in_trace w j r e = (nth_where-found (responds_at w) j (length w) r e).0

named_by : (w : Trace) (line j : ℕ) → is_for_line w line j ≡ true
    → (q : ℕ) × (origin_clock_of w j ≡ Some q) × (names w line q ≡ true)
unfolding is_for_line
named_by w line j t = some_and (origin_clock_of w j) (names w line) t

failed_parts : (w : Trace) (line j : ℕ) → Orderly w → fails_for w line j ≡ true → IsFailed w line j
unfolding fails_for
failed_parts w line j o t =
    let p = and_parts (is_for_line w line j) (is_some_and (outcome_of w j) is_failure) t in
    let r = told_there w j (live_response_of w j) refl p.1 in
    let at = live_response_of-is w j r.0 r.1 in
    let a = has_answer w r.0 j (o.timely j r.0 at) in
    let q = named_by w line j p.0 in
    record {
      response = r.0;
      is_response = at;
      snoop = a.snoop;
      is_snoop = a.is_snoop;
      before = a.before;
      within = in_trace w j r.0 at;
      clock = q.0;
      begins = q.1;
      named = q.2;
      failure = p.1;
    }

fails_from : (w : Trace) (line j q : ℕ) → origin_clock_of w j ≡ Some q → names w line q ≡ true
    → is_some_and (outcome_of w j) is_failure ≡ true → fails_for w line j ≡ true
unfolding fails_for
fails_from w line j q e n f = and_from _ _ (for_line-from w line j q e ∙ n) f

-- what failed below n failed in both
fails_stays : (n : ℕ) (w v : Trace) (line j : ℕ) → Alike n w v → (f : IsFailed w line j) → f.response < n
    → (j < live_count v) × (fails_for v line j ≡ true)
fails_stays n w v line j k f l =
    let early : f.snoop < n = omega (arith, f.before, l) in
    let there = snoop_end_of-stays n w v j f.snoop k.agree early f.is_snoop in
    let c = snoop_end_of-clock v j f.snoop there in
    let o = origin_parts n w v j f.snoop f.clock k f.is_snoop early f.begins in
    let same = outcome_of-stays n w v j f.snoop f.response k.agree early f.is_snoop l f.is_response in (
      live_below_count v j c.clock c.is_clock,
      fails_from v line j f.clock o.1 (sym (names-agree n w v line f.clock k.agree (omega (arith, o.0, early))) ∙ f.named)
          (ap (λ t. is_some_and t is_failure) (sym same) ∙ f.failure),
    )

-- two requests don't respond at one clock
not_sooner : (w : Trace) (i j r : ℕ) → i < j → response_clock_of w j ≡ Some r → is_at (response_clock_of w i) r ≡ false
unfolding response_clock_of
not_sooner w i j r l e =
    false_from_ne_true _ (λ t.
    let less = nth_where-rises (responds_at w) i j (length w) r r l (is_at-some _ r t) e in omega (arith, less))

answered_from : (w : Trace) (j r : ℕ) → j < live_count w → response_clock_of w j ≡ Some r → answered_at w r ≡ Some j
unfolding answered_at
answered_from w j r l e =
    first_where-at (λ i. is_at (response_clock_of w i) r) (live_count w) j l (is_at-from _ r e)
    (λ i less. not_sooner w i j r less e)

fails_then : (w : Trace) (c line j : ℕ) → answered_at w c ≡ Some j → fails_for w line j ≡ true → fails_at w c line ≡ true
unfolding fails_at is_some_and
fails_then w c line j e t = rw e t

fails_by : (w : Trace) (c line : ℕ) → fails_at w c line ≡ true → (j : ℕ) × (j < live_count w) × (fails_for w line j ≡ true)
unfolding fails_at answered_at
fails_by w c line t =
    let p = some_and (first_where (λ j. is_at (response_clock_of w j) c) (live_count w)) (fails_for w line) t in
    (p.0, (first_where-found _ (live_count w) p.0 p.1).0, p.2)

spoiled_found : (w : Trace) (line : ℕ) → is_spoiled w line ≡ true → (j : ℕ) × (j < live_count w) × (fails_for w line j ≡ true)
unfolding is_spoiled fails_for
spoiled_found w line t = any_where-found _ (live_count w) t

spoiled_from : (w : Trace) (line j : ℕ) → j < live_count w → fails_for w line j ≡ true → is_spoiled w line ≡ true
unfolding is_spoiled fails_for
spoiled_from w line j l t = any_where-at _ (live_count w) j l t

module _ (h : Trace) (x : Sample) (v : Trace) (line : ℕ) (more : OneMore h x v) (before : Orderly h) (after : Orderly v) where
  alike : Alike (length h) h v
  alike = record { agree = more.agree; left = before; right = after }

  forth : (fails_at v (length h) line || is_spoiled h line) ≡ true → is_spoiled v line ≡ true
  forth t =
      elim (or_cases (fails_at v (length h) line) (is_spoiled h line) t) [
        | inl now ↦ let p = fails_by v (length h) line now in spoiled_from v line p.0 p.1 p.2
        | inr old ↦
            let p = spoiled_found h line old in
            let f = failed_parts h line p.0 before p.2 in
            let s = fails_stays (length h) h v line p.0 alike f f.within in
            spoiled_from v line p.0 s.0 s.1
      ]

  back : is_spoiled v line ≡ true → (fails_at v (length h) line || is_spoiled h line) ≡ true
  back t =
      let p = spoiled_found v line t in
      let f = failed_parts v line p.0 after p.2 in
      elim (cases_lt f.response (length h)) [
        | inl old ↦
            let s = fails_stays (length h) v h line p.0 (turned_round (length h) h v alike) f old in
            or_right _ _ (spoiled_from h line p.0 s.0 s.1)
        | inr now ↦
            let same : f.response ≡ length h = omega (arith, now, f.within, more.size) in
            or_left _ _
            (fails_then v (length h) line p.0 (answered_from v p.0 (length h) p.1 (f.is_response ∙ ap (λ r. Some r) same)) p.2)
      ]

  pub spoils : is_spoiled v line ≡ (fails_at v (length h) line || is_spoiled h line)
  spoils = same_answers (is_spoiled v line) (fails_at v (length h) line || is_spoiled h line) back forth
