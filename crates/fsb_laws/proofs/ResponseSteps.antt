-- Responses and outcomes, one sample on.
use Rattle.std.proofs.Common.{ℕ, ◌+◌, ◌<◌, ◌≤◌, ◌≡◌, true, cond, ◌&&◌, nat_le, Option, Some, None, length, refl, sym}
use Rattle.std.proofs.Common.{ap, ◌∙◌, arith, inl, inr, [], false, add-zero}
use Rattle.std.proofs.lemmas.Bool.{cases_lt, and_parts, leb-true, le-leb}
use Rattle.fsb_count.specs.Options.{is_some_and}
use Rattle.fsb_count.specs.Clocks.{AgreeBelow, count_where}
use Rattle.fsb_count.proofs.Interface.{count_where-more, count_where-same, nth_where-found, nth_where-at}
use Rattle.fsb_count.proofs.Interface.{nth_where-there, nth_where-past}
use Rattle.fsb_signal.specs.declared.sample.Sample.{Sample}
use Rattle.fsb_signal.specs.declared.lines.TheConstants.Lines.{HITM}
use Rattle.fsb_signal.specs.Samples.{response_of}
use Rattle.fsb_trace.specs.At.{Trace, responds_at}
use Rattle.fsb_trace.specs.Snoop.{snoop_end_of}
use Rattle.fsb_trace.specs.Outcome.{response_clock_of, outcome_of, told_by, moves_data, is_deferred, does_move}
use Rattle.fsb_trace.specs.Outcome.{is_deferral}
use Rattle.fsb_trace.specs.Response.{is_clear_before}
use Rattle.fsb_trace.specs.Rules.{may_answer, next_response}
use Rattle.fsb_trace.proofs.Interface.{responds_at-agree, response_clock_of-stays, snoop_end_of-stays}
use Rattle.fsb_trace.proofs.Interface.{live_response_of-there, outcome_of-stays, line_at_snoop_end-stays}
use Rattle.fsb_trace.proofs.Interface.{live_request_of-stays}
use Rattle.fsb_laws.specs.OneMore.{OneMore, responds}
use Rattle.fsb_laws.specs.Orderly.{Orderly}
use Rattle.fsb_laws.specs.Progress.{SnoopsTo, response_count}
use Rattle.fsb_laws.proofs.OneMoreFacts.{response_code_at-new}

-- what it takes that live request i may be answered at c
pub record HasAnswer (w : Trace) (c i : ℕ) : Type 0 where
  pub snoop : ℕ
  pub is_snoop : snoop_end_of w i ≡ Some snoop
  pub before : snoop + 2 ≤ c
  pub clear : is_clear_before w i c ≡ true

answer_parts : (w : Trace) (c i : ℕ) (o : Option ℕ) → snoop_end_of w i ≡ o
    → (is_some_and o (λ s. nat_le (s + 2) c) && is_clear_before w i c) ≡ true → HasAnswer w c i
unfolding is_some_and
answer_parts w c i None e t = absurd (let no : ⊥ = cc in no)
answer_parts w c i (Some s) e t =
    let p = and_parts _ _ t in
    record { snoop = s; is_snoop = e; before = leb-true (s + 2) c p.0; clear = p.1 }

pub has_answer : (w : Trace) (c i : ℕ) → may_answer w c i ≡ true → HasAnswer w c i
unfolding may_answer
has_answer w c i t = answer_parts w c i (snoop_end_of w i) refl t

pub may_answer-from : (w : Trace) (c i : ℕ) → HasAnswer w c i → may_answer w c i ≡ true
unfolding may_answer is_some_and
may_answer-from w c i a = rw (a.is_snoop, le-leb (a.snoop + 2) c a.before) a.clear

-- the responses of the old trace
pub responds_at-new : (h : Trace) (x : Sample) (v : Trace) → OneMore h x v → responds_at v (length h) ≡ responds x
unfolding responds_at responds
responds_at-new h x v m = rw (response_code_at-new h x v m) refl

same_responses : (h : Trace) (x : Sample) (v : Trace) → OneMore h x v
    → AgreeBelow (length h) (responds_at h) (responds_at v)
same_responses h x v m = record { same = λ c l. responds_at-agree (length h) h v c m.agree l }

-- the next response at the new clock is the one after all old ones
pub next_response-new : (h : Trace) (x : Sample) (v : Trace) → OneMore h x v
    → next_response v (length h) ≡ response_count h
unfolding next_response response_count
next_response-new h x v m = sym (count_where-same (responds_at h) (responds_at v) (length h) (same_responses h x v m))

pub response_count-more : (h : Trace) (x : Sample) (v : Trace) → OneMore h x v
    → response_count v ≡ response_count h + cond (responds x) 1 0
unfolding response_count next_response
response_count-more h x v m =
    rw m.size (count_where-more (responds_at v) (length h)
    ∙ ap (λ b. count_where (responds_at v) (length h) + cond b 1 0) (responds_at-new h x v m)
    ∙ ap (λ n. n + cond (responds x) 1 0) (sym (count_where-same _ _ (length h) (same_responses h x v m))))

-- without a response the count stays
pub response_count-kept : (h : Trace) (x : Sample) (v : Trace) → OneMore h x v → responds x ≡ false
    → response_count v ≡ response_count h
response_count-kept h x v m f =
    response_count-more h x v m ∙ ap (λ b. response_count h + cond b 1 0) f ∙ add-zero (response_count h)

-- the empty trace has no response
pub response_count-empty : response_count [] ≡ 0
unfolding response_count count_where
response_count-empty = refl

pub response_there : (w : Trace) (i : ℕ) → i < response_count w
    → (r : ℕ) × (response_clock_of w i ≡ Some r) × (r < length w)
unfolding response_count response_clock_of
response_there w i l =
    let p = nth_where-there (responds_at w) i (length w) l in
    (p.0, p.1, (nth_where-found (responds_at w) i (length w) p.0 p.1).0)

pub response_past : (w : Trace) (i : ℕ) → response_count w ≤ i → response_clock_of w i ≡ None
unfolding response_count response_clock_of
response_past w i l = nth_where-past (responds_at w) i (length w) l

pub response_counted : (w : Trace) (i r : ℕ) → response_clock_of w i ≡ Some r → i < response_count w
response_counted w i r e =
    elim (cases_lt i (response_count w)) [
      | inl l ↦ l
      | inr l ↦ let none = response_past w i l in absurd (let no : ⊥ = cc in no)
    ]

pub response_clock_of-old : (h : Trace) (x : Sample) (v : Trace) (i : ℕ) → OneMore h x v → i < response_count h
    → response_clock_of v i ≡ response_clock_of h i
response_clock_of-old h x v i m l =
    let p = response_there h i l in
    response_clock_of-stays (length h) h v i p.0 m.agree p.2 p.1 ∙ sym p.1

pub response_clock_of-new : (h : Trace) (x : Sample) (v : Trace) → OneMore h x v → responds x ≡ true
    → response_clock_of v (response_count h) ≡ Some (length h)
unfolding response_clock_of next_response
response_clock_of-new h x v m t =
    let size : length v ≡ length h + 1 = m.size in
    let place : count_where (responds_at v) (length h) ≡ response_count h = next_response-new h x v m in
    rw (← place) (nth_where-at (responds_at v) (length v) (length h) (omega arith) (responds_at-new h x v m ∙ t))

-- the outcomes of the old responses stay
pub outcome_of-old : (h : Trace) (x : Sample) (v : Trace) (i : ℕ) → OneMore h x v → Orderly h
    → i < response_count h → outcome_of v i ≡ outcome_of h i
outcome_of-old h x v i m o l =
    let p = response_there h i l in
    let a = has_answer h p.0 i (o.timely i p.0 p.1) in
    sym (outcome_of-stays (length h) h v i a.snoop p.0 m.agree (omega (arith, a.before, p.2)) a.is_snoop p.2 p.1)

pub moves_data-old : (h : Trace) (x : Sample) (v : Trace) (i : ℕ) → OneMore h x v → Orderly h
    → i < response_count h → moves_data v i ≡ moves_data h i
unfolding moves_data
moves_data-old h x v i m o l = ap (λ k. is_some_and k does_move) (outcome_of-old h x v i m o l)

pub is_deferred-old : (h : Trace) (x : Sample) (v : Trace) (i : ℕ) → OneMore h x v → Orderly h
    → i < response_count h → is_deferred v i ≡ is_deferred h i
unfolding is_deferred
is_deferred-old h x v i m o l = ap (λ k. is_some_and k is_deferral) (outcome_of-old h x v i m o l)

-- what a response tells of a request rests on its snoop end
pub told_by-old : (h : Trace) (x : Sample) (v : Trace) (s i code : ℕ) → OneMore h x v → SnoopsTo h s → i < s
    → told_by v i code ≡ told_by h i code
unfolding told_by
told_by-old h x v s i code m to l =
    let p = to.reached i l in
    sym (rw (
      line_at_snoop_end-stays HITM (length h) h v i p.0 m.agree p.2 p.1,
      live_request_of-stays (length h) h v i p.0 m.agree p.2 p.1,
    ) refl)

-- the outcome that the new sample tells, of a request whose snoop end is there
pub outcome_of-new : (h : Trace) (x : Sample) (v : Trace) (s : ℕ) → OneMore h x v → SnoopsTo h s
    → response_count h < s → responds x ≡ true
    → outcome_of v (response_count h) ≡ Some (told_by h (response_count h) (response_of x))
unfolding outcome_of
outcome_of-new h x v s m to l t =
    let i : ℕ = response_count h in
    let p = to.reached i l in
    let there = live_response_of-there v i p.0 (snoop_end_of-stays (length h) h v i p.0 m.agree p.2 p.1) in
    rw (there ∙ response_clock_of-new h x v m t, response_code_at-new h x v m)
    (ap (λ k. Some k) (told_by-old h x v s (response_count h) (response_of x) m to l))
