-- Rules 13 and 15: responses and TRDY# of a timely run come in time.
use Rattle.fsb_lawful.proofs.Words
use Words.{ℕ, ◌+◌, ◌<◌, ◌≡◌, Bool, true, false, not, ◌&&◌, length, take, refl, sym, ap, ◌∙◌, arith, subst, and_parts}
use Words.{or_from, is_some_and, is_before, any_where-found, count_where-mono, is_before-parts, TRDY, Marks, line_at}
use Words.{Trace, responds_at, live_count, takes, ready_clock_of, next_response, may_answer, is_response_early}
use Words.{responds_soundly, is_ready_in_time, is_ready_wrongly, is_target_ready_wrong, breaks-13, breaks-15}
use Words.{may_answer-from, Run, run_to, live_choice, Timely, is_ready_due, Keeps}
use Rattle.fsb_lawful.proofs.Keeping.{and-fails, keeps}
use Rattle.fsb_lawful.proofs.OneAnswer.{transfers-at, one_answer, answered-next, ready-then}
use Rattle.fsb_lawful.proofs.Responding.{Responding, IsReadyDue, responding-answer, ready-answer, one-ready}
use Rattle.fsb_lawful.proofs.Responding.{ready-now}

-- a response comes when it may
pub answers-in-time : (r : Run) (c : ℕ) → Timely r → c < length r.trace
    → responds_at (run_to r c).trace c ≡ true
    → may_answer (run_to r c).trace c (next_response (run_to r c).trace c) ≡ true
answers-in-time r c h l t =
    let v = (run_to r c).trace in
    may_answer-from v c (next_response v c) (responding-answer v _ c (next_response v c) (answered-next r c h l t).2)

early : (r : Run) (c : ℕ) → Timely r → c < length r.trace → is_response_early (run_to r c).trace c ≡ false
unfolding is_response_early
early r c h l =
    let v = (run_to r c).trace in
    and-fails (responds_at v c) (not (may_answer v c (next_response v c))) (λ t. ap not (answers-in-time r c h l t))

-- rule 13
pub keeps-13 : (m : Marks) (r : Run) → Timely r → Keeps m 13 r.trace
unfolding run_to
keeps-13 m r h = keeps m 13 r.trace (λ c l. breaks-13 m (take (c + 1) r.trace) c ∙ early r c h l)

-- TRDY# comes once for a request
not-ready-before : (r : Run) (c : ℕ) → Timely r → c < length r.trace
    → IsReadyDue (run_to r c).trace (live_choice r (next_response (run_to r c).trace c)).trdy c
    (next_response (run_to r c).trace c)
    → (b : Bool) → is_before (ready_clock_of (run_to r c).trace (next_response (run_to r c).trace c)) c ≡ b
    → b ≡ false
unfolding next_response
not-ready-before r c h l now false e = refl
not-ready-before r c h l now true e =
    let v = (run_to r c).trace in
    let i = next_response v c in
    let y = is_before-parts (ready_clock_of v i) c e in
    let below : y.0 < c = y.2 in
    let then = ready-then r c i y.0 h l (λ t k. one_answer r t h (omega arith)) y.1 below
    (count_where-mono (responds_at v) y.0 c (omega arith)) in
    let same = one-ready v (live_choice r i).trdy y.0 c i then now in absurd (omega arith)

ready_rightly : (r : Run) (c : ℕ) → Timely r → c < length r.trace → line_at TRDY (run_to r c).trace c ≡ true
    → is_ready_wrongly (run_to r c).trace c (next_response (run_to r c).trace c) ≡ false
unfolding is_ready_wrongly
ready_rightly r c h l t =
    let v = (run_to r c).trace in
    let i = next_response v c in
    let any = any_where-found (is_ready_due (run_to r c) c) (live_count v) (sym (transfers-at r c h l).ready ∙ t) in
    let same : any.0 ≡ i = (one_answer r c h l).ready any.0 any.2 in
    let now = ready-now r c i l (subst (λ k. is_ready_due (run_to r c) c k ≡ true) same any.2) in
    let may = may_answer-from v c i (ready-answer v (live_choice r i).trdy c i now) in
    or_from (not (takes v i && may_answer v c i)) (is_before (ready_clock_of v i) c)
    (rw (now.does_take, may) refl) (not-ready-before r c h l now (is_before (ready_clock_of v i) c) refl)

taken_in_time : (w : Trace) (wait c i : ℕ) → Responding w wait c i → takes w i ≡ true
    → is_ready_in_time w c i ≡ true
unfolding is_ready_in_time is_some_and
taken_in_time w wait c i h1 h2 = grind arith

responds_by : (v : Trace) (c : ℕ) → responds_soundly v c ≡ true → responds_at v c ≡ true
unfolding responds_soundly
responds_by v c e = (and_parts (responds_at v c) _ e).0

late : (r : Run) (c : ℕ) → Timely r → c < length r.trace
    → (responds_soundly (run_to r c).trace c && takes (run_to r c).trace (next_response (run_to r c).trace c)) ≡ true
    → not (is_ready_in_time (run_to r c).trace c (next_response (run_to r c).trace c)) ≡ false
late r c h l e =
    let v = (run_to r c).trace in
    let i = next_response v c in
    let a = and_parts (responds_soundly v c) (takes v i) e in
    ap not (taken_in_time v _ c i (answered-next r c h l (responds_by v c a.0)).2 a.1)

wrong : (r : Run) (c : ℕ) → Timely r → c < length r.trace → is_target_ready_wrong (run_to r c).trace c ≡ false
unfolding is_target_ready_wrong
wrong r c h l = grind (arith, ready_rightly, late)

-- rule 15
pub keeps-15 : (m : Marks) (r : Run) → Timely r → Keeps m 15 r.trace
unfolding run_to
keeps-15 m r h = keeps m 15 r.trace (λ c l. breaks-15 m (take (c + 1) r.trace) c ∙ wrong r c h l)
