-- Rule 14: each response of a timely run has the code of its settled outcome, which is what is told of it.
use Rattle.fsb_lawful.proofs.Words
use Words.{ℕ, ◌+◌, ◌<◌, ◌≤◌, ◌≡◌, Bool, true, false, not, Option, Some, None, length, take, nat_eq, nat_le, nat_lt}
use Words.{refl, sym, ap, ◌∙◌, arith, subst, and_from, and_parts, le-leb, lt-ltb, ne_eqb, is_some_and, nth_where-found}
use Words.{Kind, Request, Turn, Keep, Retry, Defer, is_never_held_up, HITM, DEFER, Marks, line_at, Trace, responds_at}
use Words.{response_code_at, Outcome, outcome_by_kind, response_code_of, response_clock_of, told_by, outcome_of}
use Words.{settled_by, live_count, live_request_of, is_write_back, is_write_back_kind, is_upgrade, is_upgrade_kind}
use Words.{has_den, is_code_for, has_code_at, responds_soundly, is_code_wrong, next_response, snoop_end_of}
use Words.{line_at_snoop_end, breaks-14, live_response_of-there, responds_at-agree, response_code_at-agree}
use Words.{snoop_end_of-stays, number_of_turn, is_keep, live_choice, Run, run_to, past_of, Timely, settled_of, code_due}
use Words.{number_responding, WantsLawfully, Keeps}
use Rattle.fsb_lawful.proofs.CutRuns.{cuts-agree, length-cut}
use Rattle.fsb_lawful.proofs.Keeping.{keeps}
use Rattle.fsb_lawful.proofs.OneAnswer.{transfers-at, answered-next, next-same}
use Rattle.fsb_lawful.proofs.Responding.{responding-answer}
use Rattle.fsb_lawful.proofs.Turns.{TurnFits, Turned, turned-at, decoded-live}

-- the turn of a request as a number: 0 to keep, 1 to retry, more to put it off
number-retry : (later : ℕ) → nat_eq (later + 2) 1 ≡ false
number-retry later = ne_eqb (later + 2) 1 (λ e. omega arith)

number-defer : (later : ℕ) → nat_le 2 (later + 2) ≡ true
number-defer later = le-leb 2 (later + 2) (omega arith)

handed-fits : (w : Trace) (i s turn : ℕ) → snoop_end_of w i ≡ Some s → line_at HITM w s ≡ true
    → is_code_for w i (response_code_of (settled_by w turn i s)) ≡ true
unfolding is_code_for settled_by line_at_snoop_end is_some_and response_code_of
handed-fits w i s turn e t = rw (e, t) refl

kept-fits : (w : Trace) (i s : ℕ) (request : Request) (kind : Kind) → snoop_end_of w i ≡ Some s
    → line_at HITM w s ≡ false → line_at DEFER w s ≡ false → live_request_of w i ≡ Some request
    → request.kind ≡ kind
    → is_code_for w i (response_code_of (settled_by w (number_of_turn Keep) i s)) ≡ true
unfolding is_code_for settled_by line_at_snoop_end is_some_and response_code_of number_of_turn outcome_by_kind
    is_write_back is_write_back_kind is_upgrade is_upgrade_kind
kept-fits w i s request kind h1 h2 h3 h4 h5 = grind arith

not-written : (kind : Kind) → (is_never_held_up kind ≡ true → ⊥) → is_write_back_kind kind ≡ false
unfolding is_write_back_kind
not-written kind h1 = grind arith

retried-fits : (w : Trace) (i s : ℕ) (request : Request) → snoop_end_of w i ≡ Some s → line_at HITM w s ≡ false
    → line_at DEFER w s ≡ true → live_request_of w i ≡ Some request → is_write_back_kind request.kind ≡ false
    → is_code_for w i (response_code_of (settled_by w (number_of_turn Retry) i s)) ≡ true
unfolding is_code_for settled_by line_at_snoop_end is_some_and response_code_of number_of_turn is_write_back
retried-fits w i s request e f d q k = rw (e, f, d, q, k) refl

deferred-fits : (w : Trace) (i s later : ℕ) (request : Request) → snoop_end_of w i ≡ Some s
    → line_at HITM w s ≡ false → line_at DEFER w s ≡ true → live_request_of w i ≡ Some request
    → is_write_back_kind request.kind ≡ false → request.den ≡ true
    → is_code_for w i (response_code_of (settled_by w (number_of_turn (Defer later)) i s)) ≡ true
unfolding is_code_for settled_by line_at_snoop_end is_some_and response_code_of number_of_turn is_write_back has_den
deferred-fits w i s later request e f d q k n = rw (e, f, d, q, k, n, number-retry later, number-defer later) refl

-- the code of a settled outcome is one that its request may have
code-fits : (w : Trace) (i s : ℕ) (turn : Turn) (request : Request) (b : Bool) → snoop_end_of w i ≡ Some s
    → line_at HITM w s ≡ b → live_request_of w i ≡ Some request → line_at DEFER w s ≡ not (is_keep turn)
    → TurnFits turn request
    → is_code_for w i (response_code_of (settled_by w (number_of_turn turn) i s)) ≡ true
unfolding is_keep
code-fits w i s turn request true e f q d fits = handed-fits w i s (number_of_turn turn) e f
code-fits w i s Keep request false e f q d fits = kept-fits w i s request request.kind e f d q refl
code-fits w i s Retry request false e f q d fits =
    retried-fits w i s request e f d q (not-written request.kind (λ t. let no : Retry ≡ Keep = fits.keeps t in cc no))
code-fits w i s (Defer later) request false e f q d fits =
    deferred-fits w i s later request e f d q
    (not-written request.kind (λ t. let no : Defer later ≡ Keep = fits.keeps t in cc no)) (fits.has_den refl)

told-handed : (w : Trace) (i s turn : ℕ) → snoop_end_of w i ≡ Some s → line_at HITM w s ≡ true
    → told_by w i (response_code_of (settled_by w turn i s)) ≡ settled_by w turn i s
unfolding told_by settled_by line_at_snoop_end is_some_and response_code_of
told-handed w i s turn e t = rw (e, t) refl

told-retried : (w : Trace) (i s turn : ℕ) → snoop_end_of w i ≡ Some s → line_at HITM w s ≡ false
    → nat_eq turn 1 ≡ true → told_by w i (response_code_of (settled_by w turn i s)) ≡ settled_by w turn i s
unfolding told_by settled_by line_at_snoop_end is_some_and response_code_of
told-retried w i s turn e f a = rw (e, f, a) refl

told-deferred : (w : Trace) (i s turn : ℕ) → snoop_end_of w i ≡ Some s → line_at HITM w s ≡ false
    → nat_eq turn 1 ≡ false → nat_le 2 turn ≡ true
    → told_by w i (response_code_of (settled_by w turn i s)) ≡ settled_by w turn i s
unfolding told_by settled_by line_at_snoop_end is_some_and response_code_of
told-deferred w i s turn e f a b = rw (e, f, a, b) refl

told-unknown : (w : Trace) (i s turn : ℕ) → snoop_end_of w i ≡ Some s → line_at HITM w s ≡ false
    → nat_eq turn 1 ≡ false → nat_le 2 turn ≡ false → live_request_of w i ≡ None
    → told_by w i (response_code_of (settled_by w turn i s)) ≡ settled_by w turn i s
unfolding told_by settled_by line_at_snoop_end is_some_and response_code_of outcome_by_kind
told-unknown w i s turn e f a b q = rw (e, f, a, b, q) refl

told-kind : (w : Trace) (i s turn : ℕ) (request : Request) (kind : Kind) → snoop_end_of w i ≡ Some s
    → line_at HITM w s ≡ false → nat_eq turn 1 ≡ false → nat_le 2 turn ≡ false
    → live_request_of w i ≡ Some request → request.kind ≡ kind
    → told_by w i (response_code_of (settled_by w turn i s)) ≡ settled_by w turn i s
unfolding told_by settled_by line_at_snoop_end is_some_and response_code_of outcome_by_kind
told-kind w i s turn request kind h1 h2 h3 h4 h5 h6 = grind arith

told-by : (w : Trace) (i s turn : ℕ) (h a b : Bool) (o : Option Request) → snoop_end_of w i ≡ Some s
    → line_at HITM w s ≡ h → nat_eq turn 1 ≡ a → nat_le 2 turn ≡ b → live_request_of w i ≡ o
    → told_by w i (response_code_of (settled_by w turn i s)) ≡ settled_by w turn i s
told-by w i s turn true a b o e f g k q = told-handed w i s turn e f
told-by w i s turn false true b o e f g k q = told-retried w i s turn e f g
told-by w i s turn false false true o e f g k q = told-deferred w i s turn e f g k
told-by w i s turn false false false None e f g k q = told-unknown w i s turn e f g k q
told-by w i s turn false false false (Some request) e f g k q = told-kind w i s turn request request.kind e f g k q refl

-- the code of a settled outcome tells that outcome
pub told-settled : (w : Trace) (i s turn : ℕ) → snoop_end_of w i ≡ Some s
    → told_by w i (response_code_of (settled_by w turn i s)) ≡ settled_by w turn i s
told-settled w i s turn e = grind (arith, told-by)

code_by : (v : Run) (c i : ℕ) (x : Outcome) → number_responding v c ≡ Some i
    → settled_of v (past_of v) i ≡ Some x → code_due v (past_of v) c ≡ response_code_of x
unfolding code_due
code_by v c i x n e = rw (n, e) refl

-- the code of a response is that of the settled outcome of the next request to respond
code-settled : (r : Run) (c s : ℕ) → Timely r → c < length r.trace → responds_at (run_to r c).trace c ≡ true
    → (k : Turned r c (next_response (run_to r c).trace c) s)
    → response_code_at (run_to r c).trace c
    ≡ response_code_of (settled_by (run_to r c).trace (number_of_turn k.end.turn)
    (next_response (run_to r c).trace c) s)
code-settled r c s h l t k =
    let v = run_to r c in
    let i = next_response v.trace c in
    (transfers-at r c h l).code
    ∙ code_by v c i (settled_by v.trace (number_of_turn k.end.turn) i s) (answered-next r c h l t).0 k.settled

has-code : (r : Run) (c : ℕ) → Timely r → WantsLawfully r → c < length r.trace
    → responds_at (run_to r c).trace c ≡ true
    → has_code_at (run_to r c).trace c (next_response (run_to r c).trace c) ≡ true
unfolding has_code_at
has-code r c h wants l t =
    let v = (run_to r c).trace in
    let i = next_response v c in
    let now = answered-next r c h l t in
    let a = responding-answer v (live_choice r i).resp c i now.2 in
    let s : ℕ = a.snoop in
    let turned = turned-at r c i s h l a.is_snoop in
    let q = decoded-live r c i s h wants l a.is_snoop in
    and_from (nat_lt i (live_count v)) (is_code_for v i (response_code_at v c)) (lt-ltb i (live_count v) now.1)
    (ap (is_code_for v i) (code-settled r c s h l t turned)
    ∙ code-fits v i s turned.end.turn q.0 (line_at HITM v s) a.is_snoop refl q.1 turned.defers
    (turned.effective q.0 q.1))

responds_by : (v : Trace) (c : ℕ) → responds_soundly v c ≡ true → responds_at v c ≡ true
unfolding responds_soundly
responds_by v c e = (and_parts (responds_at v c) _ e).0

at-clock : (r : Run) (c : ℕ) → Timely r → WantsLawfully r → c < length r.trace
    → is_code_wrong (run_to r c).trace c ≡ false
unfolding is_code_wrong
at-clock r c h wants l = grind (arith, has-code, responds_by)

-- rule 14
pub keeps-14 : (m : Marks) (r : Run) → Timely r → WantsLawfully r → Keeps m 14 r.trace
unfolding run_to
keeps-14 m r h wants = keeps m 14 r.trace (λ c l. breaks-14 m (take (c + 1) r.trace) c ∙ at-clock r c h wants l)

-- the response of live request i at t: its snoop end and its turn, and its code is that of what is settled
pub record AnsweredAs (r : Run) (t i : ℕ) : Type 0 where
  pub snoop : ℕ
  pub is_snoop : snoop_end_of (run_to r t).trace i ≡ Some snoop
  pub before : snoop + 2 ≤ t
  pub turned : Turned r t i snoop
  pub code : response_code_at (run_to r t).trace t
      ≡ response_code_of (settled_by (run_to r t).trace (number_of_turn turned.end.turn) i snoop)

pub answered-as : (r : Run) (t i : ℕ) → Timely r → t < length r.trace → responds_at (run_to r t).trace t ≡ true
    → next_response (run_to r t).trace t ≡ i → AnsweredAs r t i
answered-as r t i h l k same =
    let v = (run_to r t).trace in
    let n = next_response v t in
    let a = responding-answer v (live_choice r n).resp t n (answered-next r t h l k).2 in
    let turned = turned-at r t n a.snoop h l a.is_snoop in
    subst (AnsweredAs r t) same (record {
      snoop = a.snoop;
      is_snoop = a.is_snoop;
      before = a.before;
      turned = turned;
      code = code-settled r t a.snoop h l k turned;
    })

-- what is told of a request that responded is what was settled
pub record ToldAsSettled (r : Run) (c i t : ℕ) : Type 0 where
  pub snoop : ℕ
  pub is_snoop : snoop_end_of (run_to r c).trace i ≡ Some snoop
  pub before : snoop + 2 ≤ t
  pub outcome : outcome_of (run_to r c).trace i ≡ settled_of (run_to r c) (past_of (run_to r c)) i

same-settled : (r : Run) (t c i s : ℕ) (j : Turned r t i s) (k : Turned r c i s)
    → settled_by (run_to r t).trace (number_of_turn j.end.turn) i s
    ≡ settled_by (run_to r c).trace (number_of_turn k.end.turn) i s
same-settled r t c i s j k = grind arith

outcome-at : (w : Trace) (i s t code : ℕ) → snoop_end_of w i ≡ Some s → response_clock_of w i ≡ Some t
    → response_code_at w t ≡ code → outcome_of w i ≡ Some (told_by w i code)
unfolding outcome_of
outcome-at w i s t code e f g = rw (live_response_of-there w i s e, f, g) refl

pub told-as-settled : (r : Run) (c i t : ℕ) → Timely r → c < length r.trace
    → response_clock_of (run_to r c).trace i ≡ Some t → ToldAsSettled r c i t
unfolding response_clock_of next_response
told-as-settled r c i t h l e =
    let v = (run_to r c).trace in
    let size = length-cut r c l in
    let p = nth_where-found (responds_at v) i (length v) t e in
    let below : t < length v = p.0 in
    let agree = cuts-agree r t c (omega arith) l in
    let place = next-same r t c (omega arith) l ∙ p.2 in
    let now = answered-as r t i h (omega arith)
    (responds_at-agree (t + 1) (run_to r t).trace v t agree (omega arith) ∙ p.1) place in
    let s : ℕ = now.snoop in
    let before : s + 2 ≤ t = now.before in
    let there = snoop_end_of-stays (t + 1) (run_to r t).trace v i s agree (omega arith) now.is_snoop in
    let turned = turned-at r c i s h l there in
    let n = number_of_turn turned.end.turn in
    let code = sym (response_code_at-agree (t + 1) (run_to r t).trace v t agree (omega arith)) ∙ now.code
    ∙ ap response_code_of (same-settled r t c i s now.turned turned) in
    record {
      snoop = s;
      is_snoop = there;
      before = before;
      outcome = outcome-at v i s t (response_code_of (settled_by v n i s)) there e code
          ∙ ap Some (told-settled v i s n there) ∙ sym turned.settled;
    }
