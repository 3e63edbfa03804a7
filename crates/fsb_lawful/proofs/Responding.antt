-- When a live request responds and when its target is ready: by its waits, and once.
use Rattle.fsb_lawful.proofs.Words
use Words.{ℕ, ◌+◌, ◌<◌, ◌≤◌, ◌≡◌, ◌⊎◌, Bool, true, false, Option, Some, length, refl, sym, ◌∙◌, arith, inl, inr, subst}
use Words.{option_map, and_parts, is_at, is_at-some, Trace, AgreeTo, takes, answer_from, ready_clock_of, is_ready_from}
use Words.{is_response_from, ready_clock_of-stays, HasAnswer, after_answer, answer_later, has_ready, Run, run_to}
use Words.{live_choice, is_ready_due, is_response_clock}
use Rattle.fsb_lawful.proofs.AnswerClocks.{answer_from-answer, answer_from-stays, takes-stays}
use Rattle.fsb_lawful.proofs.CutRuns.{live_choice-same}

-- live request i takes, and t comes two clocks and its wait after its ready clock
pub record RespondsTaking (w : Trace) (wait t i : ℕ) : Type 0 where
  pub does_take : takes w i ≡ true
  pub ready : ℕ
  pub is_ready : ready_clock_of w i ≡ Some ready
  pub waits : ready + 2 + wait ≡ t

-- live request i takes nothing, and t comes its wait after the clock from which it is answered
pub record RespondsPlainly (w : Trace) (wait t i : ℕ) : Type 0 where
  pub takes_none : takes w i ≡ false
  pub from : ℕ
  pub is_from : answer_from w i ≡ Some from
  pub waits : from + wait ≡ t

-- t is the clock at which live request i responds, with this wait
abbrev pub Responding : Trace → ℕ → ℕ → ℕ → Type 0
Responding w wait t i = RespondsTaking w wait t i ⊎ RespondsPlainly w wait t i

-- live request i takes, and t comes its wait after the clock from which it is answered
pub record IsReadyDue (w : Trace) (wait t i : ℕ) : Type 0 where
  pub does_take : takes w i ≡ true
  pub from : ℕ
  pub is_from : answer_from w i ≡ Some from
  pub waits : from + wait ≡ t

mapped : (o : Option ℕ) (g : ℕ → ℕ) (t : ℕ) → option_map g o ≡ Some t → (y : ℕ) × (o ≡ Some y) × (g y ≡ t)
mapped o g t h1 = grind arith

responding_by : (w : Trace) (wait t i : ℕ) (b : Bool) → takes w i ≡ b
    → is_response_from b (answer_from w i) (ready_clock_of w i) wait t ≡ true → Responding w wait t i
unfolding is_response_from
responding_by w wait t i b h1 h2 = grind (arith, is_at-some)

-- a request that responds may be answered
pub responding-answer : (w : Trace) (wait t i : ℕ) → Responding w wait t i → HasAnswer w t i
responding-answer w wait t i (inl k) =
    let h = has_ready w i k.ready k.is_ready in
    answer_later w (h.after + 1) t i (omega (arith, h.above, k.waits)) (after_answer w i h.after h.is_after)
responding-answer w wait t i (inr k) =
    answer_later w k.from t i (omega (arith, k.waits)) (answer_from-answer w i k.from k.is_from)

-- it stays
pub responding-stays : (n : ℕ) (w v : Trace) (wait t i : ℕ) → AgreeTo n w v → t ≤ n → Responding w wait t i
    → Responding v wait t i
responding-stays n w v wait t i a l (inl k) =
    let h = responding-answer w wait t i (inl k) in
    let same = takes-stays n w v i h.snoop a (omega (arith, h.before)) h.is_snoop in
    inl (record {
      does_take = sym same ∙ k.does_take;
      ready = k.ready;
      is_ready = ready_clock_of-stays n w v i k.ready a (omega (arith, k.waits)) k.is_ready;
      waits = k.waits;
    })
responding-stays n w v wait t i a l (inr k) =
    let h = responding-answer w wait t i (inr k) in
    let same = takes-stays n w v i h.snoop a (omega (arith, h.before)) h.is_snoop in
    inr (record {
      takes_none = sym same ∙ k.takes_none;
      from = k.from;
      is_from = answer_from-stays n w v i k.from a (omega (arith, k.waits)) k.is_from;
      waits = k.waits;
    })

-- a request responds once
pub one-response : (w : Trace) (wait t u i : ℕ) → Responding w wait t i → Responding w wait u i → t ≡ u
one-response w wait t u i h1 h2 = grind arith

-- the request whose response clock is c in the run up to c
pub responding-now : (r : Run) (c i : ℕ) → c < length r.trace → is_response_clock (run_to r c) c i ≡ true
    → Responding (run_to r c).trace (live_choice r i).resp c i
unfolding is_response_clock
responding-now r c i l e =
    let v = (run_to r c).trace in
    let p = responding_by v (live_choice (run_to r c) i).resp c i (takes v i) refl e in
    let a = responding-answer v (live_choice (run_to r c) i).resp c i p in
    subst (λ choice. Responding v choice.resp c i) (live_choice-same r c i a.snoop l a.is_snoop) p

-- a target that is ready may be answered
pub ready-answer : (w : Trace) (wait t i : ℕ) → IsReadyDue w wait t i → HasAnswer w t i
ready-answer w wait t i k = answer_later w k.from t i (omega (arith, k.waits)) (answer_from-answer w i k.from k.is_from)

-- it stays
pub ready-stays : (n : ℕ) (w v : Trace) (wait t i : ℕ) → AgreeTo n w v → t ≤ n → IsReadyDue w wait t i
    → IsReadyDue v wait t i
ready-stays n w v wait t i a l k =
    let h = ready-answer w wait t i k in
    let same = takes-stays n w v i h.snoop a (omega (arith, h.before)) h.is_snoop in
    record {
      does_take = sym same ∙ k.does_take;
      from = k.from;
      is_from = answer_from-stays n w v i k.from a (omega (arith, k.waits)) k.is_from;
      waits = k.waits;
    }

-- a target is to be ready at one clock
pub one-ready : (w : Trace) (wait t u i : ℕ) → IsReadyDue w wait t i → IsReadyDue w wait u i → t ≡ u
one-ready w wait t u i k m = grind arith

-- the request whose target is to be ready at c in the run up to c
pub ready-now : (r : Run) (c i : ℕ) → c < length r.trace → is_ready_due (run_to r c) c i ≡ true
    → IsReadyDue (run_to r c).trace (live_choice r i).trdy c i
unfolding is_ready_due is_ready_from
ready-now r c i l e =
    let v = (run_to r c).trace in
    let wait = (live_choice (run_to r c) i).trdy in
    let a = and_parts (takes v i) (is_at (option_map (λ f. f + wait) (answer_from v i)) c) e in
    let p = mapped (answer_from v i) (λ f. f + wait) c (is_at-some _ c a.1) in
    let k : IsReadyDue v wait c i = record { does_take = a.0; from = p.0; is_from = p.1; waits = p.2 } in
    let h = ready-answer v wait c i k in
    subst (λ choice. IsReadyDue v choice.trdy c i) (live_choice-same r c i h.snoop l h.is_snoop) k
