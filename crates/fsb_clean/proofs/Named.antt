-- A live request of a run serves the request that names its line and chunk.
use Rattle.std.proofs.Common.{ℕ, ◌+◌, ◌<◌, ◌≤◌, ◌≡◌, Bool, true, false, ◌&&◌, List, Option, Some, None, length, refl}
use Rattle.std.proofs.Common.{sym, ap, ◌∙◌, arith, inl, inr, subst}
use Rattle.std.proofs.lemmas.Bool.{cases_lt}
use Rattle.std.proofs.lemmas.Option.{same_Some}
use Rattle.std.specs.Option.{option_map}
use Rattle.fsb_count.specs.Clocks.{first_where}
use Rattle.fsb_count.specs.Options.{is_at, is_some_and}
use Rattle.fsb_count.proofs.Interface.{is_at-some}
use Rattle.fsb_trace.specs.At.{Trace}
use Rattle.fsb_trace.specs.Flight.{reply_clock_of, reply_number_of}
use Rattle.fsb_trace.specs.Outcome.{is_deferral, is_deferred, is_settled_deferred, response_clock_of}
use Rattle.fsb_trace.specs.Requests.{is_reply, live_clock_of, live_count, live_number_of, live_request_of}
use Rattle.fsb_trace.proofs.Interface.{live_clock_of-rises, snoop_end_of-clock}
use Rattle.fsb_laws.specs.Orderly.{Orderly}
use Rattle.fsb_timely.specs.Moments.{is_answered_by, served_number, turns_in}
use Rattle.fsb_timely.specs.Runs.{Run, past_of, run_to}
use Rattle.fsb_timely.specs.Timely.{Timely}
use Rattle.fsb_timely.specs.Transfers.{settled_of}
use Rattle.fsb_lawful.proofs.Interface.{orderly-at, told-as-settled}
use Rattle.fsb_audit.specs.MovedChunks.{is_named_by_reply, namer_of}
use Rattle.fsb_audit.proofs.Interface.{Answer, Responded, answer_live, answer_parts, first_where-alike, live_below}
use Rattle.fsb_audit.proofs.Interface.{reply_before, responded}

-- what is told of a request that responded is what is settled, so it is told as Deferred where it is settled so
same-deferral : (r : Run) (c i t : ℕ) → Timely r → c < length r.trace → response_clock_of (run_to r c).trace i ≡ Some t
    → is_deferred (run_to r c).trace i
    ≡ is_settled_deferred (run_to r c).trace (turns_in (past_of (run_to r c)).moments) i
unfolding is_deferred is_settled_deferred settled_of
same-deferral r c i t h l e = ap (λ o. is_some_and o is_deferral) (told-as-settled r c i t h l e).outcome

with-reply : (w : Trace) (j i : ℕ) → is_at (reply_number_of w i) j ≡ true → (t : ℕ) × (response_clock_of w i ≡ Some t)
unfolding reply_number_of
with-reply w j i e =
    let q = at-clock (reply_clock_of w i) (is_at-some _ j e) in
    let b = reply_before w i q.0 q.1 in
    (b.0, b.1)
  where
    at-clock : (o : Option ℕ) → option_map (live_number_of w) o ≡ Some j → (q : ℕ) × (o ≡ Some q)
    at-clock None f = absurd (let no : ⊥ = cc in no)
    at-clock (Some q) f = (q, refl)

same-answer : (r : Run) (c j i : ℕ) (b : Bool) → Timely r → c < length r.trace
    → is_at (reply_number_of (run_to r c).trace i) j ≡ b
    → is_named_by_reply (run_to r c).trace j i
    ≡ is_answered_by (run_to r c).trace (turns_in (past_of (run_to r c)).moments) j i
unfolding is_named_by_reply is_answered_by
same-answer r c j i false h l e = rw e (and-none (is_deferred (run_to r c).trace i) ∙ sym (and-none _))
  where
    and-none : (b : Bool) → (b && false) ≡ false
    and-none true = refl
    and-none false = refl
same-answer r c j i true h l e =
    let w = (run_to r c).trace in
    let t = with-reply w j i e in
    ap (λ b. b && is_at (reply_number_of w i) j) (same-deferral r c i t.0 h l t.1)

-- a request that is answered has a lower number than its reply
earlier : (w : Trace) (j i : ℕ) → Orderly w → Responded w j → Answer w j i → i < j
earlier w j i o k a =
    let b = reply_before w i a.clock a.is_clock in
    let low : b.0 < a.clock = b.2 in
    let n = responded w i b.0 o b.1 in
    let there : n.response ≡ b.0 = same_Some _ _ (sym n.is_response ∙ b.1) in
    let early : n.snoop + 2 ≤ n.response = n.early in
    let s = snoop_end_of-clock w i n.snoop n.is_snoop in
    let above : s.clock + 4 ≤ n.snoop = s.above in
    let reply = answer_live w j i a in
    elim (cases_lt i j) [
      | inl less ↦ less
      | inr more ↦ elim (cases_lt j i) [
        | inl less ↦
            let rise : a.clock < s.clock = live_clock_of-rises w j i a.clock s.clock less reply s.is_clock in
            absurd (omega arith)
        | inr same ↦
            let one : i ≡ j = omega arith in
            let here = subst (λ m. live_clock_of w m ≡ Some s.clock) one s.is_clock in
            let clock : a.clock ≡ s.clock = same_Some _ _ (sym reply ∙ here) in
            absurd (omega arith)
      ]
    ]

-- the request that a live request serves, in the run up to c, is the one that names its line
pub serves-namer : (r : Run) (c j : ℕ) → Timely r → c < length r.trace → Responded (run_to r c).trace j
    → served_number (run_to r c).trace (turns_in (past_of (run_to r c)).moments) j ≡ namer_of (run_to r c).trace j
unfolding served_number namer_of
serves-namer r c j h l k = by-kind (is_reply (live_request_of w j)) refl
  where
    w : Trace
    w = (run_to r c).trace

    turns : List ℕ
    turns = turns_in (past_of (run_to r c)).moments

    low : (i : ℕ) → is_named_by_reply w j i ≡ true → (i < live_count w) × (i < j)
    low i e =
        let a = answer_parts w j i e in
        let less : i < j = earlier w j i (orderly-at r c h l) k a in
        let below : j < live_count w = live_below w j k in
        (omega arith, less)

    first : first_where (is_answered_by w turns j) j ≡ first_where (is_named_by_reply w j) (live_count w)
    first =
        first_where-alike (is_answered_by w turns j) (is_named_by_reply w j) j (live_count w)
        (λ i m e.
        let named = same-answer r c j i (is_at (reply_number_of w i) j) h l refl ∙ e in
        ((low i named).0, named))
        (λ i m e. ((low i e).1, sym (same-answer r c j i (is_at (reply_number_of w i) j) h l refl) ∙ e))

    by-kind : (b : Bool) → is_reply (live_request_of w j) ≡ b
        → served_number w turns j ≡ namer_of w j
    by-kind true e = rw (e, served_number, namer_of) first
    by-kind false e = rw (e, served_number, namer_of) refl
