-- What a timely run says of its deferrals at a clock is what the list says.
use Rattle.fsb_bridge_run.proofs.Words
use Words.{ℕ, ◌+◌, ◌<◌, ◌≤◌, ◌≡◌, true, List, Option, Some, None, is_some, length, take, if◌then◌else◌, refl, sym, ◌∙◌}
use Words.{arith, option_and_then, option_map, length-take-le, nth_where-found, Request, effective, Trace, request_at}
use Words.{responds_at, due_at, is_pending, response_clock_of, have_same_id, live_request_of, begins_at, Priority}
use Words.{AgreeTo-sym, live_request_of-stays, response_clock_of-stays, snoop_end_of-clock, snoop_end_of-stays}
use Words.{choice_at, effective_choice, is_in_window, turns_in, Run, moments_below, past_of, past_to, run_to}
use Words.{due_number, reply_to, would_begin, snoop-tied, run_to-agrees, answered, orderly-whole, snooped-by}
use Words.{turn-so-far, Reaches, Deferral, Waiting, due_deferral, is_covered, is_waited_for, HaveOwnIds, IsThatOf}
use Words.{RespondsInOrder, StandsFor, waits, due_deferral-StandsFor, is_waited_for-StandsFor, reply_begun}
use Words.{FindsDeferrals, turns_of}
use Rattle.fsb_script.specs.declared.plan.Window.{Window}
use Rattle.fsb_bridge_run.proofs.Alike.{SameDeferrals, stands-kept, waits-same}
use Rattle.fsb_bridge_run.proofs.DueReplies.{cut-same}
use Rattle.fsb_bridge_run.proofs.OwnIds.{own-ids}
use Rattle.fsb_bridge_run.proofs.PriorityReplies.{begun-if}
use Rattle.fsb_bridge_run.proofs.LaterTraces.{trace-order}
use Rattle.fsb_bridge_run.proofs.RunLists.{own-turns, take-agrees}
use Rattle.fsb_bridge_run.proofs.Waiting.{waits-parts}

response-within : (w : Trace) (i x : ℕ) → response_clock_of w i ≡ Some x → x < length w
unfolding response_clock_of
response-within w i x e = (nth_where-found (responds_at w) i (length w) x e).0

-- no request of the samples below n responds before its snoop end
pub responds-in-order : (r : Run) (n c : ℕ) → Reaches r n → RespondsInOrder (take n r.trace) c
responds-in-order r n c h = record {
  after = λ i s x snoop response less.
      let w = r.trace in
      let v = take n w in
      let back = AgreeTo-sym n w v (take-agrees w n h.long) in
      let size : length v ≡ n = length-take-le n w h.long in
      let k = snoop_end_of-clock v i s snoop in
      let within = k.within in
      let above = k.above in
      let long = h.long in
      let low = response-within v i x response in
      let whole = response_clock_of-stays n v w i x back (omega arith) response in
      let a = answered w i x (orderly-whole r 0 h.timely (omega arith)) whole in
      let there = snoop_end_of-stays n v w i s back (omega arith) snoop in
      let is_snoop = a.is_snoop in
      let same : a.snoop ≡ s = cc in
      let gap = a.before in
      omega arith;
}

-- and those that wait have IDs of their own
pub ids-below : (r : Run) (n c : ℕ) → Reaches r n → c ≤ n → HaveOwnIds (take n r.trace) (turns_of r) c
ids-below r n c h low =
    let w = r.trace in
    let v = take n w in
    let back = AgreeTo-sym n w v (take-agrees w n h.long) in
    let same = own-turns n v w (turns_of r) back in
    let whole : (i : ℕ) → waits v (turns_of r) c i ≡ true → waits w (turns_of r) c i ≡ true =
    λ i e. sym (waits-same n v w (turns_of r) (turns_of r) c i same low) ∙ e in
    let request : (i : ℕ) → waits v (turns_of r) c i ≡ true → live_request_of v i ≡ live_request_of w i = λ i e.
    let a = waits-parts v (turns_of r) c i e in
    let below = a.below in
    live_request_of-stays n v w i a.snoop back (omega arith) a.is_snoop in
    record {
      one = λ i k one two id.
          (own-ids r n c h low).one i k (whole i one) (whole k two)
          (sym (λ x. have_same_id (request i one x) (request k two x)) ∙ id);
    }

-- the moments below n have the turns of the requests with their snoop ends below n
below-turns : (r : Run) (n : ℕ) → Reaches r (n + 1)
    → SameDeferrals n (run_to r n).trace (run_to r n).trace (turns_of r) (turns_in (moments_below r n))
below-turns r n h =
    let w = r.trace in
    let v = (run_to r n).trace in
    let long = h.long in
    let l : n < length w = omega arith in
    let back = AgreeTo-sym (n + 1) w v (run_to-agrees r n l) in
    let right = back.left in
    record {
      agree = record { left = omega arith; right = omega arith; same = λ c m. refl };
      same = λ i t e less.
          let there = snoop_end_of-stays (n + 1) v w i t back (omega arith) e in
          let tied = snoop-tied r i t there in
          let k = snooped-by r t i tied.0 tied.1 in
          tied.1.turn ∙ sym (turn-so-far r n t i tied.0 h.timely k less l);
    }

pub pending-listed : (r : Run) (n line : ℕ) (list : List Waiting) → Reaches r (n + 1) → FindsDeferrals list r n
    → is_pending (run_to r n).trace (turns_in (moments_below r n)) line n ≡ is_waited_for line list
pending-listed r n line list h finds =
    let v = (run_to r n).trace in
    let stands = stands-kept n v v (turns_of r) (turns_in (moments_below r n)) n list (below-turns r n h) (omega arith)
    (λ i waiting. refl) finds in
    sym (is_waited_for-StandsFor list v (turns_in (moments_below r n)) n line stands)

pub covered : (bridge : Option Window) (line : ℕ) → is_in_window bridge line ≡ is_covered bridge line
unfolding is_in_window
covered bridge line = grind arith

pub choice-listed : (r : Run) (n q : ℕ) (request : Request) (list : List Waiting) → Reaches r (n + 1)
    → FindsDeferrals list r n → request_at (run_to r n).trace q ≡ Some request
    → effective_choice r.plan.bridge (run_to r n).choices (run_to r n).trace (turns_in (moments_below r n)) q n
    ≡ effective (choice_at (run_to r n).choices (run_to r n).trace q) request (is_covered r.plan.bridge request.line)
    (is_waited_for request.line list)
unfolding effective_choice
choice-listed r n q request list h finds e = grind (arith, covered, pending-listed)

-- the same list stands with the turns of the run up to n
pub finds-cut : (r : Run) (n : ℕ) (list : List Waiting) → Reaches r (n + 1) → FindsDeferrals list r n
    → StandsFor list (run_to r n).trace (turns_in (past_to (past_of r) n).moments) n
finds-cut r n list h finds =
    let w = r.trace in
    let v = (run_to r n).trace in
    let long = h.long in
    let same = cut-same r n h.timely (omega arith) in
    let back = AgreeTo-sym (n + 1) w v same.agree in
    let right = back.left in
    stands-kept n v v (turns_of r) (turns_in (past_to (past_of r) n).moments) n list
    (record {
      agree = record { left = omega arith; right = omega arith; same = λ c m. refl };
      same = λ i t e less. same.same i t (snoop_end_of-stays (n + 1) v w i t back (omega arith) e) (omega arith);
    }) (omega arith) (λ i waiting. refl) finds

-- the first due deferral of a list that stands in a trace with the run's deferrals
pub due-in : (r : Run) (n : ℕ) (w : Trace) (turns : List ℕ) (list : List Waiting) → Reaches r n
    → SameDeferrals n r.trace w (turns_of r) turns → StandsFor list w turns n
    → IsThatOf w (due_deferral n list) (due_at w turns n)
due-in r n w turns list h k stands = due_deferral-StandsFor list w turns n (trace-order r n w turns h k) stands

pub due-listed : (r : Run) (n : ℕ) (list : List Waiting) → Reaches r (n + 1) → FindsDeferrals list r n
    → IsThatOf (run_to r n).trace (due_deferral n list) (due_number (run_to r n) (past_to (past_of r) n) n)
unfolding due_number
due-listed r n list h finds = grind (arith, due-in, cut-same, finds-cut)

pub any-by : (w : Trace) (o : Option Deferral) (p : Option ℕ) → IsThatOf w o p → is_some p ≡ is_some o
any-by w o p h1 = grind arith

pub any-listed : (r : Run) (n : ℕ) (list : List Waiting) → Reaches r (n + 1) → FindsDeferrals list r n
    → is_some (due_number (run_to r n) (past_to (past_of r) n) n) ≡ is_some (due_deferral n list)
any-listed r n list h finds =
    any-by (run_to r n).trace (due_deferral n list) (due_number (run_to r n) (past_to (past_of r) n) n)
    (due-listed r n list h finds)

pub reply-by : (w : Trace) (o : Option Deferral) (p : Option ℕ) → IsThatOf w o p
    → option_map reply_to (option_and_then (live_request_of w) p) ≡ option_map (λ d. reply_to d.request) o
reply-by w o p h1 = grind arith

pub would-listed : (r : Run) (n : ℕ) (list : List Waiting) → Reaches r (n + 1) → FindsDeferrals list r n
    → would_begin (run_to r n) (past_to (past_of r) n) n Priority
    ≡ option_map (λ deferral. reply_to deferral.request) (due_deferral n list)
unfolding would_begin
would-listed r n list h finds = grind (arith, reply-by, due-listed)

pub begun-listed : (r : Run) (n : ℕ) (list : List Waiting) → Reaches r (n + 1) → FindsDeferrals list r n
    → reply_begun r n ≡ (if begins_at (run_to r n).trace n Priority
    then option_map (λ deferral. reply_to deferral.request) (due_deferral n list) else None)
begun-listed r n list h finds = grind (arith, begun-if, would-listed)
