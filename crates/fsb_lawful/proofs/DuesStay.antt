-- A due request stays due until its reply begins.
use Rattle.fsb_lawful.proofs.Words
use Words.{ℕ, suc, ◌+◌, ◌<◌, ◌≤◌, ◌≡◌, true, false, not, ◌&&◌, ◌||◌, List, Option, Some, None, is_some, length, nat_le}
use Words.{slice_index, refl, sym, ap, subst, ◌∙◌, arith, inl, inr, and_from, and_parts, false_from_ne_true, cases_lt}
use Words.{le-leb, lt-ltb, or_right, is_before, is_some_and, any_where-at, any_where-off, first_where-found}
use Words.{first_where-none, ADS, line_at, Priority, Trace, request_at, answers, due_at, is_answered, is_due, later_of}
use Words.{is_dropped, is_in_flight, is_reply_to, is_deferral, is_settled_deferred, response_clock_of, have_same_id}
use Words.{is_cancelled, is_live, is_reply, live_count, live_request_of, snoop_end_of, begins_at, line_at-agree}
use Words.{live_request_of-stays, request_at-agree, response_clock_of-stays, snoop_end_of-stays, last_is_live}
use Words.{response_counted, number_of_turn, turns_in, Run, past_of, past_to, run_to, due_number, Timely, settled_of}
use Words.{WantsLawfully}
use Rattle.fsb_signal.proofs.Interface.{line_at-past}
use Rattle.fsb_lawful.proofs.CutRuns.{cuts-agree, length-cut, past-cut}
use Rattle.fsb_lawful.proofs.OrderlyRuns.{orderly-at}
use Rattle.fsb_lawful.proofs.RepliesBegun.{reply-before, reply-is}
use Rattle.fsb_lawful.proofs.ResponseCodes.{told-as-settled}
use Rattle.fsb_lawful.proofs.Turns.{turned-at}

reply-parts : (w : Trace) (i q : ℕ) → is_reply_to w i q ≡ true
    → (line_at ADS w q ≡ true) × (is_reply (request_at w q) ≡ true)
    × (have_same_id (request_at w q) (live_request_of w i) ≡ true)
unfolding is_reply_to
reply-parts w i q e = grind arith

-- a reply that began before the clock before is one there, too
same-reply : (r : Run) (d i s t q : ℕ) → suc d < length r.trace → snoop_end_of (run_to r d).trace i ≡ Some s
    → response_clock_of (run_to r d).trace i ≡ Some t → s < suc d → t < suc d → q < d
    → is_reply_to (run_to r (suc d)).trace i q ≡ is_reply_to (run_to r d).trace i q
unfolding is_reply_to
same-reply r d i s t q l e f below low early =
    let v = (run_to r d).trace in
    let w = (run_to r (suc d)).trace in
    let agree = cuts-agree r d (suc d) (omega arith) l in
    let ads = line_at-agree ADS (d + 1) v w q agree (omega arith) in
    let request = request_at-agree (d + 1) v w q agree (omega arith) in
    let asked = live_request_of-stays (d + 1) v w i s agree (omega arith) e in
    let response = f ∙ sym (response_clock_of-stays (d + 1) v w i t agree (omega arith) f) in
    sym (λ k. ads k && is_reply (request k) && have_same_id (request k) (asked k) && is_before (response k) q)

-- what was neither cancelled below a clock nor ended was live there
live-before : (r : Run) (d q : ℕ) → suc d < length r.trace → q < d
    → line_at ADS (run_to r (suc d)).trace q ≡ true
    → (is_in_flight (run_to r (suc d)).trace (suc d) q || is_live (run_to r (suc d)).trace q) ≡ true
    → is_live (run_to r d).trace q ≡ true
unfolding is_live is_cancelled is_in_flight is_dropped
live-before r d q l early ads e = grind (arith, cuts-agree, length-cut, line_at-agree, and_from, lt-ltb, line_at-past)

-- who is answered at the next clock was answered already, where no reply begins
unanswered : (r : Run) (d i s t : ℕ) → suc d < length r.trace → snoop_end_of (run_to r d).trace i ≡ Some s
    → response_clock_of (run_to r d).trace i ≡ Some t → s < suc d → t < suc d
    → (line_at ADS (run_to r (suc d)).trace d && is_reply (request_at (run_to r (suc d)).trace d)) ≡ false
    → is_answered (run_to r d).trace d i ≡ false → is_answered (run_to r (suc d)).trace (suc d) i ≡ false
unfolding is_answered answers
unanswered r d i s t l e f below low none not_yet =
    let v = (run_to r d).trace in
    let w = (run_to r (suc d)).trace in
    any_where-off (answers w (suc d) i) (suc d) (λ q k. false_from_ne_true _ (λ a.
    let parts = and_parts (is_reply_to w i q) _ a in
    let reply = reply-parts w i q parts.0 in
    elim (cases_lt q d) [
      | inl early ↦
          let before = sym (same-reply r d i s t q l e f below low early) ∙ parts.0 in
          let live = live-before r d q l early reply.0 parts.1 in
          let there = any_where-at (answers v d i) d q early (and_from _ _ before (or_right _ _ live)) in
          (let no : false ≡ true = sym not_yet ∙ there in cc no)
      | inr late ↦
          let same : q ≡ d = omega arith in
          let now = and_from _ _ (subst (λ k. line_at ADS w k ≡ true) same reply.0)
          (subst (λ k. is_reply (request_at w k) ≡ true) same reply.1) in
          (let no : false ≡ true = sym none ∙ now in cc no)
    ]))

response-parts : (o : Option ℕ) (later c : ℕ) → is_some_and o (λ t. nat_le (t + 1 + later) c) ≡ true
    → (t : ℕ) × (o ≡ Some t) × (t + 1 + later ≤ c)
unfolding is_some_and
response-parts o later c h1 = grind arith

still-late : (o : Option ℕ) (t later later' c : ℕ) → o ≡ Some t → later ≡ later' → t + 1 + later ≤ c
    → is_some_and o (λ t. nat_le (t + 1 + later') (suc c)) ≡ true
unfolding is_some_and
still-late o t later later' c e f l = rw e (le-leb (t + 1 + later') (suc c) (omega arith))

due-parts : (w : Trace) (turns : List ℕ) (c i : ℕ) → is_due w turns c i ≡ true
    → (is_settled_deferred w turns i ≡ true)
    × (is_some_and (response_clock_of w i) (λ t. nat_le (t + 1 + later_of (slice_index turns i)) c) ≡ true)
    × (is_answered w c i ≡ false)
unfolding is_due
due-parts w turns c i e = grind arith

due-from : (w : Trace) (turns : List ℕ) (c i : ℕ) → is_settled_deferred w turns i ≡ true
    → is_some_and (response_clock_of w i) (λ t. nat_le (t + 1 + later_of (slice_index turns i)) c) ≡ true
    → is_answered w c i ≡ false → is_due w turns c i ≡ true
unfolding is_due
due-from w turns c i e f g = and_from _ _ (and_from _ _ e f) (ap not g)

-- a request that is due is due at the next clock
due-next : (r : Run) (d i : ℕ) → Timely r → suc d < length r.trace
    → (line_at ADS (run_to r (suc d)).trace d && is_reply (request_at (run_to r (suc d)).trace d)) ≡ false
    → is_due (run_to r d).trace (turns_in (past_of (run_to r d)).moments) d i ≡ true
    → (i < live_count (run_to r (suc d)).trace)
    × (is_due (run_to r (suc d)).trace (turns_in (past_of (run_to r (suc d))).moments) (suc d) i ≡ true)
unfolding is_settled_deferred settled_of
due-next r d i h l none due =
    let v = (run_to r d).trace in
    let w = (run_to r (suc d)).trace in
    let a = due-parts v (turns_in (past_of (run_to r d)).moments) d i due in
    let t = response-parts (response_clock_of v i)
    (later_of (slice_index (turns_in (past_of (run_to r d)).moments) i)) d a.1 in
    let high = t.2 in
    let agree = cuts-agree r d (suc d) (omega arith) l in
    let told = told-as-settled r d i t.0 h (omega arith) t.1 in
    let before = told.before in
    let s : ℕ = told.snoop in
    let early = turned-at r d i s h (omega arith) told.is_snoop in
    let there = snoop_end_of-stays (d + 1) v w i s agree (omega arith) told.is_snoop in
    let late = turned-at r (suc d) i s h l there in
    let end : early.end ≡ late.end = (let f = early.there in let g = late.there in cc) in
    let settled = late.outcome ∙ ap (λ x. Some x.outcome) (sym end) ∙ sym early.outcome in
    let later = ap later_of (early.number ∙ ap (λ x. number_of_turn x.turn) end ∙ sym late.number) in
    let response = response_clock_of-stays (d + 1) v w i t.0 agree (omega arith) t.1 in (
      last_is_live w i (orderly-at r (suc d) h l) (response_counted w i t.0 response),
      due-from w (turns_in (past_of (run_to r (suc d))).moments) (suc d) i
          (ap (λ o. is_some_and o is_deferral) settled ∙ a.0)
          (still-late (response_clock_of w i) t.0
          (later_of (slice_index (turns_in (past_of (run_to r d)).moments) i))
          (later_of (slice_index (turns_in (past_of (run_to r (suc d))).moments) i)) d response later high)
          (unanswered r d i s t.0 l told.is_snoop t.1 (omega arith) (omega arith) none a.2),
    )

some-due : (w : Trace) (turns : List ℕ) (c : ℕ) (o : Option ℕ) → due_at w turns c ≡ o → is_some o ≡ true
    → (i : ℕ) × (is_due w turns c i ≡ true)
unfolding due_at
some-due w turns c o h1 h2 = grind (arith, first_where-found)

is-some-due : (w : Trace) (turns : List ℕ) (c i : ℕ) (o : Option ℕ) → due_at w turns c ≡ o → i < live_count w
    → is_due w turns c i ≡ true → is_some o ≡ true
unfolding due_at
is-some-due w turns c i (Some j) e l f = refl
is-some-due w turns c i None e l f =
    let none = first_where-none (is_due w turns c) (live_count w) e i l in let no : false ≡ true = sym none
    ∙ f in absurd (cc no)

-- while the priority agent begins no request, something is due where something was
pub dues-stay : (r : Run) (d : ℕ) → Timely r → WantsLawfully r → r.plan.ahead ≤ 4 → suc d < length r.trace
    → is_some (due_number (run_to r d) (past_to (past_of r) d) d) ≡ true
    → begins_at (run_to r (suc d)).trace d Priority ≡ false
    → is_some (due_number (run_to r (suc d)) (past_to (past_of r) (suc d)) (suc d)) ≡ true
unfolding due_number
dues-stay r d h wants few l due none =
    let v = (run_to r d).trace in
    let w = (run_to r (suc d)).trace in
    let early = past-cut r d (omega arith) in
    let late = past-cut r (suc d) l in
    let quiet = sym (reply-before (run_to r (suc d)) d) ∙ reply-is r d h wants few l ∙ none in
    let i = some-due v (turns_in (past_of (run_to r d)).moments) d
    (due_at v (turns_in (past_of (run_to r d)).moments) d) refl
    (ap (λ p. is_some (due_at v (turns_in p.moments) d)) early ∙ due) in
    let next = due-next r d i.0 h l quiet i.1 in
    ap (λ p. is_some (due_at w (turns_in p.moments) (suc d))) (sym late)
    ∙ is-some-due w (turns_in (past_of (run_to r (suc d))).moments) (suc d) i.0
    (due_at w (turns_in (past_of (run_to r (suc d))).moments) (suc d)) refl next.0 next.1
