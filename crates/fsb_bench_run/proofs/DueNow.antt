-- Where the priority agent wins the bus two clocks after nothing began, a reply is still due.
use Rattle.fsb_bench_run.proofs.Words
use Words.{ℕ, suc, ◌+◌, ◌-◌, ◌<◌, ◌≤◌, ◌≡◌, ◌&&◌, ◌||◌, Bool, true, false, not, List, Option, Some, None, is_some}
use Words.{length, nat_le, nat_lt, slice_index, refl, sym, ap, ◌∙◌, arith, inl, inr, and_from, and_parts, cases_lt}
use Words.{false_from_ne_true, le-leb, lt-ltb, or_right, is_before, is_some_and, any_where-at, any_where-off}
use Words.{first_where-found, first_where-none, agree-grown, snooped-same, ADS, AERR, line_at, line_at-past, GrowsTo}
use Words.{number_of_turn, turns_in, Past, SnoopEnd, Run, past_of, run_to, due_number, settled_of, run_to-agrees}
use Words.{snoop-tied, Trace, answers, due_at, is_answered, is_due, later_of, has_ended, is_dropped, is_in_flight}
use Words.{is_reply_to, is_deferral, is_settled_deferred, response_clock_of, have_same_id, is_cancelled, is_live}
use Words.{is_reply, live_count, snoop_end_of, request_line_of, winner_at, Priority, AgreeTo-sym, line_at-agree}
use Words.{live_below_count, live_request_of-stays, request_at-agree, response_clock_of-stays, snoop_end_of-clock}
use Words.{snoop_end_of-stays}
use Rattle.fsb_lawful.proofs.Interface as lawful
use Rattle.fsb_trace.specs.Agree.{AgreeTo}
use Rattle.fsb_bench_run.proofs.WinnersAsk.{asks-due, winner-asks}

-- the samples up to a clock of the run, and those of the longer run
agree-far : (r s : Run) (d : ℕ) → GrowsTo r s → d < length r.trace → AgreeTo (d + 1) (run_to r d).trace s.trace
agree-far r s d grows l =
    let here = AgreeTo-sym (d + 1) r.trace (run_to r d).trace (run_to-agrees r d l) in
    let there = agree-grown r s grows in
    let left = here.left in
    let right = there.right in
    record {
      left = left;
      right = omega arith;
      same = λ c m. here.same c m ∙ there.same c (omega arith);
    }

reply-ads : (w : Trace) (i q : ℕ) → is_reply_to w i q ≡ true → line_at ADS w q ≡ true
unfolding is_reply_to
reply-ads w i q e = grind arith

-- a reply that began earlier is one there, too
same-reply : (n : ℕ) (u w : Trace) (i s t q : ℕ) → AgreeTo n u w → snoop_end_of u i ≡ Some s
    → response_clock_of u i ≡ Some t → s < n → t < n → suc q < n → is_reply_to w i q ≡ is_reply_to u i q
unfolding is_reply_to
same-reply n u w i s t q agree e f below low early =
    let ads = line_at-agree ADS n u w q agree (omega arith) in
    let request = request_at-agree n u w q agree (omega arith) in
    let asked = live_request_of-stays n u w i s agree below e in
    let response = f ∙ sym (response_clock_of-stays n u w i t agree low f) in
    sym (λ k. ads k && is_reply (request k) && have_same_id (request k) (asked k) && is_before (response k) q)

-- what was neither cancelled below a clock nor ended was live
live-before : (n c : ℕ) (u w : Trace) (q : ℕ) → AgreeTo n u w → length u ≡ n → n ≤ c → q < n
    → line_at ADS w q ≡ true → (is_in_flight w c q || is_live w q) ≡ true → is_live u q ≡ true
unfolding is_live is_cancelled is_in_flight is_dropped
live-before n c u w q agree size later early ads e =
    let there = line_at-agree ADS n u w q agree early ∙ ads in
    and_from (line_at ADS u q) (not (line_at AERR u (q + 3))) there (elim (cases_lt (q + 3) n) [
      | inl shown ↦
          ap not
          (line_at-agree AERR n u w (q + 3) agree shown
          ∙ uncancelled (line_at ADS w q) (nat_lt q c) (line_at AERR w (q + 3)) (nat_lt (q + 3) c) (has_ended w c q)
          (lt-ltb (q + 3) c (omega arith)) e)
      | inr hidden ↦ ap not (line_at-past AERR u (q + 3) (omega (arith, size)))
    ])
  where
    uncancelled : (a b x n h : Bool) → n ≡ true
        → ((a && b && not (x && n) && not h) || (a && not x)) ≡ true → x ≡ false
    uncancelled a b false n h f g = refl
    uncancelled true true true true true f g = absurd (let no : ⊥ = cc in no)
    uncancelled true true true true false f g = absurd (let no : ⊥ = cc in no)
    uncancelled true false true true h f g = absurd (let no : ⊥ = cc in no)
    uncancelled false b true true h f g = absurd (let no : ⊥ = cc in no)
    uncancelled a b true false h f g = absurd (let no : ⊥ = cc in no)

-- who was not answered is not answered later, where no request begins in between
unanswered : (d c : ℕ) (u w : Trace) (i s t : ℕ) → AgreeTo (d + 1) u w → length u ≡ d + 1 → d < c
    → snoop_end_of u i ≡ Some s → response_clock_of u i ≡ Some t → s < d + 1 → t < d + 1
    → ((q : ℕ) → d ≤ q → q < c → line_at ADS w q ≡ false) → is_answered u d i ≡ false → is_answered w c i ≡ false
unfolding is_answered answers
unanswered d c u w i s t agree size later e f below low quiet not_yet =
    any_where-off (answers w c i) c (λ q k. false_from_ne_true _ (λ a.
    let parts = and_parts (is_reply_to w i q) (is_in_flight w c q || is_live w q) a in
    let ads = reply-ads w i q parts.0 in
    elim (cases_lt q d) [
      | inl early ↦
          let before = sym (same-reply (d + 1) u w i s t q agree e f below low (omega arith)) ∙ parts.0 in
          let live = live-before (d + 1) c u w q agree size (omega arith) (omega arith) ads parts.1 in
          let there = any_where-at (answers u d i) d q early
          (and_from _ _ before (or_right (is_in_flight u d q) (is_live u q) live)) in
          (let no : false ≡ true = sym not_yet ∙ there in cc no)
      | inr late ↦ (let no : false ≡ true = sym (quiet q (omega arith) k) ∙ ads in cc no)
    ]))

response-parts : (o : Option ℕ) (later c : ℕ) → is_some_and o (λ t. nat_le (t + 1 + later) c) ≡ true
    → (t : ℕ) × (o ≡ Some t) × (t + 1 + later ≤ c)
unfolding is_some_and
response-parts o later c h1 = grind arith

still-late : (o : Option ℕ) (t later other c : ℕ) → o ≡ Some t → later ≡ other → t + 1 + later ≤ c
    → is_some_and o (λ t. nat_le (t + 1 + other) c) ≡ true
unfolding is_some_and
still-late o t later other c e f l = rw e (le-leb (t + 1 + other) c (omega arith))

due-parts : (w : Trace) (turns : List ℕ) (c i : ℕ) → is_due w turns c i ≡ true
    → (is_settled_deferred w turns i ≡ true)
    × (is_some_and (response_clock_of w i) (λ t. nat_le (t + 1 + later_of (slice_index turns i)) c) ≡ true)
    × (is_answered w c i ≡ false)
unfolding is_due
due-parts w turns c i e = grind arith

due-from : (w : Trace) (turns : List ℕ) (c i : ℕ) → is_settled_deferred w turns i ≡ true
    → is_some_and (response_clock_of w i) (λ t. nat_le (t + 1 + later_of (slice_index turns i)) c) ≡ true
    → is_answered w c i ≡ false → is_due w turns c i ≡ true
unfolding is_due
due-from w turns c i e f g = and_from _ _ (and_from _ _ e f) (ap not g)

-- a request that is due is due at the next clock of the longer run, where none begins in between
due-stays : (r s : Run) (d i : ℕ) → GrowsTo r s → d < length r.trace
    → ((q : ℕ) → d ≤ q → q < length r.trace → line_at ADS s.trace q ≡ false)
    → is_due (run_to r d).trace (turns_in (past_of (run_to r d)).moments) d i ≡ true
    → (i < live_count s.trace) × (is_due s.trace (turns_in (past_of s).moments) (length r.trace) i ≡ true)
unfolding is_settled_deferred settled_of
due-stays r s d i grows l quiet due =
    let h = grows.timely in
    let u = (run_to r d).trace in
    let w = s.trace in
    let n = length r.trace in
    let old = turns_in (past_of (run_to r d)).moments in
    let a = due-parts u old d i due in
    let t = response-parts (response_clock_of u i) (later_of (slice_index old i)) d a.1 in
    let high = t.2 in
    let told = lawful.told-as-settled r d i t.0 h l t.1 in
    let before = told.before in
    let size = lawful.length-cut r d l in
    let agree = agree-far r s d grows l in
    let e : ℕ = told.snoop in
    let early = lawful.turned-at r d i e h l told.is_snoop in
    let there = snoop_end_of-stays (d + 1) u w i e agree (omega arith) told.is_snoop in
    let new = snoop-tied s i e there in
    let one : Some new.0 ≡ Some early.end =
    sym new.1.there ∙ sym (snooped-same r s e grows (omega arith)) ∙ early.there in
    let same : new.0 ≡ early.end = cc in
    let settled = new.1.outcome ∙ ap (λ (x : SnoopEnd). Some x.outcome) same ∙ sym early.outcome in
    let later = ap later_of
    (early.number ∙ ap (λ (x : SnoopEnd). number_of_turn x.turn) (sym same) ∙ sym new.1.turn) in
    let response = response_clock_of-stays (d + 1) u w i t.0 agree (omega arith) t.1 in
    let clock = snoop_end_of-clock w i e there in (
      live_below_count w i clock.clock clock.is_clock,
      due-from w (turns_in (past_of s).moments) n i (ap (λ o. is_some_and o is_deferral) settled ∙ a.0)
          (still-late (response_clock_of w i) t.0 (later_of (slice_index old i))
          (later_of (slice_index (turns_in (past_of s).moments) i)) n response later (omega arith))
          (unanswered d n u w i e t.0 agree size l told.is_snoop t.1 (omega arith) (omega arith) quiet a.2),
    )

some-due : (w : Trace) (turns : List ℕ) (c : ℕ) (o : Option ℕ) → due_at w turns c ≡ o → is_some o ≡ true
    → (i : ℕ) × (is_due w turns c i ≡ true)
unfolding due_at
some-due w turns c None e f = absurd (let no : ⊥ = cc in no)
some-due w turns c (Some i) e f = (i, (first_where-found (is_due w turns c) (live_count w) i e).1)

is-some-due : (w : Trace) (turns : List ℕ) (c i : ℕ) (o : Option ℕ) → due_at w turns c ≡ o → i < live_count w
    → is_due w turns c i ≡ true → is_some o ≡ true
unfolding due_at
is-some-due w turns c i (Some j) e l f = refl
is-some-due w turns c i None e l f =
    let none = first_where-none (is_due w turns c) (live_count w) e i l in
    let no : false ≡ true = sym none ∙ f in absurd (cc no)

-- so where the priority agent wins, a reply is due
pub winner-due : (r s : Run) → GrowsTo r s → winner_at r.trace (length r.trace) ≡ Some Priority
    → ((q : ℕ) → length r.trace ≤ q + 2 → q < length r.trace → line_at ADS s.trace q ≡ false)
    → is_some (due_number s (past_of s) (length r.trace)) ≡ true
unfolding request_line_of due_number
winner-due r s grows won quiet =
    let n = length r.trace in
    let asks = winner-asks r.trace n Priority won in
    let low : 2 ≤ n = asks.0 in
    let d = n - 2 in
    let l : d < n = omega arith in
    let due = asks-due r d grows.timely l asks.1 in
    let u = (run_to r d).trace in
    let turns = turns_in (past_of (run_to r d)).moments in
    let some = some-due u turns d (due_at u turns d) refl
    (ap (λ (p : Past). is_some (due_at u (turns_in p.moments) d)) (lawful.past-cut r d l) ∙ due) in
    let next = due-stays r s d some.0 grows l (λ q above below. quiet q (omega arith) below) some.1 in
    is-some-due s.trace (turns_in (past_of s).moments) n some.0
    (due_at s.trace (turns_in (past_of s).moments) n) refl next.0 next.1
