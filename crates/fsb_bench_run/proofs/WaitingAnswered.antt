-- What the response of a clock makes of the deferrals of a bench.
use Rattle.fsb_bench_run.proofs.Words
use Words.{ℕ, ◌+◌, ◌≡◌, Bool, if◌then◌else◌, nat_eq, List, Option, Some, None, length, refl, sym, ap, ◌∙◌, arith, inl}
use Words.{inr, find, option_and_then, option_map, option_map_or, Waiting, after_response, was_deferred, responded_in}
use Words.{snoop_end_below, is_some_and, Choice, has_response, rank_of, drive_of, settled_code, find-cases, find-off}
use Words.{find-place, HoldsRequests, agree-back, agree-grown, code-shown, longer, responded-now, snooped-same, Entry}
use Words.{Reaches, snoop-below, response_of, answered, responded-number, GrowsTo, turns_in, SnoopEnd, Run, past_of}
use Words.{requests_below, snoop-tied, is_deferral, response_code_of, settled_outcome_of, live_clock_of, Outcome}
use Words.{live_clock_of-stays, snoop_end_of-clock, snoop_end_of-stays, step_answered, step_drive, step_entries}
use Words.{step_run, step_snooped, answered_by, bus_answered, BenchView, BusView, next_clock_of, IsBenchOf}
use Rattle.std.proofs.Common.{slice_get}
use Rattle.fsb_bench_run.proofs.EndCases.{queue-snooped}
use Rattle.fsb_bench_run.proofs.LogsNow.{reaches-step}
use Rattle.fsb_bench_run.proofs.NextRun.{grows-to}
use Rattle.fsb_bench_run.proofs.OpenNow.{one-number}
use Rattle.fsb_bench_run.proofs.QueueNext.{orderly-run}
use Rattle.fsb_bench_run.proofs.ResponsesDriven.{code-now, sample-grown}
use Rattle.fsb_bench_run.proofs.RespondsFirst.{responds-first}
use Rattle.fsb_bench_run.proofs.SnoopEntry.{held-here}
use Rattle.fsb_bench_run.proofs.WaitingSnooped.{number-stays}

-- the request that responds, if it is Deferred
abbrev deferred_by : Entry → Option Entry
deferred_by e = if is_some_and e.outcome is_deferral then Some e else None

-- the oldest request that is Deferred and responds at a clock with this code
abbrev answered_at : ℕ → Option Entry → Option Entry
answered_at rs o = if nat_eq rs 0 then None else option_and_then deferred_by o

-- of an outcome that is known the code tells whether it is Deferred
code-deferred : (e : Entry) (o : Option Outcome) → e.outcome ≡ o
    → (if nat_eq (option_map_or response_code_of o 0) 0 then None else deferred_by e) ≡ deferred_by e
unfolding response_code_of is_some_and is_deferral
code-deferred e o h1 = grind arith

head-answers : (e : Entry) → answered_at (settled_code e) (Some e) ≡ deferred_by e
unfolding settled_code
head-answers e = code-deferred e e.outcome refl

-- the request that responds at the clock was settled as its entry says
deferred-told : (r s : Run) (k : ℕ) (queue : List Entry) (e : Entry) → GrowsTo r s → Reaches s (length r.trace + 1)
    → HoldsRequests queue r → slice_get queue k ≡ Some e → responded_in (past_of s) (length r.trace) ≡ Some e.clock
    → was_deferred (past_of s) (length r.trace) e.clock ≡ is_some_and e.outcome is_deferral
unfolding was_deferred is_some_and
deferred-told r s k queue e grows h f at responds =
    let n = length r.trace in
    let size = longer r s grows in
    let orderly = orderly-run s h.timely in
    let m = responded-number s n e.clock h.timely (omega arith) responds in
    let i : ℕ = m.0 in
    let a = answered s.trace i n orderly m.1.response in
    let before = a.before in
    let mine = held-here r queue k e f at in
    let within = mine.within in
    let c = snoop_end_of-clock s.trace i a.snoop a.is_snoop in
    let above = c.above in
    let one : Some c.clock ≡ Some e.clock = sym c.is_clock ∙ m.1.first in
    let same : c.clock ≡ e.clock = cc in
    let now = live_clock_of-stays n r.trace s.trace (rank_of r.trace e) e.clock (agree-grown r s grows)
    (omega (arith, same)) mine.first in
    let number : i ≡ rank_of r.trace e = one-number s.trace i (rank_of r.trace e) e.clock m.1.first now in
    let old = snoop_end_of-stays n s.trace r.trace i a.snoop (agree-back r s grows) (omega arith) a.is_snoop in
    let tied = snoop-tied r i a.snoop old in
    let end : SnoopEnd = tied.0 in
    let first : end.first ≡ e.clock =
    one-clock end.first e.clock
    (sym tied.1.first ∙ ap (live_clock_of r.trace) number ∙ mine.first) in
    let outcome : e.outcome ≡ Some end.outcome =
    f.flight.settled k e at ∙ ap (settled_outcome_of r.trace (turns_in (past_of r).moments)) (sym number)
    ∙ tied.1.outcome in
    let there = sym (snooped-same r s a.snoop grows (omega arith)) ∙ tied.1.there in
    let below = snoop-below s n a.snoop end h (omega arith) there in
    ap (λ q. is_some_and (snoop_end_below (past_of s) (n + 1) q) (λ (x : SnoopEnd). is_deferral x.outcome)) (sym first)
    ∙ ap (λ o. is_some_and o (λ (x : SnoopEnd). is_deferral x.outcome)) below
    ∙ sym (ap (λ o. is_some_and o is_deferral) outcome)
  where
    one-clock : (a b : ℕ) → Some a ≡ Some b → a ≡ b
    one-clock a b e = cc

-- what the run makes of the deferrals at a response
after-quiet : (s : Run) (n : ℕ) (list : List Waiting) → responded_in (past_of s) n ≡ None
    → after_response s n list ≡ list
unfolding after_response
after-quiet s n list none = grind arith

after-answer : (s : Run) (n : ℕ) (e : Entry) (bus : BusView) → responded_in (past_of s) n ≡ Some e.clock
    → was_deferred (past_of s) n e.clock ≡ is_some_and e.outcome is_deferral → e.number ≡ requests_below s.trace e.clock
    → (option_map_or (bus_answered bus n) (deferred_by e) bus).bridge.waiting ≡ after_response s n bus.bridge.waiting
unfolding after_response
after-answer s n e bus responds deferred number = grind arith

-- the response that is driven
answers-with : (v : BenchView) (hold : Bool) (o : Option Entry) → find (has_response v.run.trace) v.bus.queue ≡ o
    → answered_by (step_snooped v hold) (step_drive v)
    ≡ answered_at (option_map_or settled_code o 0) (slice_get v.bus.queue 0)
unfolding drive_of
answers-with v hold o e =
    let queue = queue-snooped v hold in
    (λ i. answered_at (step_drive v).rs (slice_get (queue i) 0))
    ∙ ap (λ x. answered_at (option_map_or settled_code x 0) (slice_get v.bus.queue 0)) e

-- the deferrals after the response of the clock
pub waiting-answered : (v : BenchView) (hold : Bool) (choice : Choice) → IsBenchOf v
    → (step_answered v hold).bridge.waiting
    ≡ after_response (step_run v hold choice) (next_clock_of v) (step_snooped v hold).bridge.waiting
waiting-answered v hold choice b =
    let r = v.run in
    let s = step_run v hold choice in
    let n = next_clock_of v in
    let queue = v.bus.queue in
    let bus = step_snooped v hold in
    let grows = grows-to v hold choice b in
    let h = reaches-step v hold choice b in
    let shown = ap response_of (sample-grown v hold choice (step_entries v hold) grows) ∙ code-now v hold in
    let code = code-shown r s queue grows b.requests shown in
    let responds = responded-now r s queue grows b.requests code in
    elim (find-cases (has_response r.trace) queue) [
      | inr g ↦
          let none = find-off (has_response r.trace) queue g in
          ap (λ o. (option_map_or (bus_answered bus n) o bus).bridge.waiting) (answers-with v hold None none)
          ∙ sym (after-quiet s n bus.bridge.waiting (responds ∙ ap (option_map (λ (x : Entry). x.clock)) none))
      | inl k ↦
          let e : Entry = k.item in
          let found = find-place (has_response r.trace) queue k.place e k.at k.passes k.before in
          let now = responds ∙ ap (option_map (λ (x : Entry). x.clock)) found in
          let place = responds-first r s queue k.place e grows h.timely b.requests k.at now in
          let head : slice_get queue 0 ≡ Some e = ap (slice_get queue) (sym place) ∙ k.at in
          let here = held-here r queue k.place e b.requests k.at in
          let answers = answers-with v hold (Some e) found ∙ ap (answered_at (settled_code e)) head ∙ head-answers e in
          ap (λ o. (option_map_or (bus_answered bus n) o bus).bridge.waiting) answers
          ∙ after-answer s n e bus now (deferred-told r s k.place queue e grows h b.requests k.at now)
          (b.requests.entries.numbered k.place e k.at ∙ number-stays r s e.clock grows here.within)
    ]
