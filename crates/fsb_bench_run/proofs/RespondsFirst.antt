-- The request that responds at a clock of a timely run is the oldest one in flight.
use Rattle.fsb_bench_run.proofs.Words
use Words.{ℕ, zero, suc, ◌<◌, ◌≡◌, Bool, true, false, if◌then◌else◌, nat_eq, List, Option, Some, None, length, refl}
use Words.{sym, ap, ◌∙◌, inl, inr, arith, find, option_and_then, option_map, option_map_or, lt-ltb, slice_get_within}
use Words.{is_before, is_some_and, nth_where-found, nth_where-rises, responded_in, get-there, is_in_flight-end}
use Words.{has_response, rank_of, drive_of, settled_code, find-cases, find-off, find-place, HoldsRequests, agree-back}
use Words.{agree-grown, longer, Entry, answered, ended-before, responded-number, GrowsTo, Run, past_of, Timely, Trace}
use Words.{is_in_flight, response_code_of, end_of, Outcome, end_of-response, end_of-stays, live_clock_of-stays}
use Words.{snoop_end_of-clock, is_retry}
use Rattle.std.proofs.Common.{slice_get}
use Rattle.fsb_phase_run.specs.Responding.{retried_of}
use Rattle.fsb_trace.specs.declared.outcome.Outcome.TheVariants as outcomes
use Rattle.fsb_bench_run.proofs.OpenNow.{one-number}
use Rattle.fsb_bench_run.proofs.QueueNext.{orderly-run}
use Rattle.fsb_bench_run.proofs.SnoopEntry.{clock-there, held-here, rank-rises}

-- a request in flight has not ended
flying : (r : Run) (queue : List Entry) (k : ℕ) (e : Entry) (end : ℕ) → HoldsRequests queue r
    → slice_get queue k ≡ Some e
    → end_of r.trace (rank_of r.trace e) ≡ Some end → end < length r.trace → {A : Type 0} → A
unfolding is_before is_some_and
flying r queue k e end f at ended low =
    let n = length r.trace in
    let there = nth_where-found (is_in_flight r.trace n) k n e.clock (clock-there r queue k e f at) in
    grind (arith, is_in_flight-end)
  where
    before-by : (o : Option ℕ) (end n : ℕ) → o ≡ Some end → end < n → is_before o n ≡ true
    before-by o end n e l = ap (λ o. is_before o n) e ∙ lt-ltb end n l

-- the entry that responds is the first one
pub responds-first : (r s : Run) (queue : List Entry) (k : ℕ) (e : Entry) → GrowsTo r s → Timely s
    → HoldsRequests queue r
    → slice_get queue k ≡ Some e → responded_in (past_of s) (length r.trace) ≡ Some e.clock → k ≡ 0
responds-first r s queue zero e grows timely f at responds = refl
responds-first r s queue (suc k) e grows timely f at responds =
    let n = length r.trace in
    let size = longer r s grows in
    let orderly = orderly-run s timely in
    let m = responded-number s n e.clock timely (omega arith) responds in
    let i : ℕ = m.0 in
    let a = answered s.trace i n orderly m.1.response in
    let before = a.before in
    let c = snoop_end_of-clock s.trace i a.snoop a.is_snoop in
    let above = c.above in
    let one : Some c.clock ≡ Some e.clock = sym c.is_clock ∙ m.1.first in
    let same : c.clock ≡ e.clock = cc in
    let within = slice_get_within queue (suc k) e at in
    let first = get-there queue 0 (omega arith) in
    let y : Entry = first.0 in
    let rises : y.clock < e.clock = nth_where-rises (is_in_flight r.trace n) 0 (suc k) n y.clock e.clock (omega arith)
    (clock-there r queue 0 y f first.1) (clock-there r queue (suc k) e f at) in
    let agree = agree-grown r s grows in
    let here = held-here r queue 0 y f first.1 in
    let mine = held-here r queue (suc k) e f at in
    let old = live_clock_of-stays n r.trace s.trace (rank_of r.trace y) y.clock agree (omega (arith, same, rises))
    here.first in
    let now = live_clock_of-stays n r.trace s.trace (rank_of r.trace e) e.clock agree (omega (arith, same))
    mine.first in
    let number : i ≡ rank_of r.trace e = one-number s.trace i (rank_of r.trace e) e.clock m.1.first now in
    let less : rank_of r.trace y < rank_of r.trace e = grind (arith, rank-rises) in
    let ended = ended-before s.trace (rank_of r.trace y) i n orderly (omega (arith, number, less)) m.1.response in
    let response = end_of-response s.trace (rank_of r.trace y) ended.0 ended.1 in
    let early = response.2 in
    let b = answered s.trace (rank_of r.trace y) response.0 orderly response.1 in
    let soon = b.before in
    let low : ended.0 < n = ended.2 in
    let back = end_of-stays n s.trace r.trace (rank_of r.trace y) b.snoop ended.0 (agree-back r s grows) (omega arith)
    b.is_snoop low ended.1 in
    flying r queue 0 y ended.0 f first.1 back low

-- of an outcome that is known the code tells whether it is Retried
code-retried : (e : Entry) (code : ℕ) (o : Option Outcome) → e.outcome ≡ o → code ≡ option_map_or response_code_of o 0
    → option_map (λ (x : Entry). x.clock)
    (if nat_eq code 0 then None else (if is_some_and e.outcome is_retry then Some e else None))
    ≡ (elim (nat_eq code (response_code_of outcomes.Retried)) [ true ↦ Some e.clock | false ↦ None ])
unfolding response_code_of is_some_and
code-retried e code o h1 h2 = grind arith

-- the request that is retried is the one of the first entry
pub retried-first : (h : Trace) (queue : List Entry)
    → ((k : ℕ) (e : Entry) → slice_get queue k ≡ Some e → find (has_response h) queue ≡ Some e → k ≡ 0)
    → option_map (λ (x : Entry). x.clock) (if nat_eq (drive_of h queue).rs 0 then None
    else option_and_then (λ (entry : Entry). if is_some_and entry.outcome is_retry then Some entry else None)
    (slice_get queue 0))
    ≡ retried_of h queue
unfolding retried_of drive_of settled_code
retried-first h queue first = elim (find-cases (has_response h) queue) [
  | inr g ↦
      let none = find-off (has_response h) queue g in
      let retry : Entry → Option Entry = λ entry. if is_some_and entry.outcome is_retry then Some entry else None in
      (λ i. option_map (λ (x : Entry). x.clock) (if nat_eq (option_map_or settled_code (none i) 0) 0 then None
      else option_and_then retry (slice_get queue 0)))
      ∙ either (nat_eq 0 (response_code_of outcomes.Retried))
      ∙ sym (λ i. elim (nat_eq (option_map_or settled_code (none i) 0) (response_code_of outcomes.Retried)) [
        | true ↦ option_map (λ (x : Entry). x.clock) (none i)
        | false ↦ None
      ])
  | inl k ↦
      let found = find-place (has_response h) queue k.place k.item k.at k.passes k.before in
      let place = first k.place k.item k.at found in
      let head : slice_get queue 0 ≡ Some k.item = ap (slice_get queue) (sym place) ∙ k.at in
      let retry : Entry → Option Entry = λ entry. if is_some_and entry.outcome is_retry then Some entry else None in
      (λ i. option_map (λ (x : Entry). x.clock) (if nat_eq (option_map_or settled_code (found i) 0) 0 then None
      else option_and_then retry (head i)))
      ∙ code-retried k.item (option_map_or response_code_of k.item.outcome 0) k.item.outcome refl refl
      ∙ sym (λ i. elim (nat_eq (option_map_or settled_code (found i) 0) (response_code_of outcomes.Retried)) [
        | true ↦ option_map (λ (x : Entry). x.clock) (found i)
        | false ↦ None
      ])
]
  where
    either : (b : Bool) → None ≡ (elim b as (λ z. Option ℕ) [ true ↦ None | false ↦ None ])
    either b = grind arith
