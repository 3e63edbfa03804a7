-- The entry whose snoop clock the next clock is: the oldest one without a snoop end.
use Rattle.fsb_bench_run.proofs.Words
use Words.{ℕ, ◌+◌, ◌<◌, ◌≡◌, ◌&&◌, true, false, not, Option, Some, None, List, [], ◌∷◌, ◌++◌, length, is_none, refl}
use Words.{sym, ap, ◌∙◌, arith, inl, inr, find, slice_get, option_map, and_parts, both_ways, cases_order, slice_get-map}
use Words.{count_where, count_where-above, is_at-some, nth_where-found, nth_where-rises, stalls, Spaced, one_more}
use Words.{Entry, has_snoop, rank_of, ends_snoop_at, phased_at, snooped_count, snoops_to, Found, Placed, ends_entry}
use Words.{find-off, find-place, has_snoop-at, held, not_reached_from, outcome_reached, reached_before, snoop_elsewhere}
use Words.{Sample, in_flight, is_in_flight, is_live, live_clock_of, live_number_of, snoop_end_of, live_clock_of-number}
use Words.{snooped_at, GrowsTo, SnoopEnd, Run, past_of, requests_below, IsSnoopOf, Timely, snoop-tied, orderly-whole}
use Words.{HoldsRequests, longer, number-held, snooped-now, first_open}
use Rattle.fsb_phase.proofs.Interface.{snoop_at}

-- the clock of each entry
pub clock-there : (r : Run) (queue : List Entry) (k : ℕ) (e : Entry) → HoldsRequests queue r
    → slice_get queue k ≡ Some e
    → Rattle.fsb_count.specs.Clocks.nth_where (is_in_flight r.trace (length r.trace)) k (length r.trace) ≡ Some e.clock
unfolding in_flight Rattle.fsb_count.specs.Clocks.nth_where
clock-there r queue k e f at = grind (arith, slice_get-map)

-- the request of an entry is live, and began below the next clock
pub record IsHeldHere (r : Run) (e : Entry) : Type 0 where
  pub live : is_live r.trace e.clock ≡ true
  pub within : e.clock < length r.trace
  pub first : live_clock_of r.trace (rank_of r.trace e) ≡ Some e.clock

pub held-here : (r : Run) (queue : List Entry) (k : ℕ) (e : Entry) → HoldsRequests queue r
    → slice_get queue k ≡ Some e → IsHeldHere r e
unfolding live_clock_of
held-here r queue k e f at =
    let p = number-held r queue k e f at in
    let m = nth_where-found (is_live r.trace) (rank_of r.trace e) (length r.trace) e.clock p.0 in
    record { live = m.1; within = m.0; first = p.0 }

-- entries that come later are of later requests
pub rank-rises : (r : Run) (queue : List Entry) (j k : ℕ) (y e : Entry) → HoldsRequests queue r → j < k
    → slice_get queue j ≡ Some y → slice_get queue k ≡ Some e → rank_of r.trace y < rank_of r.trace e
unfolding live_number_of
rank-rises r queue j k y e f l a b =
    let n = length r.trace in
    let rises = nth_where-rises (is_in_flight r.trace n) j k n y.clock e.clock l
    (clock-there r queue j y f a) (clock-there r queue k e f b) in
    count_where-above (is_live r.trace) y.clock e.clock rises (held-here r queue j y f a).live

-- an entry has its outcome where its snoop end is reached
pub outcome-none : (r : Run) (queue : List Entry) (k : ℕ) (e : Entry) → HoldsRequests queue r
    → slice_get queue k ≡ Some e → is_none e.outcome ≡ is_none (snoop_end_of r.trace (rank_of r.trace e))
outcome-none r queue k e f at =
    let set = (held queue _ r.trace f.flight).settled k e at in
    outcome_reached r.trace e set.0 (rank_of r.trace e) set.1 refl

-- the entry whose snoop clock the next clock is
pub record SnoopsNow (r : Run) (queue : List Entry) : Type 0 where
  pub place : ℕ
  pub entry : Entry
  pub at : slice_get queue place ≡ Some entry
  pub snoops : has_snoop r.trace entry ≡ true
  pub first : first_open queue ≡ Some entry
  pub search : find (has_snoop r.trace) queue ≡ Some entry

pub snoop-rank : (r : Run) (e : Entry) → has_snoop r.trace e ≡ true → rank_of r.trace e ≡ snooped_count r.trace
snoop-rank r e t =
    let h = r.trace in
    let i = rank_of h e in
    let s = snooped_count h in
    let here : snoop_at h i ≡ true = sym (has_snoop-at h e i refl) ∙ t in
    elim (cases_order i s) [
      | inl same ↦ same
      | inr other ↦
          let apart : i ≡ s → ⊥ = grind arith in
          absurd (both_ways _ (snoop_elsewhere h s i (snoops_to h) apart) here)
    ]

pub snoops-now : (r : Run) (queue : List Entry) → HoldsRequests queue r → Found (has_snoop r.trace) queue
    → SnoopsNow r queue
snoops-now r queue f k =
    let h = r.trace in
    let s = snooped_count h in
    let to = snoops_to h in
    let i = rank_of h k.item in
    let same : i ≡ s = snoop-rank r k.item k.passes in
    let none : is_none k.item.outcome ≡ true =
    outcome-none r queue k.place k.item f k.at ∙ not_reached_from h s i to (omega arith) in
    let before = λ (j : ℕ) (y : Entry) (l : j < k.place) (at : slice_get queue j ≡ Some y).
    let less = rank-rises r queue j k.place y k.item f l at k.at in
    outcome-none r queue j y f at ∙ reached_before h s (rank_of h y) to (omega arith) in
    grind (arith, find-place)

-- the requests of a timely run keep their distance, where there is one
pub spaced-here : (r : Run) (e : Entry) → Timely r → IsHeldHere r e → Spaced r.trace
spaced-here r e timely k = let within = k.within in (orderly-whole r e.clock timely within).spaced

-- a snoop ends with the next sample exactly where the entry has a snoop clock there, and none is stalled
pub ends-here : (r : Run) (queue : List Entry) (x : Sample) (k : ℕ) (e : Entry) → Timely r → HoldsRequests queue r
    → slice_get queue k ≡ Some e
    → ends_snoop_at (r.trace ++ x ∷ []) (length r.trace) e ≡ (has_snoop r.trace e && not (stalls x))
ends-here r queue x k e timely f at =
    let h = r.trace in
    let here = held-here r queue k e f at in
    let i = rank_of h e in
    let zero_more : i + 0 ≡ i = omega arith in
    let place : Placed h i 0 e = record {
      clock = ap (live_clock_of h) zero_more ∙ here.first;
      number = sym zero_more;
      live = here.live;
      within = here.within;
    } in
    ends_entry h x (h ++ x ∷ []) i (snooped_count h) 0 e (one_more h x) (spaced-here r e timely here)
    (snoops_to h) place

-- what the moment of the next clock has of the snoop end of an entry
pub record IsSnoopedNow (s : Run) (n : ℕ) (e : Entry) : Type 0 where
  pub end : SnoopEnd
  pub is_end : IsSnoopOf s (rank_of s.trace e) n end
  pub first : end.first ≡ e.clock

pub ends-told : (r s : Run) (queue : List Entry) (k : ℕ) (e : Entry) → GrowsTo r s → HoldsRequests queue r
    → slice_get queue k ≡ Some e → ends_snoop_at s.trace (length r.trace) e ≡ true → IsSnoopedNow s (length r.trace) e
unfolding ends_snoop_at
ends-told r s queue k e grows f at t =
    let n = length r.trace in
    let size = longer r s grows in
    let a = and_parts (is_live s.trace e.clock) _ t in
    let i = live_number_of s.trace e.clock in
    let within = (held-here r queue k e f at).within in
    let first = live_clock_of-number s.trace e.clock (omega arith) a.0 in
    let tied = snoop-tied s i n (is_at-some _ n a.1) in
    let one : Some e.clock ≡ Some tied.0.first = sym first ∙ tied.1.first in
    record { end = tied.0; is_end = tied.1; first = sym (let same : e.clock ≡ tied.0.first = cc in same) }

option-off : (f : SnoopEnd → ℕ) (o : Option SnoopEnd) → None ≡ option_map f o → o ≡ None
option-off f o h1 = grind arith

-- the next clock has no snoop end where no snoop of an entry ends
pub no-end-told : (r s : Run) (queue : List Entry) → GrowsTo r s → HoldsRequests queue r
    → ((j : ℕ) (y : Entry) → slice_get queue j ≡ Some y → ends_snoop_at s.trace (length r.trace) y ≡ false)
    → snooped_at (past_of s) (length r.trace) ≡ None
unfolding phased_at
no-end-told r s queue grows f g =
    let n = length r.trace in
    option-off (λ (end : SnoopEnd). requests_below s.trace end.first) (snooped_at (past_of s) n)
    (sym (ap (option_map (λ (e : Entry). e.number)) (find-off (ends_snoop_at s.trace n) queue g))
    ∙ snooped-now r s queue grows f)
