-- The entries of a queue that holds the requests in flight of a run, and its live requests.
use Rattle.fsb_phase_run.proofs.Words
use Words.{ℕ, ◌≡◌, true, not, Option, Some, None, List, length, refl, sym, ap, ◌∙◌, slice_get, option_map}
use Words.{option_map_or, and_from, and_parts, slice_get-map, all_where, count_where, nth_where, is_before}
use Words.{is_before-none, nth_where-at, nth_where-found, quiet_choice, Trace, response_clock_of, is_live}
use Words.{live_clock_of, live_number_of, end_of, end_of-response, live_clock_of-number, is_in_flight-end, Entry}
use Words.{rank_of, choice_at, Run, live_choice, HoldsRequests}
use Rattle.fsb_trace.specs.Flight.{in_flight, is_in_flight}

-- the entry at this place is that of live request i
pub record EntryOf (r : Run) (queue : List Entry) (i : ℕ) : Type 0 where
  pub place : ℕ
  pub entry : Entry
  pub at : slice_get queue place ≡ Some entry
  pub clock : live_clock_of r.trace i ≡ Some entry.clock
  pub rank : rank_of r.trace entry ≡ i
  pub choice : entry.choice ≡ live_choice r i

choice-there : (r : Run) (i q : ℕ) → live_clock_of r.trace i ≡ Some q
    → live_choice r i ≡ choice_at r.choices r.trace q
unfolding live_choice
choice-there r i q e = ap (λ o. option_map_or (choice_at r.choices r.trace) o quiet_choice) e

-- each entry is that of a live request
pub number-held : (r : Run) (queue : List Entry) (k : ℕ) (e : Entry) → HoldsRequests queue r
    → slice_get queue k ≡ Some e
    → (live_clock_of r.trace (rank_of r.trace e) ≡ Some e.clock) × (e.choice ≡ live_choice r (rank_of r.trace e))
unfolding in_flight nth_where
number-held r queue k e f at =
    let h = r.trace in
    let there : nth_where (is_in_flight h (length h)) k (length h) ≡ Some e.clock =
    ap (λ qs. slice_get qs k) (sym f.flight.clocks) ∙ slice_get-map (λ x. x.clock) queue k
    ∙ ap (option_map (λ x. x.clock)) at in
    let p = nth_where-found (is_in_flight h (length h)) k (length h) e.clock there in
    let live = and_parts (is_live h e.clock) _ (sym (is_in_flight-end h e.clock p.0) ∙ p.1) in
    let clock = live_clock_of-number h e.clock p.0 live.0 in
    (clock, f.entries.chosen k e at ∙ sym (choice-there r (live_number_of h e.clock) e.clock clock))

-- a request that has not responded has not ended
unended : (h : Trace) (i : ℕ) → response_clock_of h i ≡ None → not (is_before (end_of h i) (length h)) ≡ true
unended h i none = by (end_of h i) refl
  where
    by : (o : Option ℕ) → end_of h i ≡ o → not (is_before o (length h)) ≡ true
    by None e = rw (is_before-none (length h)) refl
    by (Some t) e = absurd (let p = end_of-response h i t e in let some = p.1 in let no : ⊥ = cc in no)

held-by : (r : Run) (queue : List Entry) (i q k : ℕ) (o : Option Entry) → HoldsRequests queue r
    → live_number_of r.trace q ≡ i → slice_get queue k ≡ o → option_map (λ x. x.clock) o ≡ Some q → EntryOf r queue i
held-by r queue i q k None f number at e = absurd (let no : ⊥ = cc in no)
held-by r queue i q k (Some x) f number at e =
    let same : x.clock ≡ q = cc in
    let rank : rank_of r.trace x ≡ i = ap (live_number_of r.trace) same ∙ number in
    let p = number-held r queue k x f at in record {
      place = k;
      entry = x;
      at = at;
      clock = ap (live_clock_of r.trace) (sym rank) ∙ p.0;
      rank = rank;
      choice = p.1 ∙ ap (live_choice r) rank;
    }

-- a live request that has not ended has an entry
pub entry-flying : (r : Run) (queue : List Entry) (i q : ℕ) → HoldsRequests queue r → live_clock_of r.trace i ≡ Some q
    → not (is_before (end_of r.trace i) (length r.trace)) ≡ true → EntryOf r queue i
unfolding live_clock_of live_number_of in_flight nth_where
entry-flying r queue i q f e open_yet =
    let h = r.trace in
    let p = nth_where-found (is_live h) i (length h) q e in
    let number : live_number_of h q ≡ i = p.2 in
    let stays = ap (λ j. not (is_before (end_of h j) (length h))) number ∙ open_yet in
    let flies = is_in_flight-end h q p.0 ∙ and_from _ _ p.1 stays in
    let k : ℕ = count_where (is_in_flight h (length h)) q in
    let there : slice_get (all_where (is_in_flight h (length h)) (length h)) k ≡ Some q =
    nth_where-at (is_in_flight h (length h)) (length h) q p.0 flies in
    held-by r queue i q k (slice_get queue k) f number refl
    (sym (slice_get-map (λ x. x.clock) queue k) ∙ ap (λ qs. slice_get qs k) f.flight.clocks ∙ there)

-- so has one that has not responded
pub entry-held : (r : Run) (queue : List Entry) (i q : ℕ) → HoldsRequests queue r → live_clock_of r.trace i ≡ Some q
    → response_clock_of r.trace i ≡ None → EntryOf r queue i
entry-held r queue i q f e none = entry-flying r queue i q f e (unended r.trace i none)
