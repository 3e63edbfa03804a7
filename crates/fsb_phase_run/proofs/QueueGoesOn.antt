-- The entries of a queue have the choices and the numbers of their requests again after a clock.
use Rattle.fsb_phase_run.proofs.Words
use Words.{ℕ, ◌≡◌, Bool, true, false, if◌then◌else◌, Some, List, ◌++◌, length, map, refl, sym, ap, ◌∙◌, inl, inr, subst}
use Words.{slice_get, slice_get-map, nth_where-found, Outcome, Trace, is_live, live_clock_of, is_live-ads, Entry}
use Words.{rank_of, GrowsTo, choice_at, turns_in, Run, past_of, requests_below, AreRequestsOf, HoldsRequests}
use Rattle.fsb_signal.specs.declared.sample.Sample.{Sample}
use Rattle.fsb_queue.specs.Entries.{with_outcome}
use Rattle.fsb_phase.specs.FitQueue.{HoldsInFlight}
use Rattle.fsb_flight.specs.GoesOn.{goes_on, settles, stays_in_flight}
use Rattle.fsb_flight.proofs.Interface.{append_from, filter_from, map_from}
use Rattle.fsb_phase_run.proofs.Grown.{choice-same}
use Rattle.fsb_phase_run.proofs.HeldEntries.{number-held}
use Rattle.fsb_phase_run.proofs.SnoopedNow.{number-grown}

-- the entry has what it had, whether its snoop ends or not
record IsSameRequest (e y : Entry) : Type 0 where
  clock : y.clock ≡ e.clock
  choice : y.choice ≡ e.choice
  number : y.number ≡ e.number

settled-same : (b : Bool) (outcome : Outcome) (e : Entry) → IsSameRequest e (if b then with_outcome outcome e else e)
settled-same true outcome e = record { clock = refl; choice = refl; number = refl }
settled-same false outcome e = record { clock = refl; choice = refl; number = refl }

settles-same : (h : Trace) (x : Sample) (outcome : Outcome) (e : Entry) → IsSameRequest e (settles h x outcome e)
unfolding settles
settles-same h x outcome e = settled-same _ outcome e

-- the entry of which one comes that stays
record ComesFrom (queue : List Entry) (y : Entry) : Type 0 where
  place : ℕ
  entry : Entry
  at : slice_get queue place ≡ Some entry
  same : IsSameRequest entry y

stays-from : (h : Trace) (x : Sample) (outcome : Outcome) (queue : List Entry) (k : ℕ) (y : Entry)
    → slice_get (goes_on h x outcome queue) k ≡ Some y → ComesFrom queue y
unfolding goes_on
stays-from h x outcome queue k y e =
    let f = filter_from (stays_in_flight h x) (map (settles h x outcome) queue) k y e in
    let m = map_from (settles h x outcome) queue f.0 y (slice_get queue f.0) refl
    (sym (slice_get-map (settles h x outcome) queue f.0) ∙ f.1) in
    let same = subst (λ z. IsSameRequest m.0 z) m.2 (settles-same h x outcome m.0) in
    record { place = f.0; entry = m.0; at = m.1; same = same }

-- what one that stays has of the longer run
old-choice : (r s : Run) (queue : List Entry) (y : Entry) → GrowsTo r s → HoldsRequests queue r → ComesFrom queue y
    → y.choice ≡ choice_at s.choices s.trace y.clock
unfolding live_clock_of
old-choice r s queue y grows f c =
    let held = number-held r queue c.place c.entry f c.at in
    let p = nth_where-found (is_live r.trace) (rank_of r.trace c.entry) (length r.trace) c.entry.clock held.0 in
    c.same.choice ∙ f.entries.chosen c.place c.entry c.at
    ∙ choice-same r s c.entry.clock grows p.0 (is_live-ads r.trace c.entry.clock p.1)
    ∙ ap (choice_at s.choices s.trace) (sym c.same.clock)

old-number : (r s : Run) (queue : List Entry) (y : Entry) → GrowsTo r s → HoldsRequests queue r → ComesFrom queue y
    → y.number ≡ requests_below s.trace y.clock
old-number r s queue y grows f c =
    c.same.number ∙ (number-grown r s queue c.place c.entry grows f c.at).1
    ∙ ap (requests_below s.trace) (sym c.same.clock)

pub queue-goes-on : (r s : Run) (queue new : List Entry) (outcome : Outcome) (grows : GrowsTo r s)
    → HoldsRequests queue r → AreRequestsOf new s
    → HoldsInFlight (goes_on r.trace grows.next.sample outcome queue ++ new) (turns_in (past_of s).moments) s.trace
    → HoldsRequests (goes_on r.trace grows.next.sample outcome queue ++ new) s
queue-goes-on r s queue new outcome grows f begun flight =
    let x = grows.next.sample in
    let stays = goes_on r.trace x outcome queue in
    record {
      flight = flight;
      entries = record {
        chosen = λ k y e. elim (append_from stays new k y e) [
          | inl p ↦ old-choice r s queue y grows f (stays-from r.trace x outcome queue k y p)
          | inr q ↦ begun.chosen q.0 y q.1
        ];
        numbered = λ k y e. elim (append_from stays new k y e) [
          | inl p ↦ old-number r s queue y grows f (stays-from r.trace x outcome queue k y p)
          | inr q ↦ begun.numbered q.0 y q.1
        ];
      };
    }
