-- The entries of a queue that holds the requests in flight: their outcomes, their places and their numbers.
use Rattle.std.proofs.Common.{ℕ, zero, suc, ◌+◌, ◌<◌, ◌≡◌, true, Some, List, [], ◌∷◌, drop, map, length, slice_index}
use Rattle.std.proofs.Common.{refl, sym, ap, ◌∙◌, arith}
use Rattle.std.specs.List.{slice_get}
use Rattle.std.specs.Option.{option_map}
use Rattle.std.proofs.lemmas.Option.{slice_get-map}
use Rattle.fsb_count.specs.Clocks.{all_where, nth_where}
use Rattle.fsb_count.proofs.Interface.{nth_where-found}
use Rattle.fsb_trace.specs.At.{Trace}
use Rattle.fsb_trace.specs.Requests.{is_live, live_clock_of, live_number_of, live_request_of, is_write_back}
use Rattle.fsb_trace.specs.Snoop.{snoop_end_of}
use Rattle.fsb_trace.specs.Outcome.{settled_by, settled_outcome_of}
use Rattle.fsb_trace.specs.Flight.{in_flight}
use Rattle.fsb_laws.specs.Progress.{EndsTo}
use Rattle.fsb_laws.proofs.Interface.{in_flight-live}
use Rattle.fsb_queue.specs.declared.entry.Entry.{Entry}
use Rattle.fsb_phase.specs.Due.{rank_of}
use Rattle.fsb_phase.specs.FitQueue.{HoldsInFlight}

-- the entry's outcome is the one that is settled with this effective turn, where its snoop end is reached
pub record IsSettled (h : Trace) (e : Entry) (turn : ℕ) : Type 0 where
  pub outcome : e.outcome ≡ option_map (settled_by h turn (rank_of h e)) (snoop_end_of h (rank_of h e))
  pub kept : is_write_back (live_request_of h (rank_of h e)) ≡ true → turn ≡ 0

pub record Held (queue : List Entry) (h : Trace) : Type 0 where
  pub clocks : map (λ e. e.clock) queue ≡ in_flight h (length h)
  pub settled : (k : ℕ) (e : Entry) → slice_get queue k ≡ Some e → (turn : ℕ) × IsSettled h e turn

settled_turn : (queue : List Entry) (turns : List ℕ) (h : Trace) (k : ℕ) (e : Entry)
    → HoldsInFlight queue turns h → slice_get queue k ≡ Some e → IsSettled h e (slice_index turns (rank_of h e))
unfolding settled_outcome_of
settled_turn queue turns h k e f g = record { outcome = f.settled k e g; kept = f.kept (rank_of h e) }

pub held : (queue : List Entry) (turns : List ℕ) (h : Trace) → HoldsInFlight queue turns h → Held queue h
held queue turns h f = record {
  clocks = f.clocks;
  settled = λ k e g. (slice_index turns (rank_of h e), settled_turn queue turns h k e f g);
}

pub dropped : {X : Type 0} (e k : ℕ) (xs : List X) → slice_get (drop e xs) k ≡ slice_get xs (e + k)
dropped zero k xs = ap (slice_get xs) (let same : k ≡ 0 + k = omega arith in same)
dropped (suc e) k [] = refl
dropped (suc e) k (x ∷ xs) =
    dropped e k xs ∙ ap (slice_get (x ∷ xs)) (let same : suc (e + k) ≡ suc e + k = omega arith in same)

-- the request at place k is the k-th live one from the first without its end on
pub record Placed (h : Trace) (e k : ℕ) (entry : Entry) : Type 0 where
  pub clock : live_clock_of h (e + k) ≡ Some entry.clock
  pub number : rank_of h entry ≡ e + k
  pub live : is_live h entry.clock ≡ true
  pub within : entry.clock < length h

pub placed : (h : Trace) (queue : List Entry) (e k : ℕ) (entry : Entry) → Held queue h → EndsTo h e
    → slice_get queue k ≡ Some entry → Placed h e k entry
unfolding live_clock_of live_number_of nth_where
placed h queue e k entry f to at =
    let clock : slice_get (all_where (is_live h) (length h)) (e + k) ≡ Some entry.clock =
    sym (dropped e k (all_where (is_live h) (length h)))
    ∙ ap (λ qs. slice_get qs k) (sym (f.clocks ∙ in_flight-live h e to))
    ∙ slice_get-map (λ x. x.clock) queue k ∙ ap (option_map (λ x. x.clock)) at in
    let found = nth_where-found (is_live h) (e + k) (length h) entry.clock clock in
    record { clock = clock; number = found.2; live = found.1; within = found.0 }
