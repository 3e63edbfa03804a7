-- A run that passes every part's test at each of its clocks is a simulation.
use Rattle.std.proofs.Common.{◌≡◌, ℕ, true, length, IsTrue}
use Rattle.std.proofs.lemmas.Bool.{and_parts}
use Rattle.fsb_access.specs.Replay.{Served}
use Rattle.fsb_access.specs.ScriptOrder.{InOrder}
use Rattle.fsb_signal.specs.Samples.{is_known_trace}
use Rattle.fsb_timely.specs.Runs.{Run, requests_below}
use Rattle.fsb_timely.specs.Starts.{starts_requests, drives_request_lines}
use Rattle.fsb_timely.specs.Snoops.{drives_hazards, has_snoop_result}
use Rattle.fsb_timely.specs.Transfers.{drives_responses}
use Rattle.fsb_timely.specs.Carried.{carries_data}
use Rattle.fsb_timely.specs.Completions.{logs_completions, is_in_time}
use Rattle.fsb_timely.specs.BusLock.{drives_lock}
use Rattle.fsb_timely.specs.ParityLines.{drives_parity}
use Rattle.fsb_timely.specs.Timely.{holds_in, holds_at, keeps}
use Rattle.fsb_timely.specs.Simulated.{Simulated}
use Rattle.fsb_timely.proofs.Interface.{keeps-at}
use Rattle.rows_timely.proofs.LaidOut.{every_part}

-- the parts and the data at a clock, one by one
parts : (r : Run) (c : ℕ) → holds_at every_part r c ≡ true
    → (holds_at starts_requests r c ≡ true) × (holds_at drives_request_lines r c ≡ true)
    × (holds_at drives_hazards r c ≡ true) × (holds_at has_snoop_result r c ≡ true)
    × (holds_at drives_responses r c ≡ true) × (holds_at logs_completions r c ≡ true)
    × (holds_at drives_lock r c ≡ true) × (holds_at drives_parity r c ≡ true) × (holds_at carries_data r c ≡ true)
unfolding holds_at holds_in
parts r c e =
    let h0 = and_parts _ _ e in
    let h1 = and_parts _ _ h0.1 in
    let h2 = and_parts _ _ h1.1 in
    let h3 = and_parts _ _ h2.1 in
    let h4 = and_parts _ _ h3.1 in
    let h5 = and_parts _ _ h4.1 in
    let h6 = and_parts _ _ h5.1 in
    let h7 = and_parts _ _ h6.1 in
    (h0.0, h1.0, h2.0, h3.0, h4.0, h5.0, h6.0, h7.0, h7.1)

pub simulated_if :
    (r : Run) → keeps every_part r ≡ true → IsTrue (is_known_trace r.trace) → length r.holds ≡ length r.trace
    → length r.choices ≡ requests_below r.trace (length r.trace) → IsTrue (is_in_time 0 (length r.trace) r.log)
    → InOrder r.plan.scripts r.log → Served r.plan.mem r.log
    → Simulated r
simulated_if r e known one_hold one_choice in_time in_order served =
    let h = keeps-at every_part r e in
    record {
      timely = record {
        known = known;
        one_hold = one_hold;
        one_choice = one_choice;
        in_time = in_time;
        request_starts = record { at = λ c l. (parts r c (h.at c l)).0 };
        request_lines = record { at = λ c l. (parts r c (h.at c l)).1 };
        hazard_lines = record { at = λ c l. (parts r c (h.at c l)).2 };
        snoop_results = record { at = λ c l. (parts r c (h.at c l)).3 };
        responses_and_data = record { at = λ c l. (parts r c (h.at c l)).4 };
        completions = record { at = λ c l. (parts r c (h.at c l)).5 };
        bus_lock = record { at = λ c l. (parts r c (h.at c l)).6 };
        parity = record { at = λ c l. (parts r c (h.at c l)).7 };
      };
      carried = record { at = λ c l. (parts r c (h.at c l)).8 };
      in_order = in_order;
      served = served;
    }
