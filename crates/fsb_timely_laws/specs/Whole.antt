-- What is said of a clock, asked of the whole run.
use Rattle.std.specs.Prelude.{◌≡◌, ◌<◌, Bool, IsTrue, length, ℕ}
use Rattle.fsb_laws.specs.Orderly.{Orderly}
use Rattle.fsb_signal.specs.Samples.{is_known_trace}
use Rattle.fsb_timely.specs.BusLock.{drives_lock}
use Rattle.fsb_timely.specs.Carried.{carries_data}
use Rattle.fsb_timely.specs.Completions.{is_in_time, logs_completions}
use Rattle.fsb_timely.specs.ParityLines.{drives_parity}
use Rattle.fsb_timely.specs.Runs.{Run, past_of, requests_below}
use Rattle.fsb_timely.specs.Snoops.{drives_hazards, has_snoop_result}
use Rattle.fsb_timely.specs.Starts.{drives_request_lines, starts_requests}
use Rattle.fsb_timely.specs.Timely.{Part, holds_at}
use Rattle.fsb_timely.specs.Transfers.{drives_responses}

-- the part holds at clock c where it is asked of the whole run and of its whole past
unfoldable pub holds_in_whole : Part → Run → ℕ → Bool
holds_in_whole part r c = part r (past_of r) c

-- the run keeps the order that the numbers of its trace rest on: its requests are three clocks apart, each response comes
-- two clocks after its snoop end at least and after the end before, and its log goes on in time
pub record KeepsOrder (r : Run) : Type 0 where
  pub orderly : Orderly r.trace
  pub in_time : IsTrue (is_in_time 0 (length r.trace) r.log)

-- the part is said of the whole: asked of the whole run, it holds at clock c exactly where it holds of the run up to c
abbrev pub IsSaidOfTheWhole : Part → Run → ℕ → Type 0
IsSaidOfTheWhole part r c = holds_in_whole part r c ≡ holds_at part r c

-- so is each of the eight parts of a timely run, and that its data are carried
pub record EachIsSaidOfTheWhole (r : Run) (c : ℕ) : Type 0 where
  pub request_starts : IsSaidOfTheWhole starts_requests r c
  pub request_lines : IsSaidOfTheWhole drives_request_lines r c
  pub hazard_lines : IsSaidOfTheWhole drives_hazards r c
  pub snoop_results : IsSaidOfTheWhole has_snoop_result r c
  pub responses_and_data : IsSaidOfTheWhole drives_responses r c
  pub completions : IsSaidOfTheWhole logs_completions r c
  pub bus_lock : IsSaidOfTheWhole drives_lock r c
  pub parity : IsSaidOfTheWhole drives_parity r c
  pub carried_data : IsSaidOfTheWhole carries_data r c

-- the part holds at each clock of the run, asked of the whole run
pub record Throughout (part : Part) (r : Run) : Type 0 where
  pub at : (c : ℕ) → c < length r.trace → IsTrue (holds_in_whole part r c)

-- the run is timely as a whole: nothing in its trace is unknown, there is one hold for each clock and one choice for each
-- request, its log goes on in time, and the eight parts, asked of the whole run, hold at each clock
pub record TimelyAsAWhole (r : Run) : Type 0 where
  pub known : IsTrue (is_known_trace r.trace)
  pub one_hold : length r.holds ≡ length r.trace
  pub one_choice : length r.choices ≡ requests_below r.trace (length r.trace)
  pub in_time : IsTrue (is_in_time 0 (length r.trace) r.log)
  pub request_starts : Throughout starts_requests r
  pub request_lines : Throughout drives_request_lines r
  pub hazard_lines : Throughout drives_hazards r
  pub snoop_results : Throughout has_snoop_result r
  pub responses_and_data : Throughout drives_responses r
  pub completions : Throughout logs_completions r
  pub bus_lock : Throughout drives_lock r
  pub parity : Throughout drives_parity r
