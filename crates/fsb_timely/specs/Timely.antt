-- Timely: a trace and a log are what the bus and its agents do under these choices and holds.
use Rattle.std.specs.Prelude.{◌≡◌, ◌<◌, ℕ, Bool, IsTrue, length}
use Rattle.fsb_count.specs.Clocks.{each_where}
use Rattle.fsb_signal.specs.Samples.{is_known_trace}
use Rattle.fsb_timely.specs.Past.{Past}
use Rattle.fsb_timely.specs.Runs.{Run, run_to, past_of, past_to, requests_below}
use Rattle.fsb_timely.specs.Starts.{starts_requests, drives_request_lines}
use Rattle.fsb_timely.specs.Snoops.{drives_hazards, has_snoop_result}
use Rattle.fsb_timely.specs.Transfers.{drives_responses}
use Rattle.fsb_timely.specs.Completions.{logs_completions, is_in_time}
use Rattle.fsb_timely.specs.BusLock.{drives_lock}
use Rattle.fsb_timely.specs.ParityLines.{drives_parity}

-- what is said of a clock c: a test of the run up to c, and of its past
abbrev pub Part : Type 0
Part = Run → Past → ℕ → Bool

-- the part holds at clock c of the run, which has this past
unfoldable pub holds_in : Part → Run → Past → ℕ → Bool
holds_in part r p c = part (run_to r c) (past_to p c) c

-- the part holds at clock c of the run
unfoldable pub holds_at : Part → Run → ℕ → Bool
holds_at part r c = holds_in part r (past_of r) c

-- the part holds at each clock of the run
pub record AtEachClock (part : Part) (r : Run) : Type 0 where
  pub at : (c : ℕ) → c < length r.trace → IsTrue (holds_at part r c)

-- the part holds at each clock of the run, as a test: the run's past is found once, and shared
unfoldable pub keeps : Part → Run → Bool
keeps part r = let p = past_of r in each_where (holds_in part r p) (length r.trace)

-- the run is timely: nothing in its trace is unknown, there is one hold for each clock and one choice for each request,
-- and the log goes on in time and ends with the trace. At each clock the eight parts hold: requests start, and the request
-- lines, the hazard lines and the snoop results are as they must; responses and data move, accesses are completed, the
-- bus is locked, and the parity lines are as they must
pub record Timely (r : Run) : Type 0 where
  pub known : IsTrue (is_known_trace r.trace)
  pub one_hold : length r.holds ≡ length r.trace
  pub one_choice : length r.choices ≡ requests_below r.trace (length r.trace)
  pub in_time : IsTrue (is_in_time 0 (length r.trace) r.log)
  pub request_starts : AtEachClock starts_requests r
  pub request_lines : AtEachClock drives_request_lines r
  pub hazard_lines : AtEachClock drives_hazards r
  pub snoop_results : AtEachClock has_snoop_result r
  pub responses_and_data : AtEachClock drives_responses r
  pub completions : AtEachClock logs_completions r
  pub bus_lock : AtEachClock drives_lock r
  pub parity : AtEachClock drives_parity r

-- the eight parts at one clock of the run
pub record IsTimelyAt (r : Run) (c : ℕ) : Type 0 where
  pub request_starts : IsTrue (holds_at starts_requests r c)
  pub request_lines : IsTrue (holds_at drives_request_lines r c)
  pub hazard_lines : IsTrue (holds_at drives_hazards r c)
  pub snoop_results : IsTrue (holds_at has_snoop_result r c)
  pub responses_and_data : IsTrue (holds_at drives_responses r c)
  pub completions : IsTrue (holds_at logs_completions r c)
  pub bus_lock : IsTrue (holds_at drives_lock r c)
  pub parity : IsTrue (holds_at drives_parity r c)
