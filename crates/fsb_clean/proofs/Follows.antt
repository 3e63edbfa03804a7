-- What memory has of a line, as the transfers of a run show it.
use Rattle.std.specs.Prelude.{◌≡◌, ◌<◌, ◌+◌, ℕ, Bool, true, false, List, Option, Some, length}
use Rattle.std.specs.Option.{option_map, option_and_then}
use Rattle.fsb_count.specs.Options.{is_some_and}
use Rattle.fsb_trace.specs.At.{Trace}
use Rattle.fsb_trace.specs.Outcome.{does_take, outcome_of, response_clock_of}
use Rattle.fsb_trace.specs.Requests.{live_request_of}
use Rattle.fsb_trace.specs.Response.{end_of}
use Rattle.fsb_timely.specs.Carried.{memory_below}
use Rattle.fsb_timely.specs.Kept.{line_bytes}
use Rattle.fsb_timely.specs.Runs.{Run}
use Rattle.fsb_audit.specs.MovedChunks.{does_come_from_memory, namer_of}

-- the line of live request i: its own, and for a reply that of the request that it answers
unfoldable pub line_moved_by : Trace → ℕ → Option ℕ
line_moved_by w i = option_map (λ request. request.line) (option_and_then (live_request_of w) (namer_of w i))

-- the data of live request i come from memory
unfoldable pub gets_data : Trace → ℕ → Bool
gets_data w i = is_some_and (outcome_of w i) does_come_from_memory

-- the data of live request i go into memory
unfoldable pub puts_data : Trace → ℕ → Bool
puts_data w i = is_some_and (outcome_of w i) does_take

-- memory has at each clock these bytes of each line: what comes from it, at its response, is what the replay has there;
-- what goes into it is there one clock after the end; and it has what it had where nothing of the line is put there
pub record MemoryFollows (r : Run) (memory : ℕ → ℕ → List ℕ) : Type 0 where
  pub got : (line i t : ℕ) → line_moved_by r.trace i ≡ Some line → gets_data r.trace i ≡ true
      → response_clock_of r.trace i ≡ Some t → memory line t ≡ line_bytes (memory_below r t) line
  pub put : (line i t e : ℕ) → line_moved_by r.trace i ≡ Some line → puts_data r.trace i ≡ true
      → response_clock_of r.trace i ≡ Some t → end_of r.trace i ≡ Some e
      → memory line (e + 1) ≡ line_bytes (memory_below r t) line
  pub kept : (line n : ℕ) → n < length r.trace
      → ((i : ℕ) → end_of r.trace i ≡ Some n → line_moved_by r.trace i ≡ Some line → puts_data r.trace i ≡ false)
      → memory line (n + 1) ≡ memory line n
