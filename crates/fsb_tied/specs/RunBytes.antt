-- The bytes of a line in a run whose log is served and follows its scripts, clock by clock.
use Rattle.std.specs.Prelude.{ℕ, ◌&&◌, Bool, not, nat_eq, List, Option, Some, None}
use Rattle.std.specs.List.{filter}
use Rattle.std.specs.Option.{option_and_then}
use Rattle.fsb_count.specs.Clocks.{last_where}
use Rattle.fsb_count.specs.Options.{is_before, is_some_and}
use Rattle.fsb_access.specs.ByteMemory.{start_memory}
use Rattle.fsb_access.specs.declared.log.Done.{Done}
use Rattle.fsb_access.specs.Replay.{Served}
use Rattle.fsb_access.specs.ScriptOrder.{InOrder}
use Rattle.fsb_line.specs.Line.{MemoryLine, unheld}
use Rattle.fsb_line.specs.LineRuns.{run}
use Rattle.fsb_trace.specs.Outcome.{does_take, response_clock_of}
use Rattle.fsb_trace.specs.Requests.{live_count}
use Rattle.fsb_trace.specs.Response.{end_of}
use Rattle.fsb_timely.specs.Carried.{memory_below}
use Rattle.fsb_timely.specs.Kept.{line_bytes}
use Rattle.fsb_timely.specs.Moments.{live_claim_of}
use Rattle.fsb_timely.specs.Past.{Past}
use Rattle.fsb_timely.specs.Runs.{Run, past_of}
use Rattle.fsb_timely.specs.Scripts.{is_load}
use Rattle.fsb_timely.specs.Timely.{Timely}
use Rattle.fsb_timely.specs.Transfers.{settled_of}
use Rattle.fsb_coherent.specs.LineEvents.{events_below}
use Rattle.fsb_lawful.specs.Beginning.{KeepsBounds}

-- the stores among entries
abbrev pub stores_of : List Done → List Done
stores_of entries = filter (λ done. not (is_load done.access)) entries

-- the run is timely, its plan keeps the bounds, its log is served, and follows the scripts
pub record HasValues (r : Run) : Type 0 where
  pub timely : Timely r
  pub bounds : KeepsBounds r.plan
  pub served : Served r.plan.mem r.log
  pub in_order : InOrder r.plan.scripts r.log

-- the line of the machine before the first clock: that of the plan's memory
abbrev pub line_of_plan : Run → ℕ → MemoryLine
line_of_plan r line = unheld (line_bytes (start_memory r.plan.mem) line)

-- the line of the machine after the events below n, which begins with the plan's bytes
abbrev pub machine_line : Run → ℕ → ℕ → MemoryLine
machine_line r line n = run (line_of_plan r line) (events_below (past_of r) line n)

-- the bytes of the line in the one byte memory below n
abbrev pub bytes_below : Run → ℕ → ℕ → List ℕ
bytes_below r line n = line_bytes (memory_below r n) line

-- live request i is for the line, its settled outcome is Handed or Written, and its end is below n
unfoldable pub is_put_below : Run → Past → ℕ → ℕ → ℕ → Bool
is_put_below r p line n i =
    is_some_and (live_claim_of r.trace i) (λ claim. nat_eq claim.line line)
    && is_some_and (settled_of r p i) does_take
    && is_before (end_of r.trace i) n

-- the last live request that put the line into memory below n
unfoldable pub number_put_below : Run → ℕ → ℕ → Option ℕ
number_put_below r line n = last_where (is_put_below r (past_of r) line n) (live_count r.trace)

-- its response clock
unfoldable pub put_clock_below : Run → ℕ → ℕ → Option ℕ
put_clock_below r line n = option_and_then (response_clock_of r.trace) (number_put_below r line n)

-- the bytes that memory has of the line at n: those of the one byte memory below the response of the last request that put
-- it there, or those of the plan
unfoldable pub bytes_put_below : Run → ℕ → ℕ → List ℕ
bytes_put_below r line n =
    elim (put_clock_below r line n) [
      | Some response ↦ line_bytes (memory_below r response) line
      | None ↦ line_bytes (start_memory r.plan.mem) line
    ]
