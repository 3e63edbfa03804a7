-- Kept: what caches and memory have at the end of a run.
use Rattle.std.specs.Prelude.{Bool, IsTrue, List, None, Option, Some, false, length, nat_eq, true, ℕ, ◌*◌, ◌&&◌, ◌≡◌, ◌<◌}
use Rattle.std.specs.List.{list_any}
use Rattle.std.specs.Option.{option_and_then}
use Rattle.fsb_count.specs.Clocks.{last_where}
use Rattle.fsb_count.specs.Options.{is_before, is_some_and}
use Rattle.fsb_access.specs.declared.item.Item.{Item}
use Rattle.fsb_access.specs.ByteMemory.{ByteMemory, bytes_at, start_memory}
use Rattle.fsb_access.specs.Replay.{replay, start_of}
use Rattle.fsb_line.specs.declared.state.Mesi.{Mesi}
use Rattle.fsb_line.specs.declared.state.Mesi.TheVariants.{Invalid}
use Rattle.fsb_trace.specs.Outcome.{does_take, response_clock_of}
use Rattle.fsb_trace.specs.Requests.{live_count}
use Rattle.fsb_trace.specs.Response.{end_of}
use Rattle.fsb_timely.specs.Past.{Past}
use Rattle.fsb_timely.specs.Grants.{holds_line, is_ready}
use Rattle.fsb_timely.specs.Scripts.{needs_of}
use Rattle.fsb_timely.specs.Hits.{line_state_of}
use Rattle.fsb_timely.specs.Moments.{live_claim_of}
use Rattle.fsb_timely.specs.Runs.{Run, past_of}
use Rattle.fsb_timely.specs.Transfers.{settled_of}
use Rattle.fsb_timely.specs.Carried.{memory_below}

-- the item names the line
unfoldable pub is_named_in : ℕ → Item → Bool
is_named_in line item = list_any (λ need. nat_eq need.line line) (needs_of item)

-- the line is one that the scripts name
unfoldable pub is_named : Run → ℕ → Bool
is_named r line = list_any (λ items. list_any (is_named_in line) items) r.plan.scripts

-- the 32 bytes of a line
unfoldable pub line_bytes : ByteMemory → ℕ → List ℕ
line_bytes memory line = bytes_at memory (line * 32) 32

-- the bytes of the line after the whole log is served
unfoldable pub bytes_now : Run → ℕ → List ℕ
bytes_now r line = line_bytes (replay (start_of r.plan.mem) r.log).memory line

-- live request i is for the line, its settled outcome is Handed or Written, and its end is below the end of the trace
unfoldable pub is_put : Run → Past → ℕ → ℕ → Bool
is_put r p line i =
    is_some_and (live_claim_of r.trace i) (λ claim. nat_eq claim.line line)
    && is_some_and (settled_of r p i) does_take
    && is_before (end_of r.trace i) (length r.trace)

-- the last live request that put the line into memory
unfoldable pub number_put : Run → ℕ → Option ℕ
number_put r line = last_where (is_put r (past_of r) line) (live_count r.trace)

-- the response clock of the last live request that put the line into memory
unfoldable pub put_clock : Run → ℕ → Option ℕ
put_clock r line = option_and_then (response_clock_of r.trace) (number_put r line)

-- the bytes that memory has of the line: those of the replay below the response of the last request that put it there,
-- or those of the plan
unfoldable pub bytes_put : Run → ℕ → List ℕ
bytes_put r line =
    elim (put_clock r line) [
      | Some response ↦ line_bytes (memory_below r response) line
      | None ↦ line_bytes (start_memory r.plan.mem) line
    ]

-- the caches (of an agent and a line: its state and its bytes) and the memory (of a line: its bytes) are those of the run,
-- for each agent and each line that the scripts name: a line that is not held is Invalid; one that is held and ready has
-- its state and the bytes that the log gives it; and memory has the bytes that were put into it last
pub record Kept (r : Run) (state : ℕ → ℕ → Mesi) (bytes : ℕ → ℕ → List ℕ) (memory : ℕ → List ℕ) : Type 0 where
  pub invalid : (a line : ℕ) → a < length r.plan.scripts → IsTrue (is_named r line)
      → holds_line (past_of r) a line (length r.trace) ≡ false → state a line ≡ Invalid
  pub states : (a line : ℕ) → a < length r.plan.scripts → IsTrue (is_named r line)
      → holds_line (past_of r) a line (length r.trace) ≡ true → is_ready (past_of r) a line (length r.trace) ≡ true
      → state a line ≡ line_state_of (past_of r) a line (length r.trace)
  pub copies : (a line : ℕ) → a < length r.plan.scripts → IsTrue (is_named r line)
      → holds_line (past_of r) a line (length r.trace) ≡ true → is_ready (past_of r) a line (length r.trace) ≡ true
      → bytes a line ≡ bytes_now r line
  pub put : (line : ℕ) → IsTrue (is_named r line) → memory line ≡ bytes_put r line
