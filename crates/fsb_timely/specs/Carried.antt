-- Carried: which bytes the data are.
use Rattle.std.specs.Prelude.{Bool, Option, false, nat_eq, nat_lt, slice_index, true, ℕ, ◌+◌, ◌*◌}
use Rattle.std.specs.List.{filter}
use Rattle.std.specs.Option.{option_and_then}
use Rattle.fsb_count.specs.Clocks.{each_where}
use Rattle.fsb_count.specs.Options.{is_at, is_some_and}
use Rattle.fsb_signal.specs.Samples.{data_at}
use Rattle.fsb_encode.specs.declared.request.Request.{Request}
use Rattle.fsb_encode.specs.Burst.{burst_order}
use Rattle.fsb_access.specs.ByteMemory.{ByteMemory, value_at}
use Rattle.fsb_access.specs.Replay.{replay, start_of}
use Rattle.fsb_trace.specs.Outcome.{response_clock_of}
use Rattle.fsb_trace.specs.Requests.{live_count, live_request_of}
use Rattle.fsb_trace.specs.Response.{data_clock_of}
use Rattle.fsb_timely.specs.Past.{Past}
use Rattle.fsb_timely.specs.Moments.{served_number, turns_in}
use Rattle.fsb_timely.specs.Runs.{Run}
use Rattle.fsb_timely.specs.Timely.{AtEachClock}

-- the bytes after the entries below clock n are served one after the other on the plan's memory
unfoldable pub memory_below : Run → ℕ → ByteMemory
memory_below r n = (replay (start_of r.plan.mem) (filter (λ done. nat_lt done.clock n) r.log)).memory

-- the eight bytes of a chunk of a line, as a number
unfoldable pub chunk_value : ByteMemory → ℕ → ℕ → ℕ
chunk_value memory line chunk = value_at memory (line * 32 + chunk * 8) 8

-- the n-th chunk, from 0, of the data of this request with this response clock: a chunk of its line, in burst order from
-- its own one, as it stands in the replay of the entries below the response
unfoldable pub carried_value : Run → ℕ → ℕ → Request → ℕ
carried_value r n response request =
    chunk_value (memory_below r response) request.line (slice_index (burst_order request.chunk) n)

-- the request whose line and chunk live request i has: its own ones, and for a reply those of the request that it answers
unfoldable pub served_request : Run → Past → ℕ → Option Request
served_request r p i = option_and_then (live_request_of r.trace) (served_number r.trace (turns_in p.moments) i)

-- D# at c is the n-th chunk of live request i, whose response clock is known
unfoldable pub carries_from : Run → Past → ℕ → ℕ → ℕ → ℕ → Bool
carries_from r p c i n response =
    is_some_and (served_request r p i) (λ request. nat_eq (data_at r.trace c).bits (carried_value r n response request))

-- D# at c is the n-th chunk of live request i
unfoldable pub carries_chunk : Run → Past → ℕ → ℕ → ℕ → Bool
carries_chunk r p c i n = is_some_and (response_clock_of r.trace i) (carries_from r p c i n)

-- where c is the n-th data clock of live request i, D# carries its n-th chunk
unfoldable pub carries_if_due : Run → Past → ℕ → ℕ → ℕ → Bool
carries_if_due r p c i n = elim (is_at (data_clock_of r.trace i n) c) [ true ↦ carries_chunk r p c i n | false ↦ true ]

-- Data: at each data clock D# carries the chunk that is due.
unfoldable pub carries_data : Run → Past → ℕ → Bool
carries_data r p c = each_where (λ i. each_where (carries_if_due r p c i) 4) (live_count r.trace)

-- Carried: at each data clock D# has the chunk that is due, as it stands in the replay of the log below the response
abbrev pub Carried : Run → Type 0
Carried r = AtEachClock carries_data r
