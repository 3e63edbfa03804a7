-- The transfers of a trace: at which clocks data come, of which chunk of memory, and whether they come from memory.
-- A chunk is eight bytes; its number is its address divided by 8.
use Rattle.std.specs.Prelude.{ℕ, ◌+◌, ◌*◌, Bool, true, false, ◌&&◌, is_some, if◌then◌else◌, Option, Some, length, slice_index}
use Rattle.std.specs.Option.{option_map, option_and_then}
use Rattle.fsb_count.specs.Options.{is_some_and, is_at}
use Rattle.fsb_count.specs.Clocks.{first_where, count_where}
use Rattle.fsb_encode.specs.declared.request.Request.{Request}
use Rattle.fsb_encode.specs.Burst.{burst_order}
use Rattle.fsb_trace.specs.declared.outcome.Outcome.{Outcome}
use Rattle.fsb_trace.specs.declared.outcome.Outcome.TheVariants.{Granted, Handed, Retried, Deferred, Written, Replied, Failed, Upgraded}
use Rattle.fsb_trace.specs.At.{Trace}
use Rattle.fsb_trace.specs.Requests.{live_count, live_request_of, is_reply}
use Rattle.fsb_trace.specs.Outcome.{outcome_of, is_deferred}
use Rattle.fsb_trace.specs.Response.{data_clock_of}
use Rattle.fsb_trace.specs.Flight.{reply_number_of}

-- which of the four data clocks of live request i is c
unfoldable pub data_place_at : Trace → ℕ → ℕ → Option ℕ
data_place_at w c i = first_where (λ n. is_at (data_clock_of w i n) c) 4

-- the live request whose data come at c
unfoldable pub mover_at : Trace → ℕ → Option ℕ
mover_at w c = first_where (λ i. is_some (data_place_at w c i)) (live_count w)

-- live request i is Deferred, and live request j is the reply to it
unfoldable pub is_named_by_reply : Trace → ℕ → ℕ → Bool
is_named_by_reply w j i = is_deferred w i && is_at (reply_number_of w i) j

-- the live request that names the line and the chunk of live request j: itself, and for a reply the one that it answers
unfoldable pub namer_of : Trace → ℕ → Option ℕ
namer_of w j =
    if is_reply (live_request_of w j) then first_where (is_named_by_reply w j) (live_count w) else Some j

-- the number of the chunk that comes n-th where the request's line comes in burst order from its own chunk
unfoldable pub nth_chunk : ℕ → Request → ℕ
nth_chunk n request = 4 * request.line + slice_index (burst_order request.chunk) n

-- the number of the chunk that comes n-th of the data of live request j
unfoldable pub chunk_moved_by : Trace → ℕ → ℕ → Option ℕ
chunk_moved_by w j n = option_map (nth_chunk n) (option_and_then (live_request_of w) (namer_of w j))

-- the number of the chunk that comes at c, of the data of live request j
unfoldable pub chunk_moved_at : Trace → ℕ → ℕ → Option ℕ
chunk_moved_at w c j = option_and_then (chunk_moved_by w j) (data_place_at w c j)

-- the number of the chunk that is moved at c; none where no data come
unfoldable pub moved_at : Trace → ℕ → Option ℕ
moved_at w c = option_and_then (chunk_moved_at w c) (mover_at w c)

-- how many chunks are moved
unfoldable pub moved_count : Trace → ℕ
moved_count w = count_where (λ c. is_some (moved_at w c)) (length w)

-- data with this outcome come from memory; with Handed and Written they go into it
unfoldable pub does_come_from_memory : Outcome → Bool
does_come_from_memory Granted = true
does_come_from_memory Handed = false
does_come_from_memory Retried = false
does_come_from_memory Deferred = false
does_come_from_memory Written = false
does_come_from_memory Replied = true
does_come_from_memory Failed = false
does_come_from_memory Upgraded = false

-- the data that come at c come from memory
unfoldable pub is_from_memory : Trace → ℕ → Bool
is_from_memory w c = is_some_and (option_and_then (outcome_of w) (mover_at w c)) does_come_from_memory
