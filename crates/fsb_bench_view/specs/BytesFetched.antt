-- The bytes that move with a response: where they come from, and the bus that has them.
use Rattle.std.specs.Prelude.{ℕ, ◌==◌, ◌*◌, if◌then◌else◌, List, drop, take, Option, Some, None, slice_get, slice_index}
use Rattle.std.specs.Option.{option_and_then, option_map_or}
use Rattle.fsb_access.specs.ByteMemory.{value_of_bytes}
use Rattle.fsb_agent_view.specs.AgentEvents.{HandedOn}
use Rattle.fsb_encode.specs.Burst.{burst_order}
use Rattle.fsb_phase.specs.declared.drive.Drive.{Drive}
use Rattle.fsb_trace.specs.declared.outcome.Outcome.{Outcome}
use Rattle.fsb_trace.specs.declared.outcome.Outcome.TheVariants.{Granted, Handed, Retried, Deferred, Written, Replied, Failed, Upgraded}
use Rattle.fsb_bench_view.specs.declared.decided.BytesFrom.{BytesFrom}
use Rattle.fsb_bench_view.specs.declared.decided.BytesFrom.TheVariants.{Memory, Agents}
use Rattle.fsb_bench_view.specs.declared.snoop.Served.{Served}
use Rattle.fsb_bench_view.specs.BusViews.{BusView}
use Rattle.fsb_bench_view.specs.ToldAgents.{agents_told, bytes_owed, for_all}

-- the settled outcome of the oldest request in flight
abbrev pub head_outcome : BusView → Option Outcome
head_outcome bus = option_and_then (λ entry. entry.outcome) (slice_get bus.queue 0)

-- where the bytes come from that move with this outcome, for a request that serves this one
abbrev pub from_for : Served → Outcome → Option BytesFrom
from_for served Granted = Some (Memory served.request.line)
from_for served Handed = Some (Agents served.first)
from_for served Retried = None
from_for served Deferred = None
from_for served Written = Some (Agents served.first)
from_for served Replied = Some (Memory served.request.line)
from_for served Failed = None
from_for served Upgraded = None

-- where the bytes come from that move from this clock on, if it is a response with data
abbrev pub bytes_source : BusView → Drive → Option BytesFrom
bytes_source bus drive =
    if drive.rs == 0 then None
    else option_and_then (λ served. option_and_then (from_for served) (head_outcome bus)) (slice_get bus.served 0)

-- the bus with the bytes that come from there
abbrev pub bus_fetched : BusView → Option BytesFrom → BusView
bus_fetched bus None = bus
bus_fetched bus (Some (Memory line)) = record bus { moved = bus.memory line }
bus_fetched bus (Some (Agents number)) = record bus {
  agents = agents_told (for_all (HandedOn number)) 0 bus.agents;
  moved = option_map_or (λ bytes. bytes) (bytes_owed number bus.agents) bus.moved;
}

-- a chunk of a line's bytes, as a number
abbrev pub chunk_in : List ℕ → ℕ → ℕ
chunk_in bytes chunk = value_of_bytes (take 8 (drop (8 * chunk) bytes))

-- the chunk of the bytes that has this place in the burst order of the request that is served
abbrev pub chunk_moved : List ℕ → ℕ → Served → ℕ
chunk_moved bytes n served = chunk_in bytes (slice_index (burst_order served.request.chunk) n)

-- what D# has at the clock: the chunk that is due, or nothing
abbrev pub data_driven : BusView → Drive → ℕ
data_driven bus drive =
    option_map_or (λ chunk. option_map_or (chunk_moved bus.moved chunk.1) (slice_get bus.served 0) 0) drive.chunk 0
