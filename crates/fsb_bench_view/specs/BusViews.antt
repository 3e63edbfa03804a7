-- The bus and the bench as their contracts see them.
use Rattle.std.specs.Prelude.{ℕ, Bool, false, List, Option, length}
use Rattle.fsb_agent_view.specs.AgentViews.{AgentView}
use Rattle.fsb_bridge.specs.Deferrals.{Bridged}
use Rattle.fsb_encode.specs.declared.request.Kind.TheVariants.{Reply}
use Rattle.fsb_queue.specs.declared.entry.Entry.{Entry}
use Rattle.fsb_timely.specs.Runs.{Run}
use Rattle.fsb_bench_view.specs.declared.beginning.Latest.{Latest}
use Rattle.fsb_bench_view.specs.declared.beginning.Started.{Started}
use Rattle.fsb_bench_view.specs.declared.snoop.Served.{Served}

-- who is on the bus, and what moves on it
pub record BusView : Type 0 where
  -- the agents, by their numbers
  pub agents : List AgentView
  -- the requests in flight, from the oldest
  pub queue : List Entry
  -- the bridge's window and its deferrals
  pub bridge : Bridged
  -- of each request in flight that has its snoop end, in order, which one it serves
  pub served : List Served
  -- the 32 bytes that move since the last response with data
  pub moved : List ℕ
  -- the bytes of each line in memory
  pub memory : ℕ → List ℕ
  -- the request that began last
  pub latest : Option Latest
  -- all requests that have begun, by their numbers
  pub started : List Started
  -- of each agent, 0 to 3, whether it keeps the bus locked
  pub kept : List Bool

-- a bench: its bus, and the run so far. The arbiter and the phases keep nothing that the trace does not have
pub record BenchView : Type 0 where
  pub bus : BusView
  pub run : Run

-- the next clock of a bench
abbrev pub next_clock_of : BenchView → ℕ
next_clock_of v = length v.run.trace

-- one that stands where no request is served
abbrev pub no_served : Served
no_served = record { first = 0; agent = 0; request = record { kind = Reply; line = 0; chunk = 0; did = 0; den = false } }
