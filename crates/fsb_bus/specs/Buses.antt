-- What the parts of a bus stand for.
use Rattle.fsb_arbiter.specs.Arbiter as arbiters
use Rattle.fsb_memory.specs.Controller.{line_in}
use Rattle.fsb_phase.specs.Phases as phases
use Rattle.fsb_trace.specs.At.{Trace}
use Rattle.fsb_bench_view.specs.BusViews.{BusView}
use Rattle.fsb_bus.specs.declared.bus.Bus.{Bus}

-- the bus that has these parts
abbrev pub bus_view : Bus → BusView
bus_view bus = record {
  agents = bus.agents.items;
  queue = bus.queue;
  bridge = bus.bridge;
  served = bus.served.items;
  moved = bus.moved;
  memory = line_in bus.memory;
  latest = bus.latest;
  started = bus.started.items;
  kept = bus.lock.kept;
}

-- the arbiter and the phases stand for the trace
pub record StandsFor (bus : Bus) (h : Trace) : Type 0 where
  pub arbiter : arbiters.Stands bus.arbiter h
  pub phases : phases.Stands bus.phases h
