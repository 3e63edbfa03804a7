-- A bench without its objects, and what each call of it needs and keeps.
use Rattle.std.specs.Prelude.{◌≡◌, ◌≤◌, ℕ, true, length, vec_capacity}
use Rattle.fsb_memory.specs.Controller.{is_mapped}
use Rattle.fsb_script.specs.View.{plan_view}
use Rattle.fsb_phase.specs.declared.drive.Drive.{Drive}
use Rattle.fsb_bench_view.specs.BusViews.{BenchView, BusView}
use Rattle.fsb_bench_view.specs.BytesFetched.{bus_fetched, bytes_source}
use Rattle.fsb_bus.specs.Buses.{StandsFor, bus_view}
use Rattle.fsb_bench_view.specs.FirstBench.{is_named_line}
use Rattle.fsb_bus.specs.LogRoom.{HasLogRoom}
use Rattle.fsb_core.specs.declared.bare.BareBench.{BareBench}

-- the bench as a record
abbrev pub bare_view : BareBench → BenchView
bare_view m = record {
  bus = bus_view m.bus;
  run = record {
    plan = plan_view m.plan;
    choices = m.choices.items;
    holds = m.holds.items;
    trace = m.trace.items;
    log = m.log.entries;
  };
}

-- the bus with the bytes that move, where this is driven
abbrev pub fetched_by : BusView → Drive → BusView
fetched_by bus drive = bus_fetched bus (bytes_source bus drive)

-- its parts fit together: the arbiter and the phases stand for the trace, there are four agents and
-- a choice for each request, memory has each line that the scripts name, and there is room for all
-- that the plan's clocks can bring
pub record IsFit (m : BareBench) : Type 0 where
  pub stands : StandsFor m.bus m.trace.items
  pub agents : length m.bus.agents.items ≡ 4
  pub started : length m.bus.started.items ≡ length m.choices.items
  pub named : (line : ℕ) → is_named_line m.plan.scripts line ≡ true
      → is_mapped m.bus.memory line ≡ true
  pub clocks : length m.trace.items ≤ m.plan.clocks
  pub holds : length m.holds.items ≡ length m.trace.items
  pub choices : length m.choices.items ≤ length m.trace.items
  pub log_room : HasLogRoom m.bus.agents.items m.log
  pub trace_room : m.plan.clocks ≤ vec_capacity m.trace
  pub choice_room : m.plan.clocks ≤ vec_capacity m.choices
  pub hold_room : m.plan.clocks ≤ vec_capacity m.holds
  pub start_room : m.plan.clocks ≤ vec_capacity m.bus.started
