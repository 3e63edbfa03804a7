-- The run of a bench whose data are carried is a simulation.
use Rattle.fsb_bench_values.proofs.Words
use Words.{Carried, BenchView, IsBenchOf, HasBytesOf}
use Rattle.fsb_timely.specs.Simulated.{Simulated}
use Rattle.fsb_bench_values.proofs.LogsInOrder.{log-in-order}

pub bench-simulated : (v : BenchView) → IsBenchOf v → HasBytesOf v → Carried v.run → Simulated v.run
bench-simulated v b h carried = record {
  timely = b.timely;
  carried = carried;
  in_order = log-in-order v.run b.timely;
  served = h.served;
}
