-- What the hits of a clock leave as it is on the bus.
use Rattle.fsb_bench_run.proofs.Words
use Words.{◌≡◌, arith, BenchView, BusView, step_performed}

-- a bus has the same as another one beside its agents and its bytes
pub record IsSameBus (bus other : BusView) : Type 0 where
  pub queue : bus.queue ≡ other.queue
  pub bridge : bus.bridge ≡ other.bridge
  pub served : bus.served ≡ other.served
  pub latest : bus.latest ≡ other.latest
  pub started : bus.started ≡ other.started
  pub kept : bus.kept ≡ other.kept

pub same-performed : (v : BenchView) → IsSameBus (step_performed v) v.bus
same-performed v = grind arith
