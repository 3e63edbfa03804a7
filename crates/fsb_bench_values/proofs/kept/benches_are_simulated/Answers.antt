use Rattle.fsb_bench_values.proofs.BenchSimulated.{bench-simulated}
use Rattle.fsb_bench_values.proofs.kept.benches_are_simulated.Goals as goal

pub returns : goal.returns
returns c = bench-simulated
