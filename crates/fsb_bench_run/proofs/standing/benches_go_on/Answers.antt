use Rattle.fsb_bench_run.proofs.StandsNext.{bench-goes-on}
use Rattle.fsb_bench_run.proofs.standing.benches_go_on.Goals as goal

pub returns : goal.returns
returns c = bench-goes-on
