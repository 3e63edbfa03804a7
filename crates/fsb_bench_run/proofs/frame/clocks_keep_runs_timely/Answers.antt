use Rattle.fsb_bench_run.proofs.LogsNow.{timely-now}
use Rattle.fsb_bench_run.proofs.frame.clocks_keep_runs_timely.Goals as goal

pub returns : goal.returns
returns c = timely-now
