use Rattle.fsb_bench_run.proofs.LogsNow.{logs-now}
use Rattle.fsb_bench_run.proofs.frame.completions_are_logged.Goals as goal

pub returns : goal.returns
returns c = logs-now
