use Rattle.fsb_bench_run.proofs.KeptNext.{kept-next}
use Rattle.fsb_bench_run.proofs.LogsNow.{timely-now}
use Rattle.fsb_bench_run.proofs.standing.locks_of_benches_go_on.Goals as goal

pub returns : goal.returns
returns c v hold choice b = kept-next v hold choice b (timely-now v hold choice b)
