use Rattle.fsb_bench_run.proofs.ServedNext.{served-next}
use Rattle.fsb_bench_run.proofs.bridge.served_requests_of_benches_go_on.Goals as goal

pub returns : goal.returns
returns c = served-next
