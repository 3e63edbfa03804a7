use Rattle.fsb_bench_run.proofs.BridgeNext.{bridge-next}
use Rattle.fsb_bench_run.proofs.bridge.deferrals_of_benches_go_on.Goals as goal

pub returns : goal.returns
returns c = bridge-next
