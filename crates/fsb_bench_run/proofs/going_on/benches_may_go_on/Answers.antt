use Rattle.fsb_hazard.specs.Choice.{quiet_choice}
use Rattle.fsb_bench_run.proofs.MayGo.{may-go}
use Rattle.fsb_bench_run.proofs.going_on.benches_may_go_on.Goals as goal

pub returns : goal.returns
returns c v hold b = may-go v hold quiet_choice b
