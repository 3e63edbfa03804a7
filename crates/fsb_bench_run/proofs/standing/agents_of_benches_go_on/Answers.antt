use Rattle.fsb_bench_run.proofs.AgentsNext.{agents-next}
use Rattle.fsb_bench_run.proofs.standing.agents_of_benches_go_on.Goals as goal

pub returns : goal.returns
returns c = agents-next
