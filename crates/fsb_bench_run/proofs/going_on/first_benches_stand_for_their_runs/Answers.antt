use Rattle.fsb_bench_run.proofs.FirstStands.{first-stands, plan-keeps}
use Rattle.fsb_bench_run.proofs.going_on.first_benches_stand_for_their_runs.Goals as goal

pub returns-clause-plans : goal.returns-clause-plans
returns-clause-plans c = plan-keeps

pub returns-clause-first : goal.returns-clause-first
returns-clause-first c = first-stands
