use Rattle.fsb_bench_run.proofs.NextRun.{grows-to, next-run, whole-run}
use Rattle.fsb_bench_run.proofs.frame.clocks_add_to_runs.Goals as goal

pub returns-clause-next : goal.returns-clause-next
returns-clause-next c = next-run

pub returns-clause-whole : goal.returns-clause-whole
returns-clause-whole c = whole-run

pub returns-clause-grows : goal.returns-clause-grows
returns-clause-grows c = grows-to
