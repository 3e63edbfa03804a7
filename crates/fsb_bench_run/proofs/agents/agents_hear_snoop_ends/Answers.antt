use Rattle.fsb_bench_view.specs.BenchSteps.{step_entries}
use Rattle.fsb_bench_run.proofs.BegunEvents.{views-cancelled}
use Rattle.fsb_bench_run.proofs.LogsNow.{reaches-step}
use Rattle.fsb_bench_run.proofs.SnoopViews.{snoop-begun, views-answered}
use Rattle.fsb_bench_run.proofs.StepEntries.{step-with}
use Rattle.fsb_bench_run.proofs.agents.agents_hear_snoop_ends.Goals as goal

pub returns-clause-before : goal.returns-clause-before
returns-clause-before c v hold choice a w b at =
    let k = step-with v hold choice b in
    views-cancelled v hold choice (step_entries v hold) k (reaches-step v hold choice b) a w at

pub returns-clause-after : goal.returns-clause-after
returns-clause-after c v hold choice a w b at =
    let k = step-with v hold choice b in
    views-answered v hold choice (step_entries v hold) k (reaches-step v hold choice b) a w at

pub returns-clause-served : goal.returns-clause-served
returns-clause-served c v hold choice snooped b e =
    let k = step-with v hold choice b in
    snoop-begun v hold choice (step_entries v hold) snooped k (reaches-step v hold choice b) e
