use Rattle.fsb_bench_view.specs.BenchSteps.{step_entries}
use Rattle.fsb_bench_run.proofs.LatestNext.{latest-next}
use Rattle.fsb_bench_run.proofs.StartedNext.{started-next}
use Rattle.fsb_bench_run.proofs.StartingNow.{starting-begins}
use Rattle.fsb_bench_run.proofs.StepEntries.{step-with}
use Rattle.fsb_bench_run.proofs.standing.beginnings_are_of_the_run.Goals as goal

pub returns-clause-begun : goal.returns-clause-begun
returns-clause-begun c v hold choice starting b e =
    starting-begins v hold choice (step_entries v hold) starting (step-with v hold choice b) e

pub returns-clause-latest : goal.returns-clause-latest
returns-clause-latest c = latest-next

pub returns-clause-started : goal.returns-clause-started
returns-clause-started c = started-next
