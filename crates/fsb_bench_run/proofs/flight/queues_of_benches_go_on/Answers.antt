use Rattle.fsb_bench_view.specs.BenchSteps.{step_entries}
use Rattle.fsb_bench_run.proofs.AskedNow.{shows-now}
use Rattle.fsb_bench_run.proofs.DeferralsNow.{deferrals-now}
use Rattle.fsb_bench_run.proofs.EntriesNext.{entries-next}
use Rattle.fsb_bench_run.proofs.NextRun.{grows-to}
use Rattle.fsb_bench_run.proofs.QueueNext.{flight-next, queue-next}
use Rattle.fsb_bench_run.proofs.SampleSpaced.{may-sample}
use Rattle.fsb_bench_run.proofs.StepEntries.{step-with}
use Rattle.fsb_bench_run.proofs.flight.queues_of_benches_go_on.Goals as goal

pub returns-clause-sample : goal.returns-clause-sample
returns-clause-sample c = may-sample

pub returns-clause-requests : goal.returns-clause-requests
returns-clause-requests c = λ v hold choice b.
    let entries = step_entries v hold in
    let grows = grows-to v hold choice b in
    let k = step-with v hold choice b in
    queue-next v hold choice b (deferrals-now v hold choice entries b grows (shows-now v hold choice entries k))
    (may-sample v hold b) grows

pub returns-clause-flight : goal.returns-clause-flight
returns-clause-flight c = λ v hold choice b.
    let entries = step_entries v hold in
    let grows = grows-to v hold choice b in
    let k = step-with v hold choice b in
    flight-next v hold choice b
    (deferrals-now v hold choice entries b grows (shows-now v hold choice entries k)) (may-sample v hold b) grows

pub returns-clause-begun : goal.returns-clause-begun
returns-clause-begun c = entries-next
