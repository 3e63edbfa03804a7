use Rattle.fsb_bench_view.specs.BenchSteps.{step_entries}
use Rattle.fsb_bench_run.proofs.AgentsNow.{agents-answer}
use Rattle.fsb_bench_run.proofs.AskedNow.{shows-now}
use Rattle.fsb_bench_run.proofs.DeferralsNow.{deferrals-now}
use Rattle.fsb_bench_run.proofs.HazardsDriven.{drives-hazards}
use Rattle.fsb_bench_run.proofs.NextRun.{grows-to}
use Rattle.fsb_bench_run.proofs.SnoopResult.{snoop-result}
use Rattle.fsb_bench_run.proofs.StepEntries.{step-with}
use Rattle.fsb_bench_run.proofs.snoops.snoops_are_driven.Goals as goal

pub returns-clause-hazards : goal.returns-clause-hazards
returns-clause-hazards c = λ v hold choice b.
    let entries = step_entries v hold in
    let grows = grows-to v hold choice b in
    let k = step-with v hold choice b in
    let told = deferrals-now v hold choice entries b grows (shows-now v hold choice entries k) in
    drives-hazards v hold choice entries b told grows

pub returns-clause-result : goal.returns-clause-result
returns-clause-result c = λ v hold choice b.
    let entries = step_entries v hold in
    let grows = grows-to v hold choice b in
    let k = step-with v hold choice b in
    let told = deferrals-now v hold choice entries b grows (shows-now v hold choice entries k) in
    snoop-result v hold choice entries b told (agents-answer v hold choice entries k) grows
