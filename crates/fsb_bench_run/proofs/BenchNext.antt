-- The bench after a clock stands for its longer run, where the agents, the bridge and what is served are those of that
-- run.
use Rattle.fsb_bench_run.proofs.Words
use Words.{Bool, Choice, bench_stepped, step_entries, step_queue, step_run, BenchView, HasAgentsOf, HasBridgeOf}
use Words.{HasServed, IsBenchOf}
use Rattle.fsb_bench_run.proofs.AskedNow.{shows-now}
use Rattle.fsb_bench_run.proofs.DeferralsNow.{deferrals-now}
use Rattle.fsb_bench_run.proofs.EntriesNext.{entries-next}
use Rattle.fsb_bench_run.proofs.KeptNext.{kept-next}
use Rattle.fsb_bench_run.proofs.LatestNext.{latest-next}
use Rattle.fsb_bench_run.proofs.LogsNow.{timely-now}
use Rattle.fsb_bench_run.proofs.NextRun.{grows-to}
use Rattle.fsb_bench_run.proofs.QueueNext.{flight-next, queue-next}
use Rattle.fsb_bench_run.proofs.SampleSpaced.{may-sample}
use Rattle.fsb_bench_run.proofs.StartedNext.{started-next}
use Rattle.fsb_bench_run.proofs.StepEntries.{step-with}

pub bench-next : (v : BenchView) (hold : Bool) (choice : Choice) → IsBenchOf v
    → HasAgentsOf (bench_stepped v hold choice).bus.agents (step_run v hold choice)
    → HasBridgeOf (bench_stepped v hold choice).bus.bridge (step_run v hold choice)
    → HasServed (bench_stepped v hold choice).bus.served (step_queue v hold choice) (step_run v hold choice)
    → IsBenchOf (bench_stepped v hold choice)
bench-next v hold choice b agents bridge served =
    let entries = step_entries v hold in
    let k = step-with v hold choice b in
    let grows = grows-to v hold choice b in
    let told = deferrals-now v hold choice entries b grows (shows-now v hold choice entries k) in
    let sample = may-sample v hold b in
    let timely = timely-now v hold choice b in
    record {
      timely = timely;
      bounds = b.bounds;
      agents = agents;
      flight = flight-next v hold choice b told sample grows;
      requests = queue-next v hold choice b told sample grows;
      entries = entries-next v hold choice b;
      bridge = bridge;
      latest = latest-next v hold choice b;
      started = started-next v hold choice b;
      served = served;
      kept = kept-next v hold choice b timely;
    }
