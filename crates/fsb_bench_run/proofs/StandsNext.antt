-- The bench after a clock stands for its longer run.
use Rattle.fsb_bench_run.proofs.Words
use Words.{Bool, Choice, bench_stepped, BenchView, IsBenchOf}
use Rattle.fsb_bench_run.proofs.AgentsNext.{agents-next}
use Rattle.fsb_bench_run.proofs.BenchNext.{bench-next}
use Rattle.fsb_bench_run.proofs.BridgeNext.{bridge-next}
use Rattle.fsb_bench_run.proofs.ServedNext.{served-next}

pub bench-goes-on : (v : BenchView) (hold : Bool) (choice : Choice) → IsBenchOf v
    → IsBenchOf (bench_stepped v hold choice)
bench-goes-on v hold choice b =
    bench-next v hold choice b (agents-next v hold choice b) (bridge-next v hold choice b) (served-next v hold choice b)
