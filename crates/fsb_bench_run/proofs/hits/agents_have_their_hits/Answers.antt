use Rattle.fsb_bench_run.proofs.FirstEntries.{bench-hits}
use Rattle.fsb_bench_run.proofs.hits.agents_have_their_hits.Goals as goal

pub returns : goal.returns
returns c = bench-hits
