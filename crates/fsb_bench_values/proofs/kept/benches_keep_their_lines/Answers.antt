use Rattle.fsb_bench_values.proofs.LinesKept.{lines-kept}
use Rattle.fsb_bench_values.proofs.kept.benches_keep_their_lines.Goals as goal

pub returns : goal.returns
returns c = lines-kept
