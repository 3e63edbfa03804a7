use Rattle.fsb_bench_values.proofs.FirstBytes.{first-bytes, first-carried}
use Rattle.fsb_bench_values.proofs.first.first_benches_have_their_bytes.Goals as goal

pub returns-clause-bytes : goal.returns-clause-bytes
returns-clause-bytes c = first-bytes

pub returns-clause-carried : goal.returns-clause-carried
returns-clause-carried c = first-carried
