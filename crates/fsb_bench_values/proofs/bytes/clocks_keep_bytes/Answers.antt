use Rattle.fsb_bench_values.proofs.BytesNext.{bytes-next}
use Rattle.fsb_bench_values.proofs.bytes.clocks_keep_bytes.Goals as goal

pub returns : goal.returns
returns c = bytes-next
