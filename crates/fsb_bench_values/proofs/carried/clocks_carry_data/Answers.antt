use Rattle.fsb_bench_values.proofs.CarriedNow.{carried-next}
use Rattle.fsb_bench_values.proofs.carried.clocks_carry_data.Goals as goal

pub returns : goal.returns
returns c = carried-next
