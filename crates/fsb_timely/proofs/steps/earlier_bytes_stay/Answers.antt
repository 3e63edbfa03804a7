use Rattle.fsb_timely.proofs.MemoryStays.{memory_below-same}
use Rattle.fsb_timely.proofs.steps.earlier_bytes_stay.Goals as goal

pub returns : goal.returns
returns c = memory_below-same
