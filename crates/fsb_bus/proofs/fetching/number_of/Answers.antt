use Rattle.std.proofs.Common.{arith}
use Rattle.fsb_bus.proofs.EightBytes.{spelled}
use Rattle.fsb_bus.proofs.fetching.number_of.Goals as goal

pub returns-in-len8 : goal.returns-in-len8
returns-in-len8 c =
    rw (c.half_of.ensures.value, c.half_of-in-len8.ensures.value)
    (spelled c.args.bytes.now (omega (arith, c.in-len8.len_at_least, c.in-len8.len_below)))
