use Rattle.std.proofs.Common.{◌+◌, ◌-◌, ◌%◌, ◌<◌, length, arith}
use Rattle.fsb_access.proofs.Chunks.{value_at-chunk, state_of-loaded}
use Rattle.fsb_access.proofs.flat.Flat.load.Goals as goal

pub returns-clause-value : goal.returns-clause-value
returns-clause-value c =
    value_at-chunk c.args.self.now.chunks c.chunk-chunk.result c.args.addr c.args.size
    (c.args.addr % 8 + c.from.result - c.args.addr % 8) c.value_of-value.result
    c.chunk-chunk.ensures.bytes c.chunk-chunk.ensures.eight (omega (arith, c.from.ensures)) c.requires.place
    c.value_of-value.ensures.value

pub returns-clause-moves : goal.returns-clause-moves
returns-clause-moves c =
    let value = returns-clause-value c in
    let room : c.args.agent < length c.self.inside.last = omega arith in
    rw (← value, ← c.self.view_is)
    (state_of-loaded c.self.inside.chunks.entries c.self.inside.last c.args.agent c.from-2.result
    c.value_of-value.result c.from-2.ensures room)
