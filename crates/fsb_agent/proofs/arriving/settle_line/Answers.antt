use Rattle.fsb_agent.proofs.Settled.{only-held}
use Rattle.fsb_agent.proofs.SoundWinning.{room_only}
use Rattle.fsb_agent.proofs.arriving.settle_line.Goals as goal

pub fill-requires-clause-room : goal.fill-requires-clause-room
fill-requires-clause-room c = room_only c.args.cache.now c.args.line
    (only-held c.args.cache.now c.args.line c.requires.held)
