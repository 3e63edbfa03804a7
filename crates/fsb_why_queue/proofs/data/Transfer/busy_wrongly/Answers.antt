use Rattle.std.proofs.Common.{sym}
use Rattle.fsb_why_queue.proofs.Busy.{missing, over}
use Rattle.fsb_why_queue.proofs.data.Transfer.busy_wrongly.Goals as goal

pub returns-then-chunks-lt4 : goal.returns-then-chunks-lt4
returns-then-chunks-lt4 c = λ m v k e g.
    missing m v k c.chunks_with-chunks.result c.args.sample.now c.args.last c.args.self.now c.missing.result c.has-busy.result
    e g c.chunks_with-chunks.ensures c.if-chunks-lt4.true (sym c.has-busy.ensures) c.missing.ensures

pub returns-else-chunks-lt4 : goal.returns-else-chunks-lt4
returns-else-chunks-lt4 c = λ m v k e g.
    over m v k c.chunks_with-chunks.result c.args.sample.now c.args.last c.args.self.now c.over.result c.has-busy.result
    e g c.chunks_with-chunks.ensures c.if-chunks-lt4.false (sym c.has-busy.ensures) c.over.ensures
