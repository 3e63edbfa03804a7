use Rattle.fsb_why.proofs.Next.{shows-next}
use Rattle.fsb_why.proofs.look.Look.next.Goals as goal

pub returns : goal.returns
returns c = λ m h s won.
    shows-next c.args.self.now c.args.sample.now c.args.winner _ _ m h s won c.last_after.ensures c.request_after.ensures
