use Rattle.std.proofs.Common.{sym, subst}
use Rattle.fsb_why.specs.Explains.{Explains}
use Rattle.fsb_why_queue.proofs.Readiness.{both_told}
use Rattle.fsb_why_queue.proofs.next.Next.wrongly_ready.Goals as goal

pub returns : goal.returns
returns c = λ m v n e f.
    subst (Explains m v c.args.clock 15) (sym c.first_of.ensures)
    (both_told m v c.args.clock c.args.self.now.request.number c.by_ready.result c.by_response.result n.number
    (c.by_ready.ensures m v n e) (c.by_response.ensures m v n f))
