use Rattle.std.proofs.Common.{sym, ap, ◌∙◌, true, false}
use Rattle.std.proofs.Common.{not}
use Rattle.fsb_why_queue.proofs.Readiness.{in_time-is, unready-is}
use Rattle.fsb_why_queue.proofs.next.Next.unready.Goals as goal

pub returns-then-is_ready : goal.returns-then-is_ready
returns-then-is_ready c = λ m v n t k.
    ap not (in_time-is v c.args.clock c.args.self.now.request.number c.args.self.now.ready true n.ready
    (sym c.is_ready.ensures ∙ c.if-is_ready.true))

pub returns-else-is_ready : goal.returns-else-is_ready
returns-else-is_ready c = λ m v n t k.
    unready-is m v c.args.clock c.args.self.now c.two_after.result n t k
    (in_time-is v c.args.clock c.args.self.now.request.number c.args.self.now.ready false n.ready
    (sym c.is_ready.ensures ∙ c.if-is_ready.false)) c.two_after.ensures
