use Rattle.std.proofs.Common.{sym, ◌∙◌, Some, None, arith}
use Rattle.fsb_why_queue.proofs.Readiness.{late-not, none-not, twice-is, twice-not}
use Rattle.fsb_why_queue.proofs.next.Next.ready_twice.Goals as goal

pub returns-then-ready-clock : goal.returns-then-ready-clock
returns-then-ready-clock c = λ m v n t k.
    twice-is m v c.args.clock c.in-Some.ready c.args.self.now n t (sym c.in-Some.is ∙ n.ready) c.if-ready-clock.true

pub returns-else-ready-clock : goal.returns-else-ready-clock
returns-else-ready-clock c = λ m v n t k.
    twice-not v c.args.clock c.args.self.now.request.number (Some c.in-Some.ready) k (sym c.in-Some.is ∙ n.ready)
    (late-not c.in-Some.ready c.args.clock (omega (arith, c.if-ready-clock.false)))

pub returns-in-None : goal.returns-in-None
returns-in-None c = λ m v n t k.
    twice-not v c.args.clock c.args.self.now.request.number None k (sym c.in-None.is ∙ n.ready) (none-not c.args.clock)
