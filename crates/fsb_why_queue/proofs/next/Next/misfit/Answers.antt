use Rattle.std.proofs.Common.{sym, ◌∙◌}
use Rattle.fsb_why_queue.proofs.Codes.{code-settled, code-unsettled}
use Rattle.fsb_why_queue.proofs.next.Next.misfit.Goals as goal

pub returns-in-Some : goal.returns-in-Some
returns-in-Some c = λ m v k n t e f.
    code-settled m v k c.args.found c.in-Some.end c.args.self.now c.expected.result c.may_defer.result n t e
    (sym c.in-Some.is ∙ n.snoop) c.expected.ensures c.may_defer.ensures f

pub returns-in-None : goal.returns-in-None
returns-in-None c = λ m v k n t e f.
    code-unsettled m v k c.args.found c.args.self.now c.expected-in-None.result n t e
    (sym c.in-None.is ∙ n.snoop) c.expected-in-None.ensures f
