use Rattle.std.proofs.Common.{sym, ◌∙◌}
use Rattle.fsb_why_queue.proofs.Readiness.{unsettled-is, unwanted-is}
use Rattle.fsb_why_queue.proofs.next.Next.unwanted.Goals as goal

pub returns-in-Some : goal.returns-in-Some
returns-in-Some c = λ m v k n t f. unwanted-is m v k c.in-Some.end c.args.self.now n t f (sym c.in-Some.is ∙ n.snoop)

pub returns-in-None : goal.returns-in-None
returns-in-None c = λ m v k n t f. unsettled-is m v k c.args.self.now n t f (sym c.in-None.is ∙ n.snoop)
