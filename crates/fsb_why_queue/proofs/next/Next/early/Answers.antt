use Rattle.std.proofs.Common.{subst}
use Rattle.fsb_why_queue.specs.Next.{SaysWait}
use Rattle.fsb_why_queue.proofs.Early.{early-is, early-kept}
use Rattle.fsb_why_queue.proofs.next.Next.early.Goals as goal

pub returns-in-Some : goal.returns-in-Some
returns-in-Some c = λ m v n t.
    early-is m v c.args.clock c.args.self.now c.in-Some.wait c.earliest.result n t
    (subst (SaysWait v c.args.clock c.args.self.now.request.number) c.in-Some.is (c.wait.ensures v n))
    (c.earliest.ensures v n)

pub returns-in-None : goal.returns-in-None
returns-in-None c = λ m v n t.
    early-kept m v c.args.clock c.args.self.now.request.number n.number
    (subst (SaysWait v c.args.clock c.args.self.now.request.number) c.in-None.is (c.wait.ensures v n))
