use Rattle.std.proofs.Common.{subst}
use Rattle.std.proofs.lemmas.Bool.{and_from}
use Rattle.fsb_why_queue.specs.Next.{SaysWait}
use Rattle.fsb_why_queue.proofs.Readiness.{early-is}
use Rattle.fsb_why_queue.proofs.next.Next.ready_early.Goals as goal

pub returns-in-Some : goal.returns-in-Some
returns-in-Some c = λ m v n t k.
    early-is m v c.args.clock c.args.self.now c.in-Some.wait c.earliest.result n t k
    (subst (SaysWait v c.args.clock c.args.self.now.request.number) c.in-Some.is (c.wait.ensures v n))
    (c.earliest.ensures v n)

pub returns-in-None : goal.returns-in-None
returns-in-None c = λ m v n t k.
    c.ready_twice.ensures m v n t
    (and_from _ _ k (subst (SaysWait v c.args.clock c.args.self.now.request.number) c.in-None.is (c.wait.ensures v n)))
