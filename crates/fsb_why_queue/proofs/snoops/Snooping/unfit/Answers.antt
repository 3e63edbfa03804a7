use Rattle.fsb_why_queue.proofs.Asking.{not_ended, result-unended}
use Rattle.fsb_why_queue.proofs.snoops.Snooping.unfit.Goals as goal

pub returns-then-self : goal.returns-then-self
returns-then-self c = λ m v k n a. c.unfit_there.ensures m v k n a c.if-self.true

pub returns-else-self : goal.returns-else-self
returns-else-self c = λ m v k n a. result-unended m v k (not_ended v k c.args.self.now n c.if-self.false)
