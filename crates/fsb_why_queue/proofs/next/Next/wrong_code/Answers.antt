use Rattle.std.proofs.Common.{sym, ◌∙◌}
use Rattle.fsb_why_queue.proofs.Codes.{code-kept}
use Rattle.fsb_why_queue.proofs.next.Next.wrong_code.Goals as goal

pub returns-then-fits : goal.returns-then-fits
returns-then-fits c = λ m v k n t e.
    code-kept m v k c.args.found c.args.self.now n e (sym c.fits.ensures ∙ c.if-fits.true)

pub returns-else-fits : goal.returns-else-fits
returns-else-fits c = λ m v k n t e. c.misfit.ensures m v k n t e (sym c.fits.ensures ∙ c.if-fits.false)
