use Rattle.std.proofs.Common.{sym, ◌∙◌}
use Rattle.fsb_why.proofs.Alone.{error-is, error-not}
use Rattle.fsb_why.proofs.look.Look.address_error.Goals as goal

pub returns-then-is_error_alone : goal.returns-then-is_error_alone
returns-then-is_error_alone c = λ m v s.
    error-is m v c.args.self.now.clock c.args.self.now.request s.request (sym (c.is_error_alone.ensures m v s) ∙ c.if-is_error_alone.true)

pub returns-else-is_error_alone : goal.returns-else-is_error_alone
returns-else-is_error_alone c = λ m v s. error-not m v c.args.self.now.clock (sym (c.is_error_alone.ensures m v s) ∙ c.if-is_error_alone.false)
