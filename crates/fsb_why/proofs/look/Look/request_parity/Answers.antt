use Rattle.std.proofs.Common.{sym, ◌∙◌}
use Rattle.fsb_why.proofs.Alone.{request-odd, request-not}
use Rattle.fsb_why.proofs.look.Look.request_parity.Goals as goal

pub returns-then-is_request_wrong : goal.returns-then-is_request_wrong
returns-then-is_request_wrong c = λ m v s. request-odd m v c.args.self.now.clock c.args.self.now.sample s.here (sym (c.is_request_wrong.ensures m v s) ∙ c.if-is_request_wrong.true)

pub returns-else-is_request_wrong : goal.returns-else-is_request_wrong
returns-else-is_request_wrong c = λ m v s. request-not m v c.args.self.now.clock (sym (c.is_request_wrong.ensures m v s) ∙ c.if-is_request_wrong.false)
