use Rattle.std.proofs.Common.{sym, ◌∙◌}
use Rattle.fsb_why.proofs.Alone.{data-unknown, data-not}
use Rattle.fsb_why.proofs.look.Look.unknown_data.Goals as goal

pub returns-then-has_unknown_data : goal.returns-then-has_unknown_data
returns-then-has_unknown_data c = λ m v s.
    data-unknown m v c.args.self.now.clock c.args.self.now.sample s.here (sym (c.has_unknown_data.ensures m v s) ∙ c.if-has_unknown_data.true)

pub returns-else-has_unknown_data : goal.returns-else-has_unknown_data
returns-else-has_unknown_data c = λ m v s. data-not m v c.args.self.now.clock (sym (c.has_unknown_data.ensures m v s) ∙ c.if-has_unknown_data.false)
