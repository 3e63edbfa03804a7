use Rattle.std.proofs.Common.{sym, ◌∙◌}
use Rattle.fsb_why.proofs.Beginning.{spaced-alone}
use Rattle.fsb_why.proofs.look.Look.spacing.Goals as goal

pub returns-else-has : goal.returns-else-has
returns-else-has c = λ m v s. spaced-alone m v c.args.self.now.clock (sym (c.has.ensures m v s) ∙ c.if-has.false)
