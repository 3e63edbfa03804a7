use Rattle.std.proofs.Common.{sym, ◌∙◌}
use Rattle.fsb_why.proofs.Beginning.{coded-alone}
use Rattle.fsb_why.proofs.look.Look.code.Goals as goal

pub returns-else-one_back : goal.returns-else-one_back
returns-else-one_back c = λ m v s. coded-alone m v c.args.self.now.clock (sym (c.one_back.ensures m v s) ∙ c.if-one_back.false)
