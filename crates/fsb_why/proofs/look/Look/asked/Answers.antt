use Rattle.std.proofs.Common.{sym, ◌∙◌}
use Rattle.fsb_why.proofs.Alone.{held-is, held-not, dropped-is, dropped-not}
use Rattle.fsb_why.proofs.look.Look.asked.Goals as goal

pub returns-then-is_held : goal.returns-then-is_held
returns-then-is_held c = λ m v s.
    held-is m v c.args.self.now.clock c.args.who c.requires (sym (c.began.ensures m v s) ∙ c.if-began.true)
    (sym (c.is_held.ensures m v s) ∙ c.if-is_held.true)

pub returns-else-is_held : goal.returns-else-is_held
returns-else-is_held c = λ m v s.
    held-not v c.args.self.now.clock c.args.who (sym (c.began.ensures m v s) ∙ c.if-began.true)
    (sym (c.is_held.ensures m v s) ∙ c.if-is_held.false)

pub returns-then-is_dropped : goal.returns-then-is_dropped
returns-then-is_dropped c = λ m v s.
    dropped-is m v c.args.self.now.clock c.args.who c.requires (sym (c.began.ensures m v s) ∙ c.if-began.false)
    (sym (c.is_dropped.ensures m v s) ∙ c.if-is_dropped.true)

pub returns-else-is_dropped : goal.returns-else-is_dropped
returns-else-is_dropped c = λ m v s.
    dropped-not v c.args.self.now.clock c.args.who (sym (c.began.ensures m v s) ∙ c.if-began.false)
    (sym (c.is_dropped.ensures m v s) ∙ c.if-is_dropped.false)
