use Rattle.std.proofs.Common.{sym, ◌∙◌}
use Rattle.fsb_why.proofs.Beginning.{blocked-is, blocked-not}
use Rattle.fsb_why.proofs.look.Look.blocked.Goals as goal

pub returns-then-is_blocked : goal.returns-then-is_blocked
returns-then-is_blocked c = λ m v s.
    blocked-is m v c.args.self.now.clock _ c.saturating_sub.ensures (sym (c.is_blocked.ensures m v s) ∙ c.if-is_blocked.true)

pub returns-else-is_blocked : goal.returns-else-is_blocked
returns-else-is_blocked c = λ m v s. blocked-not m v c.args.self.now.clock (sym (c.is_blocked.ensures m v s) ∙ c.if-is_blocked.false)
