use Rattle.std.proofs.Common.{sym, ◌∙◌}
use Rattle.fsb_why.proofs.Alone.{lock-is, lock-not}
use Rattle.fsb_why.proofs.look.Look.lock.Goals as goal

pub returns-then-is_lock_alone : goal.returns-then-is_lock_alone
returns-then-is_lock_alone c = λ m v s. lock-is m v c.args.self.now.clock (sym (c.is_lock_alone.ensures m v s) ∙ c.if-is_lock_alone.true)

pub returns-else-is_lock_alone : goal.returns-else-is_lock_alone
returns-else-is_lock_alone c = λ m v s. lock-not m v c.args.self.now.clock (sym (c.is_lock_alone.ensures m v s) ∙ c.if-is_lock_alone.false)
