use Rattle.std.proofs.Common.{sym, ◌∙◌}
use Rattle.fsb_why.proofs.Beginning.{reply-own, reply-other}
use Rattle.fsb_why.proofs.look.Look.reply_by_other.Goals as goal

pub returns-then-is_agent : goal.returns-then-is_agent
returns-then-is_agent c = λ m v s t r.
    reply-own m v c.args.self.now.clock c.args.self.now.winner_before s.before r (sym c.is_agent.ensures ∙ c.if-is_agent.true)

pub returns-else-is_agent : goal.returns-else-is_agent
returns-else-is_agent c = λ m v s t r.
    reply-other m v c.args.self.now.clock c.args.self.now.winner_before s.before t r (sym c.is_agent.ensures ∙ c.if-is_agent.false)
