use Rattle.std.proofs.Common.{sym, ◌∙◌}
use Rattle.fsb_why.proofs.Beginning.{id-own, id-other}
use Rattle.fsb_why.proofs.look.Look.id_of_other.Goals as goal

pub returns-then-is_agent : goal.returns-then-is_agent
returns-then-is_agent c = λ m v r s t e f d.
    id-own m v c.args.self.now.clock c.args.did r c.args.self.now.winner_before s.before e f d
    (sym c.is_agent.ensures ∙ c.if-is_agent.true)

pub returns-else-is_agent : goal.returns-else-is_agent
returns-else-is_agent c = λ m v r s t e f d.
    id-other m v c.args.self.now.clock c.args.did r c.args.self.now.winner_before s.before t e f d
    (sym c.is_agent.ensures ∙ c.if-is_agent.false)
