use Rattle.std.proofs.Common.{sym, ◌∙◌}
use Rattle.fsb_owner_feed.proofs.Happening.{answered_by}
use Rattle.fsb_owner_feed.proofs.table.Table.answered.Goals as goal

pub returns-then-responds : goal.returns-then-responds
returns-then-responds c = λ h g.
    answered_by g c.waiting.result (sym c.responds.ensures ∙ c.if-responds.true) (c.waiting.ensures h g.stands g.before)

pub returns-else-responds : goal.returns-else-responds
returns-else-responds c = λ h g. sym c.responds.ensures ∙ c.if-responds.false
