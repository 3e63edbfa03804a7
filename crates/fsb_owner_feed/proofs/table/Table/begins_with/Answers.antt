use Rattle.std.proofs.Common.{sym, ◌∙◌}
use Rattle.fsb_owner_feed.proofs.Beginning.{begins_none, begins_some}
use Rattle.fsb_owner_feed.proofs.table.Table.begins_with.Goals as goal

pub returns-then-has : goal.returns-then-has
returns-then-has c = λ h s.
    begins_some h c.args.sample.now c.winner.result (sym c.has.ensures ∙ c.if-has.true) (c.winner.ensures h s.arbiter)

pub returns-else-has : goal.returns-else-has
returns-else-has c = λ h s. begins_none h c.args.sample.now (sym c.has.ensures ∙ c.if-has.false)
