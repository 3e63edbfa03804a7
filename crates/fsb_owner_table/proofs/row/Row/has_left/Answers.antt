use Rattle.std.proofs.Common.{◌≡◌, ◌∙◌, refl, sym}
use Rattle.std.proofs.lemmas.Bool.{or_left}
use Rattle.fsb_owner_table.proofs.Closed.{left_is}
use Rattle.fsb_owner_table.proofs.row.Row.has_left.Goals as goal

pub returns-then-is_dropped-clause-traced : goal.returns-then-is_dropped-clause-traced
returns-then-is_dropped-clause-traced c = λ v q e.
    c.if-is_dropped.true ∙ sym (or_left _ _ (sym c.is_dropped.ensures ∙ c.if-is_dropped.true))
    ∙ left_is c.args.self.now v q c.args.clock e

pub returns-else-is_dropped-clause-traced : goal.returns-else-is_dropped-clause-traced
returns-else-is_dropped-clause-traced c = λ v q e.
    c.is_before.ensures
    ∙ sym (rw (sym c.is_dropped.ensures ∙ c.if-is_dropped.false) refl)
    ∙ left_is c.args.self.now v q c.args.clock e
