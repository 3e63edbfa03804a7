use Rattle.std.proofs.Common.{◌≡◌, ◌∙◌, ap, refl, sym}
use Rattle.std.proofs.lemmas.Bool.{or_left}
use Rattle.fsb_count.specs.Options.{is_before}
use Rattle.fsb_owner_table.proofs.Closed.{closed_is}
use Rattle.fsb_owner_table.proofs.row.Row.is_closed.Goals as goal

pub returns-then-is_dropped-clause-traced : goal.returns-then-is_dropped-clause-traced
returns-then-is_dropped-clause-traced c = λ v q e.
    c.if-is_dropped.true ∙ sym (or_left _ _ (sym c.is_dropped.ensures ∙ c.if-is_dropped.true))
    ∙ closed_is c.args.self.now v q c.args.clock e

pub returns-else-is_dropped-clause-traced : goal.returns-else-is_dropped-clause-traced
returns-else-is_dropped-clause-traced c = λ v q e.
    c.is_before.ensures ∙ ap (λ o. is_before o c.args.clock) c.last_clock.ensures
    ∙ sym (rw (sym c.is_dropped.ensures ∙ c.if-is_dropped.false) refl)
    ∙ closed_is c.args.self.now v q c.args.clock e
