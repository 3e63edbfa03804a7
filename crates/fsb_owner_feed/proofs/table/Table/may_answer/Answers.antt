use Rattle.std.proofs.Common.{subst, sym, ◌∙◌}
use Rattle.fsb_owner_feed.specs.Table.{SaysWaiting}
use Rattle.fsb_owner_feed.proofs.Happening.{may_none, may_row}
use Rattle.fsb_owner_feed.proofs.table.Table.may_answer.Goals as goal

pub returns-in-Some : goal.returns-in-Some
returns-in-Some c = λ h s o e.
    let a = subst (SaysWaiting h) c.in-Some.is (c.waiting.ensures h s o) in
    rw e at (c.may_respond.ensures h s) ∙ may_row h c.in-Some.row a

pub returns-in-None : goal.returns-in-None
returns-in-None c = λ h s o e.
    sym (may_none h (subst (SaysWaiting h) c.in-None.is (c.waiting.ensures h s o)))
