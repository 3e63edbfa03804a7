use Rattle.std.proofs.Common.{sym, subst, ◌∙◌, ◌+◌}
use Rattle.std.proofs.lemmas.Bool.{leb-true}
use Rattle.fsb_owner_feed.specs.Table.{SaysAsking}
use Rattle.fsb_why_queue.proofs.Head.{near_none}
use Rattle.fsb_why_queue.proofs.queue.Queue.asked.Goals as goal

pub returns-then-is_decoded : goal.returns-then-is_decoded
returns-then-is_decoded c = λ h g.
    let a = subst (SaysAsking h) c.in-Some.is (c.asking.ensures h (g.stands).table g.orderly) in
    c.asked_by.ensures h g.orderly g.clock a
    (leb-true (c.in-Some.row.seen.clock + 2) c.args.clock (sym c.is_decoded.ensures ∙ c.if-is_decoded.true))

pub returns-else-is_decoded : goal.returns-else-is_decoded
returns-else-is_decoded c = λ h g.
    let a = subst (SaysAsking h) c.in-Some.is (c.asking.ensures h (g.stands).table g.orderly) in
    c.asked_last.ensures h g
    (near_none h c.in-Some.row.seen.clock c.args.clock a.clock g.clock (sym c.is_decoded.ensures ∙ c.if-is_decoded.false))

pub returns-in-None : goal.returns-in-None
returns-in-None c = λ h g.
    c.asked_last-in-None.ensures h g (subst (SaysAsking h) c.in-None.is (c.asking.ensures h (g.stands).table g.orderly))
