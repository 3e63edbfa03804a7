use Rattle.std.proofs.Common.{sym, ap, subst, ◌∙◌, [], ◌∷◌, ◌++◌, arith}
use Rattle.fsb_laws.specs.OneMore.{cancels}
use Rattle.fsb_heads.specs.Heads.{snooped_count}
use Rattle.fsb_why_queue.specs.Next.{SaysAsked}
use Rattle.fsb_why_queue.proofs.Head.{asked-now, head-cancelled, head-kept, request_kept}
use Rattle.fsb_why_queue.proofs.queue.asked_by.Goals as goal

pub returns-then-cancels : goal.returns-then-cancels
returns-then-cancels c = λ h o e a l.
    let x : _ = c.args.sample.now in
    let gone = ap (λ n. cancels x n c.args.row.now.seen.clock) (sym e) ∙ (sym c.cancels.ensures ∙ c.if-cancels.true) in
    subst (SaysAsked (h ++ x ∷ []) (snooped_count h)) (sym c.asked_now.ensures)
    (asked-now h x (snooped_count h) c.args.clock e
    (head-cancelled h x o.spaced c.args.row.now.seen.clock a.clock gone))

pub returns-else-cancels : goal.returns-else-cancels
returns-else-cancels c = λ h o e a l.
    let x : _ = c.args.sample.now in
    let kept = ap (λ n. cancels x n c.args.row.now.seen.clock) (sym e) ∙ (sym c.cancels.ensures ∙ c.if-cancels.false) in
    let there = sym (head-kept h x o.spaced c.args.row.now.seen.clock a.clock kept) in
    (there, request_kept h x (snooped_count h) c.args.row.now a (omega (arith, l, e)) there)
