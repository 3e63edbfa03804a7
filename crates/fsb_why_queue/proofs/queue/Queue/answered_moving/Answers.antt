use Rattle.std.proofs.Common.{sym, ap, subst, cond, ◌∙◌, [], ◌∷◌, ◌++◌, Some, None}
use Rattle.fsb_trace.specs.Outcome.{does_move, told_with}
use Rattle.fsb_why_queue.specs.Next.{SaysNext}
use Rattle.fsb_why_queue.proofs.Busy.{answered-none, answered-some}
use Rattle.fsb_why_queue.proofs.queue.Queue.answered_moving.Goals as goal

pub returns-in-Some : goal.returns-in-Some
returns-in-Some c = λ h g.
    let x : _ = c.args.sample.now in
    answered-some h x c.args.clock c.in-Some.next c.moving.result g.clock (sym c.responds.ensures ∙ c.if-responds.true)
    (subst (SaysNext (h ++ x ∷ []) c.args.clock) c.in-Some.is (c.next.ensures h g))
    (c.moving.ensures ∙ ap (λ k. cond (does_move (told_with c.in-Some.next.handed c.in-Some.next.decoded k))
    (Some c.in-Some.next.request) None) c.response.ensures)

pub returns-in-None : goal.returns-in-None
returns-in-None c = λ h g.
    let x : _ = c.args.sample.now in
    answered-none h x c.args.clock g.clock
    (subst (SaysNext (h ++ x ∷ []) c.args.clock) c.in-None.is (c.next.ensures h g))
