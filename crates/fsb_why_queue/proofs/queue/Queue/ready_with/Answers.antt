use Rattle.std.proofs.Common.{sym, ap, ◌∙◌, true, false, Some}
use Rattle.fsb_why_queue.proofs.Head.{ready-new, ready-old, trdy-is}
use Rattle.fsb_why_queue.proofs.queue.Queue.ready_with.Goals as goal

pub returns-in-Some : goal.returns-in-Some
returns-in-Some c = λ h g.
    ready-old h c.args.sample.now c.in-Some.ready (sym (c.ready.ensures h (g.stands).table) ∙ c.in-Some.is)

pub returns-then-both : goal.returns-then-both
returns-then-both c = λ h g.
    ap (λ n. Some n) g.clock
    ∙ ready-new h c.args.sample.now true g.orderly (sym (c.ready.ensures h (g.stands).table) ∙ c.in-None.is)
    (trdy-is h c.args.sample.now true _ _ c.has.ensures (c.may_answer.ensures h (g.stands).table g.orderly g.clock)
    (sym c.both.ensures ∙ c.if-both.true))

pub returns-else-both : goal.returns-else-both
returns-else-both c = λ h g.
    ready-new h c.args.sample.now false g.orderly (sym (c.ready.ensures h (g.stands).table) ∙ c.in-None.is)
    (trdy-is h c.args.sample.now false _ _ c.has.ensures (c.may_answer.ensures h (g.stands).table g.orderly g.clock)
    (sym c.both.ensures ∙ c.if-both.false))
