use Rattle.std.proofs.Common.{sym, ◌∙◌}
use Rattle.std.proofs.lemmas.Bool.{and_left}
use Rattle.fsb_why_queue.proofs.Readiness.{takes-is, tells-and}
use Rattle.fsb_why_queue.proofs.next.Next.by_ready.Goals as goal

pub returns-then-takes : goal.returns-then-takes
returns-then-takes c = λ m v n e.
    let t = sym e ∙ c.if-asserted.true in
    tells-and m v c.args.clock _ _ c.ready_early.result t
    (c.ready_early.ensures m v n t (takes-is c.args.self.now v c.args.clock n ∙ (sym c.takes.ensures ∙ c.if-takes.true)))

pub returns-else-takes : goal.returns-else-takes
returns-else-takes c = λ m v n e.
    c.unwanted.ensures m v c.args.clock n (sym e ∙ c.if-asserted.true) (sym c.takes.ensures ∙ c.if-takes.false)

pub returns-else-asserted : goal.returns-else-asserted
returns-else-asserted c = λ m v n e. and_left _ _ (sym e ∙ c.if-asserted.false)
