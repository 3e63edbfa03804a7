use Rattle.std.proofs.Common.{sym, ap, subst, ◌∙◌, [], ◌∷◌, ◌++◌}
use Rattle.fsb_trace.specs.At.{responds_at}
use Rattle.fsb_trace.specs.Rules.{next_response}
use Rattle.fsb_laws.proofs.Interface.{next_response-new, one_more, responds_at-new}
use Rattle.fsb_why_queue.specs.Next.{SaysNext}
use Rattle.fsb_why_queue.proofs.Early.{early-quiet, nothing-is}
use Rattle.fsb_why_queue.proofs.queue.Queue.response_timing.Goals as goal

pub returns-in-Some : goal.returns-in-Some
returns-in-Some c = λ m h g.
    let v : _ = h ++ c.args.sample.now ∷ [] in
    c.early.ensures m v (subst (SaysNext v c.args.clock) c.in-Some.is (c.next.ensures h g))
    (ap (responds_at v) g.clock ∙ (responds_at-new h c.args.sample.now v (one_more h c.args.sample.now)
    ∙ (sym c.responds.ensures ∙ c.if-responds.true)))

pub returns-in-None : goal.returns-in-None
returns-in-None c = λ m h g.
    let v : _ = h ++ c.args.sample.now ∷ [] in
    nothing-is m v c.args.clock _
    (ap (responds_at v) g.clock ∙ (responds_at-new h c.args.sample.now v (one_more h c.args.sample.now)
    ∙ (sym c.responds.ensures ∙ c.if-responds.true)))
    ((g.stands).responses ∙ sym (ap (next_response v) g.clock
    ∙ next_response-new h c.args.sample.now v (one_more h c.args.sample.now)))
    (subst (SaysNext v c.args.clock) c.in-None.is (c.next.ensures h g))

pub returns-else-responds : goal.returns-else-responds
returns-else-responds c = λ m h g.
    let v : _ = h ++ c.args.sample.now ∷ [] in
    early-quiet m v c.args.clock
    (ap (responds_at v) g.clock ∙ (responds_at-new h c.args.sample.now v (one_more h c.args.sample.now)
    ∙ (sym c.responds.ensures ∙ c.if-responds.false)))
