use Rattle.std.proofs.Common.{sym, ap, ◌∙◌, [], ◌∷◌, ◌++◌}
use Rattle.fsb_trace.specs.Rules.{next_response}
use Rattle.fsb_laws.proofs.Interface.{next_response-new, one_more}
use Rattle.fsb_why_queue.proofs.Readiness.{none-is, none-kept, trdy-new}
use Rattle.fsb_why_queue.proofs.queue.Queue.ready_for_none.Goals as goal

pub returns-then-has : goal.returns-then-has
returns-then-has c = λ m h k g l.
    let x : _ = c.args.sample.now in
    let v : _ = h ++ c.args.sample.now ∷ [] in
    none-is m v k _ (sym (trdy-new h x k g.clock) ∙ (sym c.has.ensures ∙ c.if-has.true))
    ((g.stands).responses ∙ sym (ap (next_response v) g.clock ∙ next_response-new h x v (one_more h x))) l

pub returns-else-has : goal.returns-else-has
returns-else-has c = λ m h k g l.
    none-kept m (h ++ c.args.sample.now ∷ []) k
    (sym (trdy-new h c.args.sample.now k g.clock) ∙ (sym c.has.ensures ∙ c.if-has.false)) l
