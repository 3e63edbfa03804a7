use Rattle.std.proofs.Common.{sym, ◌∙◌}
use Rattle.std.proofs.lemmas.Bool.{and_from, and_left, and_right}
use Rattle.fsb_why_queue.proofs.Readiness.{takes-is, tells-and}
use Rattle.fsb_why_queue.proofs.next.Next.by_response.Goals as goal

pub returns-then-takes : goal.returns-then-takes
returns-then-takes c = λ m v n e.
    let t = sym e ∙ c.if-sound.true in
    let k = takes-is c.args.self.now v c.args.clock n ∙ (sym c.takes.ensures ∙ c.if-takes.true) in
    tells-and m v c.args.clock _ _ c.unready.result (and_from _ _ t k) (c.unready.ensures m v n t k)

pub returns-else-takes : goal.returns-else-takes
returns-else-takes c = λ m v n e.
    and_left _ _ (and_right _ _ (takes-is c.args.self.now v c.args.clock n ∙ (sym c.takes.ensures ∙ c.if-takes.false)))

pub returns-else-sound : goal.returns-else-sound
returns-else-sound c = λ m v n e. and_left _ _ (and_left _ _ (sym e ∙ c.if-sound.false))
