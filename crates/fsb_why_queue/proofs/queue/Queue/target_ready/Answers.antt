use Rattle.std.proofs.Common.{subst, ◌∙◌, [], ◌∷◌, ◌++◌}
use Rattle.fsb_why_queue.specs.Next.{SaysNext}
use Rattle.fsb_why_queue.proofs.Codes.{sound-new}
use Rattle.fsb_why_queue.proofs.Readiness.{trdy-new}
use Rattle.fsb_why_queue.proofs.queue.Queue.target_ready.Goals as goal

pub returns-in-Some : goal.returns-in-Some
returns-in-Some c = λ m h g.
    let x : _ = c.args.sample.now in
    let v : _ = h ++ c.args.sample.now ∷ [] in
    c.wrongly_ready.ensures m v (subst (SaysNext v c.args.clock) c.in-Some.is (c.next.ensures h g))
    (c.has.ensures ∙ trdy-new h x c.args.clock g.clock) (c.is_sound.ensures ∙ sound-new h x c.args.clock g.clock)

pub returns-in-None : goal.returns-in-None
returns-in-None c = λ m h g.
    c.ready_for_none.ensures m h c.args.clock g
    (subst (SaysNext (h ++ c.args.sample.now ∷ []) c.args.clock) c.in-None.is (c.next.ensures h g))
