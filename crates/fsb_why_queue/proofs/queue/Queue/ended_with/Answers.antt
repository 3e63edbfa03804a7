use Rattle.std.proofs.Common.{sym, ap, cond, ◌∙◌, length, Some, None}
use Rattle.fsb_why_queue.proofs.Ends.{end-kept, end-moving}
use Rattle.fsb_why_queue.proofs.queue.Queue.ended_with.Goals as goal

pub returns-then-is_last_chunk : goal.returns-then-is_last_chunk
returns-then-is_last_chunk c = λ h g.
    ap (λ n. Some n) g.clock
    ∙ (sym (ap (λ b. cond b (Some (length h)) None) (sym c.is_last_chunk.ensures ∙ c.if-is_last_chunk.true))
    ∙ end-moving h c.args.sample.now g.orderly c.in-Some.came
    (sym (c.chunks.ensures h (g.stands).table) ∙ c.in-Some.is))

pub returns-else-is_last_chunk : goal.returns-else-is_last_chunk
returns-else-is_last_chunk c = λ h g.
    sym (ap (λ b. cond b (Some (length h)) None) (sym c.is_last_chunk.ensures ∙ c.if-is_last_chunk.false))
    ∙ end-moving h c.args.sample.now g.orderly c.in-Some.came
    (sym (c.chunks.ensures h (g.stands).table) ∙ c.in-Some.is)

pub returns-in-None : goal.returns-in-None
returns-in-None c = λ h g.
    (g.stands).ended
    ∙ end-kept h c.args.sample.now g.orderly (sym (c.chunks.ensures h (g.stands).table) ∙ c.in-None.is)
