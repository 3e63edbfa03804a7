use Rattle.std.proofs.Common.{ap, ◌∙◌, nat_eq, ◌||◌}
use Rattle.fsb_why_queue.proofs.Early.{clear-is}
use Rattle.fsb_why_queue.proofs.next.Next.is_clear.Goals as goal

pub returns : goal.returns
returns c = λ v n. c.either.ensures ∙ (ap (λ b. nat_eq c.args.self.now.request.number 0 || b) c.is_before.ensures
    ∙ clear-is v c.args.self.now.request.number c.args.clock c.args.self.now.ended n.ended)
