use Rattle.std.proofs.Common.{sym, ap, ◌∙◌, ◌+◌}
use Rattle.fsb_why_queue.specs.Next.{later_after}
use Rattle.fsb_why_queue.proofs.Early.{from-is, from-none}
use Rattle.fsb_why_queue.proofs.next.Next.earliest.Goals as goal

pub returns-in-Some : goal.returns-in-Some
returns-in-Some c = λ v n.
    c.earliest_after.ensures ∙ (ap (λ k. later_after c.args.self.now (k + 2)) c.from.ensures)
    ∙ from-is v c.args.self.now.request.number c.in-Some.end c.args.self.now.ended (sym c.in-Some.is ∙ n.snoop) n.ended

pub returns-in-None : goal.returns-in-None
returns-in-None c = λ v n. from-none v c.args.self.now.request.number (sym c.in-None.is ∙ n.snoop)
