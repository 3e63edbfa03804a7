use Rattle.std.proofs.Common.{sym, ◌∙◌}
use Rattle.fsb_why_queue.proofs.Early.{wait-busy, wait-near, wait-over}
use Rattle.fsb_why_queue.proofs.next.Next.wait.Goals as goal

pub returns-else-is_two_before : goal.returns-else-is_two_before
returns-else-is_two_before c = λ v n.
    wait-near v c.args.clock c.args.self.now.request.number c.in-Some.end (sym c.in-Some.is ∙ n.snoop)
    (sym c.is_two_before.ensures ∙ c.if-is_two_before.false)

pub returns-then-is_clear : goal.returns-then-is_clear
returns-then-is_clear c = λ v n.
    wait-over v c.args.clock c.args.self.now.request.number c.in-Some.end (sym c.in-Some.is ∙ n.snoop)
    (sym c.is_two_before.ensures ∙ c.if-is_two_before.true) (sym (c.is_clear.ensures v n) ∙ c.if-is_clear.true)

pub returns-else-is_clear : goal.returns-else-is_clear
returns-else-is_clear c = λ v n.
    wait-busy v c.args.clock c.args.self.now.request.number c.in-Some.end c.args.self.now.ended
    (sym c.in-Some.is ∙ n.snoop) (sym c.is_two_before.ensures ∙ c.if-is_two_before.true) n.ended
    (sym (c.is_clear.ensures v n) ∙ c.if-is_clear.false)
