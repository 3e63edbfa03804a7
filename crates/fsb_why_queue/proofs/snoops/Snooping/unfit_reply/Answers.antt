use Rattle.std.proofs.Common.{sym, ◌∙◌}
use Rattle.fsb_trace.specs.Requests.{is_reply, is_write_back}
use Rattle.fsb_why_queue.proofs.Asking.{fit-other, fit-reply, reply-is, result-fits}
use Rattle.fsb_why_queue.proofs.snoops.Snooping.unfit_reply.Goals as goal

pub returns-then-is_settled : goal.returns-then-is_settled
returns-then-is_settled c = λ m v k n a t w.
    reply-is m v k c.args.self.now c.args.lines n a t (sym c.is_reply.ensures ∙ c.if-is_reply.true)
    (sym c.is_settled.ensures ∙ c.if-is_settled.true)

pub returns-else-is_settled : goal.returns-else-is_settled
returns-else-is_settled c = λ m v k n a t w.
    result-fits m v k c.args.self.now c.args.lines n a
    (fit-reply (is_write_back c.args.self.now.decoded) (is_reply c.args.self.now.decoded) c.args.lines.hit c.args.lines.hitm
    c.args.lines.defer w (sym c.is_settled.ensures ∙ c.if-is_settled.false))

pub returns-else-is_reply : goal.returns-else-is_reply
returns-else-is_reply c = λ m v k n a t w.
    result-fits m v k c.args.self.now c.args.lines n a
    (fit-other (is_write_back c.args.self.now.decoded) (is_reply c.args.self.now.decoded) c.args.lines.hit c.args.lines.hitm
    c.args.lines.defer w (sym c.is_reply.ensures ∙ c.if-is_reply.false))
