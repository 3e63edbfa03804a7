use Rattle.std.proofs.Common.{sym, ◌∙◌}
use Rattle.fsb_trace.specs.Requests.{is_reply, is_write_back}
use Rattle.fsb_why_queue.proofs.Asking.{fit-quiet, result-fits, write_back-is}
use Rattle.fsb_why_queue.proofs.snoops.Snooping.unfit_there.Goals as goal

pub returns-then-is_any : goal.returns-then-is_any
returns-then-is_any c = λ m v k n a t.
    write_back-is m v k c.args.self.now c.args.lines n a t (sym c.is_write_back.ensures ∙ c.if-is_write_back.true)
    (sym c.is_any.ensures ∙ c.if-is_any.true)

pub returns-else-is_any : goal.returns-else-is_any
returns-else-is_any c = λ m v k n a t.
    result-fits m v k c.args.self.now c.args.lines n a
    (fit-quiet (is_write_back c.args.self.now.decoded) (is_reply c.args.self.now.decoded) c.args.lines.hit c.args.lines.hitm
    c.args.lines.defer (sym c.is_any.ensures ∙ c.if-is_any.false))

pub returns-else-is_write_back : goal.returns-else-is_write_back
returns-else-is_write_back c = λ m v k n a t.
    c.unfit_reply.ensures m v k n a t (sym c.is_write_back.ensures ∙ c.if-is_write_back.false)
