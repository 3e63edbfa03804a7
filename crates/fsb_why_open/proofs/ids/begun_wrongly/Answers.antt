use Rattle.std.proofs.Common.{sym, ◌∙◌}
use Rattle.fsb_why_open.proofs.Taking.{either_plain}
use Rattle.fsb_why_open.proofs.ids.begun_wrongly.Goals as goal

pub returns-then-is_reply : goal.returns-then-is_reply
returns-then-is_reply c = λ m h x b.
    c.unawaited.ensures m h x c.args.who b (sym c.is_reply.ensures ∙ c.if-is_reply.true)

pub returns-else-is_reply : goal.returns-else-is_reply
returns-else-is_reply c = λ m h x b.
    let plain = sym c.is_reply.ensures ∙ c.if-is_reply.false in
    either_plain b m c.taken.result c.too_many.result c.first_of.result plain c.first_of.ensures
    (c.taken.ensures m h x c.args.who b plain) (c.too_many.ensures m h x c.args.request b plain)
