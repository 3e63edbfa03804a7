use Rattle.std.proofs.Common.{refl, sym, ap, ◌∙◌}
use Rattle.fsb_why.proofs.Beginning.{reply-is}
use Rattle.fsb_trace.specs.Requests.{is_reply}
use Rattle.fsb_why.proofs.look.Look.other_id.Goals as goal

pub returns-then-is_reply : goal.returns-then-is_reply
returns-then-is_reply c = λ m v s t e.
    c.reply_by_other.ensures m v s t
    (ap (λ o. is_reply o) e ∙ (reply-is c.args.request.now ∙ (sym c.is_reply.ensures ∙ c.if-is_reply.true)))

pub returns-else-is_reply : goal.returns-else-is_reply
returns-else-is_reply c = λ m v s t e.
    c.id_of_other.ensures m v c.args.request.now s t e
    (reply-is c.args.request.now ∙ (sym c.is_reply.ensures ∙ c.if-is_reply.false)) refl
