use Rattle.std.proofs.Common.{sym, ◌∙◌}
use Rattle.std.proofs.lemmas.Bool.{both_ways}
use Rattle.fsb_trace.specs.Requests.{is_reply}
use Rattle.fsb_why_open.proofs.Awaiting.{no_reply_none, reply_kept, unawaited_is}
use Rattle.fsb_why_open.proofs.ids.unawaited.Goals as goal

pub returns-then-is_awaited : goal.returns-then-is_awaited
returns-then-is_awaited c = λ m h x who b t. reply_kept b m t (sym c.is_awaited.ensures ∙ c.if-is_awaited.true)

pub returns-in-Some : goal.returns-in-Some
returns-in-Some c = λ m h x who b t.
    unawaited_is b m c.in-Some.reply t c.in-Some.is (sym c.is_awaited.ensures ∙ c.if-is_awaited.false)

pub returns-in-None : goal.returns-in-None
returns-in-None c = λ m h x who b t.
    absurd (both_ways (is_reply c.args.reply) (no_reply_none c.args.reply c.in-None.is) t)
