use Rattle.std.proofs.Common.{Some, ap, refl, sym, ◌∙◌}
use Rattle.fsb_rules.proofs.OpenGoes.{deferred_left, with_reply}
use Rattle.fsb_rules.proofs.outstanding.Open.after_deferral.Goals as goal

pub returns-then-ends_reply : goal.returns-then-ends_reply
returns-then-ends_reply c = λ h x v g k t s.
    sym (deferred_left g k t s ∙ (rw (sym (c.if-ends_reply.ensures h x v g)) refl))

pub returns-else-ends_reply : goal.returns-else-ends_reply
returns-else-ends_reply c = λ h x v g k t s.
    ap (λ q. Some (with_reply c.args.self.now q)) (c.reply_after.ensures h x v g k t)
    ∙ sym (deferred_left g k t s ∙ (rw (sym (c.if-ends_reply.ensures h x v g)) refl))
