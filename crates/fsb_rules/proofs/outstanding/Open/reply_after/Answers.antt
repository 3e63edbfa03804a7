use Rattle.std.proofs.Common.{Some, None, ◌-◌, refl, ap, sym, ◌∙◌}
use Rattle.fsb_rules.proofs.OpenGoes.{replied_is, reply_is}
use Rattle.fsb_rules.proofs.outstanding.Open.reply_after.Goals as goal

pub returns-then-cancels : goal.returns-then-cancels
returns-then-cancels c = λ h x v g k t.
    sym (reply_is g k t _ c.in-Some.is ∙ (rw (sym (c.if-cancels.ensures h x v g)) refl))

pub returns-else-cancels : goal.returns-else-cancels
returns-else-cancels c = λ h x v g k t.
    sym (reply_is g k t _ c.in-Some.is ∙ (rw (sym (c.if-cancels.ensures h x v g)) refl))

pub returns-then-is_replied : goal.returns-then-is_replied
returns-then-is_replied c = λ h x v g k t.
    ap (λ q. Some q) (c.saturating_sub.ensures ∙ ap (λ n. n - 1) g.clock)
    ∙ sym (reply_is g k t None c.in-None.is ∙ (rw (replied_is g k t ∙ sym c.if-is_replied.ensures) refl))

pub returns-else-is_replied : goal.returns-else-is_replied
returns-else-is_replied c = λ h x v g k t.
    sym (reply_is g k t None c.in-None.is ∙ (rw (replied_is g k t ∙ sym c.if-is_replied.ensures) refl))
