use Rattle.std.proofs.Common.{refl, sym, ◌∙◌}
use Rattle.fsb_rules.proofs.OpenStands.{none_opened, some_opened}
use Rattle.fsb_rules.proofs.outstanding.Happened.opened.Goals as goal

pub returns-then-is_reply : goal.returns-then-is_reply
returns-then-is_reply c = λ h x v g. sym (some_opened g _ c.in-Some.is ∙ (rw (sym c.if-is_reply.ensures) refl))

pub returns-else-is_reply : goal.returns-else-is_reply
returns-else-is_reply c = λ h x v g. sym (some_opened g _ c.in-Some.is ∙ (rw (sym c.if-is_reply.ensures) refl))

pub returns-in-None : goal.returns-in-None
returns-in-None c = λ h x v g. sym (none_opened g c.in-None.is)
