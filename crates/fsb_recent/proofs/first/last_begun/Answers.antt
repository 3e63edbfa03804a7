use Rattle.std.proofs.Common.{◌-◌, ap, ◌∙◌, subst}
use Rattle.fsb_owner_feed.specs.Begins.{SaysBegins}
use Rattle.fsb_recent.proofs.FirstClocks.{begun_none, begun_some}
use Rattle.fsb_recent.proofs.first.last_begun.Goals as goal

pub returns-in-Some : goal.returns-in-Some
returns-in-Some c = λ h says o e.
    begun_some h c.in-Some.begins _ _ (subst (λ b. SaysBegins b h) c.in-Some.is says)
    (c.saturating_sub.ensures ∙ ap (λ n. n - 1) e)
    (λ is. c.first_row.ensures h is o)

pub returns-in-None : goal.returns-in-None
returns-in-None c = λ h says o e. begun_none h (subst (λ b. SaysBegins b h) c.in-None.is says)
