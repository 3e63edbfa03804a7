use Rattle.std.proofs.Common.{sym, ◌∙◌}
use Rattle.fsb_rules.proofs.LeastRule.{begun_form, none_wrong, was_begun}
use Rattle.fsb_rules.proofs.checker.Checker.is_begun_wrongly.Goals as goal

pub returns-in-Some : goal.returns-in-Some
returns-in-Some c = λ n x h comes well early.
    c.is_begun_wrongly.ensures h x (was_begun comes well _ early c.in-Some.is)
    ∙ sym (begun_form comes well _ c.in-Some.is)

pub returns-in-None : goal.returns-in-None
returns-in-None c = λ n x h comes well early. sym (none_wrong comes well c.in-None.is)
