use Rattle.std.proofs.Common.{nat_le, length, ap, sym, ◌∙◌}
use Rattle.fsb_count.specs.Options.{is_some_and}
use Rattle.fsb_phase.proofs.Responses.{may_is}
use Rattle.fsb_phase.proofs.phases.Phases.may_answer.Goals as goal

pub returns-in-Some : goal.returns-in-Some
unfolding is_some_and
returns-in-Some c = λ h k e.
    ap (nat_le c.in-Some.from) (c.from.ensures ∙ e)
    ∙ ap (λ o. is_some_and o (λ f. nat_le f (length h))) (sym c.in-Some.is) ∙ may_is c.args.self.now h k

pub returns-in-None : goal.returns-in-None
unfolding is_some_and
returns-in-None c = λ h k e.
    ap (λ o. is_some_and o (λ f. nat_le f (length h))) (sym c.in-None.is) ∙ may_is c.args.self.now h k
