use Rattle.fsb_timely.proofs.Stepwise.{asked-empty, asked-before, asked-more, asked-same, step_asked, asked_step}
use Rattle.fsb_timely.proofs.Stepwise.{stays-asked, asked-stays}
use Rattle.fsb_timely.proofs.asked.asked_in_steps.Goals as goal

pub returns-clause-empty : goal.returns-clause-empty
returns-clause-empty c = asked-empty

pub returns-clause-goes_on : goal.returns-clause-goes_on
returns-clause-goes_on c = λ standing r s next whole.
    (asked-before standing r s next whole, asked-more standing r s next whole)

pub returns-clause-earlier : goal.returns-clause-earlier
returns-clause-earlier c = asked-same

pub returns-clause-step : goal.returns-clause-step
returns-clause-step c = λ objects r s next old new.
    (step_asked objects r s next old new, asked_step objects r s next old new)

pub returns-clause-stay : goal.returns-clause-stay
returns-clause-stay c = λ objects r whole. (stays-asked objects r whole, asked-stays objects r whole)
