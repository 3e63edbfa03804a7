use Rattle.std.proofs.Common.{◌∙◌}
use Rattle.fsb_owner_again.proofs.GivenRows.{again}
use Rattle.fsb_owner_again.proofs.again.is_given_again.Goals as goal

pub returns : goal.returns
returns c = λ first h x v g. c.some_given.ensures ∙ again g
