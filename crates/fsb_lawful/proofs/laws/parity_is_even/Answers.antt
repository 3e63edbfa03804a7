use Rattle.fsb_lawful.proofs.EvenParity.{keeps-19, keeps-20}
use Rattle.fsb_lawful.proofs.laws.parity_is_even.Goals as goal

pub returns-clause-address : goal.returns-clause-address
returns-clause-address c = keeps-19

pub returns-clause-request : goal.returns-clause-request
returns-clause-request c = keeps-20
