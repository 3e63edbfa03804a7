use Rattle.fsb_lawful.proofs.ResponseCodes.{keeps-14}
use Rattle.fsb_lawful.proofs.laws.response_codes_fit.Goals as goal

pub returns : goal.returns
returns c = keeps-14
