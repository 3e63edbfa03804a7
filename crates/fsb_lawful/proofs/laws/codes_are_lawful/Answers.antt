use Rattle.fsb_lawful.proofs.Codes.{keeps-3}
use Rattle.fsb_lawful.proofs.laws.codes_are_lawful.Goals as goal

pub returns : goal.returns
returns c = keeps-3
