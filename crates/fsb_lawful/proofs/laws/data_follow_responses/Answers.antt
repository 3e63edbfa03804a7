use Rattle.fsb_lawful.proofs.DataMoves.{keeps-16}
use Rattle.fsb_lawful.proofs.laws.data_follow_responses.Goals as goal

pub returns : goal.returns
returns c = keeps-16
