use Rattle.fsb_reasons.proofs.Earliest.{may_answer-earliest}
use Rattle.fsb_reasons.proofs.laws.answers_begin_at_the_earliest.Goals as goal

pub returns : goal.returns
returns c = may_answer-earliest
