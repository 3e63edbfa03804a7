use Rattle.fsb_laws.proofs.ResponseSteps.{response_count-more, outcome_of-old, outcome_of-new}
use Rattle.fsb_laws.proofs.AnswerSteps.{may_answer-new}
use Rattle.fsb_laws.proofs.OrderlySteps.{orderly-more}
use Rattle.fsb_laws.proofs.laws.responses_go_on.Goals as goal

pub returns : goal.returns
returns c = record {
  count = response_count-more;
  kept = outcome_of-old;
  new = outcome_of-new;
  may = may_answer-new;
  orderly = orderly-more;
}
