use Rattle.fsb_lawful.proofs.Answers.{keeps-13, keeps-15}
use Rattle.fsb_lawful.proofs.laws.answers_come_in_order.Goals as goal

pub returns-clause-responses : goal.returns-clause-responses
returns-clause-responses c = keeps-13

pub returns-clause-targets : goal.returns-clause-targets
returns-clause-targets c = keeps-15
