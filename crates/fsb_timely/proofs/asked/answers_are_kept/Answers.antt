use Rattle.fsb_timely.proofs.KeptAnswers.{choice_kept, hold_kept}
use Rattle.fsb_timely.proofs.asked.answers_are_kept.Goals as goal

pub returns-clause-choice : goal.returns-clause-choice
returns-clause-choice c = choice_kept

pub returns-clause-hold : goal.returns-clause-hold
returns-clause-hold c = hold_kept
