use Rattle.fsb_run_laws.proofs.ToldAnswers.{ended-told, responded-told, retried-told}
use Rattle.fsb_run_laws.proofs.moments.moments_have_the_answers.Goals as goal

pub returns-clause-responded : goal.returns-clause-responded
returns-clause-responded c = responded-told

pub returns-clause-retried : goal.returns-clause-retried
returns-clause-retried c = retried-told

pub returns-clause-ended : goal.returns-clause-ended
returns-clause-ended c = ended-told
