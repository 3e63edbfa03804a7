use Rattle.fsb_agent_run.proofs.FirstViews.{first-of}
use Rattle.fsb_agent_run.proofs.laws.first_views_are_of_the_run.Goals as goal

pub returns : goal.returns
returns c = λ p a. first-of p a
