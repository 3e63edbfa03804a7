use Rattle.fsb_agent_run.proofs.StatesTold.{answer-by}
use Rattle.fsb_agent_run.proofs.laws.snoop_answers_go_by_the_run.Goals as goal

pub returns : goal.returns
returns c = λ p a d line v h. answer-by p a d line v h.lines
