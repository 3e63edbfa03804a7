use Rattle.fsb_agent_run.proofs.FewOwed.{within}
use Rattle.fsb_agent_run.proofs.GiversNamed.{given-named}
use Rattle.fsb_agent_run.proofs.owed.givers_give_the_bytes.Goals as goal

pub returns : goal.returns
returns c = λ r a d q h e. given-named r a d q h.timely h.bounds (within r d h.long) e
