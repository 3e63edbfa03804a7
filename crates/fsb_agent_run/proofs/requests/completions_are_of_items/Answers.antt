use Rattle.fsb_agent_run.proofs.ItemsCompleted.{logged-there}
use Rattle.fsb_agent_run.proofs.requests.completions_are_of_items.Goals as goal

pub returns : goal.returns
returns c = λ r a d h few which. logged-there r a d h few which
