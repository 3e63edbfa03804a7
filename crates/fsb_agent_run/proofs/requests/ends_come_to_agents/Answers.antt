use Rattle.fsb_agent_run.proofs.EndEvents.{comes-to}
use Rattle.fsb_agent_run.proofs.requests.ends_come_to_agents.Goals as goal

pub returns : goal.returns
returns c =
    λ r a d number s grant out v h ends makes view found. comes-to r a d number s grant out v h ends makes view found
