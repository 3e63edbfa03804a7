use Rattle.fsb_agent_run.proofs.CallsAtStages.{tells-grants}
use Rattle.fsb_agent_run.proofs.calls.requests_tell_grants.Goals as goal

pub returns : goal.returns
returns c =
    λ held alone dirty awaited number v out sound lines found.
    tells-grants held alone dirty awaited number v out sound lines found
