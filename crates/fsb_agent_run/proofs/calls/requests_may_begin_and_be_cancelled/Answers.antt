use Rattle.fsb_agent_run.proofs.CallsAtStages.{cancelled-seen, send-may}
use Rattle.fsb_agent_run.proofs.calls.requests_may_begin_and_be_cancelled.Goals as goal

pub returns-clause-begun : goal.returns-clause-begun
returns-clause-begun c = λ r a d claim v h begun mine view. send-may r a d claim v h begun mine view

pub returns-clause-cancelled : goal.returns-clause-cancelled
returns-clause-cancelled c =
    λ r a d q claim v h cancelled begun mine sound view.
    cancelled-seen r a d q claim v h cancelled begun mine sound view
