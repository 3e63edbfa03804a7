use Rattle.fsb_timely.specs.Runs.{past_of}
use Rattle.fsb_agent_run.proofs.ItemsCompleted.{logged-there}
use Rattle.fsb_agent_run.proofs.PlaceSteps.{place-completed, place-quiet}
use Rattle.fsb_agent_run.proofs.laws.places_of_views_step.Goals as goal

pub returns-clause-quiet : goal.returns-clause-quiet
returns-clause-quiet c = λ p a d v e h. place-quiet p a d v e h

pub returns-clause-completed : goal.returns-clause-completed
returns-clause-completed c =
    λ r a d v h few which is at.
    let k = logged-there r a d h few which in place-completed (past_of r) a d k.number v k.completes is at
