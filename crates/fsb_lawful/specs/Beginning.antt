-- What is known of the requests that begin in a run.
use Rattle.std.specs.Prelude.{◌≡◌, ◌≤◌, ℕ, IsTrue, Some}
use Rattle.std.specs.List.{list_all}
use Rattle.fsb_encode.specs.declared.request.Request.{Request}
use Rattle.fsb_encode.specs.Request.{is_lawful_request}
use Rattle.fsb_script.specs.Bounds.{is_lawful_script}
use Rattle.fsb_script.specs.Plans.{PlanView}
use Rattle.fsb_timely.specs.Runs.{Run, run_to, past_of, past_to}
use Rattle.fsb_timely.specs.Starts.{request_begun}

-- what the winner of a clock would begin there is a lawful request: line, chunk and ID have their bits
pub record WantsLawfully (r : Run) : Type 0 where
  pub lawful : (c : ℕ) (request : Request)
      → request_begun (run_to r c) (past_to (past_of r) c) c ≡ Some request → IsTrue (is_lawful_request request)

-- the plan keeps the bounds of a bench file, as far as requests go: its scripts are lawful, and an agent has 4 requests
-- outstanding at most
pub record KeepsBounds (plan : PlanView) : Type 0 where
  pub lawful_scripts : IsTrue (list_all (is_lawful_script plan.cache) plan.scripts)
  pub few_ahead : plan.ahead ≤ 4
