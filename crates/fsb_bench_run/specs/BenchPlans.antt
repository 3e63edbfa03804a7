-- The plan that a bench may run.
use Rattle.std.specs.Prelude.{◌≡◌, ◌≤◌, ◌<◌, true}
use Rattle.fsb_script.specs.Bounds.{is_profile}
use Rattle.fsb_script.specs.Plans.{PlanView}
use Rattle.fsb_lawful.specs.Beginning.{KeepsBounds}

-- the plan keeps the bounds of a bench file, as far as its agents and its requests go
pub record IsBenchPlan (plan : PlanView) : Type 0 where
  pub bounds : KeepsBounds plan
  pub some_lines : 0 < plan.cache
  pub some_ahead : 1 ≤ plan.ahead
  pub profile : is_profile plan.profile ≡ true
