-- What a plan says.
use Rattle.std.specs.Prelude.{ℕ, List, Option}
use Rattle.fsb_access.specs.declared.item.Item.{Item}
use Rattle.fsb_access.specs.declared.access.Setting.{Setting}
use Rattle.fsb_hazard.specs.declared.line.HazardLine.{HazardLine}
use Rattle.fsb_script.specs.declared.plan.Window.{Window}

-- a plan as lists and numbers, without the facts that it keeps
pub record PlanView : Type 0 where
  pub scripts : List (List Item)
  pub clocks : ℕ
  pub cache : ℕ
  pub ahead : ℕ
  pub profile : ℕ
  pub bridge : Option Window
  pub mem : List Setting
  pub hazards : List HazardLine
