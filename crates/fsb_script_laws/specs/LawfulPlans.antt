-- Which plans a bench file can say: those within its bounds.
use Rattle.std.specs.Prelude.{◌≤◌, length, Bool, nat_lt, IsTrue}
use Rattle.std.specs.List.{list_all}
use Rattle.fsb_access.specs.declared.access.Setting.{Setting}
use Rattle.fsb_script.specs.Bounds.{is_cache, is_profile, is_lawful_script, is_lawful_bridge, is_lawful_setting, are_lawful_hazards}
use Rattle.fsb_script.specs.Plans.{PlanView}

-- a byte of memory is below 256
abbrev pub is_byte_setting : Setting → Bool
is_byte_setting setting = nat_lt setting.byte 256

-- the plan keeps the bounds of a bench file
pub record IsLawfulPlan (p : PlanView) : Type 0 where
  -- there are one to four agents
  pub some_agents : 1 ≤ length p.scripts
  pub few_agents : length p.scripts ≤ 4
  -- at most 200,000 clocks are run
  pub few_clocks : p.clocks ≤ 200000
  -- the cache has a power of two of lines, 1 to 1,024
  pub lawful_cache : IsTrue (is_cache p.cache)
  -- an agent has one to four requests outstanding at most
  pub some_ahead : 1 ≤ p.ahead
  pub few_ahead : p.ahead ≤ 4
  -- the bus has the first or the second profile
  pub lawful_profile : IsTrue (is_profile p.profile)
  -- no bridge, or one whose window is of whole lines below 2^36
  pub lawful_bridge : IsTrue (is_lawful_bridge p.bridge)
  -- memory is set below 2^36
  pub lawful_mem : IsTrue (list_all is_lawful_setting p.mem)
  -- what it is set to are bytes
  pub byte_mem : IsTrue (list_all is_byte_setting p.mem)
  -- a script has at most 4,096 items, each lawful
  pub lawful_scripts : IsTrue (list_all (is_lawful_script p.cache) p.scripts)
  -- there are at most 4,096 hazard lines, each lawful
  pub lawful_hazards : IsTrue (are_lawful_hazards p.hazards)
