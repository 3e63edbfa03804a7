-- The settings so far are of bytes.
use Rattle.std.proofs.Common.{take, IsTrue}
use Rattle.std.specs.List.{list_all}
use Rattle.fsb_script_laws.specs.LawfulPlans.{is_byte_setting}
use Rattle.fsb_script_laws.proofs.are_bytes.Given as goal

abbrev pub invariant-loop-setting : goal.invariant-loop-setting
invariant-loop-setting l = IsTrue (list_all is_byte_setting (take l.setting-index l.settings))
