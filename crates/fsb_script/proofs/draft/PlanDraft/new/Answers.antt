use Rattle.std.proofs.Common.{refl, lit<}
use Rattle.fsb_access.specs.Access.{is_lawful_access}
use Rattle.fsb_script.specs.Bounds.{is_lawful_setting, is_lawful_script}
use Rattle.fsb_script.specs.DraftKept.{has_all, has_lock_room}
use Rattle.fsb_script.proofs.KeptLemmas.{all_none, script_empty, hazards_empty, fresh_empty}
use Rattle.fsb_script.proofs.draft.PlanDraft.new.Goals as goal

pub invariant_of-result : goal.invariant_of-result
unfolding has_all has_lock_room
invariant_of-result c = record {
  some_cache = lit< tt;
  lawful_cache = refl;
  counts = refl;
  lawful_profile = refl;
  lawful_bridge = refl;
  lawful_mem = all_none is_lawful_setting _ c.new.ensures;
  lawful_hazards = hazards_empty _ c.new-5.ensures;
  lawful_scripts = all_none (is_lawful_script 1) _ c.new-2.ensures;
  lawful_script = script_empty 1 _ c.new-3.ensures;
  lawful_group = all_none is_lawful_access _ c.new-4.ensures;
  fresh = fresh_empty _ _ c.new-2.ensures c.new-3.ensures;
  all_scripts = refl;
  lock_room = refl;
}
