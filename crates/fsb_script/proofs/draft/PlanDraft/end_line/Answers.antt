use Rattle.std.proofs.Common.{◌∙◌}
use Rattle.fsb_script.specs.Bounds.{is_lawful_script}
use Rattle.fsb_script.proofs.KeptLemmas.{all_push, script_empty, items_fresh, items_all, items_room, behind_fresh}
use Rattle.fsb_script.proofs.KeptLemmas.{behind_all, behind_room}
use Rattle.fsb_script.proofs.draft.PlanDraft.end_line.Goals as goal

pub invariant_of-self : goal.invariant_of-self
invariant_of-self c =
    let s = c.args.self.now in
    record {
      some_cache = s.some_cache;
      lawful_cache = s.lawful_cache;
      counts = s.counts;
      lawful_profile = s.lawful_profile;
      lawful_bridge = s.lawful_bridge;
      lawful_mem = s.lawful_mem;
      lawful_hazards = s.lawful_hazards;
      lawful_scripts = rw c.in_err-push.ensures.err s.lawful_scripts;
      lawful_script = script_empty s.cache _ (c.replace-script.ensures.after ∙ c.new.ensures);
      lawful_group = s.lawful_group;
      fresh = items_fresh s.place _ _ c.requires;
      all_scripts = items_all s.place s.agents _ c.requires;
      lock_room = items_room s.place _ c.requires;
    }

pub invariant_of-self-2 : goal.invariant_of-self-2
invariant_of-self-2 c =
    let s = c.args.self.now in
    let behind = rw c.as_slice.ensures at c.place_behind-self.ensures in
    record {
      some_cache = s.some_cache;
      lawful_cache = s.lawful_cache;
      counts = s.counts;
      lawful_profile = s.lawful_profile;
      lawful_bridge = s.lawful_bridge;
      lawful_mem = s.lawful_mem;
      lawful_hazards = s.lawful_hazards;
      lawful_scripts = rw c.in_ok-push.ensures.ok (all_push (is_lawful_script s.cache) s.scripts _ s.lawful_scripts
          (rw c.replace-script.ensures.value s.lawful_script));
      lawful_script = script_empty s.cache _ (c.replace-script.ensures.after ∙ c.new.ensures);
      lawful_group = s.lawful_group;
      fresh = behind_fresh c.place_behind-self.result _ s.agents _ _ behind;
      all_scripts = behind_all c.place_behind-self.result s.agents _ behind;
      lock_room = behind_room c.place_behind-self.result _ s.agents _ behind;
    }
