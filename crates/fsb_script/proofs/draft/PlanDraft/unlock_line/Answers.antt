use Rattle.std.proofs.Common.{◌≡◌, ◌∙◌, sym, refl, true}
use Rattle.fsb_access.specs.Access.{is_lawful_access}
use Rattle.fsb_script.specs.Bounds.{is_lock_size, is_lock_apart}
use Rattle.fsb_script.specs.DraftKept.{is_fresh, has_all, has_lock_room}
use Rattle.fsb_script.proofs.KeptLemmas.{all_none, script_push, locked_room, locked_lawful}
use Rattle.fsb_script.proofs.draft.PlanDraft.unlock_line.Goals as goal

pub invariant_of-self-2 : goal.invariant_of-self-2
unfolding is_fresh has_all has_lock_room
invariant_of-self-2 c =
    let s = c.args.self.now in
    let few : is_lock_size s.group ≡ true = rw c.as_slice.ensures at
    (sym c.is_lock_size.ensures ∙ c.if-not-is_lock_size.false) in
    let apart : is_lock_apart s.cache s.group ≡ true =
    rw c.as_slice-2.ensures at (sym c.is_lock_apart.ensures ∙ c.if-not-is_lock_apart.false) in
    let item = locked_lawful s.cache s.group s.lawful_group few apart in
    record {
      some_cache = s.some_cache;
      lawful_cache = s.lawful_cache;
      counts = s.counts;
      lawful_profile = s.lawful_profile;
      lawful_bridge = s.lawful_bridge;
      lawful_mem = s.lawful_mem;
      lawful_hazards = s.lawful_hazards;
      lawful_scripts = s.lawful_scripts;
      lawful_script = rw c.in_ok-push.ensures.ok (rw c.replace-group.ensures.value
          (script_push s.cache s.script _ s.lawful_script
          (locked_room s.place s.script s.lock_room c.requires) item));
      lawful_group = all_none is_lawful_access _ (c.replace-group.ensures.after ∙ c.new.ensures);
      fresh = refl;
      all_scripts = refl;
      lock_room = refl;
    }
