use Rattle.std.proofs.Common.{◌≡◌, refl, sym, ◌∙◌, true}
use Rattle.fsb_script.specs.Bounds.{is_cache}
use Rattle.fsb_script.specs.DraftKept.{is_fresh, has_all, has_lock_room}
use Rattle.fsb_script.proofs.KeptLemmas.{script_none, scripts_none, cache_none, cache_some}
use Rattle.fsb_script.proofs.draft.PlanDraft.cache_line.Goals as goal

pub invariant_of-self : goal.invariant_of-self
unfolding is_fresh has_all has_lock_room
invariant_of-self c =
    let s = c.args.self.now in
    let lawful : is_cache c.in_ok-lines.lines ≡ true = sym c.is_cache.ensures ∙ c.if-not-is_cache.false in
    let none = cache_none s.place s.scripts s.script s.fresh c.requires in
    record {
      some_cache = cache_some c.in_ok-lines.lines lawful;
      lawful_cache = lawful;
      counts = s.counts;
      lawful_profile = s.lawful_profile;
      lawful_bridge = s.lawful_bridge;
      lawful_mem = s.lawful_mem;
      lawful_hazards = s.lawful_hazards;
      lawful_scripts = scripts_none c.in_ok-lines.lines s.scripts none.0;
      lawful_script = script_none c.in_ok-lines.lines s.script none.1;
      lawful_group = s.lawful_group;
      fresh = refl;
      all_scripts = refl;
      lock_room = refl;
    }
