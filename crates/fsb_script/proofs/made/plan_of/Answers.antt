use Rattle.std.proofs.Common.{refl, lit≤, ◌*◌, ◌≤◌}
use Rattle.std.proofs.Math.Nat.{min-le_right}
use Rattle.fsb_script.specs.Bounds.{is_lawful_setting}
use Rattle.fsb_script.proofs.KeptLemmas.{all_none}
use Rattle.fsb_script.proofs.MadeLemmas.{made_scripts, count_scripts, made_hazards}
use Rattle.fsb_script.proofs.made.plan_of.Goals as goal

pub invariant_of-result : goal.invariant_of-result
invariant_of-result c =
    let few : c.min.result ≤ 4096 = rw c.min.ensures (min-le_right (c.args.agents * c.args.items) 4096) in
    record {
      some_agents = rw c.in_ok-scripts.ensures (rw (count_scripts c.args.items c.args.agents c.args.seed)
          c.requires.some_agents);
      few_agents = rw c.in_ok-scripts.ensures (rw (count_scripts c.args.items c.args.agents c.args.seed)
          c.requires.few_agents);
      lawful_scripts = rw c.in_ok-scripts.ensures (made_scripts c.args.items c.args.agents c.args.seed
          c.requires.few_items);
      few_clocks = rw c.min-2.ensures (min-le_right (40 * (c.args.agents * c.args.items)) 200000);
      lawful_cache = refl;
      some_ahead = lit≤ tt;
      few_ahead = lit≤ tt;
      lawful_profile = refl;
      lawful_bridge = refl;
      lawful_mem = all_none is_lawful_setting _ c.new.ensures;
      lawful_hazards = rw c.in_ok-hazards.ensures (made_hazards c.args.seed c.min.result few);
    }
