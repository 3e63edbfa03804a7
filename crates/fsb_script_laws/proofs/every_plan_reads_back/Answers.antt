use Rattle.fsb_script.specs.View.{plan_view}
use Rattle.fsb_script_laws.proofs.Whole.{plan_reads_back}
use Rattle.fsb_script_laws.proofs.every_plan_reads_back.Goals as goal

pub returns : goal.returns
returns c =
    let p = c.args.plan.now in
    plan_reads_back (plan_view p) (record {
      some_agents = p.some_agents;
      few_agents = p.few_agents;
      few_clocks = p.few_clocks;
      lawful_cache = p.lawful_cache;
      some_ahead = p.some_ahead;
      few_ahead = p.few_ahead;
      lawful_profile = p.lawful_profile;
      lawful_bridge = p.lawful_bridge;
      lawful_mem = p.lawful_mem;
      byte_mem = rw c.as_slice.ensures at c.are_bytes.ensures;
      lawful_scripts = p.lawful_scripts;
      lawful_hazards = p.lawful_hazards;
    })
