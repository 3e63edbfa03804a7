use Rattle.std.proofs.Common.{◌≡◌, length}
use Rattle.fsb_script.proofs.KeptLemmas.{counts_are, last_scripts}
use Rattle.fsb_script.proofs.read.plan_at_end.Goals as goal

pub invariant_of-result : goal.invariant_of-result
invariant_of-result c =
    let d = c.args.draft in
    let counts = counts_are d.agents d.clocks d.ahead d.counts in
    let all : length d.scripts ≡ d.agents = last_scripts d.place d.agents d.scripts d.all_scripts c.in-Hazards.is in
    record {
      some_agents = rw all counts.some_agents;
      few_agents = rw all counts.few_agents;
      lawful_scripts = d.lawful_scripts;
      few_clocks = counts.few_clocks;
      lawful_cache = d.lawful_cache;
      some_ahead = counts.some_ahead;
      few_ahead = counts.few_ahead;
      lawful_profile = d.lawful_profile;
      lawful_bridge = d.lawful_bridge;
      lawful_mem = d.lawful_mem;
      lawful_hazards = d.lawful_hazards;
    }
