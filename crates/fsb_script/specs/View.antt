-- What the reader's own state stands for.
use Rattle.fsb_script.specs.declared.draft.PlanDraft.{PlanDraft}
use Rattle.fsb_script.specs.declared.plan.Plan.{Plan}
use Rattle.fsb_script.specs.Drafts.{Progress}
use Rattle.fsb_script.specs.Plans.{PlanView}

-- what a draft has read
abbrev pub progress : PlanDraft → Progress
progress d = record {
  place = d.place;
  agents = d.agents;
  clocks = d.clocks;
  cache = d.cache;
  ahead = d.ahead;
  profile = d.profile;
  bridge = d.bridge;
  mem = d.mem;
  scripts = d.scripts;
  script = d.script;
  group = d.group;
  hazards = d.hazards;
}

-- a plan without the facts that it keeps
abbrev pub plan_view : Plan → PlanView
plan_view p = record { scripts = p.scripts; clocks = p.clocks; cache = p.cache; ahead = p.ahead; profile = p.profile; bridge = p.bridge; mem = p.mem; hazards = p.hazards }
