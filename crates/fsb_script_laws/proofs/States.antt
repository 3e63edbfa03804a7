-- Where the reading of a plan's text stands, by the plan so far.
use Rattle.std.proofs.Common.{ℕ, List}
use Rattle.fsb_access.specs.declared.access.Access.{Access}
use Rattle.fsb_access.specs.declared.item.Item.{Item}
use Rattle.fsb_script.specs.Places.{ReadingPlace, at_profile, at_bridge, at_memory, at_agent}
use Rattle.fsb_script.specs.Plans.{PlanView}
use Rattle.fsb_script.specs.Drafts.{Progress}

-- the reading stands there, with the agents, the plan so far, and the script and the locked item that are read
abbrev pub state : ReadingPlace → ℕ → PlanView → List Item → List Access → Progress
state place agents q script group = record {
  place = place;
  agents = agents;
  clocks = q.clocks;
  cache = q.cache;
  ahead = q.ahead;
  profile = q.profile;
  bridge = q.bridge;
  mem = q.mem;
  scripts = q.scripts;
  script = script;
  group = group;
  hazards = q.hazards;
}

-- behind the head: with or without a line of the profile
pub data Head : Type 0 where
  Bare : Head
  Profiled : Head

abbrev pub head_place : Head → ReadingPlace
head_place Bare = at_profile
head_place Profiled = at_bridge

-- before the first script
pub data Before : Type 0 where
  Early : Head → Before
  Settled : Before

abbrev pub before_place : Before → ReadingPlace
before_place (Early head) = head_place head
before_place Settled = at_memory

-- before a script: the first one, or a later one
pub data Outside : Type 0 where
  Opening : Before → Outside
  Next : Outside

abbrev pub outside_place : Outside → ReadingPlace
outside_place (Opening before) = before_place before
outside_place Next = at_agent
