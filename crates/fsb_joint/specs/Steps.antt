-- What a set is filtered by, and what turns one joint state into another.
use Rattle.std.specs.Prelude.{ℕ, ◌<◌, Bool, not, List, slice_index_or, false}
use Rattle.fsb_owners.specs.Joint.{Joint, has_other_owner, is_after_drops, is_after_snoop_end, is_after_stores, state_at}
use Rattle.fsb_owners.specs.Possible.{fits_answer, may_ask}
use Rattle.fsb_joint.specs.Sets.{joint_at}
use Rattle.fsb_joint.specs.declared.steps.Step.{Step}
use Rattle.fsb_joint.specs.declared.steps.Step.TheVariants.{Drops, Ends, Stores}
use Rattle.fsb_joint.specs.declared.steps.Test.{Test}
use Rattle.fsb_joint.specs.declared.steps.Test.TheVariants.{Answers, Asks, Unowned, Reached}

-- the answer for this agent, of four in their order
abbrev pub answer_for : List Bool → ℕ → Bool
answer_for answers a = slice_index_or answers a false

-- the step turns the first joint state into the second
unfoldable pub leads : Step → Joint → Joint → Bool
leads (Ends end) from to = is_after_snoop_end end.asker end.kind end.settled end.shared from to
leads (Stores ready) from to = is_after_stores (answer_for ready) from to
leads (Drops may_drop) from to = is_after_drops (answer_for may_drop) from to

-- the joint state passes the test
unfoldable pub passes : Test → Joint → Bool
passes (Asks agent kind) joint = may_ask kind (state_at joint agent)
passes (Answers hit hitm asker) joint = fits_answer hit hitm asker joint
passes (Unowned agent) joint = not (has_other_owner agent joint)
passes (Reached step from) joint = leads step (joint_at from) joint

-- the numbers of agents that the step has are lawful
abbrev pub IsOfAgents : Step → Type 0
IsOfAgents (Ends end) = end.asker < 4
IsOfAgents (Stores ready) = Unit
IsOfAgents (Drops may_drop) = Unit

-- the numbers of agents and of joint states that the test has are lawful
abbrev pub IsInRange : Test → Type 0
IsInRange (Asks agent kind) = agent < 4
IsInRange (Answers hit hitm asker) = asker < 4
IsInRange (Unowned agent) = agent < 4
IsInRange (Reached step from) = IsOfAgents step × (from < 24)
