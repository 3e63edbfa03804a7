use Rattle.std.proofs.Common.{◌∙◌, ap}
use Rattle.fsb_owners.specs.Rules.{is_none_left}
use Rattle.fsb_joint.specs.Sets.{joints_of}
use Rattle.fsb_joint.proofs.SetLaws.{unowned}
use Rattle.fsb_joint.proofs.set.JointSet.is_owned_elsewhere.Goals as goal

pub returns : goal.returns
returns c =
    c.is_empty.ensures ∙ ap (λ set. is_none_left set) c.kept.ensures.joints
    ∙ unowned c.args.agent (joints_of c.args.self)
