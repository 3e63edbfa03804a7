use Rattle.std.proofs.Common.{◌∙◌}
use Rattle.fsb_joint.specs.Sets.{joints_of}
use Rattle.fsb_joint.proofs.SetLaws.{stores-for}
use Rattle.fsb_joint.proofs.set.JointSet.stored.Goals as goal

pub returns : goal.returns
returns c = λ is_ready e. c.reached.ensures ∙ stores-for c.args.ready is_ready (joints_of c.args.self) e
