use Rattle.std.proofs.Common.{◌∙◌}
use Rattle.fsb_joint.specs.Sets.{joints_of}
use Rattle.fsb_joint.proofs.SetLaws.{drops-for}
use Rattle.fsb_joint.proofs.set.JointSet.dropped.Goals as goal

pub returns : goal.returns
returns c = λ may e. c.reached.ensures ∙ drops-for c.args.may_drop may (joints_of c.args.self) e
