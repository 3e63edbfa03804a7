use Rattle.fsb_owner_laws.proofs.Replies.{none_lost}
use Rattle.fsb_owner_laws.proofs.laws.unbroken_lines_keep_a_joint_state.Goals as goal

pub returns : goal.returns
returns c = none_lost
