use Rattle.fsb_rules.proofs.OpenStands.{none_stand}
use Rattle.fsb_rules.proofs.outstanding.Outstanding.new.Goals as goal

pub returns : goal.returns
returns c = none_stand _ c.new.ensures
