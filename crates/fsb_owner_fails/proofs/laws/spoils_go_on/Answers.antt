use Rattle.fsb_owner_fails.proofs.Spoils.{spoils}
use Rattle.fsb_owner_fails.proofs.laws.spoils_go_on.Goals as goal

pub returns : goal.returns
returns c = spoils
