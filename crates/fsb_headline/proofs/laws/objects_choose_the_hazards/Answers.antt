use Rattle.fsb_headline.proofs.ObjectsChoose.{choices, holds}
use Rattle.fsb_headline.proofs.laws.objects_choose_the_hazards.Goals as goal

pub returns-clause-choices : goal.returns-clause-choices
returns-clause-choices c = choices

pub returns-clause-holds : goal.returns-clause-holds
returns-clause-holds c = holds
