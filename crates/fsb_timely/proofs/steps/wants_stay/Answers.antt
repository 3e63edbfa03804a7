use Rattle.fsb_timely.proofs.Completing.{completes-next, timely-want-stays}
use Rattle.fsb_timely.proofs.StayingWants.{want-stays}
use Rattle.fsb_timely.proofs.WindowSteps.{want-goes_on}
use Rattle.fsb_timely.proofs.steps.wants_stay.Goals as goal

pub returns-clause-waiting : goal.returns-clause-waiting
returns-clause-waiting c = want-stays

pub returns-clause-completing : goal.returns-clause-completing
returns-clause-completing c = want-goes_on

pub returns-clause-timely : goal.returns-clause-timely
returns-clause-timely c = timely-want-stays

pub returns-clause-completes : goal.returns-clause-completes
returns-clause-completes c = completes-next
