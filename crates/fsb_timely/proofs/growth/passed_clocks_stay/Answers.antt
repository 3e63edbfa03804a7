use Rattle.fsb_timely.proofs.Beginnings.{holds_at-kept, timely-kept}
use Rattle.fsb_timely.proofs.RunsUpTo.{run_to-begins, run_to-whole}
use Rattle.fsb_timely.proofs.growth.passed_clocks_stay.Goals as goal

pub returns-clause-part : goal.returns-clause-part
returns-clause-part c = holds_at-kept

pub returns-clause-timely : goal.returns-clause-timely
returns-clause-timely c = timely-kept

pub returns-clause-beginning : goal.returns-clause-beginning
returns-clause-beginning c = run_to-begins

pub returns-clause-whole : goal.returns-clause-whole
returns-clause-whole c = run_to-whole
