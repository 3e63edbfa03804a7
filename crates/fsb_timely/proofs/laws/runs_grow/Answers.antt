use Rattle.fsb_timely.proofs.Next.{each_clock-more, timely-more}
use Rattle.fsb_timely.proofs.laws.runs_grow.Goals as goal

pub returns-clause-part : goal.returns-clause-part
returns-clause-part c = each_clock-more

pub returns-clause-timely : goal.returns-clause-timely
returns-clause-timely c = timely-more
