use Rattle.fsb_timely.proofs.Next.{run_to-same, past-same, holds_at-same}
use Rattle.fsb_timely.proofs.laws.each_part_stays.Goals as goal

pub returns-clause-run : goal.returns-clause-run
returns-clause-run c = run_to-same

pub returns-clause-past : goal.returns-clause-past
returns-clause-past c = past-same

pub returns-clause-part : goal.returns-clause-part
returns-clause-part c = holds_at-same
