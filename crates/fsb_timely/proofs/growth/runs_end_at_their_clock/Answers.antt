use Rattle.fsb_timely.proofs.LastClock.{run-ends, past-ends, run-before, past-before, moments-grow, entries-grow}
use Rattle.fsb_timely.proofs.growth.runs_end_at_their_clock.Goals as goal

pub returns-clause-run : goal.returns-clause-run
returns-clause-run c = run-ends

pub returns-clause-past : goal.returns-clause-past
returns-clause-past c = past-ends

pub returns-clause-earlier_run : goal.returns-clause-earlier_run
returns-clause-earlier_run c = run-before

pub returns-clause-earlier_past : goal.returns-clause-earlier_past
returns-clause-earlier_past c = past-before

pub returns-clause-moments : goal.returns-clause-moments
returns-clause-moments c = moments-grow

pub returns-clause-entries : goal.returns-clause-entries
returns-clause-entries c = entries-grow
