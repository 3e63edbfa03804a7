use Rattle.fsb_tied.proofs.ClocksOfRuns.{clock-facts}
use Rattle.fsb_tied.proofs.TiedRuns.{keeps-ties}
use Rattle.fsb_tied.proofs.laws.timely_runs_keep_ties.Goals as goal

pub returns-clause-facts : goal.returns-clause-facts
returns-clause-facts c = clock-facts

pub returns-clause-tie : goal.returns-clause-tie
returns-clause-tie c = keeps-ties
