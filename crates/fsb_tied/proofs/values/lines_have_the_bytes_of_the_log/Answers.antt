use Rattle.fsb_tied.proofs.RunValues.{copies-below-run, now-below-run, source-below-run}
use Rattle.fsb_tied.proofs.values.lines_have_the_bytes_of_the_log.Goals as goal

pub returns-clause-now : goal.returns-clause-now
returns-clause-now c = now-below-run

pub returns-clause-copies : goal.returns-clause-copies
returns-clause-copies c = copies-below-run

pub returns-clause-source : goal.returns-clause-source
returns-clause-source c = source-below-run
