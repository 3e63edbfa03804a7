use Rattle.fsb_tied.proofs.KeptLines.{copies-kept, memory-below-run, memory-kept}
use Rattle.fsb_tied.proofs.values.memory_has_what_was_put_last.Goals as goal

pub returns-clause-below : goal.returns-clause-below
returns-clause-below c = memory-below-run

pub returns-clause-put : goal.returns-clause-put
returns-clause-put c = memory-kept

pub returns-clause-copies : goal.returns-clause-copies
returns-clause-copies c = copies-kept
