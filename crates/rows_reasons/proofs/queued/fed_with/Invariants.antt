use Rattle.std.proofs.Common.{◌≤◌}
use Rattle.fsb_why_queue.specs.Queue.{fed}
use Rattle.rows_reasons.proofs.queued.fed_with.Given as goal

-- the queue was fed no more samples than were taken
abbrev pub invariant-loop-at : goal.invariant-loop-at
invariant-loop-at g l = fed l.queue ≤ l.at
