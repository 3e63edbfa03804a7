use Rattle.std.proofs.Common.{◌≤◌}
use Rattle.fsb_owner_feed.specs.Table.{fed}
use Rattle.rows_owner_feed.proofs.found.expect_found.Given as goal

-- the table was fed no more samples than were taken
abbrev pub invariant-loop-at : goal.invariant-loop-at
invariant-loop-at g l = fed l.table ≤ l.at
