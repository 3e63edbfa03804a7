use Rattle.std.proofs.Common.{◌≤◌}
use Rattle.fsb_cohere.specs.Cohere.{fed}
use Rattle.rows_cohere.proofs.verdicts.expect_of.Given as goal

-- the pass was fed no more samples than were taken
abbrev pub invariant-loop-at : goal.invariant-loop-at
invariant-loop-at g l = fed l.pass ≤ l.at
