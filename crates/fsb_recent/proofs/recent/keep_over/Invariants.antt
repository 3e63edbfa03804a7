use Rattle.std.proofs.Common.{◌≡◌, ◌++◌, List, take, filter}
use Rattle.circular_buffer.specs.Buffer.{buffer, keep_last}
use Rattle.fsb_owner_table.specs.declared.row.Row.{Row}
use Rattle.fsb_recent.specs.Over.{is_newly_over}
use Rattle.fsb_recent.proofs.recent.keep_over.Given as goal

abbrev pub invariant-loop-row : goal.invariant-loop-row
invariant-loop-row l =
    (xs : List Row) → l.fn.past ≡ buffer (keep_last 10 xs) 10
    → l.past ≡ buffer (keep_last 10 (xs ++ filter (λ row. is_newly_over row l.clocks) (take l.row-index l.rows))) 10
