-- So many samples as cells so far.
use Rattle.std.proofs.Common.{◌≡◌, length}
use Rattle.rows_judged.proofs.laid.laid_out.Given as goal

abbrev pub invariant-loop-cell : goal.invariant-loop-cell
invariant-loop-cell l = length l.w.items ≡ l.cell-index
