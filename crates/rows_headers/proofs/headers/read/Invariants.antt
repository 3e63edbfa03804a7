use Rattle.std.proofs.Common.{length, ◌-◌, ◌≡◌, ℕ, ◌≤◌, List}
use Rattle.vcd_header.specs.Standing.{Stands}
use Rattle.rows_headers.proofs.headers.read.Given as goal

abbrev pub invariant-loop-at : goal.invariant-loop-at
invariant-loop-at l =
    (fed : List ℕ) × Stands l.reader fed × (length fed ≡ l.read) × (l.read ≤ l.at) × (l.at ≤ length l.bytes)

abbrev pub decreases-loop-at : goal.decreases-loop-at
decreases-loop-at l = length l.bytes - l.at
