use Rattle.std.proofs.Common.{length, ◌-◌, ◌≡◌, ℕ, ◌≤◌, List}
use Rattle.vcd_cut.specs.Standing.{Stands}
use Rattle.rows_headers.proofs.tokens.tokens_of.Given as goal

abbrev pub invariant-loop-at : goal.invariant-loop-at
invariant-loop-at l =
    (fed : List ℕ) × Stands l.cutter fed × (length fed ≡ l.at) × (l.at ≤ l.end) × (l.end ≤ length l.bytes)

abbrev pub decreases-loop-at : goal.decreases-loop-at
decreases-loop-at l = length l.bytes - l.at
