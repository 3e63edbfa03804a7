-- Who has a line for itself in a timely run.
use Rattle.fsb_tied.proofs.Words
use Words.{ℕ, ◌≤◌, ◌≡◌, ◌≢◌, true, false, [], Some, length, LineDeferral, MemoryLine, unheld, run, holds_line}
use Words.{is_exclusive, is_dirty, Run, past_of, Timely, KeepsBounds, IsTiedTo, events_below, deferral_below}
use Words.{only_holder, pending_shared}
use Rattle.fsb_tied.proofs.OneOwner.{one-dirty}
use Rattle.fsb_tied.proofs.TiedRuns.{events-may-happen}

-- the line of the machine at n
abbrev line-at : Run → ℕ → ℕ → MemoryLine
line-at r line n = run (unheld []) (events_below (past_of r) line n)

tied-at : (r : Run) (line n : ℕ) → Timely r → KeepsBounds r.plan → n ≤ length r.trace
    → IsTiedTo (past_of r) line n (line-at r line n)
tied-at r line n h bounds l = (events-may-happen r line n [] h bounds l).1

pub alone-in-run : (r : Run) (a b line n : ℕ) → Timely r → KeepsBounds r.plan → n ≤ length r.trace
    → is_exclusive (past_of r) a line n ≡ true → b ≢ a → holds_line (past_of r) b line n ≡ false
alone-in-run r a b line n h bounds l sole other =
    only_holder (past_of r) line n (line-at r line n) (tied-at r line n h bounds l) a b sole other

pub dirty-in-run : (r : Run) (a b line n : ℕ) → Timely r → KeepsBounds r.plan → n ≤ length r.trace
    → is_dirty (past_of r) a line n ≡ true → is_dirty (past_of r) b line n ≡ true → a ≡ b
dirty-in-run r a b line n h bounds l dirty other =
    one-dirty (past_of r) line n a b (line-at r line n) (tied-at r line n h bounds l) dirty other

pub pending-in-run : (r : Run) (a line n : ℕ) (d : LineDeferral) → Timely r → KeepsBounds r.plan → n ≤ length r.trace
    → deferral_below (past_of r) line n ≡ Some d → is_exclusive (past_of r) a line n ≡ false
pending-in-run r a line n d h bounds l pends =
    pending_shared (past_of r) line n (line-at r line n) (tied-at r line n h bounds l) d pends a
