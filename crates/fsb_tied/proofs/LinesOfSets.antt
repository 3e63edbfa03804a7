-- An agent has one line of a cache set at most, held or asked for.
use Rattle.fsb_tied.proofs.Words
use Words.{ℕ, ◌≤◌, ◌≡◌, true, false, length, inr, arith, false_from_ne_true, holds_line, is_rival, Run, past_of, Timely}
use Words.{is_asked_for, owed, KeepsBounds}
use Rattle.fsb_tied.proofs.Slots.{one-slot}

pub held-alone : (r : Run) (a line other n : ℕ) → Timely r → KeepsBounds r.plan → n ≤ length r.trace
    → is_rival (past_of r) line other ≡ true → holds_line (past_of r) a line n ≡ true
    → holds_line (past_of r) a other n ≡ false
held-alone r a line other n h bounds l rival held = grind (arith, one-slot)

pub held-unasked : (r : Run) (a line other n : ℕ) → Timely r → KeepsBounds r.plan → n ≤ length r.trace
    → is_rival (past_of r) line other ≡ true → holds_line (past_of r) a line n ≡ true
    → is_asked_for (owed (past_of r) a n) other ≡ false
held-unasked r a line other n h bounds l rival held = grind (arith, one-slot)

pub asked-alone : (r : Run) (a line other n : ℕ) → Timely r → KeepsBounds r.plan → n ≤ length r.trace
    → is_rival (past_of r) line other ≡ true → is_asked_for (owed (past_of r) a n) line ≡ true
    → is_asked_for (owed (past_of r) a n) other ≡ false
asked-alone r a line other n h bounds l rival asked =
    false_from_ne_true _ (λ t. one-slot r a line other n h bounds l rival (inr asked) (inr t))
