-- The events of a line stay when the run goes on.
use Rattle.fsb_coherent.proofs.Words
use Words.{ℕ, zero, suc, ◌<◌, ◌≤◌, ◌≡◌, length, ap, refl, arith, Run, past_of, IsNext, IsWhole, past-same}
use Words.{events_of_clock, events_at, events_below}

pub events_at-same : (r s : Run) (line c : ℕ) → IsNext r s → IsWhole r → c < length r.trace
    → events_at (past_of s) line c ≡ events_at (past_of r) line c
unfolding events_at
events_at-same r s line c next whole l = ap (λ p. events_of_clock p line c) (past-same r s c next whole l)

pub events_below-same : (r s : Run) (line n : ℕ) → IsNext r s → IsWhole r → n ≤ length r.trace
    → events_below (past_of s) line n ≡ events_below (past_of r) line n
unfolding events_below
events_below-same r s line zero next whole l = refl
events_below-same r s line (suc n) next whole l =
    grind (arith, events_at-same, events_below-same r s line n next whole (omega arith))
