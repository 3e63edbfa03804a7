-- What a verdict of ownership says, and that it rests on the samples up to its clock.
use Rattle.std.proofs.Common.{ℕ, ◌+◌, ◌<◌, ◌≡◌, List, Some, length, nat_lt, sym, ◌∙◌, arith, refl}
use Rattle.std.proofs.lemmas.Bool.{lt-ltb}
use Rattle.fsb_trace.specs.At.{Trace}
use Rattle.fsb_trace.specs.Agree.{AgreeTo}
use Rattle.fsb_trace.proofs.Interface.{AgreeTo-less, take-agree}
use Rattle.fsb_owners.specs.Joint.{Joint}
use Rattle.fsb_owners.specs.Rules.{is_ownership_broken, ownership_verdict}
use Rattle.fsb_owners.proofs.LeastLaws.{least_broken-stays}

is_clock : (w v : Trace) (c : ℕ) → AgreeTo (c + 1) w v → nat_lt c (length w) ≡ nat_lt c (length v)
is_clock w v c a = lt-ltb c (length w) (omega (arith, a.left)) ∙ sym (lt-ltb c (length v) (omega (arith, a.right)))

pub broken-agree : (first : List Joint) (w v : Trace) (c j : ℕ) → AgreeTo (c + 1) w v
    → is_ownership_broken first w c j ≡ is_ownership_broken first v c j
unfolding is_ownership_broken
broken-agree first w v c j a = rw (is_clock w v c a, take-agree (c + 1) w v a) refl

pub verdict-stays : (n : ℕ) (first : List Joint) (w v : Trace) (c j : ℕ) → AgreeTo n w v → c < n
    → ownership_verdict first w ≡ Some (c, j) → ownership_verdict first v ≡ Some (c, j)
unfolding ownership_verdict
verdict-stays n first w v c j a l e =
    least_broken-stays (is_ownership_broken first w) (is_ownership_broken first v) 32 (length w) (length v) c j
    (λ d i below. broken-agree first w v d i (AgreeTo-less n (d + 1) w v (omega (arith, l, below)) a))
    (omega (arith, l, a.right)) e
