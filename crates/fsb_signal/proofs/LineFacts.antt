-- Lines that join a set of lines: what the set then has. Two of the named lines share no bit, by computation.
use Rattle.std.proofs.Common.{◌≡◌, ◌==◌, ℕ, ◌<◌, ◌^◌, true, eq-eqb, ap}
use Rattle.std.specs.Int.RustNames.{bit_and, bit_or}
use Rattle.std.proofs.lemmas.Nat.{and_or_self, and_or_apart, or_lt}

-- a line that joined is in the set
pub joined : (lines line : ℕ) → (bit_and (bit_or lines line) line == line) ≡ true
joined lines line = eq-eqb _ _ (and_or_self line lines)

-- a line that shares no bit with the one that joined is in the set where it was
pub joined-others : (lines line other : ℕ) → bit_and line other ≡ 0
    → (bit_and (bit_or lines line) other == other) ≡ (bit_and lines other == other)
joined-others lines line other apart = ap (λ n. n == other) (and_or_apart other lines line apart)

-- a set that is joined to another has no bit above those of both
pub joined-within : (lines more : ℕ) → lines < 2 ^ 21 → more < 2 ^ 21 → bit_or lines more < 2 ^ 21
joined-within lines more h k = or_lt 21 lines more h k

pub ruleset joining = (joined, joined-others, joined-within)
