-- How a trace keeps a rule: at each clock, over the samples up to it.
use Rattle.fsb_lawful.proofs.Words
use Words.{ℕ, ◌+◌, ◌<◌, ◌≡◌, Bool, true, false, not, ◌&&◌, length, take, nat_lt, arith, and_parts, ltb-true, Marks}
use Words.{Trace, breaks, is_broken, Keeps}
use Rattle.std.specs.Bool.{beq}

-- what fails wherever the first holds
pub and-fails : (a b : Bool) → (a ≡ true → b ≡ false) → (a && b) ≡ false
and-fails a b h1 = grind arith

-- the parts of a conjunction of three, four and five
pub and3 : (a b d : Bool) → (a && b && d) ≡ true → (a ≡ true) × (b ≡ true) × (d ≡ true)
and3 a b d e = let last = and_parts (a && b) d e in let first = and_parts a b last.0 in (first.0, first.1, last.1)

pub and4 : (a b d f : Bool) → (a && b && d && f) ≡ true → (a ≡ true) × (b ≡ true) × (d ≡ true) × (f ≡ true)
and4 a b d f e = grind arith

pub and5 : (a b d f g : Bool) → (a && b && d && f && g) ≡ true
    → (a ≡ true) × (b ≡ true) × (d ≡ true) × (f ≡ true) × (g ≡ true)
and5 a b d f g e = grind arith

-- a test that is denied
pub not-true : (b : Bool) → not b ≡ true → b ≡ false
not-true b h1 = grind arith

-- two tests that are compared as equal
pub same-beq : (a b : Bool) → beq a b ≡ true → a ≡ b
same-beq a b h1 = grind arith

-- the rule is kept where it is broken at no clock of the trace
pub keeps : (m : Marks) (j : ℕ) (w : Trace) → ((c : ℕ) → c < length w → breaks m (take (c + 1) w) c j ≡ false)
    → Keeps m j w
unfolding is_broken
keeps m j w h =
    record {
      unbroken = λ c. and-fails (nat_lt c (length w)) (breaks m (take (c + 1) w) c j)
          (λ t. h c (ltb-true c (length w) t));
    }
