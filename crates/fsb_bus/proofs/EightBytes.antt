-- The number that eight bytes spell, four at a time.
use Rattle.std.proofs.Common.{ℕ, ◌+◌, ◌*◌, ◌≡◌, List, [], ◌∷◌, get_or, length, arith}
use Rattle.fsb_access.specs.ByteMemory.{value_of_bytes}

-- the number that the four bytes from this place on spell
abbrev pub half_from : List ℕ → ℕ → ℕ
half_from bytes n =
    value_of_bytes
    (get_or bytes n 0 ∷ (get_or bytes (n + 1) 0 ∷ (get_or bytes (n + 2) 0 ∷ (get_or bytes (n + 3) 0 ∷ []))))

pub spelled : (bytes : List ℕ) → length bytes ≡ 8
    → half_from bytes 0 + 4294967296 * half_from bytes 4 ≡ value_of_bytes bytes
spelled [] is = absurd (omega arith)
spelled (a ∷ []) is = absurd (omega arith)
spelled (a ∷ (b ∷ [])) is = absurd (omega arith)
spelled (a ∷ (b ∷ (c ∷ []))) is = absurd (omega arith)
spelled (a ∷ (b ∷ (c ∷ (d ∷ [])))) is = absurd (omega arith)
spelled (a ∷ (b ∷ (c ∷ (d ∷ (e ∷ []))))) is = absurd (omega arith)
spelled (a ∷ (b ∷ (c ∷ (d ∷ (e ∷ (f ∷ [])))))) is = absurd (omega arith)
spelled (a ∷ (b ∷ (c ∷ (d ∷ (e ∷ (f ∷ (g ∷ []))))))) is = absurd (omega arith)
spelled (a ∷ (b ∷ (c ∷ (d ∷ (e ∷ (f ∷ (g ∷ (h ∷ [])))))))) is = omega arith
spelled (a ∷ (b ∷ (c ∷ (d ∷ (e ∷ (f ∷ (g ∷ (h ∷ (i ∷ more))))))))) is = absurd (omega arith)
