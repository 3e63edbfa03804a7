-- No line is unknown where no bit of any is.
use Rattle.std.proofs.Common.{◌≡◌, ℕ, arith}
use Rattle.std.specs.Int.RustNames.{bit_or}
use Rattle.std.proofs.lemmas.Nat.{le_or_l, le_or_r}
use Rattle.vcd_grammar.specs.Levels.{control_of}

-- the bits of all control lines together, from what each signal has
abbrev pub some_of : (ℕ → ℕ) → ℕ
some_of f = bit_or
    (bit_or
    (bit_or (bit_or (bit_or (bit_or (bit_or (bit_or (bit_or (f 1) (f 2)) (f 3)) (f 4)) (f 5)) (f 6)) (f 7)) (f 8))
    (bit_or (bit_or (bit_or (bit_or (bit_or (bit_or (bit_or (f 11) (f 12)) (f 13)) (f 14)) (f 15)) (f 16)) (f 17))
    (f 18))) (bit_or (f 20) (f 21))

-- neither of two has a bit, where both together have none
parts : (a b : ℕ) → bit_or a b ≡ 0 → (a ≡ 0) × (b ≡ 0)
parts a b h = (omega (arith, h, le_or_l a b), omega (arith, h, le_or_r a b))

-- none of eight has a bit
record Eight (a b c d e f g h : ℕ) : Type 0 where
  a0 : a ≡ 0
  b0 : b ≡ 0
  c0 : c ≡ 0
  d0 : d ≡ 0
  e0 : e ≡ 0
  f0 : f ≡ 0
  g0 : g ≡ 0
  h0 : h ≡ 0

eight : (a b c d e f g h : ℕ)
    → bit_or (bit_or (bit_or (bit_or (bit_or (bit_or (bit_or a b) c) d) e) f) g) h ≡ 0 → Eight a b c d e f g h
eight a b c d e f g h none =
    let k7 = parts _ h none in
    let k6 = parts _ g k7.0 in
    let k5 = parts _ f k6.0 in
    let k4 = parts _ e k5.0 in
    let k3 = parts _ d k4.0 in
    let k2 = parts _ c k3.0 in
    let k1 = parts a b k2.0 in
    record { a0 = k1.0; b0 = k1.1; c0 = k2.1; d0 = k3.1; e0 = k4.1; f0 = k5.1; g0 = k6.1; h0 = k7.1 }

-- where nothing is set, no line is
pub none_set : (f : ℕ → ℕ) → some_of f ≡ 0 → control_of f ≡ 0
unfolding control_of
none_set f none =
    let all = parts _ (bit_or (f 20) (f 21)) none in
    let most = parts _ _ all.0 in
    let x = eight (f 1) (f 2) (f 3) (f 4) (f 5) (f 6) (f 7) (f 8) most.0 in
    let y = eight (f 11) (f 12) (f 13) (f 14) (f 15) (f 16) (f 17) (f 18) most.1 in
    let z = parts (f 20) (f 21) all.1 in
    rw (x.a0, x.b0, x.c0, x.d0, x.e0, x.f0, x.g0, x.h0, y.a0, y.b0, y.c0, y.d0, y.e0, y.f0, y.g0, y.h0, z.0, z.1)
