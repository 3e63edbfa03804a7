-- The bits of a value, read from the left, and sixteen at a time.
use Rattle.std.proofs.Common.{◌≡◌, ℕ, ◌+◌, ◌-◌, ◌*◌, ◌/◌, ◌%◌, ◌^◌, ◌<◌, ◌≤◌, Bool, true, false, ◌==◌, ◌||◌, List, []}
use Rattle.std.proofs.Common.{◌∷◌, ◌++◌, map, length, take, drop, get_or, cond, replicate, refl, sym, ap, ap₂, ◌∙◌}
use Rattle.std.proofs.Common.{subst, arith, w8}
use Rattle.std.proofs.Math.Nat.{pow-succ'}
use Rattle.std.proofs.Math.Pow.{pow_mono}
use Rattle.std.proofs.Math.Seq.{take-add}
use Rattle.std.proofs.lemmas.Nat.{shr_high}
use Rattle.std.proofs.lemmas.List.{take-append-drop, length-take-le, length-drop, take-take}
use Rattle.std.proofs.lemmas.Simd.{bitmask_splat, pick_l_left, pick_l_whole}
use Rattle.std.proofs.lemmas.Bool.{true≢false, false≢true, ne_eqb}
use lib.Lanes.{mask_l, pick_l, zip2, top}
use Rattle.vcd_grammar.specs.Digits.{is_unknown}
use Rattle.vcd_grammar.specs.Levels.{bits_from}

-- digits behind a number
one_bit : (n b p r : ℕ) → (2 * n + b) * p + r ≡ n * (2 * p) + ((2 * 0 + b) * p + r)
one_bit n b p r = grind arith

bits_behind : (test : ℕ → Bool) (n : ℕ) (ds : List ℕ)
    → bits_from test n ds ≡ n * 2 ^ length ds + bits_from test 0 ds
bits_behind test n [] = omega arith
bits_behind test n (d ∷ ds) =
    let b = cond (test d) 1 0 in
    bits_behind test (2 * n + b) ds ∙ one_bit n b (2 ^ length ds) (bits_from test 0 ds)
    ∙ sym (ap₂ (λ q r. n * q + r) (pow-succ' 2 (length ds)) (bits_behind test (2 * 0 + b) ds))

bits_append : (test : ℕ → Bool) (n : ℕ) (xs ys : List ℕ)
    → bits_from test n (xs ++ ys) ≡ bits_from test (bits_from test n xs) ys
bits_append test n [] ys = refl
bits_append test n (x ∷ xs) ys = bits_append test (2 * n + cond (test x) 1 0) xs ys

bit_lt : (b : Bool) (p r : ℕ) → r < p → (2 * 0 + cond b 1 0) * p + r < 2 * p
bit_lt true p r h = omega (arith, h)
bit_lt false p r h = omega (arith, h)

bits_lt : (test : ℕ → Bool) (ds : List ℕ) → bits_from test 0 ds < 2 ^ length ds
bits_lt test [] = omega arith
bits_lt test (d ∷ ds) =
    rw (pow-succ' 2 (length ds), bits_behind test (2 * 0 + cond (test d) 1 0) ds)
    (bit_lt (test d) (2 ^ length ds) (bits_from test 0 ds) (bits_lt test ds))

-- the first of some digits that were read
pub bits_first : (test : ℕ → Bool) (width n : ℕ) (row : List ℕ) → n ≤ length row → width ≤ n
    → bits_from test 0 (take n row) / 2 ^ (n - width) ≡ bits_from test 0 (take width row)
bits_first test width n row long few =
    let some = take n row in
    let all : length some ≡ n = length-take-le n row long in
    let rest : length (drop width some) ≡ n - width = omega (arith, length-drop width some, all) in
    let small = subst (λ k. bits_from test 0 (drop width some) < 2 ^ k) rest (bits_lt test (drop width some)) in
    let whole : bits_from test 0 some
    ≡ bits_from test 0 (take width some) * 2 ^ (n - width) + bits_from test 0 (drop width some) =
    ap (bits_from test 0) (sym (take-append-drop width some)) ∙ bits_append test 0 (take width some) (drop width some)
    ∙ bits_behind test (bits_from test 0 (take width some)) (drop width some)
    ∙ ap (λ k. bits_from test 0 (take width some) * 2 ^ k + bits_from test 0 (drop width some)) rest in
    ap (λ k. k / 2 ^ (n - width)) whole
    ∙ shr_high (bits_from test 0 (take width some)) (n - width) (bits_from test 0 (drop width some)) small
    ∙ ap (bits_from test 0) (take-take width n row few)

-- ---- sixteen digits at a time: some were read, and the next come

pub block_read : (test : ℕ → Bool) (row : List ℕ) (at value next : ℕ) → length row ≡ 64 → at + 16 ≤ 64
    → value ≡ bits_from test 0 (take at row) → next ≡ bits_from test 0 (take 16 (drop at row))
    → value * 65536 + next ≡ bits_from test 0 (take (at + 16) row)
block_read test row at value next long room so_far more =
    let ds = take 16 (drop at row) in
    let n : length ds ≡ 16 = length-take-le 16 (drop at row) (omega (arith, length-drop at row, long, room)) in
    ap₂ (λ a b. a * 65536 + b) so_far more
    ∙ sym (ap (bits_from test 0) (take-add at 16 row) ∙ bits_append test 0 (take at row) ds
    ∙ bits_behind test (bits_from test 0 (take at row)) ds
    ∙ ap (λ k. bits_from test 0 (take at row) * 2 ^ k + bits_from test 0 ds) n)

pub block_fits : (test : ℕ → Bool) (row : List ℕ) (at value next : ℕ) → length row ≡ 64 → at + 16 ≤ 64
    → value ≡ bits_from test 0 (take at row) → next ≡ bits_from test 0 (take 16 (drop at row))
    → value * 65536 + next < 2 ^ 64
block_fits test row at value next long room so_far more =
    let n : length (take (at + 16) row) ≡ at + 16 = length-take-le (at + 16) row (omega (arith, long, room)) in
    let small = subst (λ k. bits_from test 0 (take (at + 16) row) < 2 ^ k) n (bits_lt test (take (at + 16) row)) in
    omega (
      arith,
      block_read test row at value next long room so_far more,
      small,
      pow_mono {i = at + 16} {j = 64} room,
    )

-- ---- sixteen lanes from the last to the first

abbrev bit : (ℕ → Bool) → List ℕ → ℕ → ℕ
bit test v k = cond (test (get_or v k 0)) 1 0

sixteen : (b0 b1 b2 b3 b4 b5 b6 b7 b8 b9 b10 b11 b12 b13 b14 b15 : ℕ)
    → b15 + 2 * (b14 + 2
    * (b13 + 2 * (b12 + 2
    * (b11 + 2 * (b10 + 2
    * (b9 + 2 * (b8 + 2
    * (b7 + 2 * (b6 + 2 * (b5 + 2 * (b4 + 2 * (b3 + 2 * (b2 + 2 * (b1 + 2 * (b0 + 2 * 0)))))))))))))))
    ≡ 2 * (2 * (2
    * (2 * (2 * (2
    * (2 * (2 * (2 * (2 * (2 * (2 * (2 * (2 * (2 * (2 * 0 + b0) + b1) + b2) + b3) + b4) + b5) + b6) + b7)
    + b8) + b9) + b10) + b11) + b12) + b13) + b14) + b15
sixteen b0 b1 b2 b3 b4 b5 b6 b7 b8 b9 b10 b11 b12 b13 b14 b15 = omega arith

abbrev pub backwards : List ℕ → List ℕ
backwards v = pick_l 0 (v ++ v) (15 ∷ 14 ∷ 13 ∷ 12 ∷ 11 ∷ 10 ∷ 9 ∷ 8 ∷ 7 ∷ 6 ∷ 5 ∷ 4 ∷ 3 ∷ 2 ∷ 1 ∷ 0 ∷ [])

backwards_bits : (test : ℕ → Bool) (v : List ℕ) → length v ≡ 16
    → mask_l (map test (backwards v)) ≡ bits_from test 0 v
backwards_bits test v long =
    ap (λ l. mask_l (map test l))
    (pick_l_left 0 v v 16 (15 ∷ 14 ∷ 13 ∷ 12 ∷ 11 ∷ 10 ∷ 9 ∷ 8 ∷ 7 ∷ 6 ∷ 5 ∷ 4 ∷ 3 ∷ 2 ∷ 1 ∷ 0 ∷ []) long tt)
    ∙ sixteen (bit test v 0) (bit test v 1) (bit test v 2) (bit test v 3) (bit test v 4) (bit test v 5)
    (bit test v 6) (bit test v 7) (bit test v 8) (bit test v 9) (bit test v 10) (bit test v 11) (bit test v 12)
    (bit test v 13) (bit test v 14) (bit test v 15)
    ∙ ap (bits_from test 0) (pick_l_whole 0 v 16 long)

pub equal_of : (byte : ℕ) (v : List ℕ) → length v ≡ 16
    → mask_l (map (top 7) (zip2 (λ a b. cond (a == b) 255 0) (backwards v) (replicate 16 byte))) % 2 ^ 64
    ≡ bits_from (λ b. b == byte) 0 v
equal_of byte v long =
    bitmask_splat w8 (λ a b. a == b) (backwards v) 16 byte refl (omega arith)
    ∙ backwards_bits (λ b. b == byte) v long

-- ---- two tests that never hold together

either_bit : (p q : Bool) → (p ≡ true → q ≡ false) → (a b : ℕ)
    → 2 * a + cond p 1 0 + (2 * b + cond q 1 0) ≡ 2 * (a + b) + cond (p || q) 1 0
either_bit true true apart a b = absurd (true≢false (apart refl))
either_bit true false apart a b = omega arith
either_bit false true apart a b = omega arith
either_bit false false apart a b = omega arith

bits_either : (f g : ℕ → Bool) → ((x : ℕ) → f x ≡ true → g x ≡ false) → (a b : ℕ) (ds : List ℕ)
    → bits_from f a ds + bits_from g b ds ≡ bits_from (λ x. f x || g x) (a + b) ds
bits_either f g apart a b [] = refl
bits_either f g apart a b (d ∷ ds) =
    bits_either f g apart (2 * a + cond (f d) 1 0) (2 * b + cond (g d) 1 0) ds
    ∙ ap (λ n. bits_from (λ x. f x || g x) n ds) (either_bit (f d) (g d) (apart d) a b)

-- the digits x and X
pub unknown_bits : (ds : List ℕ)
    → bits_from (λ b. b == 120) 0 ds + bits_from (λ b. b == 88) 0 ds ≡ bits_from is_unknown 0 ds
unknown_bits ds =
    bits_either (λ b. b == 120) (λ b. b == 88)
    (λ x h. ne_eqb x 88 (λ e. false≢true (sym (ap (λ k. k == 120) e) ∙ h))) 0 0 ds

pub unknown_fits : (ds : List ℕ) → length ds ≤ 64 → bits_from is_unknown 0 ds < 2 ^ 64
unknown_fits ds few = omega (arith, bits_lt is_unknown ds, pow_mono {i = length ds} {j = 64} few)
