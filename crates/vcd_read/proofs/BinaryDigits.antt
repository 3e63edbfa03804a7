-- Digits 0 and 1 as a number, sixteen at a time.
use Rattle.std.proofs.Common.{◌≡◌, ℕ, ◌+◌, ◌-◌, ◌*◌, ◌/◌, ◌%◌, ◌^◌, ◌<◌, ◌≤◌, zero, suc, Bool, true, false, ◌==◌, List}
use Rattle.std.proofs.Common.{[], ◌∷◌, ◌++◌, map, length, take, drop, slice_index, get_or, cond, replicate, refl, sym}
use Rattle.std.proofs.Common.{ap, ap₂, ◌∙◌, subst, arith, w8}
use Rattle.std.proofs.Math.Nat.{pow-succ', pow-le-pow_right, mod-eq_of_lt}
use Rattle.std.proofs.Math.Seq.{take-add}
use Rattle.std.proofs.lemmas.Nat.{pow-add, pow_pos, shr_high}
use Rattle.std.proofs.lemmas.Bool.{and_parts, ne_eqb, false≢true}
use Rattle.std.proofs.lemmas.List.{take-append-drop, length-take-le, length-drop, take-take}
use Rattle.std.proofs.lemmas.Simd.{bitmask_splat, pick_l_left, pick_l_whole}
use Rattle.std.specs.List.{list_all}
use lib.Lanes.{mask_l, pick_l, zip2, top}
use Rattle.vcd_grammar.specs.Digits.{is_unknown, extended, pad_of}
use Rattle.vcd_grammar.specs.Levels.{bits_from, is_low, level_of}
use Rattle.vcd_read.specs.Lanes.{is_binary}
use Rattle.vcd_read.proofs.Bits.{ones_before, none_before}

-- digits behind a number
one_bit : (n b p r : ℕ) → (2 * n + b) * p + r ≡ n * (2 * p) + ((2 * 0 + b) * p + r)
one_bit n b p r = grind arith

pub bits_behind : (test : ℕ → Bool) (n : ℕ) (ds : List ℕ)
    → bits_from test n ds ≡ n * 2 ^ length ds + bits_from test 0 ds
bits_behind test n [] = omega arith
bits_behind test n (d ∷ ds) =
    let b = cond (test d) 1 0 in
    bits_behind test (2 * n + b) ds ∙ one_bit n b (2 ^ length ds) (bits_from test 0 ds)
    ∙ sym (ap₂ (λ q r. n * q + r) (pow-succ' 2 (length ds)) (bits_behind test (2 * 0 + b) ds))

pub bits_append : (test : ℕ → Bool) (n : ℕ) (xs ys : List ℕ)
    → bits_from test n (xs ++ ys) ≡ bits_from test (bits_from test n xs) ys
bits_append test n [] ys = refl
bits_append test n (x ∷ xs) ys = bits_append test (2 * n + cond (test x) 1 0) xs ys

bit_lt : (b : Bool) (p r : ℕ) → r < p → (2 * 0 + cond b 1 0) * p + r < 2 * p
bit_lt true p r h = omega (arith, h)
bit_lt false p r h = omega (arith, h)

pub bits_lt : (test : ℕ → Bool) (ds : List ℕ) → bits_from test 0 ds < 2 ^ length ds
bits_lt test [] = omega arith
bits_lt test (d ∷ ds) =
    rw (pow-succ' 2 (length ds), bits_behind test (2 * 0 + cond (test d) 1 0) ds)
    (bit_lt (test d) (2 ^ length ds) (bits_from test 0 ds) (bits_lt test ds))

-- more digits, and the first of some
pub bits_more_digits : (test : ℕ → Bool) (at run : ℕ) (text : List ℕ) → at + run ≤ length text
    → bits_from test 0 (take (at + run) text) ≡ bits_from test 0 (take at text) * 2 ^ run + bits_from test 0
    (take run (drop at text))
bits_more_digits test at run text room =
    let long : length (take run (drop at text)) ≡ run =
    length-take-le run (drop at text) (omega (arith, length-drop at text, room)) in
    ap (bits_from test 0) (take-add at run text) ∙ bits_append test 0 (take at text) (take run (drop at text))
    ∙ bits_behind test (bits_from test 0 (take at text)) (take run (drop at text))
    ∙ ap (λ n. bits_from test 0 (take at text) * 2 ^ n + bits_from test 0 (take run (drop at text))) long

pub bits_first : (test : ℕ → Bool) (run : ℕ) (ds : List ℕ) → length ds ≡ 16 → run < 16
    → bits_from test 0 ds / 2 ^ (16 - run) ≡ bits_from test 0 (take run ds)
bits_first test run ds long few =
    let rest : length (drop run ds) ≡ 16 - run = omega (arith, length-drop run ds, long) in
    let small = subst (λ n. bits_from test 0 (drop run ds) < 2 ^ n) rest (bits_lt test (drop run ds)) in
    let whole : bits_from test 0 ds ≡ bits_from test 0 (take run ds) * 2 ^ (16 - run) + bits_from test 0 (drop run ds) =
    ap (bits_from test 0) (sym (take-append-drop run ds)) ∙ bits_append test 0 (take run ds) (drop run ds)
    ∙ bits_behind test (bits_from test 0 (take run ds)) (drop run ds)
    ∙ ap (λ n. bits_from test 0 (take run ds) * 2 ^ n + bits_from test 0 (drop run ds)) rest in
    ap (λ n. n / 2 ^ (16 - run)) whole
    ∙ shr_high (bits_from test 0 (take run ds)) (16 - run) (bits_from test 0 (drop run ds)) small

pub bits_small : (test : ℕ → Bool) (n most : ℕ) (ds : List ℕ) → length ds ≡ n → n ≤ most
    → bits_from test 0 ds < 2 ^ most
bits_small test n most ds long le =
    let below = subst (λ k. bits_from test 0 ds < 2 ^ k) long (bits_lt test ds) in
    omega (arith, below, pow-le-pow_right {n = 2} (omega arith) le)

-- sixteen bytes at a time: some whole ones, and then a run of the next
module _ (text : List ℕ) (at low bits : ℕ) (room : 64 ≤ length text) (within : at + 16 ≤ 64)
    (value : bits_from is_low 0 (take at text) ≡ low) (next : bits ≡ bits_from is_low 0 (take 16 (drop at text))) where
  next_long : length (take 16 (drop at text)) ≡ 16
  next_long = length-take-le 16 (drop at text) (omega (arith, length-drop at text, room, within))

  whole : (run : ℕ) → run ≤ 16
      → bits_from is_low 0 (take (at + run) text) ≡ low * 2 ^ run + bits_from is_low 0 (take run (drop at text))
  whole run few = bits_more_digits is_low at run text (omega (arith, room, within, few))
      ∙ ap (λ n. n * 2 ^ run + bits_from is_low 0 (take run (drop at text))) value

  small : (run : ℕ) → run ≤ 16 → bits_from is_low 0 (take (at + run) text) < 2 ^ 64
  small run few =
      bits_small is_low (at + run) 64 (take (at + run) text)
      (length-take-le (at + run) text (omega (arith, room, within, few))) (omega (arith, within, few))

  pub run_read : (run : ℕ) → run < 16
      → low * 2 ^ run % 2 ^ 64 + bits / 2 ^ (16 - run) ≡ bits_from is_low 0 (take (at + run) text)
  run_read run few =
      let le : run ≤ 16 = omega (arith, few) in
      let kept = mod-eq_of_lt {n = low * 2 ^ run} {m = 2 ^ 64} (omega (arith, whole run le, small run le)) in
      let last : bits / 2 ^ (16 - run) ≡ bits_from is_low 0 (take run (drop at text)) =
      ap (λ n. n / 2 ^ (16 - run)) next ∙ bits_first is_low run (take 16 (drop at text)) next_long few
      ∙ ap (bits_from is_low 0) (take-take run 16 (drop at text) le) in
      ap₂ (λ a b. a + b) kept last ∙ sym (whole run le)

  pub run_fits : (run : ℕ) → run < 16 → low * 2 ^ run % 2 ^ 64 + bits / 2 ^ (16 - run) < 2 ^ 64
  run_fits run few = subst (λ n. n < 2 ^ 64) (sym (run_read run few)) (small run (omega (arith, few)))

  pub block_read : low * 65536 + bits ≡ bits_from is_low 0 (take (at + 16) text)
  block_read = ap (λ n. low * 65536 + n) next ∙ sym (whole 16 (omega arith))

  pub block_fits : low * 65536 + bits < 2 ^ 64
  block_fits = subst (λ n. n < 2 ^ 64) (sym block_read) (small 16 (omega arith))

-- sixteen lanes from the last to the first
abbrev bit : List ℕ → ℕ → ℕ
bit v k = cond (get_or v k 0 == 48) 1 0

sixteen : (b0 b1 b2 b3 b4 b5 b6 b7 b8 b9 b10 b11 b12 b13 b14 b15 : ℕ)
    → b15 + 2 * (b14 + 2
    * (b13 + 2 * (b12 + 2
    * (b11 + 2 * (b10 + 2
    * (b9 + 2 * (b8 + 2
    * (b7 + 2 * (b6 + 2 * (b5 + 2 * (b4 + 2 * (b3 + 2 * (b2 + 2 * (b1 + 2 * (b0 + 2 * 0)))))))))))))))
    ≡ 2 * (2 * (2
    * (2 * (2 * (2
    * (2 * (2 * (2 * (2 * (2 * (2 * (2 * (2 * (2 * (2 * 0 + b0) + b1) + b2) + b3) + b4) + b5) + b6) + b7)
    + b8) + b9) + b10) + b11) + b12) + b13) + b14) + b15
sixteen b0 b1 b2 b3 b4 b5 b6 b7 b8 b9 b10 b11 b12 b13 b14 b15 = omega arith

pub zeros_of : (v : List ℕ) → length v ≡ 16
    → mask_l (map (top 7)
    (zip2 (λ a b. cond (a == b) 255 0)
    (pick_l 0 (v ++ v) (15 ∷ 14 ∷ 13 ∷ 12 ∷ 11 ∷ 10 ∷ 9 ∷ 8 ∷ 7 ∷ 6 ∷ 5 ∷ 4 ∷ 3 ∷ 2 ∷ 1 ∷ 0 ∷ []))
    (replicate 16 48))) % 2 ^ 64 ≡ bits_from is_low 0 v
zeros_of v long =
    bitmask_splat w8 (λ a b. a == b)
    (pick_l 0 (v ++ v) (15 ∷ 14 ∷ 13 ∷ 12 ∷ 11 ∷ 10 ∷ 9 ∷ 8 ∷ 7 ∷ 6 ∷ 5 ∷ 4 ∷ 3 ∷ 2 ∷ 1 ∷ 0 ∷ [])) 16 48
    refl (omega arith)
    ∙ ap (λ l. mask_l (map (λ x. x == 48) l))
    (pick_l_left 0 v v 16 (15 ∷ 14 ∷ 13 ∷ 12 ∷ 11 ∷ 10 ∷ 9 ∷ 8 ∷ 7 ∷ 6 ∷ 5 ∷ 4 ∷ 3 ∷ 2 ∷ 1 ∷ 0 ∷ []) long tt)
    ∙ sixteen (bit v 0) (bit v 1) (bit v 2) (bit v 3) (bit v 4) (bit v 5) (bit v 6) (bit v 7) (bit v 8)
    (bit v 9) (bit v 10) (bit v 11) (bit v 12) (bit v 13) (bit v 14) (bit v 15)
    ∙ ap (bits_from is_low 0) (pick_l_whole 0 v 16 long)

-- digits 0 and 1 are neither x nor z
no_binary : (n d : ℕ) → is_binary n ≡ false → is_binary d ≡ true → (d == n) ≡ false
no_binary n d not_n is = ne_eqb d n (λ e. false≢true (sym not_n ∙ sym (ap (λ c. is_binary c) e) ∙ is))

binary_known : (d : ℕ) → is_binary d ≡ true → is_unknown d ≡ false
binary_known d h = rw (no_binary 120 d refl h, no_binary 88 d refl h) refl

binary_pad : (ds : List ℕ) → list_all is_binary ds ≡ true → pad_of (slice_index ds 0) ≡ 48
binary_pad [] h = refl
binary_pad (d ∷ ds) h =
    let p = and_parts _ _ h in
    rw (no_binary 120 d refl p.0, no_binary 88 d refl p.0, no_binary 122 d refl p.0, no_binary 90 d refl p.0) refl

none_unknown : (ds : List ℕ) → list_all is_binary ds ≡ true → bits_from is_unknown 0 ds ≡ 0
none_unknown [] h = refl
none_unknown (d ∷ ds) h =
    let p = and_parts _ _ h in
    ap (λ b. bits_from is_unknown (2 * 0 + cond b 1 0) ds) (binary_known d p.0) ∙ none_unknown ds p.1

-- digits 0 and 1, extended to a width
widened : (p q z : ℕ) → 0 < p → 0 < q → (p * q - 1) - (q - 1) + z ≡ ((0 + 1) * p - 1) * q + z
widened zero q z h k = absurd (omega (arith, h))
widened (suc p) q z h k =
    let one : (0 + 1) * suc p - 1 ≡ p = omega arith in
    let more : suc p * q ≡ p * q + q = grind arith in
    rw (one, more) (omega (arith, k))

pub binary_level : (width count low ones some : ℕ) (digits : List ℕ) → count ≤ width → length digits ≡ count
    → list_all is_binary digits ≡ true
    → bits_from is_low 0 digits ≡ low
    → ones ≡ 2 ^ width - 1 → some ≡ 2 ^ count - 1
    → record { asserted = ones - some + low; unknown = 0 } ≡ level_of (extended width digits)
unfolding level_of extended
binary_level width count low ones some digits fits long binary value ones_are some_are =
    let m = width - length digits in
    let padded = ap (λ p. replicate m p ++ digits) (binary_pad digits binary) in
    let power : 2 ^ width ≡ 2 ^ m * 2 ^ length digits = let e : width ≡ m + length digits =
    omega (arith, fits, long) in ap (λ n. 2 ^ n) e ∙ pow-add 2 m (length digits) in
    let asserted : bits_from is_low 0 (replicate m (pad_of (slice_index digits 0)) ++ digits)
    ≡ ((0 + 1) * 2 ^ m - 1) * 2 ^ length digits + low =
    ap (bits_from is_low 0) padded ∙ ones_before is_low 48 m 0 digits refl
    ∙ bits_behind is_low ((0 + 1) * 2 ^ m - 1) digits ∙ ap (λ z. ((0 + 1) * 2 ^ m - 1) * 2 ^ length digits + z) value in
    let bits : ones - some + low ≡ ((0 + 1) * 2 ^ m - 1) * 2 ^ length digits + low =
    ap₂ (λ a b. a - b + low) (ones_are ∙ ap (λ p. p - 1) power) (some_are ∙ ap (λ n. 2 ^ n - 1) (sym long))
    ∙ widened (2 ^ m) (2 ^ length digits) low (pow_pos m) (pow_pos (length digits)) in
    let nothing : 0 * 2 ^ m ≡ 0 = omega arith in
    let unknown : bits_from is_unknown 0 (replicate m (pad_of (slice_index digits 0)) ++ digits) ≡ 0 =
    ap (bits_from is_unknown 0) padded ∙ none_before is_unknown 48 m 0 digits refl
    ∙ ap (λ n. bits_from is_unknown n digits) nothing ∙ none_unknown digits binary in
    λ i. record { asserted = (bits ∙ sym asserted) i; unknown = sym unknown i }
