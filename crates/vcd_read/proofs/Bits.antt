-- The bits of a value, read from the left.
use Rattle.std.proofs.Common.{◌≡◌, ℕ, ◌+◌, ◌-◌, ◌*◌, ◌^◌, ◌<◌, ◌≤◌, Bool, true, false, List, ◌++◌, length, get_or, drop}
use Rattle.std.proofs.Common.{replicate, slice_index, cond, refl, sym, ap, ◌∙◌, arith, suc, zero}
use Rattle.std.proofs.Math.Nat.{pow-succ'}
use Rattle.std.proofs.lemmas.Nat.{pow_pos}
use Rattle.std.proofs.lemmas.List.{drop_more, drop_all}
use Rattle.vcd_grammar.specs.Digits.{extended, pad_of}
use Rattle.vcd_grammar.specs.Levels.{bits_from}

-- one more digit that passes, and one that does not
one_more : (n p : ℕ) → (2 * n + 1 + 1) * p - 1 ≡ (n + 1) * (2 * p) - 1
one_more n p = ap (λ k. k - 1) (grind arith)

none_more : (n p : ℕ) → (2 * n + 0) * p ≡ n * (2 * p)
none_more n p = grind arith

-- digits that pass, before others
pub ones_before : (test : ℕ → Bool) (p m n : ℕ) (ds : List ℕ) → test p ≡ true
    → bits_from test n (replicate m p ++ ds) ≡ bits_from test ((n + 1) * 2 ^ m - 1) ds
ones_before test p zero n ds h = ap (λ k. bits_from test k ds) (omega arith)
ones_before test p (suc m) n ds h =
    ap (λ b. bits_from test (2 * n + cond b 1 0) (replicate m p ++ ds)) h
    ∙ ones_before test p m (2 * n + 1) ds h
    ∙ ap (λ k. bits_from test k ds) (one_more n (2 ^ m) ∙ ap (λ q. (n + 1) * q - 1) (sym (pow-succ' 2 m)))

-- digits that do not, before others
pub none_before : (test : ℕ → Bool) (p m n : ℕ) (ds : List ℕ) → test p ≡ false
    → bits_from test n (replicate m p ++ ds) ≡ bits_from test (n * 2 ^ m) ds
none_before test p zero n ds h = ap (λ k. bits_from test k ds) (omega arith)
none_before test p (suc m) n ds h =
    ap (λ b. bits_from test (2 * n + cond b 1 0) (replicate m p ++ ds)) h
    ∙ none_before test p m (2 * n + 0) ds h
    ∙ ap (λ k. bits_from test k ds) (none_more n (2 ^ m) ∙ ap (λ q. n * q) (sym (pow-succ' 2 m)))

-- what digits that are put before others make of no bits
filled : (test : ℕ → Bool) (p m : ℕ) (ds : List ℕ) (b : Bool) → test p ≡ b
    → bits_from test (cond b (2 ^ m - 1) 0) ds ≡ bits_from test 0 (replicate m p ++ ds)
filled test p m ds true h = sym (ones_before test p m 0 ds h ∙ ap (λ k. bits_from test k ds) (omega arith))
filled test p m ds false h = sym (none_before test p m 0 ds h ∙ ap (λ k. bits_from test k ds) (omega arith))

-- the digits of a value go on behind those that extend it
pub extended_bits : (test : ℕ → Bool) (width : ℕ) (digits : List ℕ) (pad ones fill : ℕ)
    → pad ≡ pad_of (slice_index digits 0) → ones ≡ 2 ^ (width - length digits) - 1
    → fill ≡ cond (test pad) ones 0 → bits_from test fill digits ≡ bits_from test 0 (extended width digits)
unfolding extended
extended_bits test width digits pad ones fill pad_is ones_is fill_is =
    rw (fill_is, ones_is, pad_is)
    (filled test (pad_of (slice_index digits 0)) (width - length digits) digits
    (test (pad_of (slice_index digits 0))) refl)

-- the bits that extend a value are as many as its missing digits
pub fill_fits : (b : Bool) (m ones fill : ℕ) → ones ≡ 2 ^ m - 1 → fill ≡ cond b ones 0 → fill < 2 ^ (m + 0)
fill_fits true m ones fill h k = let p = pow_pos m in let e : m + 0 ≡ m = omega arith in rw e (omega (arith, h, k, p))
fill_fits false m ones fill h k = let e : m + 0 ≡ m = omega arith in rw (e, k) (pow_pos m)

-- one more digit
pub bits_more : (test : ℕ → Bool) (acc bit i : ℕ) (ds : List ℕ) (whole : ℕ) → i < length ds
    → bits_from test acc (drop i ds) ≡ whole → bit ≡ cond (test (get_or ds i 0)) 1 0
    → bits_from test (2 * acc + bit) (drop (i + 1) ds) ≡ whole
bits_more test acc bit i ds whole within h k =
    ap (λ b. bits_from test (2 * acc + b) (drop (i + 1) ds)) k
    ∙ sym (ap (bits_from test acc) (drop_more ds i 0 within)) ∙ h

-- one more digit fits
pub bits_fit : (b : Bool) (m i acc bit : ℕ) → bit ≡ cond b 1 0 → acc < 2 ^ (m + i) → 2 * acc + bit < 2 ^ (m + (i + 1))
bits_fit true m i acc bit h k = let e : m + (i + 1) ≡ suc (m + i) = omega arith in
    rw (e, pow-succ' 2 (m + i)) (omega (arith, h, k))
bits_fit false m i acc bit h k = let e : m + (i + 1) ≡ suc (m + i) = omega arith in
    rw (e, pow-succ' 2 (m + i)) (omega (arith, h, k))

-- all digits were read
pub bits_read : (test : ℕ → Bool) (acc i : ℕ) (ds : List ℕ) (whole : ℕ) → length ds ≤ i
    → bits_from test acc (drop i ds) ≡ whole → acc ≡ whole
bits_read test acc i ds whole past h = sym (ap (bits_from test acc) (drop_all i ds past)) ∙ h
