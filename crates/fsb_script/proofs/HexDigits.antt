-- The table of hexadecimal digits.
use Rattle.std.proofs.Common.{◌≡◌, ℕ, ◌-◌, ◌<◌, ◌≤◌, Bool, true, false, eqb, cond, Result, Ok, Err, get_or, refl, ap}
use Rattle.std.proofs.Common.{◌∙◌, arith}
use Rattle.std.specs.Prelude.{◌&&◌, nat_lt, nat_le}
use Rattle.std.proofs.lemmas.Bool.{agree_below_at, leb-true, lt-ltb, ltb-true, eqb-true, and_parts}
use Rattle.fsb_script.specs.declared.fault.Cause.{Cause}
use Rattle.fsb_script.specs.declared.fault.Cause.TheVariants.{Number}
use Rattle.fsb_script.specs.declared.word.TheConstants.{DIGITS}
use Rattle.fsb_script.specs.TextWords.{hex_digit}

-- the value of a digit, and 16 for what is none
abbrev value : Result ℕ Cause → ℕ
value (Ok n) = n
value (Err cause) = 16

-- a value below 16 as a digit
abbrev pub digit_of : ℕ → Result ℕ Cause
digit_of n = cond (nat_lt n 16) (Ok n) (Err Number)

-- a number as a digit that was read
abbrev digit : ℕ → Result ℕ Cause
digit n = Ok n

valued : (b : ℕ) → hex_digit b ≡ digit_of (value (hex_digit b))
unfolding hex_digit
valued b = by (nat_le 48 b && nat_le b 57) (nat_le 97 b && nat_le b 102) (nat_le 65 b && nat_le b 70) refl refl refl
  where
    small : (n : ℕ) → n < 16 → digit n ≡ digit_of n
    small n below = rw (lt-ltb n 16 below) refl

    by : (s t u : Bool) → (nat_le 48 b && nat_le b 57) ≡ s → (nat_le 97 b && nat_le b 102) ≡ t
        → (nat_le 65 b && nat_le b 70) ≡ u
        → cond s (Ok (b - 48)) (cond t (Ok (b - 87)) (cond u (Ok (b - 55)) (Err Number))) ≡ digit_of
        (value (cond s (Ok (b - 48)) (cond t (Ok (b - 87)) (cond u (Ok (b - 55)) (Err Number)))))
    by true t u p q r = let high = leb-true b 57 (and_parts (nat_le 48 b) (nat_le b 57) p).1 in small (b - 48)
        (omega (arith, high))
    by false true u p q r = let high = leb-true b 102 (and_parts (nat_le 97 b) (nat_le b 102) q).1 in small (b - 87)
        (omega (arith, high))
    by false false true p q r = let high = leb-true b 70 (and_parts (nat_le 65 b) (nat_le b 70) r).1 in small (b - 55)
        (omega (arith, high))
    by false false false p q r = refl

tabled : (b : ℕ) → b < 256 → value (hex_digit b) ≡ get_or DIGITS b 0
unfolding hex_digit
tabled b below = eqb-true _ _ (agree_below_at (λ n. eqb (value (hex_digit n)) (get_or DIGITS n 0))
    (λ n. true) 256 b refl below)

pub digit_found : (b : ℕ) → b < 256 → hex_digit b ≡ digit_of (get_or DIGITS b 0)
digit_found b below = valued b ∙ ap digit_of (tabled b below)

pub none_found : (b : ℕ) → b < 256 → 16 ≤ get_or DIGITS b 0 → hex_digit b ≡ Err Number
none_found b below high = digit_found b below ∙ by (nat_lt (get_or DIGITS b 0) 16) refl
  where
    by : (t : Bool) → nat_lt (get_or DIGITS b 0) 16 ≡ t → cond t (digit (get_or DIGITS b 0)) (Err Number) ≡ Err Number
    by true small = let few : get_or DIGITS b 0 < 16 = ltb-true (get_or DIGITS b 0) 16 small in absurd (omega arith)
    by false large = refl
