-- The widths of the signal table.
use Rattle.std.proofs.Common.{◌≡◌, ℕ, ◌<◌, ◌≤◌, true, false, ◌||◌, List, [], ◌∷◌, length, slice_get, slice_index}
use Rattle.std.proofs.Common.{nat_le, nat_lt, refl, arith, suc, zero}
use Rattle.std.specs.List.{list_all}
use Rattle.std.specs.Option.{option_map_or}
use Rattle.std.proofs.lemmas.Bool.{leb-true, ltb-false, and_parts, or_parts}
use Rattle.fsb_signal.specs.Table.{TableEntry}
use Rattle.fsb_signal.specs.DumpText.{width_of}
use Rattle.vcd_grammar.specs.Digits.{extended}

-- no width of entries that pass the test is above 64
most : (es : List TableEntry) (n : ℕ) → list_all (λ e. nat_le e.width 64) es ≡ true
    → option_map_or (λ x. x.width) (slice_get es n) 0 ≤ 64
most [] n h = omega arith
most (e ∷ es) zero h = leb-true e.width 64 (and_parts (nat_le e.width 64) (list_all (λ x. nat_le x.width 64) es) h).0
most (e ∷ es) (suc n) h = most es n (and_parts (nat_le e.width 64) (list_all (λ x. nat_le x.width 64) es) h).1

-- a value that is not too wide fits
pub fits : (digits : List ℕ) (n : ℕ) → (nat_lt (width_of n) (length digits) || false) ≡ false
    → length digits ≤ width_of n
fits digits n h = ltb-false _ _ (or_parts _ _ h).0

-- the digit of a value of one digit at most
pub no_digit : (digits : List ℕ) → length digits < 1 → 48 ≡ slice_index (extended 1 digits) 0
unfolding extended
no_digit [] h = refl
no_digit (d ∷ ds) h = absurd (omega (arith, h))

pub one_digit : (digits : List ℕ) → length digits ≤ 1 → 1 ≤ length digits
    → slice_index digits 0 ≡ slice_index (extended 1 digits) 0
unfolding extended
one_digit [] h k = absurd (omega (arith, k))
one_digit (d ∷ []) h k = refl
one_digit (d ∷ e ∷ ds) h k = absurd (omega (arith, h))
