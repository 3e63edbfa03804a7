-- The digits and the widths of the strict way.
use Rattle.std.proofs.Common.{◌≡◌, ℕ, ◌≤◌, Bool, true, false, ◌&&◌, ◌||◌, if◌then◌else◌, is_some}
use Rattle.std.proofs.Common.{List, [], ◌∷◌, length, take, map, slice_get, nat_le, nat_lt, Some, None, refl, ap, ◌∙◌}
use Rattle.std.proofs.Common.{arith, suc, zero}
use Rattle.std.specs.List.{list_all}
use Rattle.std.specs.Option.{option_map_or}
use Rattle.std.proofs.lemmas.Bool.{leb-true, ltb-true, ltb-false, lt-ltb, le-ltb, and_parts, or_parts}
use Rattle.std.proofs.lemmas.List.{length-take, take_all}
use Rattle.fsb_signal.specs.Table.{TableEntry, table}
use Rattle.fsb_signal.specs.DumpText.{width_of}
use Rattle.vcd_grammar.specs.Digits.{is_value_digit}
use Rattle.vcd_grammar.specs.Values.{Values, set_line, set_lines}
use Rattle.vcd_grammar.specs.Judging.{is_too_wide}
use Rattle.vcd_way.specs.Events.{whole, set_taps}
use Rattle.vcd_way.specs.Steps.{is_digit_by, one_more, digits_by, is_too_wide_for}
use Rattle.vcd_way.specs.Strict.{strict_rules}

-- ---- digits

some-if : (x : Bool) (b : ℕ) → is_some (if x then Some b else None) ≡ x
some-if true b = refl
some-if false b = refl

pub digit-test : (b : ℕ) → is_digit_by strict_rules b ≡ is_value_digit b
digit-test b = some-if (is_value_digit b) b

pub digits-test : (ds : List ℕ) → list_all (is_digit_by strict_rules) ds ≡ list_all is_value_digit ds
digits-test [] = refl
digits-test (d ∷ ds) =
    ap (λ x. x && list_all (is_digit_by strict_rules) ds) (digit-test d)
    ∙ ap (λ x. is_value_digit d && x) (digits-test ds)

-- digits are what they are
pub digits-meant : (ds : List ℕ) → list_all is_value_digit ds ≡ true → digits_by strict_rules ds ≡ Some ds
digits-meant [] h = refl
digits-meant (d ∷ ds) h =
    let parts = and_parts (is_value_digit d) (list_all is_value_digit ds) h in
    ap (λ x. one_more (if x then Some d else None) (digits_by strict_rules ds)) parts.0
    ∙ ap (one_more (Some d)) (digits-meant ds parts.1)

-- ---- lines and whole taps

pub lines-set : (lines ds : List ℕ) (v : Values) → set_lines v lines ds ≡ set_taps v (map whole lines) ds
lines-set [] ds v = refl
lines-set (n ∷ lines) ds v = lines-set lines ds (set_line v n ds)

-- ---- widths

most : (es : List TableEntry) (n : ℕ) → list_all (λ e. nat_le e.width 64) es ≡ true
    → option_map_or (λ x. x.width) (slice_get es n) 0 ≤ 64
most [] n h = omega arith
most (e ∷ es) zero h = leb-true e.width 64 (and_parts (nat_le e.width 64) (list_all (λ x. nat_le x.width 64) es) h).0
most (e ∷ es) (suc n) h = most es n (and_parts (nat_le e.width 64) (list_all (λ x. nat_le x.width 64) es) h).1

pub narrow : (n : ℕ) → width_of n ≤ 64
narrow n = most table n refl

-- of the digits of a value the first 65 are enough to see whether it is too wide
enough : (w : ℕ) (ds : List ℕ) → w ≤ 64 → nat_lt w (length (take 65 ds)) ≡ nat_lt w (length ds)
enough w ds h = by (nat_lt w (length ds)) refl
  where
    by : (b : Bool) → nat_lt w (length ds) ≡ b → nat_lt w (length (take 65 ds)) ≡ b
    by true e = let wide = ltb-true w (length ds) e in
        lt-ltb w (length (take 65 ds)) (omega (arith, h, wide, length-take 65 ds))
    by false e = let fits = ltb-false w (length ds) e in
        le-ltb w (length (take 65 ds)) (omega (arith, fits, length-take 65 ds))

pub wide-test : (lines ds : List ℕ) → is_too_wide (take 65 ds) lines ≡ is_too_wide_for (map whole lines) ds
wide-test [] ds = refl
wide-test (n ∷ lines) ds =
    ap (λ x. x || is_too_wide (take 65 ds) lines) (enough (width_of n) ds (narrow n))
    ∙ ap (λ x. nat_lt (width_of n) (length ds) || x) (wide-test lines ds)

-- a value that is not too wide for a line has no more digits than these
few : (w : ℕ) (ds : List ℕ) → w ≤ 64 → nat_lt w (length (take 65 ds)) ≡ false → take 65 ds ≡ ds
few w ds h e =
    let fits = ltb-false w (length (take 65 ds)) e in
    take_all 65 ds (omega (arith, h, fits, length-take 65 ds))

pub wide-set : (lines ds : List ℕ) → is_too_wide (take 65 ds) lines ≡ false → (v : Values)
    → set_lines v lines (take 65 ds) ≡ set_taps v (map whole lines) ds
wide-set [] ds h v = refl
wide-set (n ∷ lines) ds h v =
    let parts = or_parts (nat_lt (width_of n) (length (take 65 ds))) (is_too_wide (take 65 ds) lines) h in
    ap (λ x. set_lines v (n ∷ lines) x) (few (width_of n) ds (narrow n) parts.0) ∙ lines-set (n ∷ lines) ds v
