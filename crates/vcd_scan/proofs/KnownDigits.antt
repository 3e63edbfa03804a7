-- The digits 0 and 1 mean themselves.
use Rattle.std.proofs.Common.{◌≡◌, ℕ, Bool, true, false, ◌||◌, if◌then◌else◌, List, [], ◌∷◌, Some, None, refl, ap}
use Rattle.std.proofs.lemmas.Bool.{and_parts}
use Rattle.std.specs.List.{list_all}
use Rattle.std.specs.Prelude.{codes}
use Rattle.vcd_grammar.specs.Digits.{is_unknown, is_open}
use Rattle.vcd_way.specs.Wide.{wide_digit, is_among}
use Rattle.vcd_way.specs.Steps.{one_more}
use Rattle.vcd_way.specs.Events.{is_known_digit}
use Rattle.vcd_scan.specs.Digits.{digit_by, all_digits}

pub known_means : (is_wide : Bool) (b : ℕ) → is_known_digit b ≡ true → digit_by is_wide b ≡ Some b
unfolding wide_digit
known_means true b h = ap (λ u. if u || (is_unknown b || is_open b) then Some b
    else (if is_among (codes "uUwW-") b then Some 120
    else (if is_among (codes "hH") b then Some 49
    else (if is_among (codes "lL") b then Some 48 else None)))) h
known_means false b h = ap (λ u. if u || (is_unknown b || is_open b) then Some b else None) h

pub known_mean : (is_wide : Bool) (bs : List ℕ) → list_all is_known_digit bs ≡ true → all_digits is_wide bs ≡ Some bs
known_mean is_wide [] h = refl
known_mean is_wide (b ∷ bs) h =
    let parts = and_parts (is_known_digit b) (list_all is_known_digit bs) h in
    (λ i. one_more (known_means is_wide b (parts.0) i) (known_mean is_wide bs (parts.1) i))
