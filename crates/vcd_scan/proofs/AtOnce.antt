-- A vector of digits 0 and 1 and the code behind it, as two tokens.
use Rattle.std.proofs.Common.{◌≡◌, ℕ, Bool, true, false, not, ◌&&◌, ◌||◌, if◌then◌else◌, nat_le, List, [], ◌∷◌, ◌++◌, length, is_some, refl, sym, ap}
use Rattle.std.proofs.Common.{◌∙◌, Some, None, arith, append_assoc}
use Rattle.std.specs.List.{list_all}
use Rattle.std.proofs.lemmas.Bool.{and_parts, le-ltb, leb-false}
use Rattle.vcd_grammar.specs.Tokens.{Token, longest, is_long, tokens_so_far}
use Rattle.vcd_grammar.specs.Words.{Vector, Wrong, scalar_word}
use Rattle.vcd_way.specs.declared.tap.Tap.{Tap}
use Rattle.vcd_way.specs.Ways.{ValueRules}
use Rattle.vcd_way.specs.Wide.{wide_digit}
use Rattle.vcd_way.specs.Pieces.{Gets}
use Rattle.vcd_way.specs.Events.{is_known_digit}
use Rattle.vcd_way.specs.Steps.{Step, DumpState, AtValues, AtCode, step, moves_to, word_step, vector_by, value_word_by, vector_digits, is_unreadable, is_digit_by, digits_by, is_too_wide_for, state_after, happenings_in}
use Rattle.vcd_scan.specs.Digits.{digit_by}
use Rattle.vcd_scan.specs.Wired.{Wiring, wired, taps_in}
use Rattle.vcd_scan.proofs.KnownDigits.{known_means, known_mean}
use Rattle.vcd_scan.proofs.Steps.{step_is, digits_same, vector_there, given_good}

-- digits 0 and 1 are digits
all_known : (m : ValueRules) (is_wide : Bool) (bs : List ℕ) → m.digit ≡ digit_by is_wide
    → list_all is_known_digit bs ≡ true → list_all (is_digit_by m) bs ≡ true
all_known m is_wide [] d h = refl
all_known m is_wide (b ∷ bs) d h =
    let parts = and_parts (is_known_digit b) (list_all is_known_digit bs) h in
    let first : m.digit b ≡ Some b = ap (λ f. f b) d ∙ known_means is_wide b parts.0 in
    λ i. is_some (first i) && all_known m is_wide bs d parts.1 i

-- some of them are a vector
vector_known : (m : ValueRules) (is_wide : Bool) (bs : List ℕ) → m.digit ≡ digit_by is_wide
    → is_unreadable bs ≡ false → list_all is_known_digit bs ≡ true → vector_by m bs ≡ Vector bs
vector_known m is_wide [] d u h = absurd cc
vector_known m is_wide (b ∷ bs) d u h = by m.takes_any
  where
    by : (takes : Bool) → (if takes || list_all (is_digit_by m) (b ∷ bs) then Vector (b ∷ bs) else Wrong) ≡ Vector (b ∷ bs)
    by true = refl
    by false = ap (λ x. if x then Vector (b ∷ bs) else Wrong) (all_known m is_wide (b ∷ bs) d h)

begins_vector : (is_wide : Bool) (m : ValueRules) (bs : List ℕ) → m.digit ≡ digit_by is_wide
    → value_word_by m (98 ∷ bs) ≡ vector_by m bs
unfolding value_word_by wide_digit
begins_vector true m bs d = λ i. if is_some (d i 98) then scalar_word 98 bs else vector_by m bs
begins_vector false m bs d = λ i. if is_some (d i 98) then scalar_word 98 bs else vector_by m bs

both_false : (a b : Bool) → (a || b) ≡ false → b ≡ false
both_false true b h = absurd cc
both_false false b h = h

-- a vector that can be read is not too long
pub readable_short : (bs : List ℕ) → is_unreadable bs ≡ false → is_long (98 ∷ bs) ≡ false
readable_short bs h =
    let few = leb-false longest (length bs) (both_false _ (nat_le longest (length bs)) h) in
    le-ltb longest (length (98 ∷ bs)) (omega (arith, few))

word_of_vector : {W : Type 0} (takes long : Bool) (x y : Step W) → long ≡ false
    → (if not (takes && true) && long then x else y) ≡ y
word_of_vector true long x y h = refl
word_of_vector false long x y h = ap (λ b. if b then x else y) h

-- the vector
first_step : (m : ValueRules) (is_wide : Bool) (s : DumpState Wiring) (place : ℕ) (digits : List ℕ)
    → m.digit ≡ digit_by is_wide → s.fault ≡ None → s.spot ≡ AtValues → is_unreadable digits ≡ false
    → list_all is_known_digit digits ≡ true
    → step (wired m) s (record { place = place; word = 98 ∷ digits }) ≡ moves_to s (AtCode place digits)
first_step m is_wide s place digits d none between readable known =
    let t : Token = record { place = place; word = 98 ∷ digits } in
    step_is m s t AtValues none between
    ∙ ap (word_step (wired m) s t) (begins_vector is_wide m digits d ∙ vector_known m is_wide digits d readable known)
    ∙ word_of_vector m.takes_any (is_long t.word) _ _ (readable_short digits readable)

-- the code behind it
second_step : (m : ValueRules) (is_wide : Bool) (s : DumpState Wiring) (place behind : ℕ) (digits code : List ℕ)
    (taps : List Tap) → m.digit ≡ digit_by is_wide → s.fault ≡ None → s.spot ≡ AtCode place digits
    → is_unreadable digits ≡ false → list_all is_known_digit digits ≡ true → is_long code ≡ false
    → taps_in s.header.codes code ≡ Some taps → is_too_wide_for taps digits ≡ false
    → step (wired m) s (record { place = behind; word = code })
    ≡ record { state = record s { spot = AtValues }; happenings = Gets (record { taps = taps; digits = digits }) ∷ [] }
second_step m is_wide s place behind digits code taps d none here readable known short found narrow =
    let t : Token = record { place = behind; word = code } in
    let meant : vector_digits m digits ≡ Some digits = let_pass m.takes_any (is_unreadable digits) readable
    ∙ digits_same m is_wide digits d ∙ known_mean is_wide digits known in
    step_is m s t (AtCode place digits) none here
    ∙ vector_there m s t place digits (taps_in s.header.codes code) taps (Some digits) short found narrow meant
    ∙ given_good s place taps digits
  where
    let_pass : (takes u : Bool) → u ≡ false → (if takes && u then None else digits_by m digits) ≡ digits_by m digits
    let_pass true u h = ap (λ b. if b then None else digits_by m digits) h
    let_pass false u h = refl

-- what both do
pub both_steps : (m : ValueRules) (is_wide : Bool) (s : DumpState Wiring) (place behind : ℕ) (digits code : List ℕ)
    (taps : List Tap) → m.digit ≡ digit_by is_wide → s.fault ≡ None → s.spot ≡ AtValues
    → is_unreadable digits ≡ false → list_all is_known_digit digits ≡ true → is_long code ≡ false
    → taps_in s.header.codes code ≡ Some taps → is_too_wide_for taps digits ≡ false
    → state_after (wired m) s
    (record { place = place; word = 98 ∷ digits } ∷ record { place = behind; word = code } ∷ [])
    ≡ record s { spot = AtValues }
both_steps m is_wide s place behind digits code taps d none between readable known short found narrow =
    let s2 : DumpState Wiring = record s { spot = AtCode place digits } in
    ap (λ (y : Step Wiring). (step (wired m) y.state (record { place = behind; word = code })).state)
    (first_step m is_wide s place digits d none between readable known)
    ∙ ap (λ (y : Step Wiring). y.state)
    (second_step m is_wide s2 place behind digits code taps d none refl readable known short found narrow)

pub both_happen : (m : ValueRules) (is_wide : Bool) (s : DumpState Wiring) (place behind : ℕ) (digits code : List ℕ)
    (taps : List Tap) → m.digit ≡ digit_by is_wide → s.fault ≡ None → s.spot ≡ AtValues
    → is_unreadable digits ≡ false → list_all is_known_digit digits ≡ true → is_long code ≡ false
    → taps_in s.header.codes code ≡ Some taps → is_too_wide_for taps digits ≡ false
    → happenings_in (wired m) s
    (record { place = place; word = 98 ∷ digits } ∷ record { place = behind; word = code } ∷ [])
    ≡ Gets (record { taps = taps; digits = digits }) ∷ []
both_happen m is_wide s place behind digits code taps d none between readable known short found narrow =
    let s2 : DumpState Wiring = record s { spot = AtCode place digits } in
    let u : Token = record { place = behind; word = code } in
    ap (λ (y : Step Wiring). y.happenings ++ ((step (wired m) y.state u).happenings ++ []))
    (first_step m is_wide s place digits d none between readable known)
    ∙ ap (λ (y : Step Wiring). y.happenings ++ [])
    (second_step m is_wide s2 place behind digits code taps d none refl readable known short found narrow)

-- the tokens that count in two parts of some bytes
pub pair_tokens : (fed xs ys zs : List ℕ) (t u : Token) → zs ≡ xs ++ ys
    → tokens_so_far (fed ++ xs) ≡ tokens_so_far fed ++ t ∷ []
    → tokens_so_far ((fed ++ xs) ++ ys) ≡ tokens_so_far (fed ++ xs) ++ u ∷ []
    → tokens_so_far (fed ++ zs) ≡ tokens_so_far fed ++ t ∷ u ∷ []
pair_tokens fed xs ys zs t u split first second =
    ap (λ x. tokens_so_far (fed ++ x)) split
    ∙ ap tokens_so_far (sym (append_assoc fed xs ys))
    ∙ second
    ∙ ap (λ us. us ++ u ∷ []) first
    ∙ append_assoc (tokens_so_far fed) (t ∷ []) (u ∷ [])
