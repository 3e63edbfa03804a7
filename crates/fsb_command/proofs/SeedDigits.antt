-- A seed is read by its last digit and those before it.
use Rattle.std.proofs.Common.{◌≡◌, ◌∙◌, ◌<◌, ◌≤◌, ◌+◌, ◌*◌, ◌^◌, ◌⊎◌, ℕ, true, false, List, [], ◌∷◌, ◌++◌, length, take}
use Rattle.std.proofs.Common.{drop, Option, None, Some, inl, inr, refl, sym, ap, arith, length-drop}
use Rattle.std.proofs.lemmas.Bool.Decides.{nat_tests}
use Rattle.std.specs.Prelude.{nat_le, option_and_then, option_map}
use Rattle.std.proofs.lemmas.List.{take-append-drop}
use Rattle.fsb_trigger.specs.Grammar.{decimal_value, number_behind}
use Rattle.fsb_command.specs.Number.{below, decimal_word, seed_named}

-- the number of digits behind others
pub number_split : (base : ℕ) (value : ℕ → Option ℕ) (n : ℕ) (front last : List ℕ)
    → number_behind base value n (front ++ last) ≡ option_and_then (λ m. number_behind base value m last)
    (number_behind base value n front)
number_split base value n [] last = refl
number_split base value n (c ∷ front) last = go (value c) (λ m. number_split base value m front last)
  where
    go : (o : Option ℕ) → ((m : ℕ) → number_behind base value m (front ++ last) ≡ option_and_then
        (λ k. number_behind base value k last) (number_behind base value m front))
        → option_and_then (λ d. number_behind base value (n * base + d) (front ++ last)) o
        ≡ option_and_then (λ m. number_behind base value m last)
        (option_and_then (λ d. number_behind base value (n * base + d) front) o)
    go None split = refl
    go (Some d) split = split (n * base + d)

-- one digit behind a number
pub one_digit : (value : ℕ → Option ℕ) (m : ℕ) (last : List ℕ) → length last ≡ 1
    → number_behind 10 value m last ≡ option_map (λ d. m * 10 + d) (number_behind 10 value 0 last)
one_digit value m [] e = absurd (omega arith)
one_digit value m (c ∷ d ∷ rest) e = absurd (omega arith)
one_digit value m (c ∷ []) e = go (value c)
  where
    go : (o : Option ℕ) → option_and_then (λ d. number_behind 10 value (m * 10 + d) []) o
        ≡ option_map (λ d. m * 10 + d) (option_and_then (λ d. number_behind 10 value (0 * 10 + d) []) o)
    go None = refl
    go (Some d) =
        let same : m * 10 + d ≡ m * 10 + (0 * 10 + d) = omega arith in
        ap Some same

-- a text without digits, or with too many, names no seed
pub no_seed : (text : List ℕ) → (length text ≡ 0) ⊎ (20 < length text) → None ≡ seed_named text
unfolding seed_named decimal_word
no_seed text (inl none) =
    let low : nat_le 1 (length text) ≡ false = grind (arith, nat_tests) in
    rw low refl
no_seed text (inr many) =
    let low : nat_le 1 (length text) ≡ true = grind (arith, nat_tests) in
    let high : nat_le (length text) 20 ≡ false = grind (arith, nat_tests) in
    rw (low, high) refl

-- the number of decimal digits
abbrev digits : List ℕ → Option ℕ
digits = number_behind 10 decimal_value 0

-- the seed of the digits before the last and of the last one
abbrev joined : Option ℕ → Option ℕ → Option ℕ
joined front last = option_and_then (λ m. option_and_then (λ d. below (2 ^ 64) (m * 10 + d)) last) front

module _ (text front last : List ℕ) (n : ℕ) (at : n + 1 ≡ length text) (few : length text ≤ 20)
    (front_is : front ≡ take n text) (last_is : last ≡ drop n text) where
  one_last : length last ≡ 1
  one_last = omega (arith, ap length last_is, length-drop n text)

  whole : text ≡ front ++ last
  whole = sym ((λ i. front_is i ++ last_is i) ∙ take-append-drop n text)

  last_joins : (m : ℕ) (o : Option ℕ) → option_and_then (below (2 ^ 64))
      (option_map (λ d. m * 10 + d) o) ≡ option_and_then (λ d. below (2 ^ 64) (m * 10 + d)) o
  last_joins m None = refl
  last_joins m (Some d) = refl

  joins : (o : Option ℕ) → option_and_then (below (2 ^ 64))
      (option_and_then (λ m. number_behind 10 decimal_value m last) o) ≡ joined o (digits last)
  joins None = refl
  joins (Some m) = ap (option_and_then (below (2 ^ 64))) (one_digit decimal_value m last one_last)
      ∙ last_joins m (digits last)

  seed_is : seed_named text ≡ joined (digits front) (digits last)
  unfolding seed_named decimal_word
  seed_is =
      let low : nat_le 1 (length text) ≡ true = grind (arith, nat_tests) in
      let high : nat_le (length text) 20 ≡ true = grind (arith, nat_tests) in
      rw (low, high) (ap (option_and_then (below (2 ^ 64)))
      (ap digits whole ∙ number_split 10 decimal_value 0 front last) ∙ joins (digits front))

  pub no_front : None ≡ digits front → None ≡ seed_named text
  no_front e = ap (λ o. joined o (digits last)) e ∙ sym seed_is

  pub no_last : (m : ℕ) → Some m ≡ digits front → None ≡ digits last → None ≡ seed_named text
  no_last m e f = (λ i. joined (e i) (f i)) ∙ sym seed_is

  pub both_digits : (m d : ℕ) → Some m ≡ digits front → Some d ≡ digits last
      → below (2 ^ 64) (m * 10 + d) ≡ seed_named text
  both_digits m d e f = (λ i. joined (e i) (f i)) ∙ sym seed_is
