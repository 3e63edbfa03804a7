-- What a search finds is how many bytes stand before.
use Rattle.std.proofs.Common.{◌≡◌, ℕ, zero, suc, ◌+◌, ◌<◌, ◌≤◌, Bool, true, false, cond, eqb, List, [], ◌∷◌, length}
use Rattle.std.proofs.Common.{Option, Some, None, refl, ap, ◌∙◌, sym, arith}
use Rattle.std.specs.Option.{unwrap_or}
use Rattle.std.proofs.lemmas.Bool.{false_from_ne_true}
use Rattle.memchr.specs.Find.{IsFirstByte, Passes, is_byte, is_byte3}
use Rattle.fsb_script.specs.TextWords.{line_len, word_len, is_blank}

-- the first place whose byte passes, or the length where none does
abbrev before : (ℕ → Bool) → List ℕ → ℕ
before test [] = 0
before test (b ∷ bs) = cond (test b) 0 (1 + before test bs)

line_len_is : (xs : List ℕ) → line_len xs ≡ before (is_byte 10) xs
line_len_is [] = refl
line_len_is (b ∷ bs) = ap (λ n. cond (eqb b 10) 0 (1 + n)) (line_len_is bs)

word_len_is : (xs : List ℕ) → word_len xs ≡ before (is_byte3 32 9 13) xs
word_len_is [] = refl
word_len_is (b ∷ bs) = ap (λ n. cond (is_blank b) 0 (1 + n)) (word_len_is bs)

stands_before : (test : ℕ → Bool) (xs : List ℕ) (n : ℕ) → n ≤ length xs
    → ((k : ℕ) → 0 ≤ k → k < n → ¬ (Passes test xs k)) → (n < length xs → Passes test xs n) → before test xs ≡ n
stands_before test [] n few none stops = omega arith
stands_before test (b ∷ bs) zero few none stops = let here : test b ≡ true = stops (omega arith) in rw here refl
stands_before test (b ∷ bs) (suc n) few none stops =
    let here : test b ≡ false = false_from_ne_true (test b) (λ e. none 0 (omega arith) (omega arith) e) in
    let again : before test bs ≡ n = stands_before test bs n (omega arith)
    (λ k from to. none (suc k) (omega arith) (omega arith)) (λ short. stops (omega arith)) in
    rw here (rw again (omega arith))

found_before : (test : ℕ → Bool) (xs : List ℕ) (found : Option ℕ) → IsFirstByte test xs found
    → (unwrap_or found (length xs) ≡ before test xs) × (unwrap_or found (length xs) ≤ length xs)
found_before test xs None none = (
  sym (stands_before test xs (length xs) (omega arith) none
      (λ short. absurd (omega arith))),
  omega arith,
)
found_before test xs (Some k) found = (
  sym (stands_before test xs k (omega (arith, found.0.high)) found.0.before
      (λ short. found.1)),
  omega (arith, found.0.high),
)

pub line_found : (xs : List ℕ) (found : Option ℕ) → IsFirstByte (is_byte 10) xs found
    → (unwrap_or found (length xs) ≡ line_len xs) × (unwrap_or found (length xs) ≤ length xs)
line_found xs found first = (
  (found_before (is_byte 10) xs found first).0
      ∙ sym (line_len_is xs),
  (found_before (is_byte 10) xs found first).1,
)

pub word_found : (xs : List ℕ) (found : Option ℕ) → IsFirstByte (is_byte3 32 9 13) xs found
    → (unwrap_or found (length xs) ≡ word_len xs) × (unwrap_or found (length xs) ≤ length xs)
word_found xs found first = (
  (found_before (is_byte3 32 9 13) xs found first).0
      ∙ sym (word_len_is xs),
  (found_before (is_byte3 32 9 13) xs found first).1,
)
