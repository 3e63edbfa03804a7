-- Two digits of a word are one byte more.
use Rattle.std.proofs.Common.{◌≡◌, ℕ, ◌+◌, ◌*◌, ◌<◌, suc, List, [], ◌∷◌, ◌++◌, length, drop, get_or, Ok, refl, ap, ◌∙◌}
use Rattle.std.proofs.Common.{arith, drop-cons}
use Rattle.fsb_script.specs.TextWords.{hex_digit}
use Rattle.fsb_script.specs.Statements.{bytes_from}

-- the digits from an even place on
pub pair_at : (word : List ℕ) (i : ℕ) → 2 * i + 1 < length word
    → drop (2 * i) word ≡ get_or word (2 * i) 0 ∷ (get_or word (2 * i + 1) 0 ∷ drop (2 * (i + 1)) word)
pair_at word i inside =
    let first-in : 2 * i < length word = omega arith in
    let first = drop-cons word (2 * i) 0 first-in in
    let second = drop-cons word (2 * i + 1) 0 inside in
    let next : suc (2 * i) ≡ 2 * i + 1 = omega arith in
    let after : suc (2 * i + 1) ≡ 2 * (i + 1) = omega arith in
    first ∙ ap (λ n. get_or word (2 * i) 0 ∷ drop n word) next
    ∙ ap (λ t. get_or word (2 * i) 0 ∷ t) (second ∙ ap (λ n. get_or word (2 * i + 1) 0 ∷ drop n word) after)

pub byte_more : (so_far word : List ℕ) (i h l : ℕ) → 2 * i + 1 < length word
    → hex_digit (get_or word (2 * i) 0) ≡ Ok h → hex_digit (get_or word (2 * i + 1) 0) ≡ Ok l
    → bytes_from (so_far ++ (h * 16 + l) ∷ []) (drop (2 * (i + 1)) word) ≡ bytes_from so_far (drop (2 * i) word)
byte_more so_far word i h l inside high low = rw (pair_at word i inside) (rw (high) (rw low refl))
