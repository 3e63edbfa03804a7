-- Numbers, read from the left.
use Rattle.std.proofs.Common.{◌≡◌, ℕ, ◌+◌, ◌-◌, ◌*◌, ◌<◌, ◌≤◌, true, false, List, length, get_or, drop, Some, None, refl}
use Rattle.std.proofs.lemmas.List.{drop_more, drop_all}
use Rattle.scope_pick.specs.Splits.{fits_on, index_from}

-- one more digit
pub index_on : (n : ℕ) (word : List ℕ) (i : ℕ) → i < length word → fits_on n (get_or word i 0) ≡ true
    → index_from (n * 10 + (get_or word i 0 - 48)) (drop (i + 1) word) ≡ index_from n (drop i word)
index_on n word i within fits = rw (drop_more word i 0 within) (rw fits refl)

-- a byte with which it does not go on
pub index_off : (n : ℕ) (word : List ℕ) (i : ℕ) → i < length word → fits_on n (get_or word i 0) ≡ false
    → index_from n (drop i word) ≡ None
index_off n word i within fits = rw (drop_more word i 0 within) (rw fits refl)

-- no more digits
pub index_end : (n : ℕ) (word : List ℕ) (i : ℕ) → length word ≤ i → index_from n (drop i word) ≡ Some n
index_end n word i over = rw (drop_all i word over) refl
