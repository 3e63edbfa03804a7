-- The texts of the elements of a list that are still ahead, and what comes after them.
use Rattle.std.proofs.Common.{◌≡◌, ℕ, suc, ◌+◌, ◌<◌, ◌≤◌, List, ◌++◌, length, drop, get_or, ap, append_assoc, add-one}
use Rattle.std.proofs.Math.Seq.{drop-cons}
use Rattle.std.proofs.lemmas.List.{drop_all}
use Rattle.std.proofs.lemmas.List.Concat.{flat_map-cons}
use Rattle.std.specs.List.{flat_map}

-- the texts of the elements that are left: that of the next one, and then those after it
pub lines_ahead : {X : Type 0} (text_of : X → List ℕ) (xs : List X) (i : ℕ) (d : X) (end : List ℕ) → i < length xs
    → flat_map text_of (drop i xs) ++ end ≡ text_of (get_or xs i d) ++ (flat_map text_of (drop (i + 1) xs) ++ end)
lines_ahead text_of xs i d end h =
    rw (add-one, drop-cons xs i d)
    (rw flat_map-cons (append_assoc (text_of (get_or xs i d)) (flat_map text_of (drop (suc i) xs)) end))

-- past the last element only the end is left
pub lines_end : {X : Type 0} (text_of : X → List ℕ) (xs : List X) (i : ℕ) (end : List ℕ) → length xs ≤ i
    → flat_map text_of (drop i xs) ++ end ≡ end
lines_end text_of xs i end h = ap (λ l. flat_map text_of l ++ end) (drop_all i xs h)
