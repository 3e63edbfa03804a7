-- The first item of a list that passes a test, by its place.
use Rattle.std.proofs.Common.{ℕ, ◌≤◌, ◌≡◌, Bool, Some, None, List, length, get_or, sym, ap, ◌∙◌, arith}
use Rattle.std.specs.List.{find, position, position_or_len, slice_get}
use Rattle.std.proofs.lemmas.Grind.{common_steps}
use Rattle.std.proofs.lemmas.List.Folds.{find_at}
use Rattle.std.proofs.lemmas.List.Quantifiers.{position-Some}
use Rattle.std.proofs.lemmas.Option.{slice_get-get_or, slice_get_past}

-- the first that passes stands at this place
pub find_placed : {X : Type 0} (p : X → Bool) (xs : List X) (i : ℕ) (d : X) → position p xs ≡ Some i
    → find p xs ≡ Some (get_or xs i d)
find_placed p xs i d e =
    let at : position_or_len p xs ≡ i = grind (arith, common_steps) in
    find_at p xs ∙ ap (slice_get xs) at ∙ slice_get-get_or xs i d (position-Some p xs i d e).0

-- it is the item that stands there
pub find_item : {X : Type 0} (p : X → Bool) (xs : List X) (i : ℕ) (x : X) → position p xs ≡ Some i
    → x ≡ get_or xs i x → find p xs ≡ Some x
find_item p xs i x e h = find_placed p xs i x e ∙ sym (ap Some h)

-- none passes
pub find_none : {X : Type 0} (p : X → Bool) (xs : List X) → position p xs ≡ None → find p xs ≡ None
find_none p xs e =
    let past : length xs ≤ position_or_len p xs = grind (arith, common_steps) in
    find_at p xs ∙ slice_get_past xs (position_or_len p xs) past
