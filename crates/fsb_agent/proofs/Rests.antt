-- A slice without its first item.
use Rattle.std.proofs.Common.{◌-◌, ◌≡◌, Bool, true, List, [], ◌∷◌, length, take, drop, refl, ap, ◌∙◌, arith}
use Rattle.std.specs.List.{list_all}
use Rattle.std.proofs.lemmas.List.{take_all}
use Rattle.fsb_agent_view.proofs.Interface.{both_right}

-- what is left of it
pub rest-is : {X : Type 0} (x : X) (xs : List X) → take (length (x ∷ xs) - 1) (drop 1 (x ∷ xs)) ≡ xs
rest-is x xs = take_all (length (x ∷ xs) - 1) xs (omega arith)

-- what passes in each item passes in the others
pub rest-all : {X : Type 0} (p : X → Bool) (xs : List X) → list_all p xs ≡ true
    → list_all p (take (length xs - 1) (drop 1 xs)) ≡ true
rest-all p [] all = refl
rest-all p (x ∷ xs) all = ap (list_all p) (rest-is x xs) ∙ both_right (p x) (list_all p xs) all
