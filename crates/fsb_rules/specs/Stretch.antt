-- A stretch of numbered things in a list.
use Rattle.std.specs.Prelude.{◌≡◌, ℕ, ◌+◌, List, [], ◌∷◌}

-- the list has the things from number first on, up to number next, by what it is to be a thing of a number
abbrev pub Stretch : {A : Type 0} → (ℕ → A → Type 0) → List A → ℕ → ℕ → Type 0
Stretch is [] first next = first ≡ next
Stretch is (x ∷ xs) first next = is first x × Stretch is xs (first + 1) next
