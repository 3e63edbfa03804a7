-- Where a map of numbers keeps the places of its entries.
use Rattle.std.specs.Prelude.{◌≡◌, ℕ, List, [], ◌∷◌, Option, Some, None, option_map, nat_eq, suc, ◌==◌, if◌then◌else◌}
use Rattle.std.specs.Map.{lookup}
use Rattle.std.specs.BTreeMap.{is_at}
use Rattle.std.specs.Ordering.{nat_cmp}

-- the first that is there
abbrev pub first_of : Option ℕ → Option ℕ → Option ℕ
first_of None other = other
first_of (Some place) other = Some place

-- two maps from keys to places: a table, and what stands beside it
abbrev pub Places : Type 0
Places = List (ℕ × ℕ) × List (ℕ × ℕ)

-- the place of a key
abbrev pub place_by : Places → ℕ → Option ℕ
place_by places key = first_of (lookup (nat_eq key) places.0) (lookup (is_at (nat_cmp key)) places.1)

-- the place of the entry with this key
abbrev pub place_in : {V : Type 0} → List (ℕ × V) → ℕ → Option ℕ
place_in [] key = None
place_in (e ∷ es) key = if key == e.0 then Some 0 else option_map (λ place. suc place) (place_in es key)

-- the maps have the place of each entry's key, and no other key
pub record PlacesKept {V : Type 0} (places : Places) (entries : List (ℕ × V)) : Type 0 where
  pub same : (key : ℕ) → place_by places key ≡ place_in entries key
