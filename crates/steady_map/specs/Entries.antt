-- What a contract sees of a map: its entries, in the order in which their keys came first.
use Rattle.std.specs.Prelude.{◌≡◌, ℕ, List, Option, Some, nat_eq, cond}
use Rattle.std.specs.Map.{lookup}

-- the entries of a map, by keys that are numbers
pub record Entries (V : Type 0) : Type 0 where
  pub entries : List (ℕ × V)

-- the value at the key
abbrev pub get : {V : Type 0} → Entries V → ℕ → Option V
get map key = lookup (nat_eq key) map.entries

-- the new map has the value at the key, and at each other key what the old one has
abbrev pub Updates : {V : Type 0} → Entries V → Entries V → ℕ → V → Type 0
Updates old new key value = (other : ℕ) → get new other ≡ cond (nat_eq key other) (Some value) (get old other)
