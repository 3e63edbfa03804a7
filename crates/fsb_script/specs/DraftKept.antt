-- What a draft keeps while it is read.
use Rattle.std.specs.Prelude.{ℕ, List, length, Bool, true, false, ◌&&◌, ◌||◌, not, nat_lt, nat_le, ◌==◌}
use Rattle.fsb_access.specs.declared.item.Item.{Item}
use Rattle.fsb_script.specs.declared.place.Place.{Place}
use Rattle.fsb_script.specs.declared.place.Place.TheVariants as places

-- the numbers of the head are within their bounds
abbrev pub are_counts : ℕ → ℕ → ℕ → Bool
are_counts agents clocks ahead = (nat_le 1 agents && nat_le agents 4) && (nat_le clocks 200000 && (nat_le 1 ahead && nat_le ahead 4))

-- before the number of cache lines is known
abbrev pub is_early : Place → Bool
is_early places.First = true
is_early places.Agents = true
is_early places.Clocks = true
is_early places.Cache = true
is_early _ = false

-- no item stands before the number of cache lines is known
unfoldable pub is_fresh : Place → List (List Item) → List Item → Bool
is_fresh place scripts script = not (is_early place) || ((length scripts == 0) && (length script == 0))

-- whether no script is read any more
abbrev pub is_last : Place → Bool
is_last places.Hazards = true
is_last _ = false

-- behind the last script there are as many as there are agents
unfoldable pub has_all : Place → ℕ → List (List Item) → Bool
has_all place agents scripts = not (is_last place) || (length scripts == agents)

-- whether a locked item is open
abbrev pub is_lock_open : Place → Bool
is_lock_open places.Locked = true
is_lock_open _ = false

-- a locked item that is open has its place in the script
unfoldable pub has_lock_room : Place → List Item → Bool
has_lock_room place script = not (is_lock_open place) || nat_lt (length script) 4096
