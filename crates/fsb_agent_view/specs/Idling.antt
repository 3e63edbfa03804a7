-- The idle items of a script, and where the items after them begin.
use Rattle.std.specs.Prelude.{ℕ, ◌+◌, Bool, false, List, [], ◌∷◌, drop, slice_get}
use Rattle.std.specs.Option.{option_map_or}
use Rattle.fsb_access.specs.declared.item.Item.{Item}
use Rattle.fsb_access.specs.declared.item.Item.TheVariants.{One, Locked, Idle}
use Rattle.fsb_timely.specs.Scripts.{is_idle}

-- how many idle items stand in front
abbrev pub idle_count_in_front : List Item → ℕ
idle_count_in_front [] = 0
idle_count_in_front (One access ∷ items) = 0
idle_count_in_front (Locked group ∷ items) = 0
idle_count_in_front (Idle clocks ∷ items) = idle_count_in_front items + 1

-- the clocks that they idle together
abbrev pub idle_clocks_in_front : List Item → ℕ
idle_clocks_in_front [] = 0
idle_clocks_in_front (One access ∷ items) = 0
idle_clocks_in_front (Locked group ∷ items) = 0
idle_clocks_in_front (Idle clocks ∷ items) = clocks + idle_clocks_in_front items

-- the number of the first item that is not idle, from this one on
abbrev pub place_from : List Item → ℕ → ℕ
place_from items n = n + idle_count_in_front (drop n items)

-- the clocks that the idle items idle that stand before it, from this one on
abbrev pub idle_from : List Item → ℕ → ℕ
idle_from items n = idle_clocks_in_front (drop n items)

-- there is an item n, and it is idle
abbrev pub is_idle_item : List Item → ℕ → Bool
is_idle_item items n = option_map_or is_idle (slice_get items n) false
