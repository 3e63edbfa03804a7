-- How many accesses scripts have.
use Rattle.std.specs.Prelude.{ℕ, Bool, nat_le, List, length, sum_by}
use Rattle.fsb_access.specs.declared.item.Item.{Item}
use Rattle.fsb_access.specs.declared.item.Item.TheVariants.{One, Locked, Idle}

-- the accesses of an item
abbrev pub item_accesses : Item → ℕ
item_accesses (One access) = 1
item_accesses (Locked group) = length group
item_accesses (Idle clocks) = 0

-- an item has at most eight
abbrev pub has_few_accesses : Item → Bool
has_few_accesses item = nat_le (item_accesses item) 8

-- the accesses of a script
abbrev pub script_accesses : List Item → ℕ
script_accesses items = sum_by item_accesses items

-- the accesses of all scripts
abbrev pub access_count : List (List Item) → ℕ
access_count scripts = sum_by script_accesses scripts
