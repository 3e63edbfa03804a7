-- Where an agent is in its script, and which lines its next items need.
use Rattle.std.specs.Prelude.{ℕ, zero, suc, ◌+◌, ◌-◌, ◌&&◌, Bool, true, false, not, nat_eq, nat_lt, nat_le, List, [], ◌∷◌, ◌++◌, map, drop, length, Option, slice_get, if◌then◌else◌}
use Rattle.std.specs.List.{list_any, find}
use Rattle.std.specs.Option.{option_map_or, option_and_then}
use Rattle.fsb_count.specs.Clocks.{first_where, last_where}
use Rattle.fsb_count.specs.Options.{is_some_and}
use Rattle.fsb_access.specs.declared.access.Access.{Access}
use Rattle.fsb_access.specs.declared.access.Access.TheVariants.{Load, Store}
use Rattle.fsb_access.specs.declared.item.Item.{Item}
use Rattle.fsb_access.specs.declared.item.Item.TheVariants.{One, Locked, Idle}
use Rattle.fsb_access.specs.declared.log.Done.{Done}
use Rattle.fsb_access.specs.Access.{accessed_line, chunk_of}
use Rattle.fsb_access.specs.ScriptOrder.{script_of}
use Rattle.fsb_timely.specs.Past.{Past}

-- an item is idle
unfoldable pub is_idle : Item → Bool
is_idle (One access) = false
is_idle (Locked group) = false
is_idle (Idle clocks) = true

-- an item is a locked one
unfoldable pub is_locked : Item → Bool
is_locked (One access) = false
is_locked (Locked group) = true
is_locked (Idle clocks) = false

-- the clocks that an item idles
unfoldable pub idle_count : Item → ℕ
idle_count (One access) = 0
idle_count (Locked group) = 0
idle_count (Idle clocks) = clocks

-- an access is a load
unfoldable pub is_load : Access → Bool
is_load (Load size addr) = true
is_load (Store size addr value) = false

-- the items of agent a
unfoldable pub items_of : Past → ℕ → List Item
items_of p a = script_of p.plan.scripts a

-- the entry is agent a's, and its clock is below c
unfoldable pub is_done_by : ℕ → ℕ → Done → Bool
is_done_by a c done = nat_eq done.agent a && nat_lt done.clock c

-- the entry is agent a's, and its clock is c
unfoldable pub is_done_at : ℕ → ℕ → Done → Bool
is_done_at a c done = nat_eq done.agent a && nat_eq done.clock c

-- agent a has an entry at c
unfoldable pub completes_at : Past → ℕ → ℕ → Bool
completes_at p a c = list_any (is_done_at a c) p.log

-- item n of agent a is logged at a clock below c
unfoldable pub is_logged : Past → ℕ → ℕ → ℕ → Bool
is_logged p a c n = list_any (λ done. is_done_by a c done && nat_eq done.item n) p.log

-- item n of agent a is logged at c
unfoldable pub is_logged_at : Past → ℕ → ℕ → ℕ → Bool
is_logged_at p a c n = list_any (λ done. is_done_at a c done && nat_eq done.item n) p.log

-- item n of agent a is not idle and not logged below c
unfoldable pub is_to_do : Past → ℕ → ℕ → ℕ → Bool
is_to_do p a c n = is_some_and (slice_get (items_of p a) n) (λ item. not (is_idle item)) && not (is_logged p a c n)

-- the number of agent a's next item at c: the first that is not idle and not logged below c
unfoldable pub next_number : Past → ℕ → ℕ → Option ℕ
next_number p a c = first_where (is_to_do p a c) (length (items_of p a))

-- agent a's next item at c
unfoldable pub next_item : Past → ℕ → ℕ → Option Item
next_item p a c = option_and_then (slice_get (items_of p a)) (next_number p a c)

-- agent a's last entry below c
unfoldable pub last_done : Past → ℕ → ℕ → Option Done
last_done p a c =
    option_and_then (slice_get p.log) (last_where (λ k. is_some_and (slice_get p.log k) (is_done_by a c)) (length p.log))

-- the clocks that the items from a number on and below another one idle together
unfoldable pub idle_clocks : List Item → ℕ → ℕ → ℕ
idle_clocks items from zero = 0
idle_clocks items from (suc n) =
    idle_clocks items from n + (if nat_le from n then option_map_or idle_count (slice_get items n) 0 else 0)

-- the clock after agent a's last entry below c, or 0
unfoldable pub idle_start : Past → ℕ → ℕ → ℕ
idle_start p a c = option_map_or (λ done. done.clock + 1) (last_done p a c) 0

-- the number after that of the item of agent a's last entry below c, or 0
unfoldable pub number_after : Past → ℕ → ℕ → ℕ
number_after p a c = option_map_or (λ done. done.item + 1) (last_done p a c) 0

-- agent a idles at c: from the clock after its last entry, for the clocks of the idle items between that entry's item and
-- the next one
unfoldable pub is_idling : Past → ℕ → ℕ → Bool
is_idling p a c =
    is_some_and (next_number p a c) (λ n. nat_lt c (idle_start p a c + idle_clocks (items_of p a) (number_after p a c) n))

-- the first items, as many as said, before the first idle or locked one
unfoldable pub plain_items : ℕ → List Item → List Item
plain_items zero items = []
plain_items (suc n) [] = []
plain_items (suc n) (One access ∷ items) = One access ∷ plain_items n items
plain_items (suc n) (Locked group ∷ items) = []
plain_items (suc n) (Idle clocks ∷ items) = []

-- the window that begins with this item and goes on with those after it: a locked item alone, and otherwise the item
-- with up to `ahead - 1` more, ending before the first idle or locked one
unfoldable pub window_from : ℕ → Item → List Item → List Item
window_from ahead item items = item ∷ (if is_locked item then [] else plain_items (ahead - 1) items)

-- agent a's window where it begins with item n
unfoldable pub window_at : Past → ℕ → ℕ → List Item
window_at p a n =
    option_map_or (λ item. window_from p.plan.ahead item (drop (n + 1) (items_of p a))) (slice_get (items_of p a) n) []

-- agent a's window at c
unfoldable pub window : Past → ℕ → ℕ → List Item
window p a c = option_map_or (window_at p a) (next_number p a c) []

-- what an item needs: a line; whether for itself (each access but a load outside a locked item); the chunk of the item's
-- first access to the line; whether the item is a locked one; and the lines of the items before it in the window
pub record Need : Type 0 where
  pub line : ℕ
  pub alone : Bool
  pub chunk : ℕ
  pub locked : Bool
  pub earlier : List ℕ

-- the chunk of the first of these accesses to the line
unfoldable pub first_chunk : List Access → ℕ → ℕ
first_chunk accesses line = option_map_or chunk_of (find (λ access. nat_eq (accessed_line access) line) accesses) 0

-- the need of one access of a locked item with these accesses
unfoldable pub locked_need : List ℕ → List Access → Access → Need
locked_need earlier group access = record {
  line = accessed_line access;
  alone = true;
  chunk = first_chunk group (accessed_line access);
  locked = true;
  earlier = earlier;
}

-- the need of an access by itself
unfoldable pub plain_need : List ℕ → Access → Need
plain_need earlier access = record {
  line = accessed_line access;
  alone = not (is_load access);
  chunk = chunk_of access;
  locked = false;
  earlier = earlier;
}

-- the needs of an item, in access order, after items with these lines
unfoldable pub needs_after : List ℕ → Item → List Need
needs_after earlier (One access) = plain_need earlier access ∷ []
needs_after earlier (Locked group) = map (locked_need earlier group) group
needs_after earlier (Idle clocks) = []

-- the needs of an item by itself
unfoldable pub needs_of : Item → List Need
needs_of item = needs_after [] item

-- the needs of a window, item by item, after items with these lines
unfoldable pub needs_from : List ℕ → List Item → List Need
needs_from earlier [] = []
needs_from earlier (item ∷ items) =
    needs_after earlier item ++ needs_from (earlier ++ map (λ need. need.line) (needs_of item)) items
