-- The plan that the generator makes of a seed. Its numbers are drawn one behind the other, through all agents in order
-- and their items in order, and the state begins as the seed.
use Rattle.std.specs.Prelude.{ℕ, zero, suc, min, ◌+◌, ◌*◌, ◌/◌, ◌^◌, List, [], ◌∷◌, ◌++◌, Option, Some, None, nat_lt, ◌==◌, if◌then◌else◌}
use Rattle.fsb_access.specs.declared.access.Access.{Access}
use Rattle.fsb_access.specs.declared.access.Access.TheVariants.{Load, Store}
use Rattle.fsb_access.specs.declared.access.Operand.TheVariants.{Literal, LastPlus}
use Rattle.fsb_access.specs.declared.item.Item.{Item}
use Rattle.fsb_access.specs.declared.item.Item.TheVariants.{One, Locked, Idle}
use Rattle.fsb_hazard.specs.declared.line.HazardLine.{HazardLine}
use Rattle.fsb_hazard.specs.Seed.{next_state, drawn_below, seed_line}
use Rattle.fsb_script.specs.Plans.{PlanView}

-- the state behind so many numbers
abbrev pub state_behind : ℕ → ℕ → ℕ
state_behind zero state = state
state_behind (suc n) state = state_behind n (next_state state)

-- the size of an access: 1, 2, 4 or 8
unfoldable pub drawn_size : ℕ → ℕ
drawn_size state = 2 ^ drawn_below 4 state

-- an address in the first 64 lines: the line is drawn, and then the place in it
unfoldable pub drawn_addr : ℕ → ℕ → ℕ
drawn_addr size state = drawn_below 64 state * 32 + drawn_below (32 / size) (next_state state) * size

-- a load: its size and its address are drawn
unfoldable pub drawn_load : ℕ → Access
drawn_load state = Load (drawn_size state) (drawn_addr (drawn_size state) (next_state state))

-- a store: its size and its address are drawn, and then a literal
unfoldable pub drawn_store : ℕ → Access
drawn_store state = Store (drawn_size state) (drawn_addr (drawn_size state) (next_state state)) (Literal (drawn_below 256 (state_behind 3 state)))

-- a locked item that adds 1 to the byte at address 0
abbrev pub count_up : List Access
count_up = Load 1 0 ∷ Store 1 0 (LastPlus 1) ∷ []

-- an item of a kind below 16
unfoldable pub item_of_kind : ℕ → ℕ → Item
item_of_kind kind state =
    if nat_lt kind 7 then One (drawn_load state)
    else (if nat_lt kind 13 then One (drawn_store state)
    else (if kind == 13 then Idle (1 + drawn_below 8 state)
    else Locked count_up))

-- how many numbers are drawn for an item of a kind below 16
unfoldable pub numbers_of_kind : ℕ → ℕ
numbers_of_kind kind = if nat_lt kind 7 then 3 else (if nat_lt kind 13 then 4 else (if kind == 13 then 1 else 0))

-- an item: its kind is drawn, and then what it says
unfoldable pub drawn_item : ℕ → Item
drawn_item state = item_of_kind (drawn_below 16 state) (next_state state)

-- the state behind an item
unfoldable pub state_behind_item : ℕ → ℕ
state_behind_item state = state_behind (numbers_of_kind (drawn_below 16 state)) (next_state state)

-- the state behind so many items
abbrev pub state_behind_items : ℕ → ℕ → ℕ
state_behind_items zero state = state
state_behind_items (suc n) state = state_behind_item (state_behind_items n state)

-- so many items, each drawn behind those before it
abbrev pub drawn_items : ℕ → ℕ → List Item
drawn_items zero state = []
drawn_items (suc n) state = drawn_items n state ++ drawn_item (state_behind_items n state) ∷ []

-- the state behind the scripts of so many agents
abbrev pub state_behind_scripts : ℕ → ℕ → ℕ → ℕ
state_behind_scripts items zero state = state
state_behind_scripts items (suc n) state = state_behind_items items (state_behind_scripts items n state)

-- the scripts of so many agents, each drawn behind those before it
abbrev pub drawn_scripts : ℕ → ℕ → ℕ → List (List Item)
drawn_scripts items zero state = []
drawn_scripts items (suc n) state = drawn_scripts items n state ++ drawn_items items (state_behind_scripts items n state) ∷ []

-- the hazard line of one request, where the seed has one for it
abbrev pub some_line : Option HazardLine → List HazardLine
some_line None = []
some_line (Some line) = line ∷ []

-- the hazard lines of the first requests, so many of them
abbrev pub seed_lines : ℕ → ℕ → List HazardLine
seed_lines seed zero = []
seed_lines seed (suc k) = seed_lines seed k ++ some_line (seed_line seed k)

-- the plan of a seed for so many agents with so many items each: 40 clocks for each item, at most 200,000, and the hazard
-- lines that the seed has for the first requests, as many of these as there are items, at most 4,096
unfoldable pub made_plan : ℕ → ℕ → ℕ → PlanView
made_plan seed agents items = record {
  scripts = drawn_scripts items agents seed;
  clocks = min (40 * (agents * items)) 200000;
  cache = 16;
  ahead = 1;
  profile = 1;
  bridge = Some (record { base = 0x600; size = 0x200 });
  mem = [];
  hazards = seed_lines seed (min (agents * items) 4096);
}
