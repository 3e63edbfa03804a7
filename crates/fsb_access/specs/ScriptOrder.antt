-- The order of a log: each agent's accesses as its script has them, and the entries of an item together.
use Rattle.std.specs.Prelude.{◌≡◌, ℕ, ◌+◌, Bool, true, false, not, ◌&&◌, ◌==◌, IsTrue, if◌then◌else◌, List, [], ◌∷◌, ◌++◌, Some, map, filter, take, slice_get, unwrap_or}
use Rattle.std.specs.List.{list_any, list_all}
use Rattle.fsb_access.specs.declared.access.Access.{Access}
use Rattle.fsb_access.specs.declared.item.Item.{Item}
use Rattle.fsb_access.specs.declared.item.Item.TheVariants.{One, Locked, Idle}
use Rattle.fsb_access.specs.declared.log.Done.{Done}

-- an access as a script and a log both name it: the number of its item, its part within the item, and what it does
pub record Step : Type 0 where
  pub item : ℕ
  pub part : ℕ
  pub access : Access

-- the accesses of a locked item, their parts counted on
abbrev pub steps_from : ℕ → ℕ → List Access → List Step
steps_from item part [] = []
steps_from item part (access ∷ accesses) =
    record { item = item; part = part; access = access } ∷ steps_from item (part + 1) accesses

-- the accesses of one item: one with part 0, those of a lock with their parts from 0, none of an idle item
abbrev pub steps_of_item : ℕ → Item → List Step
steps_of_item item (One access) = record { item = item; part = 0; access = access } ∷ []
steps_of_item item (Locked group) = steps_from item 0 group
steps_of_item item (Idle clocks) = []

-- the accesses of items whose first one has a number, in order
abbrev pub accesses_from : ℕ → List Item → List Step
accesses_from number [] = []
accesses_from number (item ∷ items) = steps_of_item number item ++ accesses_from (number + 1) items

-- the accesses of a script in order; every item counts from 0 on, idle ones too
abbrev pub accesses_of : List Item → List Step
accesses_of items = accesses_from 0 items

-- an entry of a log as its script names it
abbrev pub step_of : Done → Step
step_of done = record { item = done.item; part = done.part; access = done.access }

-- the entries of one agent, in order, as its script names them
abbrev pub steps_of : ℕ → List Done → List Step
steps_of agent log = map step_of (filter (λ done. done.agent == agent) log)

-- the script of an agent; one without a script has the empty one
abbrev pub script_of : List (List Item) → ℕ → List Item
script_of scripts agent = unwrap_or (slice_get scripts agent) []

-- the accesses are those of the first items of the script, as many items as said
pub record AreOfItems (script : List Item) (steps : List Step) : Type 0 where
  pub items : ℕ
  pub same : steps ≡ accesses_of (take items script)

-- two entries are of one item of one agent
abbrev pub is_same_item : Done → Done → Bool
is_same_item done other = (done.agent == other.agent) && (done.item == other.item)

-- past the entries of this entry's item at the front, there is one more of that item
abbrev pub comes_again : Done → List Done → Bool
comes_again done [] = false
comes_again done (other ∷ log) =
    if is_same_item done other then comes_again done log else list_any (is_same_item done) log

-- the entries of each item are neighbours: once an entry of another item has come, the item does not come again
abbrev pub are_items_together : List Done → Bool
are_items_together [] = true
are_items_together (done ∷ log) = not (comes_again done log) && are_items_together log

-- each agent's entries are its script's accesses in order up to the end of an item, and each item's entries are neighbours
pub record InOrder (scripts : List (List Item)) (log : List Done) : Type 0 where
  pub follows : (agent : ℕ) → AreOfItems (script_of scripts agent) (steps_of agent log)
  pub together : IsTrue (are_items_together log)

-- entries that come after a log are those of an agent's next item: its entries so far are those of the items before, and
-- these are its own and are the accesses of that item
pub record AreNextItem (script : List Item) (agent count : ℕ) (log more : List Done) : Type 0 where
  pub item : Item
  pub stands : slice_get script count ≡ Some item
  pub before : steps_of agent log ≡ accesses_of (take count script)
  pub own : list_all (λ (done : Done). done.agent == agent) more ≡ true
  pub steps : map step_of more ≡ steps_of_item count item
