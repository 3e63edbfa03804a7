-- Worked logs that replay and are in order, and logs with a fault that do not.
use Rattle.std.proofs.Common.{◌≡◌, ℕ, zero, suc, false, List, [], ◌∷◌, map, take, refl, ap, arith}
use Rattle.fsb_access.proofs.OrderLaws.{steps_of-nobody}
use Rattle.fsb_access.specs.ByteMemory.{bytes_at, put_value}
use Rattle.fsb_access.specs.Replay.{Served}
use Rattle.fsb_access.specs.ScriptOrder.{InOrder, AreOfItems, Step, accesses_of, are_items_together, script_of}
use Rattle.fsb_access.specs.ScriptOrder.{steps_of}
use Rattle.fsb_access.specs.declared.access.Access.{Access}
use Rattle.fsb_access.specs.declared.access.Access.TheVariants.{Load, Store}
use Rattle.fsb_access.specs.declared.access.Operand.TheVariants.{Literal, LastPlus}
use Rattle.fsb_access.specs.declared.access.Setting.{Setting}
use Rattle.fsb_access.specs.declared.item.Item.{Item}
use Rattle.fsb_access.specs.declared.item.Item.TheVariants.{One, Locked, Idle}
use Rattle.fsb_access.specs.declared.log.Done.{Done}

-- an entry of a log: clock, agent, item, part, access, value
abbrev pub entry : ℕ → ℕ → ℕ → ℕ → Access → ℕ → Done
entry clock agent item part access value =
    record { clock = clock; agent = agent; item = item; part = part; access = access; value = value }

abbrev pub setting : ℕ → ℕ → Setting
setting addr byte = record { addr = addr; byte = byte }

-- one agent loads a byte that holds 7 and stores into the next one
abbrev pub hit_scripts : List (List Item)
hit_scripts = (One (Load 1 0x40) ∷ One (Store 1 0x41 (Literal 5)) ∷ []) ∷ []

abbrev pub hit_log : List Done
hit_log = entry 11 0 0 0 (Load 1 0x40) 7 ∷ entry 12 0 1 0 (Store 1 0x41 (Literal 5)) 5 ∷ []

pub load_then_store_hit-served : Served (setting 0x40 9 ∷ setting 0x40 7 ∷ []) hit_log
unfolding bytes_at put_value
load_then_store_hit-served = refl

pub load_then_store_hit-in_order : InOrder hit_scripts hit_log
load_then_store_hit-in_order = record { follows = follows; together = refl }
  where
    follows : (agent : ℕ) → AreOfItems (script_of hit_scripts agent) (steps_of agent hit_log)
    follows zero = record { items = 2; same = refl }
    follows (suc agent) = record { items = 0; same = steps_of-nobody 1 (suc agent) hit_log refl (omega arith) }

-- both agents increment a byte in a locked item
abbrev pub locked_scripts : List (List Item)
locked_scripts =
    (Locked (Load 1 0x40 ∷ Store 1 0x40 (LastPlus 1) ∷ []) ∷ []) ∷
    (Locked (Load 1 0x40 ∷ Store 1 0x40 (LastPlus 1) ∷ []) ∷ []) ∷ []

abbrev pub locked_log : List Done
locked_log =
    entry 11 0 0 0 (Load 1 0x40) 0 ∷ entry 11 0 0 1 (Store 1 0x40 (LastPlus 1)) 1 ∷
    entry 25 1 0 0 (Load 1 0x40) 1 ∷ entry 25 1 0 1 (Store 1 0x40 (LastPlus 1)) 2 ∷ []

pub locked_increments-served : Served [] locked_log
unfolding bytes_at put_value
locked_increments-served = refl

pub locked_increments-in_order : InOrder locked_scripts locked_log
locked_increments-in_order = record { follows = follows; together = refl }
  where
    follows : (agent : ℕ) → AreOfItems (script_of locked_scripts agent) (steps_of agent locked_log)
    follows zero = record { items = 1; same = refl }
    follows (suc zero) = record { items = 1; same = refl }
    follows (suc (suc agent)) = record {
      items = 0;
      same = steps_of-nobody 2 (suc (suc agent)) locked_log refl (omega arith);
    }

-- an agent's load is deferred and replied, and another agent's store comes after it
abbrev pub deferred_scripts : List (List Item)
deferred_scripts = (One (Load 1 0x1000) ∷ []) ∷ (One (Store 1 0x1000 (Literal 3)) ∷ []) ∷ []

abbrev pub deferred_log : List Done
deferred_log = entry 30 0 0 0 (Load 1 0x1000) 0 ∷ entry 34 1 0 0 (Store 1 0x1000 (Literal 3)) 3 ∷ []

pub deferred_and_replied-served : Served [] deferred_log
unfolding bytes_at put_value
deferred_and_replied-served = refl

pub deferred_and_replied-in_order : InOrder deferred_scripts deferred_log
deferred_and_replied-in_order = record { follows = follows; together = refl }
  where
    follows : (agent : ℕ) → AreOfItems (script_of deferred_scripts agent) (steps_of agent deferred_log)
    follows zero = record { items = 1; same = refl }
    follows (suc zero) = record { items = 1; same = refl }
    follows (suc (suc agent)) = record {
      items = 0;
      same = steps_of-nobody 2 (suc (suc agent)) deferred_log refl (omega arith);
    }

-- a stored byte is written back, and is loaded again after another line took its place
abbrev pub victim_scripts : List (List Item)
victim_scripts = (One (Store 1 0x40 (Literal 1)) ∷ One (Load 1 0x80) ∷ One (Load 1 0x40) ∷ []) ∷ []

abbrev pub victim_log : List Done
victim_log =
    entry 11 0 0 0 (Store 1 0x40 (Literal 1)) 1 ∷ entry 37 0 1 0 (Load 1 0x80) 0 ∷ entry 49 0 2 0 (Load 1 0x40) 1 ∷ []

pub dirty_victim_written_back-served : Served [] victim_log
unfolding bytes_at put_value
dirty_victim_written_back-served = refl

pub dirty_victim_written_back-in_order : InOrder victim_scripts victim_log
dirty_victim_written_back-in_order = record { follows = follows; together = refl }
  where
    follows : (agent : ℕ) → AreOfItems (script_of victim_scripts agent) (steps_of agent victim_log)
    follows zero = record { items = 3; same = refl }
    follows (suc agent) = record { items = 0; same = steps_of-nobody 1 (suc agent) victim_log refl (omega arith) }

-- a run may end after the idle item that precedes the next access
pub idle_first-in_order : InOrder ((Idle 3 ∷ One (Load 1 0x40) ∷ []) ∷ []) (entry 14 0 1 0 (Load 1 0x40) 0 ∷ [])
idle_first-in_order = record { follows = follows; together = refl }
  where
    follows : (agent : ℕ)
        → AreOfItems (script_of ((Idle 3 ∷ One (Load 1 0x40) ∷ []) ∷ []) agent)
        (steps_of agent (entry 14 0 1 0 (Load 1 0x40) 0 ∷ []))
    follows zero = record { items = 2; same = refl }
    follows (suc agent) = record {
      items = 0;
      same = steps_of-nobody 1 (suc agent) (entry 14 0 1 0 (Load 1 0x40) 0 ∷ []) refl (omega arith);
    }

-- eight bytes are loaded with the lowest first
pub burst_order_of_chunk_three-served :
    Served
    (setting 0x58 1 ∷ setting 0x59 2 ∷ setting 0x5a 3 ∷ setting 0x5b 4 ∷ setting 0x5c 5 ∷ setting 0x5d 6
    ∷ setting 0x5e 7 ∷ setting 0x5f 8 ∷ [])
    (entry 11 0 0 0 (Load 8 0x58) 0x0807060504030201 ∷ [])
unfolding bytes_at put_value
burst_order_of_chunk_three-served = refl

-- a sum is cut to the bytes of its store, and the last loaded value is that of the agent itself
pub sum_is_cut-served :
    Served
    (setting 0x40 255 ∷ setting 0x41 1 ∷ [])
    (entry 1 0 0 0 (Load 2 0x40) 0x1ff ∷ entry 2 1 0 0 (Load 1 0x41) 1 ∷ entry 3 0 1 0 (Store 1 0x44 (LastPlus 2)) 1 ∷
    entry 4 1 1 0 (Store 2 0x44 (LastPlus 2)) 3 ∷ entry 5 1 2 0 (Load 4 0x44) 3 ∷ [])
unfolding bytes_at put_value
sum_is_cut-served = refl

-- a load that gives what stood there before another agent's store is not served
pub stale_load-not_served :
    Served [] (entry 30 0 0 0 (Store 1 0x1000 (Literal 3)) 3 ∷ entry 34 1 0 0 (Load 1 0x1000) 0 ∷ []) → ⊥
unfolding bytes_at put_value
stale_load-not_served served = cc served

-- a part of a script was done, and two agents' items with one number are two items
abbrev pub part_scripts : List (List Item)
part_scripts = (One (Load 1 0x40) ∷ One (Load 1 0x80) ∷ One (Load 1 0xc0) ∷ []) ∷ (One (Load 1 0x40) ∷ []) ∷ []

abbrev pub part_log : List Done
part_log = entry 11 0 0 0 (Load 1 0x40) 0 ∷ entry 23 0 1 0 (Load 1 0x80) 0 ∷ entry 35 1 0 0 (Load 1 0x40) 0 ∷ []

pub part_of_a_script-in_order : InOrder part_scripts part_log
part_of_a_script-in_order = record { follows = follows; together = refl }
  where
    follows : (agent : ℕ) → AreOfItems (script_of part_scripts agent) (steps_of agent part_log)
    follows zero = record { items = 2; same = refl }
    follows (suc zero) = record { items = 1; same = refl }
    follows (suc (suc agent)) = record {
      items = 0;
      same = steps_of-nobody 2 (suc (suc agent)) part_log refl (omega arith);
    }

-- items that were done in another order than the script's
abbrev pub two_loads : List Item
two_loads = One (Load 1 0x40) ∷ One (Load 1 0x80) ∷ []

abbrev pub swapped_log : List Done
swapped_log = entry 11 0 1 0 (Load 1 0x80) 0 ∷ entry 23 0 0 0 (Load 1 0x40) 0 ∷ []

abbrev item_numbers : List Step → List ℕ
item_numbers steps = map (λ (step : Step). step.item) steps

pub swapped_items-not_in_order : InOrder (two_loads ∷ []) swapped_log → ⊥
swapped_items-not_in_order o = none (o.follows 0).items (o.follows 0).same
  where
    none : (items : ℕ) → steps_of 0 swapped_log ≡ accesses_of (take items two_loads) → ⊥
    none zero same = cc same
    none (suc zero) same = let numbers : 1 ∷ 0 ∷ [] ≡ 0 ∷ [] = ap item_numbers same in cc numbers
    none (suc (suc zero)) same = let numbers : 1 ∷ 0 ∷ [] ≡ 0 ∷ 1 ∷ [] = ap item_numbers same in cc numbers
    none (suc (suc (suc items))) same = let numbers : 1 ∷ 0 ∷ [] ≡ 0 ∷ 1 ∷ [] = ap item_numbers same in cc numbers

-- a log that ends within a locked item
abbrev pub cut_script : List Item
cut_script = Locked (Load 1 0x40 ∷ Store 1 0x40 (LastPlus 1) ∷ []) ∷ []

abbrev pub cut_log : List Done
cut_log = entry 11 0 0 0 (Load 1 0x40) 0 ∷ []

pub cut_lock-not_in_order : InOrder (cut_script ∷ []) cut_log → ⊥
cut_lock-not_in_order o = none (o.follows 0).items (o.follows 0).same
  where
    none : (items : ℕ) → steps_of 0 cut_log ≡ accesses_of (take items cut_script) → ⊥
    none zero same = cc same
    none (suc zero) same = cc same
    none (suc (suc items)) same = cc same

-- another agent's access stands between the two of a locked item
pub parted_lock-not_together :
    are_items_together
    (entry 11 0 0 0 (Load 1 0x40) 0 ∷ entry 11 1 0 0 (Load 1 0x80) 0 ∷ entry 11 0 0 1
    (Store 1 0x40 (LastPlus 1)) 1 ∷ []) ≡ false
parted_lock-not_together = refl
