-- Logs that are not in order, or that do not replay, for one thing alone.
use Rattle.std.proofs.Common.{◌≡◌, ℕ, zero, suc, true, false, List, [], ◌∷◌, map, take, refl, ap, arith}
use Rattle.fsb_access.proofs.Interface.{steps_of-nobody}
use Rattle.fsb_access.specs.ByteMemory.{bytes_at, put_value}
use Rattle.fsb_access.specs.Replay.{Served}
use Rattle.fsb_access.specs.ScriptOrder.{InOrder, AreOfItems, Step, accesses_of, are_items_together, script_of}
use Rattle.fsb_access.specs.ScriptOrder.{steps_of}
use Rattle.fsb_access.specs.declared.access.Access.TheVariants.{Load, Store}
use Rattle.fsb_access.specs.declared.access.Operand.TheVariants.{Literal, LastPlus}
use Rattle.fsb_access.specs.declared.item.Item.{Item}
use Rattle.fsb_access.specs.declared.item.Item.TheVariants.{One, Locked}
use Rattle.fsb_access.specs.declared.log.Done.{Done}
use Rattle.rows_timely.proofs.LaidOut.{entry, setting}

-- a script of two loads
abbrev pub two_loads : List Item
two_loads = One (Load 1 0x40) ∷ One (Load 1 0x80) ∷ []

abbrev item_numbers : List Step → List ℕ
item_numbers steps = map (λ (step : Step). step.item) steps

-- the second agent's items were done in another order than its script's
abbrev pub swapped_by_1 : List Done
swapped_by_1 = entry 11 1 1 0 (Load 1 0x80) 0 ∷ entry 23 1 0 0 (Load 1 0x40) 0 ∷ []

pub swapped_by_the_second-not_in_order : InOrder ([] ∷ two_loads ∷ []) swapped_by_1 → ⊥
swapped_by_the_second-not_in_order o = none (o.follows 1).items (o.follows 1).same
  where
    none : (items : ℕ) → steps_of 1 swapped_by_1 ≡ accesses_of (take items two_loads) → ⊥
    none zero same = cc same
    none (suc zero) same = let numbers : 1 ∷ 0 ∷ [] ≡ 0 ∷ [] = ap item_numbers same in cc numbers
    none (suc (suc zero)) same = let numbers : 1 ∷ 0 ∷ [] ≡ 0 ∷ 1 ∷ [] = ap item_numbers same in cc numbers
    none (suc (suc (suc items))) same = let numbers : 1 ∷ 0 ∷ [] ≡ 0 ∷ 1 ∷ [] = ap item_numbers same in cc numbers

-- an agent that has no script did something
abbrev pub done_by_nobody : List Done
done_by_nobody = entry 11 2 0 0 (Load 1 0x40) 0 ∷ []

pub access_without_script-not_in_order : InOrder (two_loads ∷ []) done_by_nobody → ⊥
access_without_script-not_in_order o = none (o.follows 2).items (o.follows 2).same
  where
    none : (items : ℕ) → steps_of 2 done_by_nobody ≡ accesses_of (take items (script_of (two_loads ∷ []) 2)) → ⊥
    none zero same = cc same
    none (suc items) same = cc same

-- another agent's access stands between the two of a locked item, and all else is in order
abbrev pub parted_scripts : List (List Item)
parted_scripts =
    (Locked (Load 1 0x40 ∷ Store 1 0x40 (LastPlus 1) ∷ []) ∷ []) ∷ (One (Load 1 0x80) ∷ []) ∷ []

abbrev pub parted_log : List Done
parted_log =
    entry 11 0 0 0 (Load 1 0x40) 0 ∷ entry 11 1 0 0 (Load 1 0x80) 0 ∷ entry 11 0 0 1 (Store 1 0x40 (LastPlus 1)) 1 ∷ []

pub parted_lock-not_in_order : InOrder parted_scripts parted_log → ⊥
parted_lock-not_in_order o = let parted : false ≡ true = o.together in cc parted

-- and its agents' accesses are those of their scripts: it is not in order for that alone
pub parted_lock-follows : (agent : ℕ) → AreOfItems (script_of parted_scripts agent) (steps_of agent parted_log)
parted_lock-follows zero = record { items = 1; same = refl }
parted_lock-follows (suc zero) = record { items = 1; same = refl }
parted_lock-follows (suc (suc agent)) = record {
  items = 0;
  same = steps_of-nobody 2 (suc (suc agent)) parted_log refl (omega arith);
}

-- two accesses of others stand between the two of a locked item
pub lock_parted_by_two-not_together :
    are_items_together
    (entry 11 0 0 0 (Load 1 0x40) 0 ∷ entry 11 1 0 0 (Load 1 0x80) 0 ∷ entry 11 2 0 0 (Load 1 0xc0) 0 ∷ entry 11 0 0 1
    (Store 1 0x40 (LastPlus 1)) 1 ∷ []) ≡ false
lock_parted_by_two-not_together = refl

-- another item of the agent itself stands between them
pub lock_parted_by_its_agent-not_together :
    are_items_together
    (entry 11 0 0 0 (Load 1 0x40) 0 ∷ entry 11 0 1 0 (Load 1 0x80) 0 ∷ entry 11 0 0 1
    (Store 1 0x40 (LastPlus 1)) 1 ∷ []) ≡ false
lock_parted_by_its_agent-not_together = refl

-- a store that is logged with another number is not served
pub other_number-not_served : Served [] (entry 11 0 0 0 (Store 1 0x40 (Literal 5)) 6 ∷ []) → ⊥
unfolding bytes_at put_value
other_number-not_served served = cc served

-- nor is one whose sum is not cut
pub uncut_sum-not_served :
    Served (setting 0x40 255 ∷ [])
    (entry 1 0 0 0 (Load 1 0x40) 255 ∷ entry 2 0 1 0 (Store 1 0x44 (LastPlus 2)) 257 ∷ []) → ⊥
unfolding bytes_at put_value
uncut_sum-not_served served = cc served
