-- How many entries an item has.
use Rattle.std.proofs.Common.{ℕ, ◌+◌, ◌≡◌, Some, List, [], ◌∷◌, length, refl, ◌∙◌, arith}
use Rattle.fsb_access.specs.declared.access.Access.{Access}
use Rattle.fsb_access.specs.declared.item.Item.{Item}
use Rattle.fsb_access.specs.declared.item.Item.TheVariants.{One, Locked, Idle}
use Rattle.fsb_access.specs.ScriptOrder.{Step, steps_from, steps_of_item}
use Rattle.fsb_agent_view.specs.AgentViews.{AgentView, next_item_by}
use Rattle.fsb_agent_view.specs.Completing.{completed_entries, hand_of}
use Rattle.fsb_agent_view.specs.Serving.{AtHand, entries_at_hand, hand_after}
use Rattle.fsb_agent.specs.Parts.{accesses_in}

length-entries : (agent clock : ℕ) (hand : AtHand) (steps : List Step)
    → length (entries_at_hand agent clock hand steps) ≡ length steps
length-entries agent clock hand [] = refl
length-entries agent clock hand (step ∷ steps) =
    omega (arith, length-entries agent clock (hand_after hand step.access) steps)

length-steps_from : (item part : ℕ) (accesses : List Access) → length (steps_from item part accesses) ≡ length accesses
length-steps_from item part [] = refl
length-steps_from item part (access ∷ accesses) = omega (arith, length-steps_from item (part + 1) accesses)

length-steps : (n : ℕ) (item : Item) → length (steps_of_item n item) ≡ length (accesses_in item)
length-steps n (One access) = refl
length-steps n (Locked group) = length-steps_from n 0 group
length-steps n (Idle clocks) = refl

pub length-completed : (v : AgentView) (clock : ℕ) (item : Item) → next_item_by v ≡ Some item
    → length (completed_entries v clock) ≡ length (accesses_in item)
length-completed v clock item there =
    rw there (length-entries v.number clock (hand_of v) (steps_of_item v.place item) ∙ length-steps v.place item)
