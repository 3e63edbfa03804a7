-- What is completed leaves as much less to come as there are entries.
use Rattle.std.proofs.Common.{◌≡◌, ◌≤◌, ℕ, ◌+◌, Bool, true, false, List, [], ◌∷◌, drop, length, Option, Some, None}
use Rattle.std.proofs.Common.{zero, suc, refl, sym, ap, ◌∙◌, arith}
use Rattle.std.proofs.lemmas.List.Sums.{sum_by-cons}
use Rattle.std.proofs.lemmas.Option.{none-some, same_Some}
use Rattle.std.specs.Option.{option_map_or}
use Rattle.std.specs.Prelude.{slice_get}
use Rattle.fsb_access.specs.declared.access.Access.{Access}
use Rattle.fsb_access.specs.declared.item.Item.{Item}
use Rattle.fsb_access.specs.declared.item.Item.TheVariants.{One, Locked, Idle}
use Rattle.fsb_access.specs.declared.log.Done.{Done}
use Rattle.fsb_access.specs.ScriptOrder.{Step, steps_from, steps_of_item}
use Rattle.fsb_agent_view.specs.declared.want.OwnRequest.{OwnRequest}
use Rattle.fsb_agent_view.specs.AgentViews.{AgentView}
use Rattle.fsb_agent_view.specs.Arriving.{arrived_entries, arrived_for, ended_entries_for, ended_for, is_arrival_by}
use Rattle.fsb_agent_view.specs.Arriving.{line_arrived, met_entries, upgrade_ended, upgrade_entries, with_bytes}
use Rattle.fsb_agent_view.specs.Completing.{completed_by, completed_entries, hand_of, is_hit_by, performed}
use Rattle.fsb_agent_view.specs.Completing.{performed_entries}
use Rattle.fsb_agent_view.specs.Idling.{place_from}
use Rattle.fsb_agent_view.specs.OwnRequests.{request_numbered}
use Rattle.fsb_agent_view.specs.Serving.{AtHand, entries_at_hand, hand_after}
use Rattle.fsb_plan_size.specs.AccessCount.{item_accesses, script_accesses}
use Rattle.fsb_bus.specs.LogRoom.{accesses_left}

entries-count : (agent clock : ℕ) (hand : AtHand) (steps : List Step)
    → length (entries_at_hand agent clock hand steps) ≡ length steps
entries-count agent clock hand [] = refl
entries-count agent clock hand (step ∷ steps) = ap suc (entries-count agent clock (hand_after hand step.access) steps)

steps-count : (item part : ℕ) (accesses : List Access) → length (steps_from item part accesses) ≡ length accesses
steps-count item part [] = refl
steps-count item part (access ∷ accesses) = ap suc (steps-count item (part + 1) accesses)

item-count : (n : ℕ) (item : Item) → length (steps_of_item n item) ≡ item_accesses item
item-count n (One access) = refl
item-count n (Locked group) = steps-count n 0 group
item-count n (Idle clocks) = refl

-- an item of a script, and the items after it
left-item : (items : List Item) (n : ℕ) (item : Item) → slice_get items n ≡ Some item
    → script_accesses (drop n items) ≡ item_accesses item + script_accesses (drop (n + 1) items)
left-item [] zero item there = absurd (none-some item there)
left-item [] (suc n) item there = absurd (none-some item there)
left-item (i ∷ items) zero item there =
    sum_by-cons item_accesses i items ∙ ap (λ x. item_accesses x + script_accesses items) (same_Some i item there)
left-item (i ∷ items) (suc n) item there =
    let place : suc n + 1 ≡ suc (n + 1) = omega arith in
    left-item items n item there ∙ ap (λ m. item_accesses item + script_accesses (drop m (i ∷ items))) (sym place)

-- behind a later place there is less to come
left-from : (items : List Item) (n m : ℕ) → n ≤ m → script_accesses (drop m items) ≤ script_accesses (drop n items)
left-from [] zero zero le = omega arith
left-from [] zero (suc m) le = omega arith
left-from [] (suc n) zero le = omega arith
left-from [] (suc n) (suc m) le = omega arith
left-from (i ∷ items) zero zero le = omega arith
left-from (i ∷ items) zero (suc m) le =
    let rest = left-from items 0 m (omega arith) in
    let here = sum_by-cons item_accesses i items in
    omega (arith, rest, here)
left-from (i ∷ items) (suc n) zero le = absurd (omega (arith, le))
left-from (i ∷ items) (suc n) (suc m) le = left-from items n m (omega (arith, le))

left-done : (v : AgentView) (clock : ℕ) (next : Option Item) → slice_get v.items v.place ≡ next
    → length (entries_at_hand v.number clock (hand_of v) (option_map_or (steps_of_item v.place) next []))
    + script_accesses (drop (place_from v.items (v.place + 1)) v.items) ≤ script_accesses (drop v.place v.items)
left-done v clock None is =
    let after = left-from v.items v.place (place_from v.items (v.place + 1)) (omega arith) in
    omega (arith, after)
left-done v clock (Some item) is =
    let count = entries-count v.number clock (hand_of v) (steps_of_item v.place item) in
    let here = left-item v.items v.place item is in
    let after = left-from v.items (v.place + 1) (place_from v.items (v.place + 1)) (omega arith) in
    let of_item = item-count v.place item in
    omega (arith, count, here, after, of_item)

-- an agent that completes its next item
pub left-completed : (v : AgentView) (clock : ℕ)
    → length (completed_entries v clock) + accesses_left (completed_by v clock) ≤ accesses_left v
left-completed v clock = left-done v clock (slice_get v.items v.place) refl

left-if : (v there : AgentView) (clock : ℕ) (completes : Bool) → accesses_left there ≡ accesses_left v
    → length (elim completes as (λ _. List Done) [ true ↦ completed_entries there clock | false ↦ [] ])
    + accesses_left (elim completes as (λ _. AgentView) [ true ↦ completed_by there clock | false ↦ there ])
    ≤ accesses_left v
left-if v there clock true same = let done = left-completed there clock in omega (arith, done, same)
left-if v there clock false same = omega (arith, same)

-- an agent that performs its hit, if it has one
pub left-performed : (v : AgentView) (clock : ℕ)
    → length (performed_entries v clock) + accesses_left (performed v clock) ≤ accesses_left v
left-performed v clock = left-if v v clock (is_hit_by v clock) refl

left-met : (v : AgentView) (clock : ℕ) (out : OwnRequest) (bytes : List ℕ)
    → length (met_entries v clock out bytes) + accesses_left (arrived_for v clock out bytes) ≤ accesses_left v
left-met v clock out bytes = left-if v (with_bytes v out.request.line bytes) clock (is_arrival_by v clock out) refl

left-out : (v : AgentView) (clock : ℕ) (bytes : List ℕ) (out : Option OwnRequest)
    → length (option_map_or (λ out. met_entries v clock out bytes) out [])
    + accesses_left (option_map_or (λ out. arrived_for v clock out bytes) out v) ≤ accesses_left v
left-out v clock bytes None = omega arith
left-out v clock bytes (Some out) = left-met v clock out bytes

-- an agent to which a line comes
pub left-arrived : (v : AgentView) (clock number : ℕ) (bytes : List ℕ)
    → length (arrived_entries v clock number bytes) + accesses_left (line_arrived v clock number bytes)
    ≤ accesses_left v
left-arrived v clock number bytes = left-out v clock bytes (request_numbered number v.outs)

left-kept : (v : AgentView) (clock : ℕ) (out : OwnRequest) (kept : Option (List ℕ)) → out.kept ≡ kept
    → length (ended_entries_for v clock out) + accesses_left (ended_for v clock out) ≤ accesses_left v
left-kept v clock out None is = rw is (omega arith)
left-kept v clock out (Some bytes) is = rw is (left-met v clock out bytes)

left-upgrade : (v : AgentView) (clock : ℕ) (out : Option OwnRequest)
    → length (option_map_or (ended_entries_for v clock) out []) + accesses_left
    (option_map_or (ended_for v clock) out v) ≤ accesses_left v
left-upgrade v clock None = omega arith
left-upgrade v clock (Some out) = left-kept v clock out out.kept refl

-- an agent whose upgrade ends
pub left-upgraded : (v : AgentView) (clock number : ℕ)
    → length (upgrade_entries v clock number) + accesses_left (upgrade_ended v clock number) ≤ accesses_left v
left-upgraded v clock number = left-upgrade v clock (request_numbered number v.outs)
