-- Where a view is in its script: its next item, its window, and whether it idles.
use Rattle.fsb_agent_run.proofs.Words
use Words.{ℕ, ◌<◌, ◌≡◌, Bool, true, false, not, ◌&&◌, List, [], ◌∷◌, length, Option, Some, None, is_some, nat_lt}
use Words.{nat_le, refl, sym, ap, ◌∙◌, arith, option_and_then, option_map, option_map_or, is_some_and}
use Words.{first_where-found, Item, Done, Past, is_done_by, is_idle, is_idling, is_to_do, items_of, last_done}
use Words.{next_item, next_number, window, window_at, last_where-found, some-and, AgentView, is_finished_at, is_idle_by}
use Words.{may_complete, next_item_by, number_at, window_beginning, window_by, IsAgentOf, IsAtItem, IsPlacedIn}
use Words.{finished_by, idle_end, place_of}
use Rattle.std.specs.List.{slice_get}
use Rattle.fsb_agent_view.specs.declared.want.Finished.{Finished}

-- behind the last item there is none
slice_get-length : (items : List Item) → slice_get items (length items) ≡ None
slice_get-length [] = refl
slice_get-length (item ∷ items) = slice_get-length items

-- the item at the place of a number is that of the number
pub item-at : (items : List Item) (next : Option ℕ)
    → slice_get items (place_of items next) ≡ option_and_then (slice_get items) next
item-at items next = grind (arith, slice_get-length)

-- there is an item of the next number
is-there : (x : Option Item) (b : Bool) → (is_some_and x (λ item. not (is_idle item)) && b) ≡ true → is_some x ≡ true
unfolding is_some_and
is-there x b h1 = grind arith

next-there : (p : Past) (a c : ℕ)
    → is_some (option_and_then (slice_get (items_of p a)) (next_number p a c)) ≡ is_some (next_number p a c)
unfolding next_number is_to_do
next-there p a c = grind (arith, is-there, first_where-found)

-- the last entry below a clock was made below it
pub done-before : (p : Past) (a c : ℕ) (done : Done) → last_done p a c ≡ Some done → done.clock < c
unfolding last_done is_done_by
done-before p a c done e = grind (arith, last_where-found, some-and)

unfinished : (p : Past) (a c : ℕ) → is_finished_at (option_map finished_by (last_done p a c)) c ≡ false
unfinished p a c = grind (arith, done-before)

-- where nothing was completed at the clock, the item there is the next one
number-unfinished : (o : Option Finished) (place clock : ℕ) → is_finished_at o clock ≡ false
    → number_at o place clock ≡ place
number-unfinished o place clock h1 = grind arith

-- before a hit nothing was completed there
pub placed-at : (p : Past) (a c : ℕ) (v : AgentView) → IsPlacedIn p a c v → IsAtItem p a c false v
placed-at p a c v h = grind (arith, unfinished, number-unfinished)

-- the next item, where nothing was completed
pub next-by : (p : Past) (a c : ℕ) (v : AgentView) → IsAgentOf p a v → IsAtItem p a c false v
    → next_item_by v ≡ next_item p a c
unfolding next_item
next-by p a c v is at = grind (arith, item-at)

window-at : (p : Past) (a : ℕ) (next : Option ℕ)
    → window_beginning p.plan.ahead (items_of p a) (place_of (items_of p a) next)
    ≡ option_map_or (window_at p a) next []
unfolding window_at
window-at p a next = grind (arith, slice_get-length)

pub window-by : (p : Past) (a c : ℕ) (completed : Bool) (v : AgentView) → IsAgentOf p a v → IsAtItem p a c completed v
    → window_by v c ≡ window p a c
unfolding window
window-by p a c completed v is at = grind (arith, window-at)

-- a clock is below another one, or not
pub not-below : (m n : ℕ) → not (nat_lt m n) ≡ nat_le n m
not-below m n = grind arith

-- where there is a next item, a view that has completed nothing idles up to the clock that the run says
pub idle-of : (p : Past) (a c : ℕ) → (is_some (next_number p a c) && nat_lt c (idle_end p a c)) ≡ is_idling p a c
unfolding is_idling is_some_and
idle-of p a c = grind arith

pub idle-by : (p : Past) (a c : ℕ) (completed : Bool) (v : AgentView) → IsAtItem p a c completed v
    → (completed ≡ true → is_idling p a c ≡ false)
    → (is_some (next_number p a c) && is_idle_by v c) ≡ is_idling p a c
idle-by p a c completed v h1 h2 = grind (arith, idle-of)

-- the same, where the view has the next item
pub idling-by : (p : Past) (a c : ℕ) (v : AgentView) → IsAgentOf p a v → IsAtItem p a c false v
    → (is_some (next_item_by v) && is_idle_by v c) ≡ is_idling p a c
unfolding next_item
idling-by p a c v is at = grind (arith, next-by, next-there, idle-by)

-- a view that has completed nothing may do so exactly where the run does not idle, if it has a next item
pub may-by : (p : Past) (a c : ℕ) (v : AgentView) (item : Item) → IsAtItem p a c false v → next_item p a c ≡ Some item
    → may_complete v c ≡ not (is_idling p a c)
unfolding next_item
may-by p a c v item at next =
    let some : is_some (next_number p a c) ≡ true = sym (next-there p a c) ∙ ap is_some next in
    let idle : nat_lt c (idle_end p a c) ≡ is_idling p a c = sym (ap (λ b. b && nat_lt c (idle_end p a c)) some)
    ∙ idle-of p a c in
    rw (at.finished, at.idle_to refl) (sym (not-below c (idle_end p a c)) ∙ ap not idle)
