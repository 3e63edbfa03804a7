-- How the order of a log goes on by the entries of an agent's next item.
use Rattle.std.proofs.Common.{◌≡◌, ◌≢◌, ℕ, zero, suc, ◌+◌, ◌<◌, ◌≤◌, Bool, true, false, not, ◌&&◌, List, [], ◌∷◌, ◌++◌}
use Rattle.std.proofs.Common.{Some, map, length, take, refl, sym, ◌∙◌, ap, ⊎_elim, arith, add-zero, zero-add}
use Rattle.std.proofs.Common.{append_assoc, append-nil}
use Rattle.std.proofs.Math.Bool.{or-false}
use Rattle.std.proofs.lemmas.Bool.{and_from, and_parts, cases_Bool, cases_eq, eq-eqb, eqb-true, lt-ltb, ltb-true}
use Rattle.std.proofs.lemmas.Bool.{ne_eqb, or_parts}
use Rattle.std.proofs.lemmas.List.{length-take, map-append}
use Rattle.std.proofs.lemmas.List.Elements.{filter-append}
use Rattle.std.proofs.lemmas.List.Folds.{list_any-append, list_all-append}
use Rattle.std.specs.Prelude.{◌==◌, nat_lt, slice_get}
use Rattle.std.specs.List.{list_any, list_all}
use Rattle.fsb_access.specs.ScriptOrder.{Step, steps_from, steps_of_item, accesses_from, accesses_of, step_of, steps_of}
use Rattle.fsb_access.specs.ScriptOrder.{script_of, AreOfItems, is_same_item, comes_again, are_items_together, InOrder}
use Rattle.fsb_access.specs.ScriptOrder.{AreNextItem}
use Rattle.fsb_access.specs.declared.access.Access.{Access}
use Rattle.fsb_access.specs.declared.item.Item.{Item}
use Rattle.fsb_access.specs.declared.item.Item.TheVariants.{One, Locked, Idle}
use Rattle.fsb_access.specs.declared.log.Done.{Done}

-- ---- a script's accesses

-- the accesses up to the end of the next item
pub accesses_of-next :
    (items : List Item) (count : ℕ) (item : Item) → slice_get items count ≡ Some item →
    accesses_of (take (count + 1) items) ≡ accesses_of (take count items) ++ steps_of_item count item
accesses_of-next items count item at = rw zero-add at (next 0 items count at)
  where
    next : (number : ℕ) (items : List Item) (count : ℕ) → slice_get items count ≡ Some item
        → accesses_from number (take (count + 1) items) ≡ accesses_from number (take count items)
        ++ steps_of_item (number + count) item
    next number [] count at = cc
    next number (first ∷ items) zero at = let same : first ≡ item = cc in rw same (simp (add-zero, append-nil) refl)
    next number (first ∷ items) (suc count) at =
        let more : number + 1 + count ≡ number + suc count = omega arith in
        let ahead = rw more at (next (number + 1) items count at) in
        let one : suc count + 1 ≡ suc (count + 1) = omega arith in
        rw (one, ahead) (sym (append_assoc (steps_of_item number first) _ _))

-- ---- an agent's entries

pub steps_of-append : (agent : ℕ) (log more : List Done)
    → steps_of agent (log ++ more) ≡ steps_of agent log ++ steps_of agent more
steps_of-append agent log more = rw (filter-append (λ (done : Done). done.agent == agent) log more)
    (map-append step_of _ _)

-- entries of one agent are all its own
pub steps_of-own : (agent : ℕ) (log : List Done) → list_all (λ (done : Done). done.agent == agent) log ≡ true
    → steps_of agent log ≡ map step_of log
steps_of-own agent [] own = refl
steps_of-own agent (done ∷ log) own =
    let parts = and_parts (done.agent == agent) (list_all (λ (d : Done). d.agent == agent) log) own in
    let rest = steps_of-own agent log parts.1 in
    rw parts.0 (ap (λ (steps : List Step). step_of done ∷ steps) rest)

-- entries of one agent are no other's
pub steps_of-other :
    (agent other : ℕ) (log : List Done) → list_all (λ (done : Done). done.agent == agent) log ≡ true
    → other ≢ agent → steps_of other log ≡ []
steps_of-other agent other [] own apart = refl
steps_of-other agent other (done ∷ log) own apart =
    let parts = and_parts (done.agent == agent) (list_all (λ (d : Done). d.agent == agent) log) own in
    let rest = steps_of-other agent other log parts.1 apart in
    let same = eqb-true done.agent agent parts.0 in
    let differs = ne_eqb done.agent other (λ e. apart (sym e ∙ same)) in
    rw differs rest

-- an agent past all those of a log has no entry
pub steps_of-nobody :
    (agents agent : ℕ) (log : List Done) → list_all (λ (done : Done). nat_lt done.agent agents) log ≡ true
    → agents ≤ agent → steps_of agent log ≡ []
steps_of-nobody agents agent [] below past = refl
steps_of-nobody agents agent (done ∷ log) below past =
    let parts = and_parts (nat_lt done.agent agents) (list_all (λ (d : Done). nat_lt d.agent agents) log) below in
    let rest = steps_of-nobody agents agent log parts.1 past in
    let less = ltb-true done.agent agents parts.0 in
    let differs = ne_eqb done.agent agent (λ e. omega arith) in
    rw differs rest

-- ---- neighbours

-- an entry is of this item of this agent
abbrev pub is_of : ℕ → ℕ → Done → Bool
is_of agent item done = (done.agent == agent) && (done.item == item)

-- an item that is nowhere in a log does not come again in it
pub comes_again-absent : (done : Done) (log : List Done) → list_any (is_same_item done) log ≡ false
    → comes_again done log ≡ false
comes_again-absent done [] absent = refl
comes_again-absent done (other ∷ log) absent =
    let parts = or_parts (is_same_item done other) (list_any (is_same_item done) log) absent in
    rw parts.0 parts.1

-- entries of other items after a log change nothing for an item
pub comes_again-append : (done : Done) (log more : List Done) → list_any (is_same_item done) more ≡ false
    → comes_again done (log ++ more) ≡ comes_again done log
comes_again-append done [] more absent = comes_again-absent done more absent
comes_again-append done (other ∷ log) more absent =
    ⊎_elim (same (comes_again-append done log more absent)) differs (cases_Bool (is_same_item done other))
  where
    same : comes_again done (log ++ more) ≡ comes_again done log → is_same_item done other ≡ true
        → comes_again done (other ∷ log ++ more) ≡ comes_again done (other ∷ log)
    same rest is = rw is rest

    differs : is_same_item done other ≡ false → comes_again done (other ∷ log ++ more) ≡ comes_again done (other ∷ log)
    differs is = rw is (list_any-append (is_same_item done) log more
        ∙ rw absent (or-false (list_any (is_same_item done) log)))

-- entries that are all of one item do not come again after another
pub comes_again-one : (done : Done) (log : List Done) → list_all (is_same_item done) log ≡ true
    → comes_again done log ≡ false
comes_again-one done [] all = refl
comes_again-one done (other ∷ log) all =
    let parts = and_parts (is_same_item done other) (list_all (is_same_item done) log) all in
    rw parts.0 (comes_again-one done log parts.1)

-- an entry of this item, and entries that are all of it
same_item-all : (agent item : ℕ) (done : Done) (log : List Done) → is_of agent item done ≡ true
    → list_all (is_of agent item) log ≡ true → list_all (is_same_item done) log ≡ true
same_item-all agent item done [] is all = refl
same_item-all agent item done (other ∷ log) is all =
    let parts = and_parts (is_of agent item other) (list_all (is_of agent item) log) all in
    let mine = and_parts (done.agent == agent) (done.item == item) is in
    let its = and_parts (other.agent == agent) (other.item == item) parts.0 in
    let agents = eq-eqb done.agent other.agent (eqb-true done.agent agent mine.0
    ∙ sym (eqb-true other.agent agent its.0)) in
    let items = eq-eqb done.item other.item (eqb-true done.item item mine.1 ∙ sym (eqb-true other.item item its.1)) in
    and_from _ _ (and_from _ _ agents items) (same_item-all agent item done log is parts.1)

-- an entry of another item, and entries that are all of this one
same_item-none : (agent item : ℕ) (done : Done) (log : List Done) → is_of agent item done ≡ false
    → list_all (is_of agent item) log ≡ true → list_any (is_same_item done) log ≡ false
same_item-none agent item done [] is all = refl
same_item-none agent item done (other ∷ log) is all =
    let parts = and_parts (is_of agent item other) (list_all (is_of agent item) log) all in
    let its = and_parts (other.agent == agent) (other.item == item) parts.0 in
    let agents = eqb-true other.agent agent its.0 in
    let items = eqb-true other.item item its.1 in
    rw (agents, items, is) (same_item-none agent item done log is parts.1)

-- the entries of one item are together
pub are_items_together-one : (agent item : ℕ) (log : List Done) → list_all (is_of agent item) log ≡ true
    → are_items_together log ≡ true
are_items_together-one agent item [] all = refl
are_items_together-one agent item (done ∷ log) all =
    let parts = and_parts (is_of agent item done) (list_all (is_of agent item) log) all in
    let again = comes_again-one done log (same_item-all agent item done log parts.0 parts.1) in
    rw again (are_items_together-one agent item log parts.1)

-- a log whose items are together, and then the entries of one item that it does not have
pub are_items_together-append :
    (agent item : ℕ) (log more : List Done) → are_items_together log ≡ true
    → list_any (is_of agent item) log ≡ false → list_all (is_of agent item) more ≡ true →
    are_items_together (log ++ more) ≡ true
are_items_together-append agent item [] more together absent all = are_items_together-one agent item more all
are_items_together-append agent item (done ∷ log) more together absent all =
    let parts = and_parts (not (comes_again done log)) (are_items_together log) together in
    let others = or_parts (is_of agent item done) (list_any (is_of agent item) log) absent in
    let again = comes_again-append done log more (same_item-none agent item done more others.0 all) in
    rw again (and_from _ _ parts.0 (are_items_together-append agent item log more parts.1 others.1 all))

-- ---- items in order

-- the accesses of the first items have lower item numbers
steps_from-below : (item bound part : ℕ) (accesses : List Access) → item < bound
    → list_all (λ (step : Step). nat_lt step.item bound) (steps_from item part accesses) ≡ true
steps_from-below item bound part [] below = refl
steps_from-below item bound part (access ∷ accesses) below =
    and_from _ _ (lt-ltb item bound below) (steps_from-below item bound (part + 1) accesses below)

steps_of_item-below : (number bound : ℕ) (item : Item) → number < bound
    → list_all (λ (step : Step). nat_lt step.item bound) (steps_of_item number item) ≡ true
steps_of_item-below number bound (One access) below = and_from _ _ (lt-ltb number bound below) refl
steps_of_item-below number bound (Locked group) below = steps_from-below number bound 0 group below
steps_of_item-below number bound (Idle clocks) below = refl

accesses_from-below : (number bound : ℕ) (items : List Item) → number + length items ≤ bound
    → list_all (λ (step : Step). nat_lt step.item bound) (accesses_from number items) ≡ true
accesses_from-below number bound [] within = refl
accesses_from-below number bound (item ∷ items) within =
    list_all-append (λ (step : Step). nat_lt step.item bound) (steps_of_item number item)
    (accesses_from (number + 1) items) ∙
    and_from _ _ (steps_of_item-below number bound item (omega arith))
    (accesses_from-below (number + 1) bound items (omega arith))

-- an agent whose steps all have lower item numbers has no entry of this item
absent-below : (agent item : ℕ) (log : List Done)
    → list_all (λ (step : Step). nat_lt step.item item) (steps_of agent log) ≡ true
    → list_any (is_of agent item) log ≡ false
absent-below agent item [] below = refl
absent-below agent item (done ∷ log) below =
    ⊎_elim (mine (absent-below agent item log)) (others (absent-below agent item log))
    (cases_Bool (done.agent == agent))
  where
    mine : (list_all (λ (step : Step). nat_lt step.item item) (steps_of agent log) ≡ true
        → list_any (is_of agent item) log ≡ false) → (done.agent == agent) ≡ true
        → list_any (is_of agent item) (done ∷ log) ≡ false
    mine rest is =
        let all = rw is at below in
        let parts = and_parts (nat_lt done.item item)
        (list_all (λ (step : Step). nat_lt step.item item) (steps_of agent log)) all in
        let less = ltb-true done.item item parts.0 in
        let differs = ne_eqb done.item item (λ e. omega arith) in
        rw (is, differs) (rest parts.1)

    others : (list_all (λ (step : Step). nat_lt step.item item) (steps_of agent log) ≡ true
        → list_any (is_of agent item) log ≡ false) → (done.agent == agent) ≡ false
        → list_any (is_of agent item) (done ∷ log) ≡ false
    others rest is = let all = rw is at below in rw is (rest all)

-- the steps of an item have its number
steps_from-item : (item part : ℕ) (accesses : List Access)
    → list_all (λ (step : Step). step.item == item) (steps_from item part accesses) ≡ true
steps_from-item item part [] = refl
steps_from-item item part (access ∷ accesses) =
    and_from _ _ (eq-eqb item item refl) (steps_from-item item (part + 1) accesses)

steps_of_item-item : (number : ℕ) (item : Item)
    → list_all (λ (step : Step). step.item == number) (steps_of_item number item) ≡ true
steps_of_item-item number (One access) = and_from _ _ (eq-eqb number number refl) refl
steps_of_item-item number (Locked group) = steps_from-item number 0 group
steps_of_item-item number (Idle clocks) = refl

-- entries of an agent whose steps have an item's number are of that item
is_of-all :
    (agent item : ℕ) (log : List Done) → list_all (λ (done : Done). done.agent == agent) log ≡ true →
    list_all (λ (step : Step). step.item == item) (map step_of log) ≡ true → list_all (is_of agent item) log ≡ true
is_of-all agent item [] own numbered = refl
is_of-all agent item (done ∷ log) own numbered =
    let mine = and_parts (done.agent == agent) (list_all (λ (d : Done). d.agent == agent) log) own in
    let its = and_parts (done.item == item) (list_all (λ (step : Step). step.item == item) (map step_of log))
    numbered in
    and_from _ _ (and_from _ _ mine.0 its.0) (is_of-all agent item log mine.1 its.1)

-- the empty log is in order
pub InOrder-empty : (scripts : List (List Item)) → InOrder scripts []
InOrder-empty scripts = record { follows = λ agent. record { items = 0; same = refl }; together = refl }

-- past the entries of an agent's next item, its entries are those of one item more
pub steps_of-next :
    (script : List Item) (agent count : ℕ) (log more : List Done) → AreNextItem script agent count log more →
    steps_of agent (log ++ more) ≡ accesses_of (take (count + 1) script)
steps_of-next script agent count log more next =
    steps_of-append agent log more
    ∙ rw (next.before, steps_of-own agent more next.own, next.steps)
    (sym (accesses_of-next script count next.item next.stands))

-- the other agents' entries stay
pub steps_of-stays :
    (script : List Item) (agent count other : ℕ) (log more : List Done)
    → AreNextItem script agent count log more → other ≢ agent →
    steps_of other (log ++ more) ≡ steps_of other log
steps_of-stays script agent count other log more next apart =
    steps_of-append other log more ∙ rw (steps_of-other agent other more next.own apart) (append-nil _)

-- a log in order, and then the entries of an agent's next item
pub InOrder-next :
    (scripts : List (List Item)) (agent count : ℕ) (log more : List Done) → InOrder scripts log →
    AreNextItem (script_of scripts agent) agent count log more → InOrder scripts (log ++ more)
InOrder-next scripts agent count log more order next = record { follows = follows; together = together }
  where
    follows : (other : ℕ) → AreOfItems (script_of scripts other) (steps_of other (log ++ more))
    follows other = ⊎_elim (mine other) (its other) (cases_eq other agent)
      where
        mine : (other : ℕ) → other ≡ agent → AreOfItems (script_of scripts other) (steps_of other (log ++ more))
        mine other is =
            rw is (record {
              items = count + 1;
              same = steps_of-next (script_of scripts agent) agent count log more next;
            })

        its : (other : ℕ) → other ≢ agent → AreOfItems (script_of scripts other) (steps_of other (log ++ more))
        its other apart =
            let had = order.follows other in
            record {
              items = had.items;
              same = steps_of-stays (script_of scripts agent) agent count other log more next apart ∙ had.same;
            }

    together : are_items_together (log ++ more) ≡ true
    together =
        let short : 0 + length (take count (script_of scripts agent)) ≤ count =
        omega (arith, length-take count (script_of scripts agent)) in
        let below = rw (← next.before) at (accesses_from-below 0 count (take count (script_of scripts agent)) short) in
        let all = is_of-all agent count more next.own (rw next.steps (steps_of_item-item count next.item)) in
        are_items_together-append agent count log more order.together (absent-below agent count log below) all
