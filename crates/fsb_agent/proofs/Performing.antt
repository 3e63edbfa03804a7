-- What an item needs of the lines, and what may be performed on them.
use Rattle.std.proofs.Common.{ℕ, ◌≤◌, ◌≡◌, Bool, true, false, not, Some, List, [], ◌∷◌, length, refl, sym, ap, ◌∙◌}
use Rattle.std.proofs.Common.{arith}
use Rattle.std.specs.Prelude.{◌&&◌, ◌||◌, slice_get, nat_le, zero, suc}
use Rattle.std.specs.List.{list_all}
use Rattle.std.proofs.lemmas.Bool.{leb-true}
use Rattle.std.proofs.lemmas.List.Folds.{list_all-map}
use Rattle.fsb_access.specs.declared.item.Item.{Item}
use Rattle.fsb_access.specs.declared.item.Item.TheVariants.{One, Locked, Idle}
use Rattle.fsb_access.specs.Access.{accessed_line, is_lawful_access}
use Rattle.fsb_cache.specs.Sets.{CacheSets, states}
use Rattle.fsb_line.specs.States.{is_held, is_sole}
use Rattle.fsb_script.specs.Bounds.{is_lawful_item, is_lawful_script, is_lock_size, is_lock_apart, line_count}
use Rattle.fsb_timely.specs.Scripts.{Need, is_load, locked_need, needs_after, needs_of, plain_need}
use Rattle.fsb_agent_view.proofs.Interface.{both, both_left, both_right, list_all-from}
use Rattle.fsb_agent.specs.Parts.{IsPerformable, accesses_in, is_servable}

-- the lines are held as it is needed
abbrev pub holds_need : CacheSets → Need → Bool
holds_need lines need = is_held (states lines need.line) && (not need.alone || is_sole (states lines need.line))

not_not : (held load sole : Bool) → (held && (not (not load) || sole)) ≡ true → (held && (load || sole)) ≡ true
not_not true true sole h = refl
not_not true false sole h = h
not_not false load sole h = h

sole_serves : (held load sole : Bool) → (held && (not true || sole)) ≡ true → (held && (load || sole)) ≡ true
sole_serves true true sole h = refl
sole_serves true false sole h = h
sole_serves false load sole h = h

-- an item whose needs are met may be performed
pub servable-met : (lines : CacheSets) (item : Item) → list_all (holds_need lines) (needs_of item) ≡ true
    → list_all (is_servable lines) (accesses_in item) ≡ true
unfolding needs_of needs_after plain_need locked_need
servable-met lines (One access) met =
    let line = accessed_line access in
    both (is_servable lines access) true
    (not_not (is_held (states lines line)) (is_load access) (is_sole (states lines line))
    (both_left (holds_need lines (plain_need [] access)) true met)) refl
servable-met lines (Locked group) met =
    list_all-from (λ access. holds_need lines (locked_need [] group access)) (is_servable lines) group
    (λ access h. sole_serves (is_held (states lines (accessed_line access))) (is_load access)
    (is_sole (states lines (accessed_line access))) h)
    (sym (list_all-map (holds_need lines) (locked_need [] group) group) ∙ met)
servable-met lines (Idle clocks) met = refl

-- a lawful item has few accesses, each lawful
few_accesses : (cache : ℕ) (item : Item) → is_lawful_item cache item ≡ true → length (accesses_in item) ≤ 8
unfolding is_lock_size
few_accesses cache (One access) lawful = omega arith
few_accesses cache (Locked group) lawful =
    let size = both_left (is_lock_size group) (is_lock_apart cache group)
    (both_right (list_all is_lawful_access group) (is_lock_size group && is_lock_apart cache group) lawful) in
    leb-true (length group) 8
    (both_right (nat_le 1 (length group)) (nat_le (length group) 8)
    (both_left _ (nat_le (line_count group) 4) size))
few_accesses cache (Idle clocks) lawful = omega arith

lawful_accesses : (cache : ℕ) (item : Item) → is_lawful_item cache item ≡ true
    → list_all is_lawful_access (accesses_in item) ≡ true
lawful_accesses cache (One access) lawful = both (is_lawful_access access) true lawful refl
lawful_accesses cache (Locked group) lawful = both_left (list_all is_lawful_access group) _ lawful
lawful_accesses cache (Idle clocks) lawful = refl

-- what passes in each item passes in the one at a place
pub list_all-get : {X : Type 0} (p : X → Bool) (xs : List X) (i : ℕ) (x : X) → list_all p xs ≡ true
    → slice_get xs i ≡ Some x → p x ≡ true
list_all-get p [] i x all got = absurd (let h : ⊥ = cc in h)
list_all-get p (y ∷ ys) zero x all got = let is : y ≡ x = cc in ap p (sym is) ∙ both_left (p y) (list_all p ys) all
list_all-get p (y ∷ ys) (suc i) x all got = list_all-get p ys i x (both_right (p y) (list_all p ys) all) got

pub few_items : (cache : ℕ) (items : List Item) → is_lawful_script cache items ≡ true → length items ≤ 4096
unfolding is_lawful_script
few_items cache items lawful = leb-true (length items) 4096 (both_left (nat_le (length items) 4096) _ lawful)

pub lawful_item : (cache : ℕ) (items : List Item) (n : ℕ) (item : Item) → is_lawful_script cache items ≡ true
    → slice_get items n ≡ Some item → is_lawful_item cache item ≡ true
unfolding is_lawful_script
lawful_item cache items n item lawful got =
    list_all-get (is_lawful_item cache) items n item (both_right (nat_le (length items) 4096) _ lawful) got

pub performable : (lines : CacheSets) (cache : ℕ) (items : List Item) (n : ℕ) (item : Item)
    → is_lawful_script cache items ≡ true → slice_get items n ≡ Some item
    → list_all (holds_need lines) (needs_of item) ≡ true → IsPerformable lines item
performable lines cache items n item lawful got met =
    let is : is_lawful_item cache item ≡ true = lawful_item cache items n item lawful got in
    record {
      few = few_accesses cache item is;
      lawful = lawful_accesses cache item is;
      servable = servable-met lines item met;
    }
