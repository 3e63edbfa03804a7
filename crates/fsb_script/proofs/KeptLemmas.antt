-- What a draft keeps, through one more item, setting, script or hazard.
use Rattle.std.proofs.Common.{◌≡◌, ℕ, zero, suc, ◌<◌, ◌≤◌, Bool, true, false, cond, List, [], ◌∷◌, ◌++◌, length, IsTrue}
use Rattle.std.proofs.Common.{refl, ap, ◌∙◌, sym, arith, length-append}
use Rattle.std.specs.Prelude.{◌&&◌, ◌||◌, nat_le, ◌==◌}
use Rattle.std.specs.List.{list_all}
use Rattle.std.proofs.lemmas.List.Folds.{list_all-append}
use Rattle.std.proofs.lemmas.Bool.{le-leb, leb-true, ltb-true, eqb-true, and_from, and_parts}
use Rattle.fsb_access.specs.declared.access.Access.{Access}
use Rattle.fsb_access.specs.Access.{is_lawful_access}
use Rattle.fsb_access.specs.declared.item.Item.{Item}
use Rattle.fsb_hazard.specs.declared.line.HazardLine.{HazardLine}
use Rattle.fsb_script.specs.Bounds.{is_cache, is_lock_size, is_lock_apart, is_lawful_item, is_lawful_script}
use Rattle.fsb_script.specs.Bounds.{is_lawful_hazard, are_lawful_hazards}
use Rattle.fsb_access.specs.declared.item.Item.TheVariants.{Locked, Idle}
use Rattle.fsb_script.specs.declared.place.Place.{Place}
use Rattle.fsb_script.specs.declared.place.Place.TheVariants as places
use Rattle.fsb_script.specs.Drafts.{place_behind}
use Rattle.fsb_script.specs.DraftKept.{are_counts, is_fresh, has_all, has_lock_room}

-- a test of each element, through a push
pub all_push : {X : Type 0} (p : X → Bool) (xs : List X) (x : X) → list_all p xs ≡ true → p x ≡ true
    → list_all p (xs ++ x ∷ []) ≡ true
all_push p xs x old new = list_all-append p xs (x ∷ []) ∙ and_from _ _ old (and_from _ _ new refl)

-- a list that stays short, through a push
pub short_push : {X : Type 0} (xs : List X) (x : X) → length xs < 4096 → nat_le (length (xs ++ x ∷ [])) 4096 ≡ true
short_push xs x room = le-leb _ _ (omega (arith, length-append xs (x ∷ [])))

pub script_push : (cache : ℕ) (items : List Item) (item : Item) → IsTrue (is_lawful_script cache items)
    → length items < 4096 → IsTrue (is_lawful_item cache item) → IsTrue (is_lawful_script cache (items ++ item ∷ []))
unfolding is_lawful_script
script_push cache items item old room new = and_from _ _ (short_push items item room)
    (all_push (is_lawful_item cache) items item (and_parts _ _ old).1 new)

pub script_none : (cache : ℕ) (items : List Item) → length items ≡ 0 → IsTrue (is_lawful_script cache items)
unfolding is_lawful_script
script_none cache [] none = refl
script_none cache (item ∷ items) none = absurd (omega arith)

pub scripts_none : (cache : ℕ) (scripts : List (List Item)) → length scripts ≡ 0
    → IsTrue (list_all (is_lawful_script cache) scripts)
scripts_none cache [] none = refl
scripts_none cache (items ∷ scripts) none = absurd (omega arith)

pub hazard_push : (lines : List HazardLine) (line : HazardLine) → IsTrue (are_lawful_hazards lines)
    → length lines < 4096 → IsTrue (is_lawful_hazard line) → IsTrue (are_lawful_hazards (lines ++ line ∷ []))
unfolding are_lawful_hazards
hazard_push lines line old room new = and_from _ _ (short_push lines line room)
    (all_push is_lawful_hazard lines line (and_parts _ _ old).1 new)

-- ---- empty lists

pub all_none : {X : Type 0} (p : X → Bool) (xs : List X) → xs ≡ [] → list_all p xs ≡ true
all_none p xs none = ap (list_all p) none

pub script_empty : (cache : ℕ) (items : List Item) → items ≡ [] → IsTrue (is_lawful_script cache items)
unfolding is_lawful_script
script_empty cache items none = ap (is_lawful_script cache) none

pub hazards_empty : (lines : List HazardLine) → lines ≡ [] → IsTrue (are_lawful_hazards lines)
unfolding are_lawful_hazards
hazards_empty lines none = ap are_lawful_hazards none

-- ---- places

pub fresh_empty : (scripts : List (List Item)) (script : List Item) → scripts ≡ [] → script ≡ []
    → IsTrue (is_fresh places.First scripts script)
unfolding is_fresh
fresh_empty scripts script none no_items = ap (λ s. is_fresh places.First s script) none
    ∙ ap (λ s. is_fresh places.First [] s) no_items

or_right : (a b : Bool) → a ≡ false → (a || b) ≡ true → b ≡ true
or_right true b p q = absurd cc
or_right false b p q = q

cache_empty : (scripts : List (List Item)) (script : List Item)
    → ((length scripts == 0) && (length script == 0)) ≡ true → (length scripts ≡ 0) × (length script ≡ 0)
cache_empty scripts script h = (
  eqb-true (length scripts) 0
      (and_parts (length scripts == 0) (length script == 0) h).0,
  eqb-true (length script) 0
      (and_parts (length scripts == 0) (length script == 0) h).1,
)

-- no item stands before the number of cache lines
pub cache_none : (place : Place) (scripts : List (List Item)) (script : List Item)
    → IsTrue (is_fresh place scripts script) → place ≡ places.Cache → (length scripts ≡ 0) × (length script ≡ 0)
unfolding is_fresh
cache_none place scripts script fresh here =
    let there : is_fresh places.Cache scripts script ≡ true = ap (λ p. is_fresh p scripts script) (sym here) ∙ fresh in
    cache_empty scripts script there

pub cache_some : (n : ℕ) → IsTrue (is_cache n) → 0 < n
cache_some zero h = absurd cc
cache_some (suc n) h = omega arith

pub items_fresh : (place : Place) (scripts : List (List Item)) (script : List Item) → place ≡ places.Items
    → IsTrue (is_fresh place scripts script)
unfolding is_fresh
items_fresh place scripts script here = ap (λ p. is_fresh p scripts script) here

pub items_all : (place : Place) (agents : ℕ) (scripts : List (List Item)) → place ≡ places.Items
    → IsTrue (has_all place agents scripts)
unfolding has_all
items_all place agents scripts here = ap (λ p. has_all p agents scripts) here

pub items_room : (place : Place) (script : List Item) → place ≡ places.Items → IsTrue (has_lock_room place script)
unfolding has_lock_room
items_room place script here = ap (λ p. has_lock_room p script) here

pub locked_room : (place : Place) (script : List Item) → IsTrue (has_lock_room place script) → place ≡ places.Locked
    → length script < 4096
unfolding has_lock_room
locked_room place script room here =
    let there : has_lock_room places.Locked script ≡ true = ap (λ p. has_lock_room p script) (sym here) ∙ room in
    ltb-true (length script) 4096 there

pub last_scripts : (place : Place) (agents : ℕ) (scripts : List (List Item)) → IsTrue (has_all place agents scripts)
    → place ≡ places.Hazards → length scripts ≡ agents
unfolding has_all
last_scripts place agents scripts all here =
    let there : has_all places.Hazards agents scripts ≡ true = ap (λ p. has_all p agents scripts) (sym here) ∙ all in
    eqb-true (length scripts) agents there

-- ---- behind a script

cond_fresh : (t : Bool) (scripts : List (List Item)) (script : List Item)
    → is_fresh (cond t places.Hazards places.Agent) scripts script ≡ true
unfolding is_fresh
cond_fresh true scripts script = refl
cond_fresh false scripts script = refl

pub behind_fresh : (place : Place) (n agents : ℕ) (scripts : List (List Item)) (script : List Item)
    → place ≡ place_behind n agents → IsTrue (is_fresh place scripts script)
behind_fresh place n agents scripts script here =
    ap (λ p. is_fresh p scripts script) here ∙ cond_fresh (n == agents) scripts script

cond_all : (t : Bool) (agents : ℕ) (scripts : List (List Item)) → (length scripts == agents) ≡ t
    → has_all (cond t places.Hazards places.Agent) agents scripts ≡ true
unfolding has_all
cond_all true agents scripts same = same
cond_all false agents scripts same = refl

pub behind_all : (place : Place) (agents : ℕ) (scripts : List (List Item))
    → place ≡ place_behind (length scripts) agents → IsTrue (has_all place agents scripts)
behind_all place agents scripts here = ap (λ p. has_all p agents scripts) here
    ∙ cond_all (length scripts == agents) agents scripts refl

cond_room : (t : Bool) (script : List Item) → has_lock_room (cond t places.Hazards places.Agent) script ≡ true
unfolding has_lock_room
cond_room true script = refl
cond_room false script = refl

pub behind_room : (place : Place) (n agents : ℕ) (script : List Item) → place ≡ place_behind n agents
    → IsTrue (has_lock_room place script)
behind_room place n agents script here = ap (λ p. has_lock_room p script) here ∙ cond_room (n == agents) script

-- ---- the numbers of the head

-- the facts of the test, one by one
pub record Counts (agents clocks ahead : ℕ) : Type 0 where
  pub some_agents : 1 ≤ agents
  pub few_agents : agents ≤ 4
  pub few_clocks : clocks ≤ 200000
  pub some_ahead : 1 ≤ ahead
  pub few_ahead : ahead ≤ 4

pub counts_are : (agents clocks ahead : ℕ) → IsTrue (are_counts agents clocks ahead) → Counts agents clocks ahead
counts_are agents clocks ahead h =
    let agents_two : (nat_le 1 agents && nat_le agents 4) ≡ true =
    (and_parts (nat_le 1 agents && nat_le agents 4)
    (nat_le clocks 200000 && (nat_le 1 ahead && nat_le ahead 4)) h).0 in
    let others : (nat_le clocks 200000 && (nat_le 1 ahead && nat_le ahead 4)) ≡ true =
    (and_parts (nat_le 1 agents && nat_le agents 4)
    (nat_le clocks 200000 && (nat_le 1 ahead && nat_le ahead 4)) h).1 in
    let ahead_two : (nat_le 1 ahead && nat_le ahead 4) ≡ true =
    (and_parts (nat_le clocks 200000) (nat_le 1 ahead && nat_le ahead 4) others).1 in
    record {
      some_agents = leb-true 1 agents (and_parts (nat_le 1 agents) (nat_le agents 4) agents_two).0;
      few_agents = leb-true agents 4 (and_parts (nat_le 1 agents) (nat_le agents 4) agents_two).1;
      few_clocks = leb-true clocks 200000 (and_parts (nat_le clocks 200000)
          (nat_le 1 ahead && nat_le ahead 4) others).0;
      some_ahead = leb-true 1 ahead (and_parts (nat_le 1 ahead) (nat_le ahead 4) ahead_two).0;
      few_ahead = leb-true ahead 4 (and_parts (nat_le 1 ahead) (nat_le ahead 4) ahead_two).1;
    }

-- a locked item is lawful
pub locked_lawful : (cache : ℕ) (group : List Access) → IsTrue (list_all is_lawful_access group)
    → is_lock_size group ≡ true → is_lock_apart cache group ≡ true → IsTrue (is_lawful_item cache (Locked group))
locked_lawful cache group lawful few apart = and_from _ _ lawful (and_from _ _ few apart)

-- an idle item is lawful
pub idle_lawful : (cache clocks : ℕ) → 1 ≤ clocks → clocks ≤ 200000 → IsTrue (is_lawful_item cache (Idle clocks))
idle_lawful cache clocks some few = and_from _ _ (le-leb 1 clocks some) (le-leb clocks 200000 few)

pub not_empty : (n : ℕ) (test : Bool) → test ≡ (n == 0) → test ≡ false → 0 < n
not_empty zero test is false_test = absurd cc
not_empty (suc n) test is false_test = omega arith
