-- The accesses of a log that follows lawful scripts lie within one line each.
use Rattle.fsb_tied.proofs.Words
use Words.{◌≡◌, ℕ, zero, suc, ◌+◌, Bool, true, false, ◌⊎◌, List, [], ◌∷◌, ◌++◌, map, take, length, slice_get, Option}
use Words.{Some, None, refl, arith, and_parts, cases_Bool, eq-eqb, filter, list_all, addr_of, is_lawful_access}
use Words.{is_place, size_of, Access, Item, Done, InOrder, Step, accesses_from, accesses_of, script_of, step_of}
use Words.{steps_from}
use Rattle.std.proofs.Common.{unwrap_or}
use Rattle.std.specs.Prelude.{◌==◌, nat_le}
use Rattle.fsb_script.specs.Bounds.{is_lawful_item, is_lawful_script}
use Rattle.fsb_tied.proofs.LineBytes.{is_placed}

-- the access of a step lies within one line
abbrev is_placed_step : Step → Bool
is_placed_step step = is_place (size_of step.access) (addr_of step.access)

both-all : {X : Type 0} (f : X → Bool) (xs ys : List X) → list_all f xs ≡ true → list_all f ys ≡ true
    → list_all f (xs ++ ys) ≡ true
both-all f [] ys h k = k
both-all f (x ∷ xs) ys h k = grind (arith, both-all f xs ys)

take-all : {X : Type 0} (f : X → Bool) (n : ℕ) (xs : List X) → list_all f xs ≡ true → list_all f (take n xs) ≡ true
take-all f zero xs h = refl
take-all f (suc n) [] h = refl
take-all f (suc n) (x ∷ xs) h = grind (arith, take-all f n xs)

get-all : {X : Type 0} (f : X → Bool) (xs : List X) (i : ℕ) (x : X) → list_all f xs ≡ true → slice_get xs i ≡ Some x
    → f x ≡ true
get-all f [] i x h e = absurd (cc)
get-all f (y ∷ ys) zero x h e = grind arith
get-all f (y ∷ ys) (suc i) x h e = get-all f ys i x (and_parts (f y) (list_all f ys) h).1 e

steps-placed : (item part : ℕ) (accesses : List Access) → list_all is_lawful_access accesses ≡ true
    → list_all is_placed_step (steps_from item part accesses) ≡ true
steps-placed item part [] h = refl
steps-placed item part (access ∷ accesses) h = grind (arith, steps-placed item (part + 1) accesses)

items-placed : (cache number : ℕ) (items : List Item) → list_all (is_lawful_item cache) items ≡ true
    → list_all is_placed_step (accesses_from number items) ≡ true
items-placed cache number [] h = refl
items-placed cache number (item ∷ items) h =
    grind (arith, both-all, steps-placed, items-placed cache (number + 1) items)

script-placed : (cache a n : ℕ) (scripts : List (List Item)) → list_all (is_lawful_script cache) scripts ≡ true
    → list_all is_placed_step (accesses_of (take n (script_of scripts a))) ≡ true
unfolding is_lawful_script
script-placed cache a n scripts h = one (slice_get scripts a) refl
  where
    one : (o : Option (List Item)) → slice_get scripts a ≡ o
        → list_all is_placed_step (accesses_of (take n (unwrap_or o []))) ≡ true
    one None e = items-placed cache 0 (take n []) (take-all (is_lawful_item cache) n [] refl)
    one (Some items) e =
        let lawful = get-all (is_lawful_script cache) scripts a items h e in
        items-placed cache 0 (take n items)
        (take-all (is_lawful_item cache) n items
        (and_parts (nat_le (length items) 4096) (list_all (is_lawful_item cache) items) lawful).1)

named-placed : (entries : List Done) → list_all is_placed_step (map step_of entries) ≡ true
    → list_all is_placed entries ≡ true
unfolding is_placed
named-placed [] h = refl
named-placed (done ∷ entries) h = grind (arith, named-placed entries)

all-agents : (log : List Done) → ((a : ℕ) → list_all is_placed (filter (λ done. done.agent == a) log) ≡ true)
    → list_all is_placed log ≡ true
all-agents [] h = refl
all-agents (done ∷ log) h =
    let own = rw (eq-eqb done.agent done.agent refl) at (h done.agent) in
    let parts = and_parts (is_placed done) (list_all is_placed (filter (λ d. d.agent == done.agent) log)) own in
    rw (parts.0, all-agents log (λ a. rest a (cases_Bool (done.agent == a)))) refl
  where
    rest : (a : ℕ) → ((done.agent == a) ≡ true) ⊎ ((done.agent == a) ≡ false)
        → list_all is_placed (filter (λ d. d.agent == a) log) ≡ true
    rest a h1 = grind arith

-- every entry of a log in the order of lawful scripts lies within one line
pub log-placed : (cache : ℕ) (scripts : List (List Item)) (log : List Done) → InOrder scripts log
    → list_all (is_lawful_script cache) scripts ≡ true → list_all is_placed log ≡ true
log-placed cache scripts log order lawful = grind (arith, all-agents, named-placed, script-placed)
