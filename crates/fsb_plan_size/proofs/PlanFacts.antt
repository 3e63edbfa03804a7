-- What a plan's own facts say of its scripts.
use Rattle.std.proofs.Common.{◌≡◌, ℕ, zero, suc, ◌+◌, ◌<◌, ◌≤◌, arith, Bool, true, nat_le, ◌&&◌, List, [], ◌∷◌, length}
use Rattle.std.proofs.Common.{take, get_or, sum_by, refl, sym, ap, ◌∙◌, subst, ◌++◌, add-one}
use Rattle.std.proofs.Math.Seq.{take-suc}
use Rattle.std.proofs.lemmas.List.Sums.{sum_by-append}
use Rattle.std.proofs.Math.Logic.{⊎_elim}
use Rattle.std.proofs.lemmas.Bool.{and_parts, cases_Bool, leb-true}
use Rattle.std.proofs.lemmas.Grind.{common_steps}
use Rattle.std.proofs.lemmas.List.Folds.{list_all_at}
use Rattle.std.specs.List.{list_all}
use Rattle.fsb_access.specs.Access.{is_lawful_access}
use Rattle.fsb_access.specs.ScriptOrder.{script_of}
use Rattle.fsb_access.specs.declared.item.Item.{Item}
use Rattle.fsb_access.specs.declared.item.Item.TheVariants.{One, Locked, Idle}
use Rattle.fsb_script.specs.Bounds.{is_lawful_script, is_lawful_item, is_lock_size, is_lock_apart, line_count}
use Rattle.fsb_plan_size.specs.AccessCount.{has_few_accesses, script_accesses, access_count}

-- what all elements pass, the one at an index passes
pub all_at : {X : Type 0} (p : X → Bool) (xs : List X) (i : ℕ) (d : X) → i < length xs → list_all p xs ≡ true
    → p (get_or xs i d) ≡ true
all_at p xs i d h all = ⊎_elim (λ e. e) (λ e. let f = list_all_at p xs i d h e in cc) (cases_Bool (p (get_or xs i d)))

-- a lawful script has few items, and each is lawful
pub few_items : (cache : ℕ) (items : List Item) → is_lawful_script cache items ≡ true → length items ≤ 4096
unfolding is_lawful_script
few_items cache items e = leb-true (length items) 4096
    (and_parts (nat_le (length items) 4096) (list_all (is_lawful_item cache) items) e).0

pub lawful_items : (cache : ℕ) (items : List Item) → is_lawful_script cache items ≡ true
    → list_all (is_lawful_item cache) items ≡ true
unfolding is_lawful_script
lawful_items cache items e = (and_parts (nat_le (length items) 4096) (list_all (is_lawful_item cache) items) e).1

-- a lawful item has at most eight accesses
few_accesses : (cache : ℕ) (item : Item) → is_lawful_item cache item ≡ true → has_few_accesses item ≡ true
unfolding is_lock_size
few_accesses cache (One access) e = refl
few_accesses cache (Locked group) e =
    let lock = (and_parts (list_all is_lawful_access group) (is_lock_size group && is_lock_apart cache group) e).1 in
    let size = (and_parts (is_lock_size group) (is_lock_apart cache group) lock).0 in
    let count = (and_parts (nat_le 1 (length group) && nat_le (length group) 8) (nat_le (line_count group) 4) size).0 in
    (and_parts (nat_le 1 (length group)) (nat_le (length group) 8) count).1
few_accesses cache (Idle clocks) e = refl

pub all_few : (cache : ℕ) (items : List Item) → list_all (is_lawful_item cache) items ≡ true
    → list_all has_few_accesses items ≡ true
all_few cache [] e = refl
all_few cache (item ∷ items) e =
    let parts = and_parts (is_lawful_item cache item) (list_all (is_lawful_item cache) items) e in
    rw (few_accesses cache item parts.0, all_few cache items parts.1) refl

-- the script at an index is lawful
pub script_at : (cache : ℕ) (scripts : List (List Item)) (i : ℕ) (script items : List Item)
    → i < length scripts → items ≡ script → script ≡ get_or scripts i script
    → list_all (is_lawful_script cache) scripts ≡ true → is_lawful_script cache items ≡ true
script_at cache scripts i script items h e at all =
    subst (λ l. is_lawful_script cache l ≡ true) (sym (e ∙ at)) (all_at (is_lawful_script cache) scripts i script h all)

-- the script of an agent is lawful, also where there is none
pub lawful_script_of : (cache : ℕ) (scripts : List (List Item)) (n : ℕ)
    → list_all (is_lawful_script cache) scripts ≡ true → is_lawful_script cache (script_of scripts n) ≡ true
unfolding is_lawful_script
lawful_script_of cache [] n e = refl
lawful_script_of cache (items ∷ scripts) zero e =
    (and_parts (is_lawful_script cache items) (list_all (is_lawful_script cache) scripts) e).0
lawful_script_of cache (items ∷ scripts) (suc n) e =
    lawful_script_of cache scripts n
    (and_parts (is_lawful_script cache items) (list_all (is_lawful_script cache) scripts) e).1

-- the accesses up to the next script
pub count_next : (scripts : List (List Item)) (i : ℕ) (script items : List Item)
    → i < length scripts → items ≡ script → script ≡ get_or scripts i script
    → access_count (take (i + 1) scripts) ≡ access_count (take i scripts) + script_accesses items
count_next scripts i script items h e at =
    let more : take (i + 1) scripts ≡ take i scripts ++ get_or scripts i script ∷ [] =
    rw add-one (take-suc scripts i script h) in
    ap access_count (more ∙ ap (λ x. take i scripts ++ x ∷ []) (sym (e ∙ at)))
    ∙ sum_by-append script_accesses (take i scripts) (items ∷ [])
    ∙ ap (λ n. access_count (take i scripts) + n) (single items)
  where
    single : (xs : List Item) → sum_by script_accesses (xs ∷ []) ≡ script_accesses xs
    single xs = grind (arith, common_steps)
