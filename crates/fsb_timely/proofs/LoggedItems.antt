-- The entries that a timely run has at a clock: each agent's are of its next item there, by a hit or an arrival.
use Rattle.std.proofs.Common.{ℕ, zero, suc, ◌+◌, ◌<◌, ◌≤◌, ◌≡◌, Bool, true, false, ◌&&◌, ◌||◌, nat_eq, List, [], ◌∷◌}
use Rattle.std.proofs.Common.{◌++◌, map, length, Option, Some, refl, sym, subst, ◌∙◌, ◌⊎◌, inl, inr, arith, add-one}
use Rattle.std.proofs.lemmas.Bool.{cases_Bool, eq-eqb}
use Rattle.std.proofs.lemmas.List.Folds.{list_any-append}
use Rattle.std.specs.List.{filter, list_any}
use Rattle.std.specs.Option.{option_map_or}
use Rattle.fsb_access.specs.declared.access.Access.{Access}
use Rattle.fsb_access.specs.declared.item.Item.{Item}
use Rattle.fsb_access.specs.declared.log.Done.{Done}
use Rattle.fsb_access.specs.ScriptOrder.{steps_from, step_of}
use Rattle.fsb_count.proofs.Interface.{first_where-found}
use Rattle.fsb_timely.specs.Completions.{Completed, is_completed, are_completed, is_arrival, completed_of_item}
use Rattle.fsb_timely.specs.Completions.{next_accesses, completed_if, of_all_agents, completed_at, entries_at}
use Rattle.fsb_timely.specs.Completions.{logs_completions}
use Rattle.fsb_timely.specs.Hits.{is_hit}
use Rattle.fsb_timely.specs.Past.{Past}
use Rattle.fsb_timely.specs.Runs.{Run, entries_to, past_of, past_to}
use Rattle.fsb_timely.specs.Scripts.{is_done_by, is_done_at, completes_at, is_logged, is_logged_at, is_to_do}
use Rattle.fsb_timely.specs.Scripts.{next_number, next_item}
use Rattle.fsb_timely.specs.Timely.{holds_at, holds_in, Timely}
use Rattle.fsb_timely.proofs.GoingScripts.{is_hit-alike, next_item-alike, next_number-alike}
use Rattle.fsb_timely.proofs.Items.{is_logged-more}
use Rattle.fsb_timely.proofs.WholePast.{past-begins, is_arrival-alike}
use Rattle.fsb_timely.proofs.WindowSteps.{done-before, done-now}

-- the entries at a clock are those of the log up to it
same-clock : (c : ℕ) (log : List Done)
    → filter (λ done. nat_eq done.clock c) (entries_to c log) ≡ filter (λ done. nat_eq done.clock c) log
unfolding entries_to
same-clock c [] = refl
same-clock c (done ∷ log) = grind (arith, same-clock c log)

-- the completions of a clock, said of the whole past
pub whole-completions : (r : Run) (c : ℕ) → Timely r → c < length r.trace
    → are_completed (entries_at (past_of r) c) (completed_at (past_of r) c) ≡ true
unfolding entries_at completed_at completed_if next_accesses of_all_agents holds_at holds_in logs_completions
    past_to past_of
whole-completions r c h l =
    let g = past-begins r c h l in
    let p = past_to (past_of r) c in
    let q = past_of r in
    let hit : (a : ℕ) → is_hit p a c ≡ is_hit q a c = λ a. is_hit-alike (c + 1) p q a c g (omega arith) in
    let arrival : (a : ℕ) → is_arrival p a c ≡ is_arrival q a c =
    λ a. is_arrival-alike (c + 1) p q a c g (omega arith) in
    let item : (a : ℕ) → next_item p a c ≡ next_item q a c = λ a. next_item-alike (c + 1) p q a c g (omega arith) in
    let number : (a : ℕ) → next_number p a c ≡ next_number q a c =
    λ a. next_number-alike (c + 1) p q a c g (omega arith) in
    let entries = same-clock c r.log in
    let accesses : (a : ℕ) → next_accesses p a c ≡ next_accesses q a c =
    λ a i. option_map_or (λ n. option_map_or (completed_of_item a n) (item a i) []) (number a i) [] in
    grind arith

-- a completed access is of item m of agent a
abbrev is_of : ℕ → ℕ → Completed → Bool
is_of a m x = nat_eq x.agent a && nat_eq x.step.item m

same-any : (a m : ℕ) (xs ys : List Completed) → are_completed xs ys ≡ true
    → list_any (is_of a m) xs ≡ list_any (is_of a m) ys
unfolding are_completed is_completed
same-any a m [] [] e = refl
same-any a m [] (y ∷ ys) e = absurd (let no : ⊥ = cc in no)
same-any a m (x ∷ xs) [] e = absurd (let no : ⊥ = cc in no)
same-any a m (x ∷ xs) (y ∷ ys) e = grind (arith, same-any a m xs ys)

-- whether an item is logged at a clock, by the entries there
logged-entries : (a c m : ℕ) (log : List Done) → list_any (λ done. is_done_at a c done && nat_eq done.item m) log
    ≡ list_any (is_of a m)
    (map (λ (done : Done). record { agent = done.agent; step = step_of done })
    (filter (λ done. nat_eq done.clock c) log))
unfolding is_done_at
logged-entries a c m [] = refl
logged-entries a c m (done ∷ log) = grind (arith, logged-entries a c m log)

or_either : (x y : Bool) → (x || y) ≡ true → (x ≡ true) ⊎ (y ≡ true)
or_either x y h1 = grind arith

any-either : {X : Type 0} (test : X → Bool) (xs ys : List X) → list_any test (xs ++ ys) ≡ true
    → (list_any test xs ≡ true) ⊎ (list_any test ys ≡ true)
any-either test xs ys e = or_either (list_any test xs) (list_any test ys) (sym (list_any-append test xs ys) ∙ e)

-- the accesses of an item are of it
own-from : (a m b n part : ℕ) (group : List Access)
    → list_any (is_of a m) (map (λ step. record { agent = b; step = step }) (steps_from n part group)) ≡ true
    → (b ≡ a) × (n ≡ m)
own-from a m b n part [] e = absurd (let no : ⊥ = cc in no)
own-from a m b n part (access ∷ group) e = grind (arith, own-from a m b n (part + 1) group)

own-next : (a m b : ℕ) (number : Option ℕ) (item : Option Item)
    → list_any (is_of a m) (option_map_or (λ n. option_map_or (completed_of_item b n) item []) number []) ≡ true
    → (b ≡ a) × (number ≡ Some m)
unfolding completed_of_item
own-next a m b number item h1 = grind (arith, own-from)

-- what is completed is of the agent's next item, where it completes
own-if : (p : Past) (a m c b : ℕ) (completes : Bool)
    → list_any (is_of a m) (completed_if p c completes b) ≡ true
    → (b ≡ a) × (next_number p b c ≡ Some m) × (completes ≡ true)
unfolding completed_if next_accesses
own-if p a m c b true e = let own = own-next a m b (next_number p b c) (next_item p b c) e in (own.0, own.1, refl)
own-if p a m c b false e = absurd (let no : ⊥ = cc in no)

one-agent : (a m : ℕ) (list : ℕ → List Completed) → list_any (is_of a m) (of_all_agents list) ≡ true
    → (b : ℕ) × (list_any (is_of a m) (list b) ≡ true)
unfolding of_all_agents
one-agent a m list e =
    elim (any-either (is_of a m) (list 0 ++ list 1 ++ list 2) (list 3) e) [
      | inr t ↦ (3, t)
      | inl u ↦
          elim (any-either (is_of a m) (list 0 ++ list 1) (list 2) u) [
            | inr t ↦ (2, t)
            | inl v ↦ elim (any-either (is_of a m) (list 0) (list 1) v) [ inl t ↦ (0, t) | inr t ↦ (1, t) ]
          ]
    ]

own-completed : (p : Past) (a m c : ℕ) → list_any (is_of a m) (completed_at p c) ≡ true
    → (next_number p a c ≡ Some m) × ((is_hit p a c ≡ true) ⊎ (is_arrival p a c ≡ true))
unfolding completed_at
own-completed p a m c e = grind (arith, any-either, one-agent, own-if)

-- an item that is logged at a clock is the agent's next one there, and it has a hit or an arrival
pub logged-next : (r : Run) (a c m : ℕ) → Timely r → c < length r.trace → is_logged_at (past_of r) a c m ≡ true
    → (next_number (past_of r) a c ≡ Some m) × ((is_hit (past_of r) a c ≡ true) ⊎ (is_arrival (past_of r) a c ≡ true))
unfolding is_logged_at entries_at past_of
logged-next r a c m h l e =
    let entries = entries_at (past_of r) c in
    let logged : list_any (is_of a m) entries ≡ true = sym (logged-entries a c m r.log) ∙ e in
    own-completed (past_of r) a m c
    (sym (same-any a m entries (completed_at (past_of r) c) (whole-completions r c h l)) ∙ logged)

-- an agent with an entry at a clock has an item that is logged there
some-item : (a c : ℕ) (log : List Done) → list_any (is_done_at a c) log ≡ true
    → (m : ℕ) × (list_any (λ done. is_done_at a c done && nat_eq done.item m) log ≡ true)
some-item a c [] e = absurd (let no : ⊥ = cc in no)
some-item a c (done ∷ log) e =
    elim (cases_Bool (is_done_at a c done)) [
      | inl t ↦ (done.item, rw (t, eq-eqb done.item done.item refl) refl)
      | inr f ↦ let rest = some-item a c log (let e' = rw f at e in e') in (rest.0, rw f rest.1)
    ]

pub logs-item : (p : Past) (a c : ℕ) → completes_at p a c ≡ true → (m : ℕ) × (is_logged_at p a c m ≡ true)
unfolding completes_at is_logged_at
logs-item p a c e = some-item a c p.log e

-- each item up to one that is logged is idle or logged
abbrev Below : Past → ℕ → ℕ → Type 0
Below p a c = (m j : ℕ) → is_logged p a c m ≡ true → j ≤ m → is_to_do p a c j ≡ false

pub none-first : (a m : ℕ) (log : List Done) → list_any (λ done. is_done_by a 0 done && nat_eq done.item m) log ≡ false
unfolding is_done_by
none-first a m [] = refl
none-first a m (done ∷ log) = grind (arith, none-first a m log)

below-first : (p : Past) (a : ℕ) → Below p a 0
unfolding is_logged
below-first p a m j t l = absurd (let no : false ≡ true = sym (none-first a m p.log) ∙ t in cc)

below-next : (p : Past) (a c : ℕ) → ((m : ℕ) → is_logged_at p a c m ≡ true → next_number p a c ≡ Some m)
    → Below p a c → Below p a (c + 1)
unfolding next_number
below-next p a c h1 h2 = grind (arith, is_logged-more, done-before, first_where-found, done-now)

pub below-all : (r : Run) (a c : ℕ) → Timely r → c ≤ length r.trace → Below (past_of r) a c
below-all r a zero h l = below-first (past_of r) a
below-all r a (suc c) h l =
    subst (λ k. Below (past_of r) a k) (add-one c)
    (below-next (past_of r) a c (λ m t. (logged-next r a c m h (omega arith) t).0) (below-all r a c h (omega arith)))

-- so no item behind the next one is logged
pub not-behind : (r : Run) (a c n m : ℕ) → Timely r → c ≤ length r.trace → next_number (past_of r) a c ≡ Some n
    → n < m → is_logged (past_of r) a c m ≡ false
unfolding next_number
not-behind r a c n m h l e k = grind (arith, first_where-found, below-all)
