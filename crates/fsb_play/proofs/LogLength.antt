-- A log that follows its scripts has at most as many entries as the scripts have accesses.
use Rattle.std.proofs.Common.{◌≡◌, ℕ, zero, suc, ◌+◌, ◌<◌, ◌≤◌, Bool, true, false, ◌&&◌, ◌==◌, nat_eq, nat_lt, nat_le}
use Rattle.std.proofs.Common.{List, [], ◌∷◌, ◌++◌, Option, Some, None, length, slice_get, take, map, sum_by, unwrap_or}
use Rattle.std.proofs.Common.{refl, sym, ap, ◌∙◌, subst, arith, inl, inr, if◌then◌else◌, cond, length-append}
use Rattle.std.proofs.lemmas.Bool.{cases_Bool, cases_lt, and_parts, eqb-true, eq-eqb, ltb-true}
use Rattle.std.proofs.lemmas.List.Sums.{sum_by-cons, sum_by-take-le}
use Rattle.std.proofs.lemmas.Option.{slice_get_past}
use Rattle.std.specs.List.{filter, list_all, list_any}
use Rattle.fsb_access.specs.declared.access.Access.{Access}
use Rattle.fsb_access.specs.declared.item.Item.{Item}
use Rattle.fsb_access.specs.declared.item.Item.TheVariants.{One, Locked, Idle}
use Rattle.fsb_access.specs.declared.log.Done.{Done}
use Rattle.fsb_access.specs.ScriptOrder.{InOrder, Step, accesses_from, accesses_of, script_of, step_of, steps_from}
use Rattle.fsb_access.specs.ScriptOrder.{steps_of, steps_of_item}
use Rattle.fsb_count.proofs.Interface.{first_where-found}
use Rattle.fsb_plan_size.specs.AccessCount.{access_count, item_accesses, script_accesses}
use Rattle.fsb_script.specs.Plans.{PlanView}
use Rattle.fsb_timely.specs.Completions.{is_in_time}
use Rattle.fsb_timely.specs.Runs.{Run, past_of}
use Rattle.fsb_timely.specs.Scripts.{is_done_at, is_logged_at, is_to_do, items_of, next_number}
use Rattle.fsb_timely.specs.Timely.{Timely}
use Rattle.fsb_timely.proofs.Interface.{logged-next}

-- ---- whose the entries are

-- an entry of a log in time is below its end
below-end : (first end : ℕ) (log : List Done) (done : Done) (i : ℕ) → is_in_time first end log ≡ true
    → slice_get log i ≡ Some done → done.clock < end
unfolding is_in_time
below-end first end [] done i h e = absurd (let no : ⊥ = cc in no)
below-end first end (other ∷ log) done zero h e =
    let parts = and_parts (nat_le first other.clock) (nat_lt other.clock end && is_in_time other.clock end log) h in
    let here = and_parts (nat_lt other.clock end) (is_in_time other.clock end log) parts.1 in
    let same : other ≡ done = cc in
    subst (λ d. d.clock < end) same (ltb-true other.clock end here.0)
below-end first end (other ∷ log) done (suc i) h e =
    let parts = and_parts (nat_le first other.clock) (nat_lt other.clock end && is_in_time other.clock end log) h in
    let here = and_parts (nat_lt other.clock end) (is_in_time other.clock end log) parts.1 in
    below-end other.clock end log done i here.1 e

any-there : {X : Type 0} (test : X → Bool) (xs : List X) (i : ℕ) (x : X) → slice_get xs i ≡ Some x → test x ≡ true
    → list_any test xs ≡ true
any-there test [] i x e t = absurd (let no : ⊥ = cc in no)
any-there test (y ∷ xs) zero x e t =
    let same : y ≡ x = cc in
    let here : test y ≡ true = subst (λ z. test z ≡ true) (sym same) t in rw here refl
any-there test (y ∷ xs) (suc i) x e t =
    let rest = any-there test xs i x e t in
    elim (cases_Bool (test y)) [ inl u ↦ rw u refl | inr u ↦ rw (u, rest) refl ]

-- an agent with an item has a script
has-script : (scripts : List (List Item)) (a : ℕ) → 0 < length (script_of scripts a) → a < length scripts
has-script scripts a l =
    elim (cases_lt a (length scripts)) [
      | inl h ↦ h
      | inr h ↦
          let none : script_of scripts a ≡ [] = ap (λ o. unwrap_or o []) (slice_get_past scripts a h) in
          absurd (let nil = ap length none in omega (arith, nil, l))
    ]

-- each entry of a timely run is of an agent that has a script
entry-agent : (r : Run) (i : ℕ) (done : Done) → Timely r → slice_get r.log i ≡ Some done
    → done.agent < length r.plan.scripts
unfolding past_of is_logged_at is_done_at next_number items_of
entry-agent r i done timely e =
    let l = below-end 0 (length r.trace) r.log done i timely.in_time e in
    let own : (nat_eq done.agent done.agent && nat_eq done.clock done.clock) && nat_eq done.item done.item ≡ true =
    rw (eq-eqb done.agent done.agent refl, eq-eqb done.clock done.clock refl, eq-eqb done.item done.item refl) refl in
    let logged : is_logged_at (past_of r) done.agent done.clock done.item ≡ true =
    any-there (λ d. (nat_eq d.agent done.agent && nat_eq d.clock done.clock) && nat_eq d.item done.item) r.log i
    done e own in
    let next = logged-next r done.agent done.clock done.item timely l logged in
    let found = first_where-found (is_to_do (past_of r) done.agent done.clock)
    (length (items_of (past_of r) done.agent)) done.item next.0 in
    has-script r.plan.scripts done.agent (omega (arith, found.0))

-- ---- how many they are

-- the entries of an agent
abbrev own_count : ℕ → List Done → ℕ
own_count a log = length (filter (λ done. done.agent == a) log)

count-first : (a : ℕ) (done : Done) (log : List Done)
    → own_count a (done ∷ log) ≡ cond (done.agent == a) 1 0 + own_count a log
count-first a done log =
    elim (cases_Bool (done.agent == a)) [ inl t ↦ rw t (omega arith) | inr f ↦ rw f (omega arith) ]

four-first : (a c0 c1 c2 c3 n : ℕ) → a < 4 → n ≡ c0 + c1 + c2 + c3
    → suc n ≡ (cond (a == 0) 1 0 + c0) + (cond (a == 1) 1 0 + c1) + (cond (a == 2) 1 0 + c2) + (cond (a == 3) 1 0 + c3)
four-first zero c0 c1 c2 c3 n l e = omega (arith, e)
four-first (suc zero) c0 c1 c2 c3 n l e = omega (arith, e)
four-first (suc (suc zero)) c0 c1 c2 c3 n l e = omega (arith, e)
four-first (suc (suc (suc zero))) c0 c1 c2 c3 n l e = omega (arith, e)
four-first (suc (suc (suc (suc a)))) c0 c1 c2 c3 n l e = absurd (omega (arith, l))

four-counts : (log : List Done) → ((i : ℕ) (done : Done) → slice_get log i ≡ Some done → done.agent < 4)
    → length log ≡ own_count 0 log + own_count 1 log + own_count 2 log + own_count 3 log
four-counts [] h = refl
four-counts (done ∷ log) h =
    let rest = four-counts log (λ i d e. h (suc i) d e) in
    let step = four-first done.agent (own_count 0 log) (own_count 1 log) (own_count 2 log) (own_count 3 log)
    (length log) (h 0 done refl) rest in
    step ∙ sym (λ i. count-first 0 done log i + count-first 1 done log i + count-first 2 done log i
    + count-first 3 done log i)

length-steps_from : (n part : ℕ) (group : List Access) → length (steps_from n part group) ≡ length group
length-steps_from n part [] = refl
length-steps_from n part (access ∷ group) = ap (λ k. suc k) (length-steps_from n (part + 1) group)

length-item : (n : ℕ) (item : Item) → length (steps_of_item n item) ≡ item_accesses item
length-item n (One access) = refl
length-item n (Locked group) = length-steps_from n 0 group
length-item n (Idle clocks) = refl

length-accesses : (n : ℕ) (items : List Item) → length (accesses_from n items) ≡ script_accesses items
length-accesses n [] = refl
length-accesses n (item ∷ items) =
    length-append (steps_of_item n item) (accesses_from (n + 1) items)
    ∙ (λ i. length-item n item i + length-accesses (n + 1) items i)
    ∙ sym (sum_by-cons item_accesses item items)

length-own : (xs : List Done) → length (map step_of xs) ≡ length xs
length-own [] = refl
length-own (x ∷ xs) = ap (λ n. suc n) (length-own xs)

own-few : (scripts : List (List Item)) (log : List Done) (a : ℕ) → InOrder scripts log
    → own_count a log ≤ script_accesses (script_of scripts a)
own-few scripts log a order =
    let follows = order.follows a in
    let e : own_count a log ≡ script_accesses (take follows.items (script_of scripts a)) =
    sym (length-own (filter (λ done. done.agent == a) log)) ∙ ap length follows.same
    ∙ length-accesses 0 (take follows.items (script_of scripts a)) in
    let few = sum_by-take-le item_accesses (script_of scripts a) follows.items in
    omega (arith, e, few)

four-sum : (a b c d : List Item) (rest : List (List Item))
    → script_accesses a + script_accesses b + script_accesses c + script_accesses d ≤ access_count
    (a ∷ b ∷ c ∷ d ∷ rest)
four-sum a b c d rest =
    omega (
      arith,
      sum_by-cons script_accesses a (b ∷ c ∷ d ∷ rest),
      sum_by-cons script_accesses b (c ∷ d ∷ rest),
      sum_by-cons script_accesses c (d ∷ rest),
      sum_by-cons script_accesses d rest,
    )

-- the accesses of the first four scripts, where there are so many
four-scripts : (scripts : List (List Item))
    → script_accesses (script_of scripts 0) + script_accesses (script_of scripts 1)
    + script_accesses (script_of scripts 2) + script_accesses (script_of scripts 3) ≤ access_count scripts
four-scripts [] = omega arith
four-scripts (a ∷ []) =
    let few : script_accesses a + 0 + 0 + 0 ≤ access_count (a ∷ []) =
    omega (arith, sum_by-cons script_accesses a []) in few
four-scripts (a ∷ b ∷ []) =
    let few : script_accesses a + script_accesses b + 0 + 0 ≤ access_count (a ∷ b ∷ []) =
    omega (arith, sum_by-cons script_accesses a (b ∷ []), sum_by-cons script_accesses b []) in few
four-scripts (a ∷ b ∷ c ∷ []) =
    let few : script_accesses a + script_accesses b + script_accesses c + 0 ≤ access_count (a ∷ b ∷ c ∷ []) =
    omega (
      arith,
      sum_by-cons script_accesses a (b ∷ c ∷ []),
      sum_by-cons script_accesses b (c ∷ []),
      sum_by-cons script_accesses c [],
    ) in few
four-scripts (a ∷ b ∷ c ∷ d ∷ rest) = four-sum a b c d rest

-- a run whose plan has at most four scripts logs no more than these have
pub log-short : (r : Run) → Timely r → InOrder r.plan.scripts r.log → length r.plan.scripts ≤ 4
    → length r.log ≤ access_count r.plan.scripts
log-short r timely order four =
    let counts = four-counts r.log (λ i done e. let l = entry-agent r i done timely e in omega (arith, l, four)) in
    let c0 = own-few r.plan.scripts r.log 0 order in
    let c1 = own-few r.plan.scripts r.log 1 order in
    let c2 = own-few r.plan.scripts r.log 2 order in
    let c3 = own-few r.plan.scripts r.log 3 order in
    let all = four-scripts r.plan.scripts in
    omega (arith, counts, c0, c1, c2, c3, all)

-- so the log of a plan has fewer than 2^32 entries, where the accesses of the plan were counted
pub log-fits : (r : Run) (p : PlanView) (n : ℕ) (log : List Done) → Timely r → InOrder r.plan.scripts r.log
    → p ≡ r.plan → length p.scripts ≤ 4 → n ≡ access_count p.scripts → n < 4294967296 → log ≡ r.log
    → length log < 4294967296
log-fits r p n log timely order same four count few e =
    let scripts : p.scripts ≡ r.plan.scripts = ap (λ q. q.scripts) same in
    let short = log-short r timely order (subst (λ xs. length xs ≤ 4) scripts four) in
    let counted : n ≡ access_count r.plan.scripts = count ∙ ap access_count scripts in
    omega (arith, short, counted, few, ap length e)
