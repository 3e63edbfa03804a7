-- Below each clock an agent's entries are the accesses of its script up to its next item there.
use Rattle.std.proofs.Common.{ℕ, zero, suc, ◌+◌, ◌-◌, ◌<◌, ◌≤◌, ◌≡◌, Bool, true, false, not, ◌&&◌, nat_eq, nat_lt}
use Rattle.std.proofs.Common.{List, [], ◌∷◌, ◌++◌, length, take, slice_get, get_or, Option, Some, refl, sym, ap}
use Rattle.std.proofs.Common.{subst, ◌∙◌, inl, inr, arith, add-one, add-zero, zero-add, append-nil, append_assoc}
use Rattle.std.proofs.lemmas.Bool.{cases_Bool, or_parts, le-ltb}
use Rattle.std.proofs.lemmas.List.{map-append}
use Rattle.std.proofs.lemmas.List.Elements.{filter-append}
use Rattle.std.proofs.lemmas.Option.{slice_get-get_or}
use Rattle.std.specs.List.{filter, list_any}
use Rattle.fsb_access.specs.declared.item.Item.{Item}
use Rattle.fsb_access.specs.declared.item.Item.TheVariants.{Idle}
use Rattle.fsb_access.specs.declared.log.Done.{Done}
use Rattle.fsb_access.specs.ScriptOrder.{accesses_from, accesses_of, steps_of, steps_of_item}
use Rattle.fsb_count.specs.Options.{is_some_and}
use Rattle.fsb_count.proofs.Interface.{first_where-found}
use Rattle.fsb_timely.specs.Past.{Past}
use Rattle.fsb_timely.specs.Runs.{Run, past_of}
use Rattle.fsb_timely.specs.Scripts.{is_idle, items_of, is_done_at, completes_at, is_logged, is_logged_at, is_to_do}
use Rattle.fsb_timely.specs.Scripts.{next_number}
use Rattle.fsb_timely.specs.Timely.{Timely}
use Rattle.fsb_timely.proofs.Completing.{item-there, item-is}
use Rattle.fsb_timely.proofs.FollowedScripts.{below, at, below-more, steps-completed}
use Rattle.fsb_timely.proofs.Items.{next_number-same, is_logged-more}
use Rattle.fsb_timely.proofs.LoggedItems.{logged-next, logs-item, not-behind, none-first}
use Rattle.fsb_timely.proofs.WindowSteps.{done-before, done-now}

-- the accesses up to the end of an item
accesses-more : (items : List Item) (n : ℕ) (item : Item) → slice_get items n ≡ Some item
    → accesses_of (take (n + 1) items) ≡ accesses_of (take n items) ++ steps_of_item n item
accesses-more items n item at = rw zero-add at (from 0 items n at)
  where
    from : (number : ℕ) (items : List Item) (n : ℕ) → slice_get items n ≡ Some item
        → accesses_from number (take (n + 1) items) ≡ accesses_from number (take n items)
        ++ steps_of_item (number + n) item
    from number [] n at = cc
    from number (first ∷ items) zero at = let same : first ≡ item = cc in rw same (simp (add-zero, append-nil) refl)
    from number (first ∷ items) (suc n) at = grind (arith, append_assoc, from (number + 1) items n at)

-- an idle item has none
idle-steps : (n : ℕ) (item : Item) → is_idle item ≡ true → steps_of_item n item ≡ []
unfolding is_idle
idle-steps n item h1 = grind arith

idle-by : (o : Option Item) (item : Item) (logged : Bool) → o ≡ Some item → logged ≡ false
    → (is_some_and o (λ x. not (is_idle x)) && not logged) ≡ false → is_idle item ≡ true
unfolding is_some_and
idle-by o item logged h1 h2 h3 = grind arith

idle-there : (p : Past) (a c j : ℕ) (item : Item) → slice_get (items_of p a) j ≡ Some item
    → is_logged p a c j ≡ false → is_to_do p a c j ≡ false → is_idle item ≡ true
unfolding is_to_do
idle-there p a c j item s l e = idle-by (slice_get (items_of p a) j) item (is_logged p a c j) s l e

-- items that are neither to do nor logged have no accesses
gap : (p : Past) (a c k d : ℕ) → k + d ≤ length (items_of p a)
    → ((j : ℕ) → k ≤ j → j < k + d → is_logged p a c j ≡ false)
    → ((j : ℕ) → k ≤ j → j < k + d → is_to_do p a c j ≡ false)
    → accesses_of (take (k + d) (items_of p a)) ≡ accesses_of (take k (items_of p a))
gap p a c k zero l logged todo = ap (λ n. accesses_of (take n (items_of p a))) (add-zero k)
gap p a c k (suc d) l logged todo =
    let items = items_of p a in
    let one : k + suc d ≡ k + d + 1 = omega arith in
    let item = get_or items (k + d) (Idle 0) in
    let there = slice_get-get_or items (k + d) (Idle 0) (omega arith) in
    let idle = idle-there p a c (k + d) item there (logged (k + d) (omega arith) (omega arith))
    (todo (k + d) (omega arith) (omega arith)) in
    ap (λ n. accesses_of (take n items)) one
    ∙ accesses-more items (k + d) item there
    ∙ ap (λ xs. accesses_of (take (k + d) items) ++ xs) (idle-steps (k + d) item idle)
    ∙ append-nil (accesses_of (take (k + d) items))
    ∙ gap p a c k d (omega arith) (λ j m u. logged j m (omega arith)) (λ j m u. todo j m (omega arith))

steps-append : (a : ℕ) (xs ys : List Done) → steps_of a (xs ++ ys) ≡ steps_of a xs ++ steps_of a ys
steps-append a xs ys = grind (arith, filter-append, map-append)

-- an agent without an entry at a clock has no steps there
quiet-steps : (a c : ℕ) (log : List Done) → list_any (is_done_at a c) log ≡ false → steps_of a (at c log) ≡ []
unfolding is_done_at
quiet-steps a c [] e = refl
quiet-steps a c (done ∷ log) e =
    let parts = or_parts (nat_eq done.agent a && nat_eq done.clock c) (list_any (is_done_at a c) log) e in
    grind (arith, quiet-steps a c log parts.1)
  where
    by : (x y : Bool) → y ≡ true → (x && y) ≡ false → x ≡ false
    by true true t f = absurd (let no : ⊥ = cc in no)
    by true false t f = absurd (let no : ⊥ = cc in no)
    by false y t f = refl

none-below-first : (log : List Done) → below 0 log ≡ []
none-below-first [] = refl
none-below-first (done ∷ log) = rw (le-ltb done.clock 0 (omega arith)) (none-below-first log)

-- the entries of an agent below a clock are the accesses up to its next item
abbrev IsAtPlace : Run → ℕ → ℕ → Type 0
IsAtPlace r a c = (n : ℕ) → next_number (past_of r) a c ≡ Some n
    → steps_of a (below c r.log) ≡ accesses_of (take n (items_of (past_of r) a))

place-first : (r : Run) (a : ℕ) → IsAtPlace r a 0
unfolding next_number is_logged
place-first r a n e =
    let p = past_of r in
    let found = first_where-found (is_to_do p a 0) (length (items_of p a)) n e in
    ap (steps_of a) (none-below-first r.log)
    ∙ sym (ap (λ k. accesses_of (take k (items_of p a))) (sym (zero-add n))
    ∙ gap p a 0 0 n (let l = found.0 in omega arith) (λ j m u. none-first a j p.log) (λ j m u. found.2 j (omega arith)))

not-logged-yet : (r : Run) (a c m j : ℕ) → Timely r → c < length r.trace → next_number (past_of r) a c ≡ Some m
    → m < j → is_logged (past_of r) a (c + 1) j ≡ false
not-logged-yet r a c m j h l e k = grind (arith, is_logged-more, not-behind, logged-next)

-- the next item after a completion lies behind
behind : (p : Past) (a c m n : ℕ) → next_number p a c ≡ Some m → is_logged_at p a c m ≡ true
    → next_number p a (c + 1) ≡ Some n → m < n
unfolding next_number
behind p a c m n e t f = grind (arith, first_where-found, done-now, done-before)

rest-idle : (r : Run) (a c m n : ℕ) → Timely r → c < length r.trace → next_number (past_of r) a c ≡ Some m
    → is_logged_at (past_of r) a c m ≡ true → next_number (past_of r) a (c + 1) ≡ Some n
    → accesses_of (take n (items_of (past_of r) a)) ≡ accesses_of (take (m + 1) (items_of (past_of r) a))
unfolding next_number
rest-idle r a c m n h l e t f =
    let p = past_of r in
    let k = behind p a c m n e t f in
    let new = first_where-found (is_to_do p a (c + 1)) (length (items_of p a)) n f in
    let far : m + 1 + (n - (m + 1)) ≡ n = omega arith in
    let within = new.0 in
    ap (λ j. accesses_of (take j (items_of p a))) (sym far)
    ∙ gap p a (c + 1) (m + 1) (n - (m + 1)) (omega (arith, far, within))
    (λ j u v. not-logged-yet r a c m j h l e (omega arith)) (λ j u v. new.2 j (omega (arith, v, far)))

place-next : (r : Run) (a c : ℕ) → Timely r → c < length r.trace → a < 4 → IsAtPlace r a c → IsAtPlace r a (c + 1)
unfolding completes_at past_of
place-next r a c h l few before n e =
    let p = past_of r in
    let more = ap (steps_of a) (below-more 0 (length r.trace) c r.log h.in_time)
    ∙ steps-append a (below c r.log) (at c r.log) in
    elim (cases_Bool (completes_at p a c)) [
      | inr f ↦
          more
          ∙ (λ i. before n (sym (next_number-same p a c f) ∙ e) i ++ quiet-steps a c r.log f i)
          ∙ append-nil (accesses_of (take n (items_of p a)))
      | inl t ↦
          let logged = logs-item p a c t in
          let next = logged-next r a c logged.0 h l logged.1 in
          let item = item-there p a c logged.0 next.0 in
          let steps = steps-completed r a c logged.0 item.0 h l few next.0
          (item-is p a c logged.0 item.0 next.0 item.1) next.1 in
          let place = before logged.0 next.0 in
          more ∙ (λ i. place i ++ steps i) ∙ sym (accesses-more (items_of p a) logged.0 item.0 item.1)
          ∙ sym (rest-idle r a c logged.0 n h l next.0 logged.1 e)
    ]

pub place-all : (r : Run) (a c : ℕ) → Timely r → a < 4 → c ≤ length r.trace → IsAtPlace r a c
place-all r a zero h few l = place-first r a
place-all r a (suc c) h few l =
    subst (λ k. IsAtPlace r a k) (add-one c)
    (place-next r a c h (omega arith) few (place-all r a c h few (omega arith)))

pub follows-script : (r : Run) (a c n : ℕ) → Timely r → a < 4 → c ≤ length r.trace
    → next_number (past_of r) a c ≡ Some n
    → steps_of a (filter (λ done. nat_lt done.clock c) r.log) ≡ accesses_of (take n (items_of (past_of r) a))
follows-script r a c n h few l e = place-all r a c h few l n e
