-- Where an agent is in its script rests on the entries below the clock.
use Rattle.std.proofs.Common.{ℕ, zero, suc, ◌+◌, ◌-◌, ◌<◌, ◌≤◌, ◌≡◌, Bool, true, false, not, ◌&&◌, nat_eq, nat_le}
use Rattle.std.proofs.Common.{List, [], ◌∷◌, ◌++◌, length, Option, Some, None, slice_get, refl, sym, ap, ◌∙◌, arith}
use Rattle.std.proofs.lemmas.Bool.{and_parts}
use Rattle.std.proofs.lemmas.List.{length-append}
use Rattle.std.proofs.lemmas.List.Folds.{list_any-append}
use Rattle.std.specs.List.{list_any, list_all}
use Rattle.std.specs.Option.{option_and_then}
use Rattle.fsb_count.specs.Options.{is_some_and}
use Rattle.fsb_count.specs.Clocks.{last_where, first_where}
use Rattle.fsb_count.proofs.Interface.{first_where-same, last_where-failed}
use Rattle.fsb_signal.proofs.Interface.{slice_get-before}
use Rattle.fsb_access.specs.declared.log.Done.{Done}
use Rattle.fsb_access.specs.ScriptOrder.{script_of}
use Rattle.fsb_timely.specs.Past.{Past}
use Rattle.fsb_timely.specs.Growth.{GoesOn}
use Rattle.fsb_timely.specs.Scripts.{is_idle, is_done_by, items_of, is_logged, is_to_do, next_number, next_item}
use Rattle.fsb_timely.specs.Scripts.{last_done, idle_start, number_after, is_idling, window_at, window, needs_of}
use Rattle.fsb_timely.specs.Scripts.{Need}
use Rattle.fsb_timely.specs.Hits.{is_met, is_served, is_hit}
use Rattle.fsb_timely.proofs.Since.{last_where-found}
use Rattle.fsb_timely.proofs.GoingOn.{going-alike, last-same, holds_line-same, is_exclusive-same, is_ready-same}

none-logged : (n a c k : ℕ) (entries : List Done) → c ≤ n
    → list_all (λ done. nat_le n done.clock) entries ≡ true
    → list_any (λ done. is_done_by a c done && nat_eq done.item k) entries ≡ false
unfolding is_done_by
none-logged n a c k [] l e = refl
none-logged n a c k (done ∷ entries) l e = grind (arith, none-logged n a c k entries l)

is_logged-same : (n : ℕ) (p q : Past) (a c k : ℕ) → GoesOn n p q → c ≤ n → is_logged p a c k ≡ is_logged q a c k
unfolding is_logged
is_logged-same n p q a c k h l = grind (arith, list_any-append, none-logged)

items-same : (n : ℕ) (p q : Past) (a : ℕ) → GoesOn n p q → items_of p a ≡ items_of q a
unfolding items_of
items-same n p q a h = ap (λ plan. script_of plan.scripts a) h.same_plan

is_to_do-same : (n : ℕ) (p q : Past) (a c k : ℕ) → GoesOn n p q → c ≤ n → is_to_do p a c k ≡ is_to_do q a c k
unfolding is_to_do
is_to_do-same n p q a c k h l =
    let items = items-same n p q a h in
    let logged = is_logged-same n p q a c k h l in
    λ i. is_some_and (slice_get (items i) k) (λ item. not (is_idle item)) && not (logged i)

pub next_number-alike : (n : ℕ) (p q : Past) (a c : ℕ) → GoesOn n p q → c ≤ n → next_number p a c ≡ next_number q a c
unfolding next_number
next_number-alike n p q a c h l =
    first_where-same (is_to_do p a c) (is_to_do q a c) (length (items_of p a))
    (record { same = λ k m. is_to_do-same n p q a c k h l })
    ∙ ap (λ items. first_where (is_to_do q a c) (length items)) (items-same n p q a h)

pub next_item-alike : (n : ℕ) (p q : Past) (a c : ℕ) → GoesOn n p q → c ≤ n → next_item p a c ≡ next_item q a c
unfolding next_item
next_item-alike n p q a c h l =
    let items = items-same n p q a h in
    let number = next_number-alike n p q a c h l in
    λ i. option_and_then (slice_get (items i)) (number i)

pub window-alike : (n : ℕ) (p q : Past) (a c : ℕ) → GoesOn n p q → c ≤ n → window p a c ≡ window q a c
unfolding window window_at items_of
window-alike n p q a c h l =
    let number = next_number-alike n p q a c h l in
    grind arith

-- a stretch at the end in which nothing passes changes nothing
last-flat : (test : ℕ → Bool) (m d : ℕ) → ((k : ℕ) → m ≤ k → k < m + d → test k ≡ false)
    → last_where test (m + d) ≡ last_where test m
last-flat test m zero none = let e : m + 0 ≡ m = omega arith in ap (last_where test) e
last-flat test m (suc d) none =
    let e : m + suc d ≡ suc (m + d) = omega arith in
    ap (last_where test) e ∙ last_where-failed test (m + d) (none (m + d) (omega arith) (omega arith))
    ∙ last-flat test m d (λ k l h. none k l (omega arith))

slice_get-behind : {X : Type 0} (xs ys : List X) (j : ℕ) → slice_get (xs ++ ys) (length xs + j) ≡ slice_get ys j
slice_get-behind [] ys j = let e : 0 + j ≡ j = omega arith in ap (slice_get ys) e
slice_get-behind (x ∷ xs) ys j = grind (arith, slice_get-behind xs ys j)

all-at : {X : Type 0} (test : X → Bool) (xs : List X) (j : ℕ) (x : X) → list_all test xs ≡ true
    → slice_get xs j ≡ Some x → test x ≡ true
all-at test [] j x e f = absurd (let h : ⊥ = cc in h)
all-at test (y ∷ ys) zero x e f = grind arith
all-at test (y ∷ ys) (suc j) x e f = all-at test ys j x (and_parts (test y) (list_all test ys) e).1 f

-- past the old log no entry lies below c
later-quiet : (n : ℕ) (p q : Past) (a c k : ℕ) → GoesOn n p q → c ≤ n → length p.log ≤ k
    → is_some_and (slice_get q.log k) (is_done_by a c) ≡ false
unfolding is_some_and is_done_by
later-quiet n p q a c k h l m =
    let e : length p.log + (k - length p.log) ≡ k = omega arith in
    grind (arith, slice_get-behind, all-at)

entry-same : (n : ℕ) (p q : Past) (k : ℕ) → GoesOn n p q → k < length p.log → slice_get p.log k ≡ slice_get q.log k
entry-same n p q k h l = sym (ap (λ xs. slice_get xs k) h.more_log ∙ slice_get-before p.log h.entries k l)

abbrev done_at : Past → ℕ → ℕ → ℕ → Bool
done_at p a c k = is_some_and (slice_get p.log k) (is_done_by a c)

last-done-same : (n : ℕ) (p q : Past) (a c : ℕ) → GoesOn n p q → c ≤ n
    → last_where (done_at p a c) (length p.log) ≡ last_where (done_at q a c) (length q.log)
last-done-same n p q a c h l =
    let longer : length q.log ≡ length p.log + length h.entries = grind (arith, length-append) in
    last-same (done_at p a c) (done_at q a c) (length p.log)
    (record { same = λ k m. ap (λ o. is_some_and o (is_done_by a c)) (entry-same n p q k h m) })
    ∙ sym (ap (last_where (done_at q a c)) longer
    ∙ last-flat (done_at q a c) (length p.log) (length h.entries) (λ k m x. later-quiet n p q a c k h l m))

done-by : (n : ℕ) (p q : Past) (a c : ℕ) → GoesOn n p q → (o : Option ℕ)
    → last_where (done_at p a c) (length p.log) ≡ o
    → option_and_then (slice_get p.log) o ≡ option_and_then (slice_get q.log) o
done-by n p q a c h None e = refl
done-by n p q a c h (Some k) e = entry-same n p q k h (last_where-found (done_at p a c) (length p.log) k e).0

last_done-alike : (n : ℕ) (p q : Past) (a c : ℕ) → GoesOn n p q → c ≤ n → last_done p a c ≡ last_done q a c
unfolding last_done
last_done-alike n p q a c h l =
    done-by n p q a c h (last_where (done_at p a c) (length p.log)) refl
    ∙ ap (option_and_then (slice_get q.log)) (last-done-same n p q a c h l)

pub is_idling-alike : (n : ℕ) (p q : Past) (a c : ℕ) → GoesOn n p q → c ≤ n → is_idling p a c ≡ is_idling q a c
unfolding is_idling idle_start number_after
is_idling-alike n p q a c h l =
    let number = next_number-alike n p q a c h l in
    let done = last_done-alike n p q a c h l in
    let items = items-same n p q a h in
    grind arith

pub is_met-alike : (n : ℕ) (p q : Past) (a c : ℕ) (need : Need) → GoesOn n p q → c ≤ n
    → is_met p a c need ≡ is_met q a c need
unfolding is_met
is_met-alike n p q a c need h l = grind (arith, holds_line-same, is_exclusive-same)

is_served-alike : (n : ℕ) (p q : Past) (a c : ℕ) (need : Need) → GoesOn n p q → c ≤ n
    → is_served p a c need ≡ is_served q a c need
unfolding is_served
is_served-alike n p q a c need h l =
    let met = is_met-alike n p q a c need h l in
    let ready = is_ready-same n p q a need.line c (going-alike n p q h) l in
    λ i. met i && ready i

pub is_hit-alike : (n : ℕ) (p q : Past) (a c : ℕ) → GoesOn n p q → c ≤ n → is_hit p a c ≡ is_hit q a c
unfolding is_hit
is_hit-alike n p q a c h l =
    let idling = is_idling-alike n p q a c h l in
    let item = next_item-alike n p q a c h l in
    let served : (need : Need) → is_served p a c need ≡ is_served q a c need =
    λ need. is_served-alike n p q a c need h l in
    λ i. not (idling i) && is_some_and (item i) (λ x. list_all (λ need. served need i) (needs_of x))
