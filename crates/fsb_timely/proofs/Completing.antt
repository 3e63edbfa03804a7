-- An agent of a timely run that has an entry at a clock completes its next item there, and its want stays.
use Rattle.std.proofs.Common.{ℕ, zero, suc, ◌+◌, ◌<◌, ◌≤◌, ◌≡◌, Bool, true, false, not, ◌&&◌, ◌||◌, nat_eq, List, []}
use Rattle.std.proofs.Common.{◌∷◌, length, slice_get, Some, refl, sym, ap, ◌∙◌, inl, inr, arith}
use Rattle.std.proofs.lemmas.Bool.{cases_Bool, and_parts, eqb-true, lt-ltb}
use Rattle.std.specs.List.{list_any, list_all}
use Rattle.std.specs.Option.{option_and_then}
use Rattle.std.proofs.lemmas.Option.{slice_get_within}
use Rattle.fsb_access.specs.declared.item.Item.{Item}
use Rattle.fsb_access.specs.declared.log.Done.{Done}
use Rattle.fsb_count.specs.Options.{is_some_and}
use Rattle.fsb_count.proofs.Interface.{first_where-found}
use Rattle.fsb_encode.specs.declared.request.Request.{Request}
use Rattle.fsb_timely.specs.Completions.{is_brought, is_there, completes_by, is_arrival, is_in_time}
use Rattle.fsb_timely.specs.Hits.{is_met, is_served, is_hit}
use Rattle.fsb_timely.specs.Past.{Past}
use Rattle.fsb_timely.specs.Runs.{Run, past_of}
use Rattle.fsb_timely.specs.Scripts.{Need, is_idling, is_done_by, is_done_at, completes_at, is_logged_at, is_to_do}
use Rattle.fsb_timely.specs.Scripts.{items_of, last_done, next_number, next_item, needs_of}
use Rattle.fsb_timely.specs.Staying.{OwesNoMore, CompletesNext}
use Rattle.fsb_timely.specs.Timely.{Timely}
use Rattle.fsb_timely.specs.Wants.{owed, is_asked_for, is_missing, want_of}
use Rattle.fsb_timely.proofs.LoggedItems.{logged-next, logs-item, not-behind}
use Rattle.fsb_timely.proofs.Since.{last_where-found, last_where-from}
use Rattle.fsb_timely.proofs.StayingWants.{is_met-over, want-stays}
use Rattle.fsb_timely.proofs.WindowSteps.{want-goes_on}

-- a place of a list whose element passes
place-of : {X : Type 0} (test : X → Bool) (xs : List X) → list_any test xs ≡ true
    → (k : ℕ) × (x : X) × (slice_get xs k ≡ Some x) × (test x ≡ true)
place-of test [] e = absurd (let no : ⊥ = cc in no)
place-of test (y ∷ ys) e =
    elim (cases_Bool (test y)) [
      | inl t ↦ (0, y, refl, t)
      | inr f ↦ let rest = place-of test ys (let e' = rw f at e in e') in (suc rest.0, rest.1, rest.2, rest.3)
    ]

any-there : {X : Type 0} (test : X → Bool) (xs : List X) (k : ℕ) (x : X) → slice_get xs k ≡ Some x
    → test x ≡ true → list_any test xs ≡ true
any-there test [] k x e t = absurd (let no : ⊥ = cc in no)
any-there test (y ∷ ys) zero x e t = let same : y ≡ x = cc in rw (same, t) refl
any-there test (y ∷ ys) (suc k) x e t = or_second (test y) (list_any test ys) (any-there test ys k x e t)
  where
    or_second : (a b : Bool) → b ≡ true → (a || b) ≡ true
    or_second a b h1 = grind arith

-- the clocks of a log in time never fall
above : (first end : ℕ) (log : List Done) (k : ℕ) (x : Done) → is_in_time first end log ≡ true
    → slice_get log k ≡ Some x → first ≤ x.clock
unfolding is_in_time
above first end [] k x e s = absurd (let no : ⊥ = cc in no)
above first end (done ∷ log) zero x e s = grind arith
above first end (done ∷ log) (suc k) x e s = grind (arith, above done.clock end log k x)

rises : (first end : ℕ) (log : List Done) (j k : ℕ) (y x : Done) → is_in_time first end log ≡ true → j ≤ k
    → slice_get log j ≡ Some y → slice_get log k ≡ Some x → y.clock ≤ x.clock
unfolding is_in_time
rises first end [] j k y x e l s t = absurd (let no : ⊥ = cc in no)
rises first end (done ∷ log) zero zero y x e l s t = grind arith
rises first end (done ∷ log) zero (suc k) y x e l s t = grind (arith, above)
rises first end (done ∷ log) (suc j) zero y x e l s t = absurd (omega arith)
rises first end (done ∷ log) (suc j) (suc k) y x e l s t = grind (arith, rises done.clock end log j k y x)

-- the last entry of an agent that has one at c is of c
pub record LastAt (p : Past) (a c : ℕ) : Type 0 where
  pub last : Done
  pub is_last : last_done p a (c + 1) ≡ Some last
  pub clock : last.clock ≡ c
  pub logged : is_logged_at p a c last.item ≡ true

last-at : (r : Run) (a c : ℕ) → Timely r → completes_at (past_of r) a c ≡ true → LastAt (past_of r) a c
unfolding completes_at last_done past_of is_logged_at is_done_by is_done_at is_some_and
last-at r a c h e =
    let log = r.log in
    let place = place-of (is_done_at a c) log e in
    let mine = and_parts (nat_eq place.1.agent a) (nat_eq place.1.clock c) place.3 in
    let at : place.1.clock ≡ c = eqb-true place.1.clock c mine.1 in
    let test : ℕ → Bool = λ k. is_some_and (slice_get log k) (is_done_by a (c + 1)) in
    let here : test place.0 ≡ true = rw (place.2, mine.0, lt-ltb place.1.clock (c + 1) (omega (arith, at))) refl in
    let last = last_where-from test (length log) place.0 (slice_get_within log place.0 place.1 place.2) here in
    let passes = last_where-found test (length log) last.0 last.1 in
    grind (arith, rises, any-there)

-- a need that is met, or asked for, is not missing
met-found : (p : Past) (a c : ℕ) (need : Need) → is_met p a c need ≡ true → is_missing p a c (owed p a c) need ≡ false
unfolding is_missing
met-found p a c need e = rw e refl

served-found : (p : Past) (a c : ℕ) (needs : List Need) → list_all (is_served p a c) needs ≡ true
    → list_any (is_missing p a c (owed p a c)) needs ≡ false
unfolding is_served
served-found p a c [] e = refl
served-found p a c (need ∷ needs) e = grind (arith, met-found, served-found p a c needs)

brought-found : (p : Past) (a c line : ℕ) (needs : List Need) → OwesNoMore p a c → is_asked_for (owed p a c) line ≡ true
    → list_all (λ other. nat_eq other.line line || is_there p a c other) needs ≡ true
    → list_any (is_missing p a c (owed p a c)) needs ≡ false
unfolding is_missing is_there
brought-found p a c line [] h asked e = refl
brought-found p a c line (need ∷ needs) h asked e =
    grind (arith, met-found, is_met-over, brought-found p a c line needs h asked)

arrival-found : (p : Past) (a c : ℕ) (item : Item) → OwesNoMore p a c → next_item p a c ≡ Some item
    → is_arrival p a c ≡ true → list_any (is_missing p a c (owed p a c)) (needs_of item) ≡ false
unfolding is_arrival completes_by is_some_and
arrival-found p a c item h e t =
    let test : Item → Bool = λ x. list_any (completes_by p a c (needs_of x)) (needs_of x) in
    let parts = and_parts (not (is_idling p a c) && not (is_hit p a c)) (is_some_and (next_item p a c) test) t in
    let some = place-of (completes_by p a c (needs_of item)) (needs_of item)
    (sym (ap (λ o. is_some_and o test) e) ∙ parts.1) in
    let by = and_parts (is_brought p a c some.1)
    (list_all (λ other. nat_eq other.line some.1.line || is_there p a c other) (needs_of item)) some.3 in
    brought-found p a c some.1.line (needs_of item) h (h.brought some.1 by.0) by.1

-- the item of a number that is to do
pub item-there : (p : Past) (a c n : ℕ) → next_number p a c ≡ Some n
    → (item : Item) × (slice_get (items_of p a) n ≡ Some item)
unfolding next_number is_to_do is_some_and
item-there p a c n e = grind (arith, first_where-found)

pub item-is : (p : Past) (a c n : ℕ) (item : Item) → next_number p a c ≡ Some n
    → slice_get (items_of p a) n ≡ Some item → next_item p a c ≡ Some item
unfolding next_item
item-is p a c n item e s = ap (option_and_then (slice_get (items_of p a))) e ∙ s

pub completes-next : (r : Run) (a c : ℕ) → Timely r → c < length r.trace → OwesNoMore (past_of r) a c
    → completes_at (past_of r) a c ≡ true → CompletesNext (past_of r) a c
unfolding is_hit is_some_and
completes-next r a c h l owes e =
    let p = past_of r in
    let some = logs-item p a c e in
    let next = logged-next r a c some.0 h l some.1 in
    let item = item-there p a c some.0 next.0 in
    let is_item = item-is p a c some.0 item.0 next.0 item.1 in
    let last = last-at r a c h e in
    grind (arith, logged-next, not-behind, served-found, arrival-found)

pub timely-want-stays : (r : Run) (a c : ℕ) (request : Request) → Timely r → c < length r.trace
    → OwesNoMore (past_of r) a c → want_of (past_of r) a c ≡ Some request
    → (next : Request) × (want_of (past_of r) a (c + 1) ≡ Some next)
timely-want-stays r a c request h l owes wants = grind (arith, want-goes_on, completes-next, want-stays)
