-- A want stays where its agent completes its next item: the rest of the window is the first part of the next one.
use Rattle.std.proofs.Common.{ℕ, zero, suc, ◌+◌, ◌-◌, ◌<◌, ◌≤◌, ◌≡◌, Bool, true, false, ◌||◌, List, [], ◌∷◌, ◌++◌}
use Rattle.std.proofs.Common.{map, drop, length, slice_get, Some, if◌then◌else◌, refl, ap, ◌∙◌, inl, inr, arith}
use Rattle.std.proofs.lemmas.Bool.{cases_Bool, lt-leb}
use Rattle.std.proofs.lemmas.List.Folds.{list_any-append}
use Rattle.std.proofs.lemmas.Option.{slice_get_within}
use Rattle.std.specs.List.{find, list_any}
use Rattle.fsb_count.specs.Options.{is_some_and}
use Rattle.fsb_count.proofs.Interface.{first_where-at, first_where-found}
use Rattle.fsb_access.specs.declared.access.Access.{Access}
use Rattle.fsb_access.specs.declared.item.Item.{Item}
use Rattle.fsb_access.specs.declared.item.Item.TheVariants.{One, Locked, Idle}
use Rattle.fsb_encode.specs.declared.request.Request.{Request}
use Rattle.fsb_timely.specs.Past.{Past}
use Rattle.fsb_timely.specs.Scripts.{Need, is_idle, is_locked, items_of, is_logged, is_logged_at, is_to_do}
use Rattle.fsb_timely.specs.Scripts.{next_number, idle_clocks, idle_start, number_after, is_idling, plain_items}
use Rattle.fsb_timely.specs.Scripts.{window_from, window_at, window, plain_need, locked_need, needs_after, needs_of}
use Rattle.fsb_timely.specs.Scripts.{needs_from}
use Rattle.fsb_timely.specs.Staying.{OwesNoMore, CompletesNext}
use Rattle.fsb_timely.specs.Wants.{owed, is_missing, want_of}
use Rattle.fsb_timely.proofs.Items.{is_logged-more}
use Rattle.fsb_timely.proofs.StayingWants.{AreAmong, missing-over, want-parts, want-there, room-over}

-- what is found, and whether one passes
any-found : {X : Type 0} (test : X → Bool) (xs : List X) (x : X) → find test xs ≡ Some x → list_any test xs ≡ true
any-found test [] x e = absurd (let h : ⊥ = cc in h)
any-found test (y ∷ ys) x e = grind (arith, any-found test ys x)

found-any : {X : Type 0} (test : X → Bool) (xs : List X) → list_any test xs ≡ true → (x : X) × (find test xs ≡ Some x)
found-any test [] e = absurd (let h : ⊥ = cc in h)
found-any test (y ∷ ys) e =
    elim (cases_Bool (test y)) [
      | inl t ↦ (y, rw t refl)
      | inr f ↦ let rest = found-any test ys (let e' = rw f at e in e') in (rest.0, rw f rest.1)
    ]

or_second : (x y : Bool) → y ≡ true → (x || y) ≡ true
or_second x y h1 = grind arith

or_cases : (x y x' y' : Bool) → (x ≡ true → x' ≡ true) → (y ≡ true → y' ≡ true) → (x || y) ≡ true → (x' || y') ≡ true
or_cases x y x' y' h1 h2 h3 = grind arith

-- lines with one more stretch behind each
among-more : (some all more : List ℕ) → AreAmong some all → AreAmong (some ++ more) (all ++ more)
among-more some all more h = grind (arith, list_any-append)

-- no line is among any
none-is-among : (all : List ℕ) → AreAmong [] all
none-is-among all = record { passed = λ test e. absurd (let h : ⊥ = cc in h) }

-- whether agent a may ask for a need, now and at the next clock
abbrev now : Past → ℕ → ℕ → Need → Bool
now p a c need = is_missing p a c (owed p a c) need

abbrev next : Past → ℕ → ℕ → Need → Bool
next p a c need = is_missing p a (c + 1) (owed p a (c + 1)) need

group-over : (p : Past) (a c : ℕ) (some all : List ℕ) (group accesses : List Access) → OwesNoMore p a c
    → AreAmong some all
    → list_any (now p a c) (map (locked_need all group) accesses) ≡ true
    → list_any (next p a c) (map (locked_need some group) accesses) ≡ true
unfolding locked_need
group-over p a c some all group [] h fewer e = absurd (let no : ⊥ = cc in no)
group-over p a c some all group (access ∷ accesses) h fewer e =
    or_cases (now p a c (locked_need all group access))
    (list_any (now p a c) (map (locked_need all group) accesses))
    (next p a c (locked_need some group access)) (list_any (next p a c) (map (locked_need some group) accesses))
    (λ t. missing-over p a c (locked_need all group access) some h fewer t)
    (λ t. group-over p a c some all group accesses h fewer t)
    e

item-over : (p : Past) (a c : ℕ) (some all : List ℕ) (item : Item) → OwesNoMore p a c → AreAmong some all
    → list_any (now p a c) (needs_after all item) ≡ true → list_any (next p a c) (needs_after some item) ≡ true
unfolding needs_after plain_need
item-over p a c some all (One access) h fewer e =
    or_cases (now p a c (plain_need all access)) false (next p a c (plain_need some access)) false
    (λ t. missing-over p a c (plain_need all access) some h fewer t)
    (λ t. t)
    e
item-over p a c some all (Locked group) h fewer e = group-over p a c some all group group h fewer e
item-over p a c some all (Idle clocks) h fewer e = absurd (let no : ⊥ = cc in no)

-- a need of some items that may be asked for is one of more items, behind fewer earlier lines
items-over : (p : Past) (a c : ℕ) (some all : List ℕ) (items more : List Item) → OwesNoMore p a c → AreAmong some all
    → list_any (now p a c) (needs_from all items) ≡ true
    → list_any (next p a c) (needs_from some (items ++ more)) ≡ true
unfolding needs_from
items-over p a c some all [] more h fewer e = absurd (let no : ⊥ = cc in no)
items-over p a c some all (item ∷ items) more h fewer e =
    let lines : List ℕ = map (λ need. need.line) (needs_of item) in
    grind (arith, list_any-append, item-over, items-over p a c (some ++ lines) (all ++ lines) items more h (among-more some all lines fewer))

-- one plain item more
plain-more : (k : ℕ) (items : List Item)
    → (more : List Item) × (plain_items (suc k) items ≡ plain_items k items ++ more)
unfolding plain_items
plain-more zero items = (plain_items 1 items, refl)
plain-more (suc k) [] = ([], refl)
plain-more (suc k) (One access ∷ items) = let rest = plain-more k items in (rest.0, ap (λ xs. One access ∷ xs) rest.1)
plain-more (suc k) (Locked group ∷ items) = ([], refl)
plain-more (suc k) (Idle clocks ∷ items) = ([], refl)

-- where a plain item needs something, there is a first one
plain-first : (test : Need → Bool) (earlier : List ℕ) (m : ℕ) (items : List Item)
    → list_any test (needs_from earlier (plain_items m items)) ≡ true
    → (access : Access) × (rest : List Item) × (k : ℕ) × (items ≡ One access ∷ rest) × (m ≡ suc k)
unfolding plain_items needs_from
plain-first test earlier m items h1 = grind arith

-- the first of what is left of a list, and what is left behind it
drop-first : {X : Type 0} (k : ℕ) (xs ys : List X) (x : X) → drop k xs ≡ x ∷ ys
    → (slice_get xs k ≡ Some x) × (drop (k + 1) xs ≡ ys)
drop-first zero [] ys x e = absurd (let no : ⊥ = cc in no)
drop-first zero (z ∷ xs) ys x e = (cc, cc)
drop-first (suc k) [] ys x e = absurd (let no : ⊥ = cc in no)
drop-first (suc k) (z ∷ xs) ys x e = grind (arith, drop-first k xs ys x e)

-- an item that is done, or idle, stays so; the next item is done now; and the one behind it is to do
pub done-before : (p : Past) (a c m : ℕ) → is_to_do p a c m ≡ false → is_to_do p a (c + 1) m ≡ false
unfolding is_to_do
done-before p a c m e = grind (arith, is_logged-more)

pub done-now : (p : Past) (a c m : ℕ) → is_logged_at p a c m ≡ true → is_to_do p a (c + 1) m ≡ false
unfolding is_to_do
done-now p a c m t = grind (arith, is_logged-more)

not_logged_now : (p : Past) (a c m n : ℕ) → ((other : ℕ) → is_logged_at p a c other ≡ true → other ≡ n) → n < m
    → is_logged_at p a c m ≡ false
not_logged_now p a c m n only l = grind arith

to-do-now : (p : Past) (a c m : ℕ) (access : Access) → slice_get (items_of p a) m ≡ Some (One access)
    → is_logged p a c m ≡ false → is_logged_at p a c m ≡ false → is_to_do p a (c + 1) m ≡ true
unfolding is_to_do is_idle is_some_and
to-do-now p a c m access s f g = rw (is_logged-more, s, f, g) refl

-- the next item is the one behind
number-behind : (p : Past) (a c : ℕ) (access : Access) (h : CompletesNext p a c)
    → slice_get (items_of p a) (h.number + 1) ≡ Some (One access) → next_number p a (c + 1) ≡ Some (h.number + 1)
unfolding next_number
number-behind p a c access h s =
    let found = first_where-found (is_to_do p a c) (length (items_of p a)) h.number h.next in
    first_where-at (is_to_do p a (c + 1)) (length (items_of p a)) (h.number + 1)
    (slice_get_within (items_of p a) (h.number + 1) (One access) s)
    (to-do-now p a c (h.number + 1) access s h.fresh
    (not_logged_now p a c (h.number + 1) h.number h.alone (omega arith)))
    (λ m l. by m l)
  where
    by : (m : ℕ) → m < h.number + 1 → is_to_do p a (c + 1) m ≡ false
    by m l = grind (arith, first_where-found, done-before, done-now)

-- no clocks are idled below an item
no_idle : (items : List Item) (from n : ℕ) → n ≤ from → idle_clocks items from n ≡ 0
unfolding idle_clocks
no_idle items from zero l = refl
no_idle items from (suc n) l = rw (lt-leb from n (omega arith), no_idle items from n (omega arith)) refl

-- an agent does not idle right behind an item that it completed, where the next one is the one behind
not_idling : (p : Past) (a c : ℕ) (h : CompletesNext p a c) → next_number p a (c + 1) ≡ Some (h.number + 1)
    → is_idling p a (c + 1) ≡ false
unfolding is_idling idle_start number_after is_some_and
not_idling p a c h e = grind (arith, no_idle)

-- the window of the next item, and that of the item behind it
window-is : (p : Past) (a c n : ℕ) (item : Item) → next_number p a c ≡ Some n → slice_get (items_of p a) n ≡ Some item
    → window p a c ≡ item ∷ (if is_locked item then []
    else plain_items (p.plan.ahead - 1) (drop (n + 1) (items_of p a)))
unfolding window window_at window_from
window-is p a c n item e s = rw (e, s) refl

-- a need of the rest of the window that may be asked for
rest-needs : (p : Past) (a c : ℕ) (h : CompletesNext p a c) (need : Need)
    → find (now p a c) (needs_from [] (window p a c)) ≡ Some need
    → (is_locked h.item ≡ false)
    × (list_any (now p a c) (needs_from (map (λ n. n.line) (needs_of h.item))
    (plain_items (p.plan.ahead - 1) (drop (h.number + 1) (items_of p a)))) ≡ true)
unfolding needs_from needs_of
rest-needs p a c h need e =
    let some = any-found (now p a c) (needs_from [] (window p a c)) need e in
    grind (arith, window-is, by)
  where
    lines : List ℕ
    lines = map (λ n. n.line) (needs_of h.item)

    by : (b : Bool) → is_locked h.item ≡ b
        → list_any (now p a c)
        (needs_from []
        (h.item ∷ (if is_locked h.item then []
        else plain_items (p.plan.ahead - 1) (drop (h.number + 1) (items_of p a))))) ≡ true
        → (is_locked h.item ≡ false)
        × (list_any (now p a c)
        (needs_from lines (plain_items (p.plan.ahead - 1) (drop (h.number + 1) (items_of p a)))) ≡ true)
    by true t there = absurd (let no : ⊥ = (let e' = rw (t, list_any-append, h.served) at there in cc) in no)
    by false f there = (f, let e' = rw (f, list_any-append, h.served) at there in e')

-- the rest of the window, item by item
rest-is : (p : Past) (a c : ℕ) (lines : List ℕ) (g : CompletesNext p a c) (access : Access) (rest : List Item) (k : ℕ)
    → drop (g.number + 1) (items_of p a) ≡ One access ∷ rest → p.plan.ahead - 1 ≡ suc k
    → list_any (now p a c)
    (needs_from lines (plain_items (p.plan.ahead - 1) (drop (g.number + 1) (items_of p a)))) ≡ true
    → list_any (now p a c) (needs_from lines (One access ∷ plain_items k rest)) ≡ true
unfolding plain_items
rest-is p a c lines g access rest k d m e = grind arith

shift : (p : Past) (a c : ℕ) (lines : List ℕ) (access : Access) (rest : List Item) (k : ℕ) (more : List Item)
    → OwesNoMore p a c
    → list_any (now p a c) (needs_from lines (One access ∷ plain_items k rest)) ≡ true
    → list_any (next p a c) (needs_from [] ((One access ∷ plain_items k rest) ++ more)) ≡ true
shift p a c lines access rest k more h e =
    items-over p a c [] lines (One access ∷ plain_items k rest) more h (none-is-among lines) e

next-window : (p : Past) (a c : ℕ) (g : CompletesNext p a c) (access : Access) (rest : List Item) (k : ℕ)
    (more : List Item)
    → next_number p a (c + 1) ≡ Some (g.number + 1) → slice_get (items_of p a) (g.number + 1) ≡ Some (One access)
    → drop (g.number + 1 + 1) (items_of p a) ≡ rest → p.plan.ahead - 1 ≡ suc k
    → plain_items (suc k) rest ≡ plain_items k rest ++ more
    → window p a (c + 1) ≡ (One access ∷ plain_items k rest) ++ more
unfolding is_locked
next-window p a c g access rest k more number s d m e =
    window-is p a (c + 1) (g.number + 1) (One access) number s
    ∙ (λ i. One access ∷ plain_items (m i) (d i))
    ∙ ap (λ xs. One access ∷ xs) e

pub want-goes_on : (p : Past) (a c : ℕ) (request : Request) → OwesNoMore p a c → CompletesNext p a c
    → want_of p a c ≡ Some request
    → (next : Request) × (want_of p a (c + 1) ≡ Some next)
want-goes_on p a c request h g wants =
    let parts = want-parts p a c request wants in
    let rest = rest-needs p a c g parts.2 parts.3 in
    let lines : List ℕ = map (λ n. n.line) (needs_of g.item) in
    let first = plain-first (now p a c) lines (p.plan.ahead - 1) (drop (g.number + 1) (items_of p a)) rest.1 in
    let behind = drop-first (g.number + 1) (items_of p a) first.1 (One first.0) first.3 in
    let number = number-behind p a c first.0 g behind.0 in
    let more = plain-more first.2 first.1 in
    let shown = shift p a c lines first.0 first.1 first.2 more.0 h
    (rest-is p a c lines g first.0 first.1 first.2 first.3 first.4 rest.1) in
    let there = next-window p a c g first.0 first.1 first.2 more.0 number behind.0 behind.1 first.4 more.1 in
    let found = found-any (next p a c) (needs_from [] (window p a (c + 1)))
    (ap (λ items. list_any (next p a c) (needs_from [] items)) there ∙ shown) in
    want-there p a (c + 1) found.0
    (not_idling p a c g number)
    (room-over p.plan.ahead (length (owed p a c)) (length (owed p a (c + 1))) h.fewer parts.1)
    found.1
