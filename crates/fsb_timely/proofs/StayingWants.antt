-- A want stays from one clock to the next, where its agent begins nothing and completes nothing.
use Rattle.std.proofs.Common.{ℕ, zero, suc, ◌+◌, ◌≤◌, ◌≡◌, Bool, true, false, not, ◌&&◌, ◌||◌, nat_le, nat_lt, List}
use Rattle.std.proofs.Common.{[], ◌∷◌, length, slice_get, Option, Some, refl, sym, ap, ◌∙◌, inl, inr, arith}
use Rattle.std.proofs.lemmas.Bool.{cases_Bool, or_parts}
use Rattle.std.specs.List.{find, list_any}
use Rattle.std.specs.Option.{option_map_or}
use Rattle.fsb_count.specs.Options.{is_some_and}
use Rattle.fsb_encode.specs.declared.request.Request.{Request}
use Rattle.fsb_timely.specs.Past.{Past}
use Rattle.fsb_timely.specs.Grants.{is_granted}
use Rattle.fsb_timely.specs.Scripts.{Need, items_of, completes_at, last_done, idle_clocks, idle_start, number_after}
use Rattle.fsb_timely.specs.Scripts.{next_number, is_idling, window, needs_from}
use Rattle.fsb_timely.specs.Hits.{is_met}
use Rattle.fsb_timely.specs.Staying.{OwesNoMore}
use Rattle.fsb_timely.specs.Wants.{owed, is_asked_for, is_set_taken, is_missing, want_for, want_of}
use Rattle.fsb_timely.proofs.GoingOn.{last-same}
use Rattle.fsb_timely.proofs.Holding.{holds_line-more, is_exclusive-more}
use Rattle.fsb_timely.proofs.Items.{done-same, next_number-same, window-same}

-- a test that no element passes
none_of : {X : Type 0} (test : X → Bool) (xs : List X) (k : ℕ) (x : X) → list_any test xs ≡ false
    → slice_get xs k ≡ Some x → test x ≡ false
none_of test [] k x e s = absurd (let h : ⊥ = cc in h)
none_of test (y ∷ xs) zero x e s = grind arith
none_of test (y ∷ xs) (suc k) x e s = none_of test xs k x (or_parts (test y) (list_any test xs) e).1 s

-- the last entry of an agent stays where it has none at c
last_done-same : (p : Past) (a c : ℕ) → completes_at p a c ≡ false → last_done p a (c + 1) ≡ last_done p a c
unfolding last_done completes_at is_some_and
last_done-same p a c e = grind (arith, done-same, none_of, last-same)

not_yet : (o : Option ℕ) (end : ℕ → ℕ) (c : ℕ) → is_some_and o (λ n. nat_lt c (end n)) ≡ false
    → is_some_and o (λ n. nat_lt (c + 1) (end n)) ≡ false
unfolding is_some_and
not_yet o end c h1 = grind arith

-- an agent that does not idle, and has no entry at c, does not idle at the next clock
pub is_idling-over : (p : Past) (a c : ℕ) → completes_at p a c ≡ false → is_idling p a c ≡ false
    → is_idling p a (c + 1) ≡ false
unfolding is_idling idle_start number_after
is_idling-over p a c e f =
    let number = next_number-same p a c e in
    let done = last_done-same p a c e in
    (λ i. is_some_and (number i)
    (λ n. nat_lt (c + 1) (option_map_or (λ d. d.clock + 1) (done i) 0 + idle_clocks (items_of p a)
    (option_map_or (λ d. d.item + 1) (done i) 0) n)))
    ∙ not_yet (next_number p a c)
    (λ n. option_map_or (λ d. d.clock + 1) (last_done p a c) 0 + idle_clocks (items_of p a)
    (option_map_or (λ d. d.item + 1) (last_done p a c) 0) n) c f

-- a need that is not met, and whose line is not granted, is not met at the next clock
pub is_met-over : (p : Past) (a c : ℕ) (need : Need) → is_granted p a need.line c ≡ false
    → is_met p a c need ≡ false → is_met p a (c + 1) need ≡ false
unfolding is_met
is_met-over p a c need g f = grind (arith, holds_line-more, is_exclusive-more)

three : (x y z : Bool) → x ≡ false → y ≡ false → z ≡ false → (not x && not y && not z) ≡ true
three x y z h1 h2 h3 = grind arith

-- some lines are among others: what one of them passes, one of the others does
pub record AreAmong (some all : List ℕ) : Type 0 where
  pub passed : (test : ℕ → Bool) → list_any test some ≡ true → list_any test all ≡ true

-- a need that may be asked for still may, also where the lines of the earlier items are some of those before
pub missing-over : (p : Past) (a c : ℕ) (need : Need) (earlier : List ℕ) → OwesNoMore p a c
    → AreAmong earlier need.earlier
    → is_missing p a c (owed p a c) need ≡ true
    → is_missing p a (c + 1) (owed p a (c + 1)) (record need { earlier = earlier }) ≡ true
unfolding is_missing is_set_taken is_asked_for is_met
missing-over p a c need earlier h fewer e = grind (arith, is_met-over)

-- where one is found by a test, one is found by a test that passes wherever the first does
found-too : {X : Type 0} (test other : X → Bool) (xs : List X) (x : X)
    → ((y : X) → test y ≡ true → other y ≡ true) → find test xs ≡ Some x → (z : X) × (find other xs ≡ Some z)
found-too test other [] x h e = absurd (let no : ⊥ = cc in no)
found-too test other (y ∷ ys) x h e =
    elim (cases_Bool (other y)) [
      | inl t ↦ (y, rw t refl)
      | inr f ↦
          elim (cases_Bool (test y)) [
            | inl t ↦ absurd (let no : false ≡ true = sym f ∙ h y t in cc)
            | inr g ↦
                let rest = found-too test other ys x h (let e' = rw g at e in e') in
                (rest.0, rw f rest.1)
          ]
    ]

-- what an agent wants is of a need that it finds missing, while it does not idle and has room
pub want-parts : (p : Past) (a c : ℕ) (request : Request) → want_of p a c ≡ Some request
    → (is_idling p a c ≡ false) × (nat_le p.plan.ahead (length (owed p a c)) ≡ false) × (need : Need)
    × (find (is_missing p a c (owed p a c)) (needs_from [] (window p a c)) ≡ Some need)
unfolding want_of
want-parts p a c request e = grind arith

pub want-there : (p : Past) (a c : ℕ) (need : Need) → is_idling p a c ≡ false
    → nat_le p.plan.ahead (length (owed p a c)) ≡ false
    → find (is_missing p a c (owed p a c)) (needs_from [] (window p a c)) ≡ Some need
    → (request : Request) × (want_of p a c ≡ Some request)
unfolding want_of
want-there p a c need e f g =
    let wait : (is_idling p a c || nat_le p.plan.ahead (length (owed p a c))) ≡ false = λ i. either (e i) (f i) in
    (want_for p a c (owed p a c) need, rw (wait, want_of, g) refl)
  where
    either : Bool → Bool → Bool
    either x y = x || y

pub room-over : (ahead n m : ℕ) → m ≤ n → nat_le ahead n ≡ false → nat_le ahead m ≡ false
room-over ahead n m l e = grind arith

pub want-stays : (p : Past) (a c : ℕ) (request : Request) → OwesNoMore p a c → completes_at p a c ≡ false
    → want_of p a c ≡ Some request
    → (next : Request) × (want_of p a (c + 1) ≡ Some next)
want-stays p a c request h e wants =
    let parts = want-parts p a c request wants in
    let found = found-too (is_missing p a c (owed p a c)) (is_missing p a (c + 1) (owed p a (c + 1)))
    (needs_from [] (window p a c)) parts.2
    (λ need t. missing-over p a c need need.earlier h (record { passed = λ test u. u }) t) parts.3 in
    want-there p a (c + 1) found.0
    (is_idling-over p a c e parts.0)
    (room-over p.plan.ahead (length (owed p a c)) (length (owed p a (c + 1))) h.fewer parts.1)
    (ap (λ items. find (is_missing p a (c + 1) (owed p a (c + 1))) (needs_from [] items)) (window-same p a c e)
    ∙ found.1)
