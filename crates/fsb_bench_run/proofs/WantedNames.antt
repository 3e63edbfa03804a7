-- The lines that an agent wants, and those that it holds, are lines that the scripts name.
use Rattle.fsb_bench_run.proofs.Words
use Words.{ℕ, zero, suc, ◌+◌, ◌<◌, ◌≤◌, ◌≡◌, ◌||◌, Bool, true, if◌then◌else◌, nat_le, List, [], ◌∷◌, ◌++◌, map, drop}
use Words.{Option, Some, None, length, refl, sym, ap, ◌∙◌, arith, find, list_all, slice_get, option_map_or, and_from}
use Words.{and_parts, list_all-append, Access, Item, One, Locked, Idle, script_of, list_all-found, any-from, Request}
use Words.{KeepsBounds, IsGrantedBy, all-at, granted-by, live-ads, a-victim, begun-want, dirty-held, begun_at}
use Words.{is_granted, claim_at, Past, Run, past_of, Need, is_idling, items_of, locked_need, needs_after, needs_from}
use Words.{needs_of, next_number, plain_items, plain_need, window, window_at, window_from, Timely, is_missing, owed}
use Words.{request_of_kind, victim_of, want_for, want_of, write_back_of, begun-told, holds_line-says, Symmetric}
use Words.{live_clock_of-rises, snoop_end_of-clock, is_named_line, IsBegunAt}
use Rattle.fsb_timely.specs.Kept.{is_named_in}
use Rattle.fsb_bench_run.proofs.BegunEvents.{begun-claim}
use Rattle.fsb_bench_run.proofs.BegunRequests.{begun-is}

-- each line that an item needs is one that the scripts name
abbrev is_known : List (List Item) → Item → Bool
is_known scripts item = list_all (λ need. is_named_line scripts need.line) (needs_of item)

all-each : {X : Type 0} (test : X → Bool) (xs : List X) → ((j : ℕ) (x : X) → slice_get xs j ≡ Some x → test x ≡ true)
    → list_all test xs ≡ true
all-each test [] each = refl
all-each test (x ∷ xs) each =
    and_from (test x) (list_all test xs) (each 0 x refl) (all-each test xs (λ j y at. each (suc j) y at))

all-drop : {X : Type 0} (test : X → Bool) (n : ℕ) (xs : List X) → list_all test xs ≡ true
    → list_all test (drop n xs) ≡ true
all-drop test zero xs e = e
all-drop test (suc n) [] e = refl
all-drop test (suc n) (x ∷ xs) e = all-drop test n xs (and_parts (test x) (list_all test xs) e).1

script-known : (scripts : List (List Item)) (a : ℕ) (o : Option (List Item)) → slice_get scripts a ≡ o
    → list_all (is_known scripts) (script_of scripts a) ≡ true
unfolding is_named_in
script-known scripts a o h1 = grind (arith, all-each, any-from)

-- what is needed of a known item is named, whatever comes before it in the window
locked-known : (scripts : List (List Item)) (earlier : List ℕ) (group accesses : List Access)
    → list_all (λ need. is_named_line scripts need.line) (map (locked_need [] group) accesses) ≡ true
    → list_all (λ need. is_named_line scripts need.line) (map (locked_need earlier group) accesses) ≡ true
unfolding locked_need
locked-known scripts earlier group [] e = refl
locked-known scripts earlier group (access ∷ accesses) e = grind (arith, locked-known scripts earlier group accesses)

needs-known : (scripts : List (List Item)) (earlier : List ℕ) (item : Item) → is_known scripts item ≡ true
    → list_all (λ need. is_named_line scripts need.line) (needs_after earlier item) ≡ true
unfolding needs_after needs_of plain_need
needs-known scripts earlier item h1 = grind (arith, locked-known)

needs-named : (scripts : List (List Item)) (earlier : List ℕ) (items : List Item)
    → list_all (is_known scripts) items ≡ true
    → list_all (λ need. is_named_line scripts need.line) (needs_from earlier items) ≡ true
unfolding needs_from
needs-named scripts earlier [] e = refl
needs-named scripts earlier (item ∷ items) e =
    let parts = and_parts (is_known scripts item) (list_all (is_known scripts) items) e in
    let later = earlier ++ map (λ need. need.line) (needs_of item) in
    list_all-append (λ need. is_named_line scripts need.line) (needs_after earlier item) (needs_from later items)
    ∙ and_from (list_all (λ need. is_named_line scripts need.line) (needs_after earlier item))
    (list_all (λ need. is_named_line scripts need.line) (needs_from later items))
    (needs-known scripts earlier item parts.0) (needs-named scripts later items parts.1)

-- the items of a window are items of the script
plain-kept : (test : Item → Bool) (n : ℕ) (items : List Item) → list_all test items ≡ true
    → list_all test (plain_items n items) ≡ true
unfolding plain_items
plain-kept test zero items e = refl
plain-kept test (suc n) [] e = refl
plain-kept test (suc n) (One access ∷ items) e = grind (arith, plain-kept test n items)
plain-kept test (suc n) (Locked group ∷ items) e = refl
plain-kept test (suc n) (Idle clocks ∷ items) e = refl

windows : (test : Item → Bool) (p : Past) (a : ℕ) (o : Option ℕ) → list_all test (items_of p a) ≡ true
    → list_all test (option_map_or (window_at p a) o []) ≡ true
unfolding window_at window_from
windows test p a o h1 = grind (arith, plain-kept, all-at, all-drop)

-- what is needed for a window is named
need-named : (p : Past) (a c : ℕ) (test : Need → Bool) (need : Need)
    → find test (needs_from [] (window p a c)) ≡ Some need
    → is_named_line p.plan.scripts need.line ≡ true
unfolding window items_of
need-named p a c test need e =
    let scripts = p.plan.scripts in
    let known = windows (is_known scripts) p a (next_number p a c)
    (script-known scripts a (slice_get scripts a) refl) in
    list_all-found (λ (x : Need). is_named_line scripts x.line) test (needs_from [] (window p a c)) need
    (needs-named scripts [] (window p a c) known) e

-- what an agent wants is for a need
record IsWantFor (p : Past) (a c : ℕ) (request : Request) : Type 0 where
  need : Need
  found : find (is_missing p a c (owed p a c)) (needs_from [] (window p a c)) ≡ Some need
  same : want_for p a c (owed p a c) need ≡ request

want-for : (p : Past) (a c : ℕ) (request : Request) (b : Bool)
    → (is_idling p a c || nat_le p.plan.ahead (length (owed p a c))) ≡ b → want_of p a c ≡ Some request
    → IsWantFor p a c request
unfolding want_of
want-for p a c request b h1 h2 = grind arith

-- a line that is granted to an agent is one that an agent wanted before
record IsWantedBefore (r : Run) (line t : ℕ) : Type 0 where
  at : ℕ
  agent : ℕ
  request : Request
  before : at < t
  want : want_of (past_of r) agent at ≡ Some request
  names : request.line ≡ line

begun-before : (r : Run) (a line t : ℕ) → (g : IsGrantedBy r a line t) → g.begun < t
begun-before r a line t g =
    let w = r.trace in
    let k = snoop_end_of-clock w g.number t g.is_snoop in
    grind (arith, live_clock_of-rises)

granted-wanted : (r : Run) (a line t : ℕ) → Timely r → KeepsBounds r.plan → t < length r.trace
    → is_granted (past_of r) a line t ≡ true → IsWantedBefore r line t
granted-wanted r a line t h bounds l e =
    let w = r.trace in
    let g = granted-by r a line t l e in
    let low = begun-before r a line t g in
    let ads = live-ads w g.served g.begun g.is_begun in
    let begun : begun_at (past_of r) g.begun ≡ Some g.claim =
    begun-told r g.begun (omega arith) ∙ ap (λ b. if b then claim_at w g.begun else None) ads ∙ g.claims in
    let want = begun-want r g.begun g.claim h bounds (omega arith) begun in
    grind arith

-- what is wanted below a clock is named
abbrev AreNamedBelow : Run → ℕ → Type 0
AreNamedBelow r n =
    (a c : ℕ) (request : Request) → c < n → want_of (past_of r) a c ≡ Some request
    → is_named_line r.plan.scripts request.line ≡ true

victim-named : (r : Run) (a c line victim : ℕ) → Timely r → KeepsBounds r.plan → c ≤ length r.trace → AreNamedBelow r c
    → victim_of (past_of r) a c line ≡ Some victim → is_named_line r.plan.scripts victim ≡ true
victim-named r a c line victim h bounds l below e =
    let p = past_of r in
    let dirty = (a-victim p a c line victim e).1 in
    let held = holds_line-says p a victim c (dirty-held p a victim c dirty) in
    grind (arith, granted-wanted)

want-named : (r : Run) (a c : ℕ) (request : Request) → Timely r → KeepsBounds r.plan → c ≤ length r.trace
    → AreNamedBelow r c → want_of (past_of r) a c ≡ Some request → is_named_line r.plan.scripts request.line ≡ true
unfolding past_of want_for request_of_kind write_back_of
want-named r a c request h bounds l below e =
    let p = past_of r in
    let k = want-for p a c request (is_idling p a c || nat_le p.plan.ahead (length (owed p a c))) refl e in
    ap (λ (x : Request). is_named_line r.plan.scripts x.line) (sym k.same)
    ∙ by k.need (victim_of p a c k.need.line) refl (need-named p a c (is_missing p a c (owed p a c)) k.need k.found)
  where
    by : (need : Need) (o : Option ℕ) → victim_of (past_of r) a c need.line ≡ o
        → is_named_line r.plan.scripts need.line ≡ true
        → is_named_line r.plan.scripts (want_for (past_of r) a c (owed (past_of r) a c) need).line ≡ true
    by need o h1 h2 = grind (arith, victim-named)

named-below : (r : Run) (n : ℕ) → Timely r → KeepsBounds r.plan → n ≤ length r.trace + 1 → AreNamedBelow r n
named-below r zero h bounds l = λ a c request low e. absurd (omega arith)
named-below r (suc n) h bounds l = grind (arith, want-named, named-below r n h bounds (omega arith))

-- the line of each request that an agent begins is named
pub begun-named : (r : Run) (q a : ℕ) (request : Request) → Timely r → KeepsBounds r.plan → q < length r.trace
    → IsBegunAt r q (Symmetric a) request → is_named_line r.plan.scripts request.line ≡ true
begun-named r q a request h bounds l k =
    let b = begun-claim r q a request l k in
    let want = begun-want r q b.0 h bounds l b.1 in
    grind (arith, begun-is, named-below)
  where
    one-request : (x y : Request) → Some x ≡ Some y → x ≡ y
    one-request x y e = cc
