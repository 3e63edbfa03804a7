-- The last entry of an agent, one clock further.
use Rattle.fsb_run_laws.proofs.Words
use Words.{ℕ, zero, suc, ◌+◌, ◌<◌, ◌≤◌, ◌≡◌, Bool, true, false, nat_eq, nat_lt, List, [], ◌∷◌, Some, length, slice_get}
use Words.{sym, ap, ◌∙◌, arith, list_any, option_and_then, and_parts, eqb-true, ltb-true, or_parts, is_some_and, Done}
use Words.{is_in_time, Past, past_of, Run, completes_at, is_done_at, is_done_by, is_logged_at, last_done, next_number}
use Words.{Timely, done-same, last-same, last_where-found, last_where-from, logged-next, any-from, any-there}
use Words.{some-there}
use Rattle.std.proofs.lemmas.Option.{slice_get_within}

-- the clocks of a log in time never fall
above : (first end : ℕ) (log : List Done) (k : ℕ) (x : Done) → is_in_time first end log ≡ true
    → slice_get log k ≡ Some x → first ≤ x.clock
unfolding is_in_time
above first end [] k x e s = absurd (let no : ⊥ = cc in no)
above first end (done ∷ log) zero x e s = grind arith
above first end (done ∷ log) (suc k) x e s = grind (arith, above done.clock end log k x)

rises : (first end : ℕ) (log : List Done) (j k : ℕ) (y x : Done) → is_in_time first end log ≡ true → j ≤ k
    → slice_get log j ≡ Some y → slice_get log k ≡ Some x → y.clock ≤ x.clock
unfolding is_in_time
rises first end [] j k y x e l s t = absurd (let no : ⊥ = cc in no)
rises first end (done ∷ log) zero k y x e l s t = grind (arith, above)
rises first end (done ∷ log) (suc j) zero y x e l s t = absurd (omega arith)
rises first end (done ∷ log) (suc j) (suc k) y x e l s t = grind (arith, rises done.clock end log j k y x)

-- the last entry of an agent that completes item m at n is of n, and of m
pub record IsLastOf (p : Past) (a n m : ℕ) : Type 0 where
  pub last : Done
  pub there : last_done p a (n + 1) ≡ Some last
  pub clock : last.clock ≡ n
  pub item : last.item ≡ m

pub last-of : (r : Run) (a n m : ℕ) → Timely r → n < length r.trace → next_number (past_of r) a n ≡ Some m
    → completes_at (past_of r) a n ≡ true → IsLastOf (past_of r) a n m
unfolding completes_at last_done past_of is_logged_at is_done_by is_done_at is_some_and
last-of r a n m h l next e =
    let log = r.log in
    let some = any-there (is_done_at a n) log e in
    let mine = and_parts (nat_eq some.entry.agent a) (nat_eq some.entry.clock n) some.passes in
    let at : some.entry.clock ≡ n = eqb-true some.entry.clock n mine.1 in
    let test : ℕ → Bool = λ k. is_some_and (slice_get log k) (is_done_by a (n + 1)) in
    let here : test some.place ≡ true = grind arith in
    let last = last_where-from test (length log) some.place (slice_get_within log some.place some.entry some.at) here in
    let passes = last_where-found test (length log) last.0 last.1 in
    let there = some-there (slice_get log last.0) (is_done_by a (n + 1)) passes.1 in
    let own = and_parts (nat_eq there.0.agent a) (nat_lt there.0.clock (n + 1)) there.2 in
    let below : there.0.clock < n + 1 = ltb-true there.0.clock (n + 1) own.1 in
    let from = rises 0 (length r.trace) log some.place last.0 some.entry there.0 h.in_time last.2 some.at there.1 in
    let same : there.0.clock ≡ n = omega (arith, at, below, from) in
    let logged : is_logged_at (past_of r) a n there.0.item ≡ true = grind (arith, any-from) in
    let is_next = (logged-next r a n there.0.item h l logged).0 in
    let item : there.0.item ≡ m = (let k = sym is_next ∙ next in cc) in
    record { last = there.0; there = ap (option_and_then (slice_get log)) last.1 ∙ there.1; clock = same; item = item }

-- a test that no element passes
none_of : {X : Type 0} (test : X → Bool) (xs : List X) (k : ℕ) (x : X) → list_any test xs ≡ false
    → slice_get xs k ≡ Some x → test x ≡ false
none_of test [] k x e s = absurd (let h : ⊥ = cc in h)
none_of test (y ∷ xs) zero x e s = grind arith
none_of test (y ∷ xs) (suc k) x e s = none_of test xs k x (or_parts (test y) (list_any test xs) e).1 s

-- the last entry of an agent stays where it has none at c
pub last-stays : (p : Past) (a c : ℕ) → completes_at p a c ≡ false → last_done p a (c + 1) ≡ last_done p a c
unfolding last_done completes_at is_some_and
last-stays p a c e = grind (arith, done-same, none_of, last-same)
