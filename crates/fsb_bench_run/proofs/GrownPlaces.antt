-- Where an agent is in its script at a clock stays as its past goes on from that clock.
use Rattle.fsb_bench_run.proofs.Words
use Words.{ℕ, zero, suc, ◌+◌, ◌-◌, ◌<◌, ◌≤◌, ◌≡◌, Bool, true, false, ◌&&◌, nat_eq, nat_le, List, [], ◌∷◌, ◌++◌, length}
use Words.{Option, Some, None, refl, sym, ap, ◌∙◌, arith, and_parts, length-append, list_any-append, list_all, list_any}
use Words.{option_and_then, Done, IsPlacedIn, AgentView, last_where, is_some_and, last_where-failed, slice_get-before}
use Words.{GoesOn, Past, idle_start, is_done_by, is_logged, items_of, last_done, number_after, last-same}
use Words.{last_where-found, next_number-alike}
use Rattle.std.proofs.Common.{slice_get}

none-logged : (n a c k : ℕ) (entries : List Done) → c ≤ n
    → list_all (λ (done : Done). nat_le n done.clock) entries ≡ true
    → list_any (λ (done : Done). is_done_by a c done && nat_eq done.item k) entries ≡ false
unfolding is_done_by
none-logged n a c k [] l e = refl
none-logged n a c k (done ∷ entries) l e = grind (arith, none-logged n a c k entries l)

-- what is logged below the clock
pub logged-alike : (n : ℕ) (p q : Past) (a c k : ℕ) → GoesOn n p q → c ≤ n → is_logged p a c k ≡ is_logged q a c k
unfolding is_logged
logged-alike n p q a c k h l = grind (arith, list_any-append, none-logged)

-- a stretch at the end in which nothing passes changes nothing
last-flat : (test : ℕ → Bool) (m d : ℕ) → ((k : ℕ) → m ≤ k → k < m + d → test k ≡ false)
    → last_where test (m + d) ≡ last_where test m
last-flat test m zero none = let e : m + 0 ≡ m = omega arith in ap (last_where test) e
last-flat test m (suc d) none =
    let e : m + suc d ≡ suc (m + d) = omega arith in
    grind (arith, last_where-failed, last-flat test m d)

pub get-behind : {X : Type 0} (xs ys : List X) (j : ℕ) → slice_get (xs ++ ys) (length xs + j) ≡ slice_get ys j
get-behind [] ys j = let e : 0 + j ≡ j = omega arith in ap (slice_get ys) e
get-behind (x ∷ xs) ys j = grind (arith, get-behind xs ys j)

all-at : {X : Type 0} (test : X → Bool) (xs : List X) (j : ℕ) (x : X) → list_all test xs ≡ true
    → slice_get xs j ≡ Some x → test x ≡ true
all-at test [] j x e f = absurd (let h : ⊥ = cc in h)
all-at test (y ∷ ys) zero x e f = grind arith
all-at test (y ∷ ys) (suc j) x e f = all-at test ys j x (and_parts (test y) (list_all test ys) e).1 f

-- past the old log no entry lies below c
later-quiet : (n : ℕ) (p q : Past) (a c k : ℕ) → GoesOn n p q → c ≤ n → length p.log ≤ k
    → is_some_and (slice_get q.log k) (is_done_by a c) ≡ false
unfolding is_some_and is_done_by
later-quiet n p q a c k h l m =
    let e : length p.log + (k - length p.log) ≡ k = omega arith in
    grind (arith, get-behind, all-at)

entry-same : (n : ℕ) (p q : Past) (k : ℕ) → GoesOn n p q → k < length p.log → slice_get p.log k ≡ slice_get q.log k
entry-same n p q k h l = sym (ap (λ xs. slice_get xs k) h.more_log ∙ slice_get-before p.log h.entries k l)

abbrev done_at : Past → ℕ → ℕ → ℕ → Bool
done_at p a c k = is_some_and (slice_get p.log k) (is_done_by a c)

last-where-same : (n : ℕ) (p q : Past) (a c : ℕ) → GoesOn n p q → c ≤ n
    → last_where (done_at p a c) (length p.log) ≡ last_where (done_at q a c) (length q.log)
last-where-same n p q a c h l =
    let size : length q.log ≡ length p.log + length h.entries = ap length h.more_log ∙ length-append p.log h.entries in
    last-same (done_at p a c) (done_at q a c) (length p.log)
    (record { same = λ k m. ap (λ o. is_some_and o (is_done_by a c)) (entry-same n p q k h m) })
    ∙ sym (ap (last_where (done_at q a c)) size
    ∙ last-flat (done_at q a c) (length p.log) (length h.entries) (λ k m x. later-quiet n p q a c k h l m))

done-by : (n : ℕ) (p q : Past) (a c : ℕ) → GoesOn n p q → (o : Option ℕ)
    → last_where (done_at p a c) (length p.log) ≡ o
    → option_and_then (slice_get p.log) o ≡ option_and_then (slice_get q.log) o
done-by n p q a c h None e = refl
done-by n p q a c h (Some k) e = entry-same n p q k h (last_where-found (done_at p a c) (length p.log) k e).0

-- the last entry below the clock
pub last_done-alike : (n : ℕ) (p q : Past) (a c : ℕ) → GoesOn n p q → c ≤ n → last_done p a c ≡ last_done q a c
unfolding last_done
last_done-alike n p q a c h l =
    done-by n p q a c h (last_where (done_at p a c) (length p.log)) refl
    ∙ ap (option_and_then (slice_get q.log)) (last-where-same n p q a c h l)

-- so the place of the agent's record
pub placed-alike : (n : ℕ) (p q : Past) (a c : ℕ) (v : AgentView) → GoesOn n p q → c ≤ n → IsPlacedIn p a c v
    → IsPlacedIn q a c v
unfolding items_of idle_start number_after
placed-alike n p q a c v h l k =
    let number = next_number-alike n p q a c h l in
    let done = last_done-alike n p q a c h l in
    grind arith
