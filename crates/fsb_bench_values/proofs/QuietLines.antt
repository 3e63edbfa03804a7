-- Which clocks store nothing into a line: a line with a link is not stored into by a hit, nor behind the snoop end by
-- what comes with the end of another line.
use Rattle.fsb_bench_values.proofs.Words
use Words.{ℕ, ◌+◌, ◌<◌, ◌≤◌, ◌≡◌, Bool, true, false, not, ◌&&◌, ◌||◌, List, [], ◌∷◌, Option, Some, length, nat_eq, refl}
use Words.{ap, subst, ◌∙◌, arith, ◌==◌, list_all, list_any, eq-eqb, or_left, is_some_and, Link, MemoryLine, unheld, run}
use Words.{is_linked, newest, is_sole, ended_requests, has_arrived, holds_line, is_exclusive, is_ready, is_hit, Past}
use Words.{Run, past_of, is_load, Timely, KeepsBounds, Awaited, awaited_at, does_end_on, is_served_hit, is_served_other}
use Words.{entries_on, events_below, is_awaited_for, is_brought_to, is_of_other_line, chain_below, arrived-ready}
use Words.{clock-facts, events-may-happen, unlinked}
use Rattle.fsb_line.specs.Coherence.{Ordered}

-- a chain with a link has a newest one
newest-there : (link : Link) (links : List Link)
    → (last : Link) × (newest (link ∷ links) ≡ Some last) × (is_linked last.agent (link ∷ links) ≡ true)
newest-there link [] = (link, refl, or_left (link.agent == link.agent) false (eq-eqb link.agent link.agent refl))
newest-there link (next ∷ links) = grind (arith, newest-there next links)

-- so who has a line for itself is linked where there is a link
pub sole-linked : (x : MemoryLine) (a : ℕ) (link : Link) (links : List Link) → Ordered x → is_sole (x.state a) ≡ true
    → x.chain ≡ link ∷ links → is_linked a (link ∷ links) ≡ true
sole-linked x a link links ordered sole chain =
    let k = newest-there link links in
    let same : k.0.agent ≡ a = ordered.sole_is_newest a k.0 sole (ap newest chain ∙ k.1) in
    subst (λ b. is_linked b (link ∷ links) ≡ true) same k.2

-- a line that an agent has for itself, ready, has no link
pub exclusive-free : (r : Run) (a line n : ℕ) (link : Link) (links : List Link) → Timely r → KeepsBounds r.plan
    → n ≤ length r.trace → is_exclusive (past_of r) a line n ≡ true → is_ready (past_of r) a line n ≡ true
    → chain_below (past_of r) line n ≡ link ∷ links → ⊥
exclusive-free r a line n link links h bounds l sole ready chain =
    let p : Past = past_of r in
    let tied = (events-may-happen r line n [] h bounds l).1 in
    let x : MemoryLine = run (unheld []) (events_below p line n) in
    grind (arith, sole-linked, unlinked)

pub all-so : {X : Type 0} (f g : X → Bool) → ((x : X) → f x ≡ true → g x ≡ true) → (xs : List X)
    → list_all f xs ≡ true → list_all g xs ≡ true
all-so f g so [] e = refl
all-so f g so (x ∷ xs) e = grind (arith, all-so f g so xs)

-- of what is said where something is so: where it can't be, the access is a load
load-where : (hit holds ready load sole : Bool) → (not hit || (holds && ready && (load || sole))) ≡ true
    → (sole ≡ true → ready ≡ true → ⊥) → (not hit || load) ≡ true
load-where hit holds ready load sole h1 h2 = grind arith

-- a line with a link is not stored into by a hit
pub hits-load : (r : Run) (line n : ℕ) (link : Link) (links : List Link) → Timely r → KeepsBounds r.plan
    → n < length r.trace → chain_below (past_of r) line n ≡ link ∷ links
    → list_all (λ done. not (is_hit (past_of r) done.agent n) || is_load done.access) (entries_on (past_of r) line n)
    ≡ true
unfolding is_served_hit
hits-load r line n link links h bounds l chain =
    let p : Past = past_of r in
    all-so (is_served_hit p line n) (λ done. not (is_hit p done.agent n) || is_load done.access)
    (λ done e. load-where (is_hit p done.agent n) (holds_line p done.agent line n) (is_ready p done.agent line n)
    (is_load done.access) (is_exclusive p done.agent line n) e
    (λ sole ready. exclusive-free r done.agent line n link links h bounds (omega arith) sole ready chain))
    (entries_on p line n) (clock-facts r line n h bounds l).accesses.hits

-- where no end is awaited on the line nobody is brought it
pub brought-nowhere : (p : Past) (line n a : ℕ) → does_end_on p line n ≡ false → is_brought_to p line n a ≡ false
unfolding does_end_on is_brought_to is_awaited_for is_some_and
brought-nowhere p line n a e = by (ended_requests p n) e
  where
    here : (o : Option Awaited) → is_some_and o (λ (x : Awaited). nat_eq x.line line) ≡ false
        → is_some_and o (is_awaited_for a line) ≡ false
    here o h1 = grind arith

    by : (qs : List ℕ) → list_any (λ q. is_some_and (awaited_at p n q) (λ awaited. nat_eq awaited.line line)) qs ≡ false
        → list_any (λ q. is_some_and (awaited_at p n q) (is_awaited_for a line)) qs ≡ false
    by [] f = refl
    by (q ∷ qs) f = grind (arith, by qs)

beside-load : (hit brought : Bool) (holds arrived load sole : Bool) → brought ≡ false
    → (not (not hit && not brought) || (holds && arrived && (load || sole))) ≡ true
    → (sole ≡ true → arrived ≡ true → ⊥) → (hit || load) ≡ true
beside-load hit brought holds arrived load sole h1 h2 h3 = grind arith

-- where no end is awaited on a line, and it has a link behind the snoop end, what comes there stores nothing into it
pub others-load : (r : Run) (line n : ℕ) (link : Link) (links : List Link) → Timely r → KeepsBounds r.plan
    → n < length r.trace → does_end_on (past_of r) line n ≡ false → chain_below (past_of r) line (n + 1) ≡ link ∷ links
    → list_all (λ done. is_hit (past_of r) done.agent n || is_load done.access) (entries_on (past_of r) line n) ≡ true
unfolding is_served_other is_of_other_line
others-load r line n link links h bounds l none chain =
    let p : Past = past_of r in
    all-so (is_served_other p line n) (λ done. is_hit p done.agent n || is_load done.access)
    (λ done e. beside-load (is_hit p done.agent n) (is_brought_to p line n done.agent)
    (holds_line p done.agent line (n + 1)) (has_arrived p done.agent line (n + 1) n) (is_load done.access)
    (is_exclusive p done.agent line (n + 1)) (brought-nowhere p line n done.agent none) e
    (λ sole arrived. exclusive-free r done.agent line (n + 1) link links h bounds (omega arith) sole
    (arrived-ready p done.agent line (n + 1) n (omega arith) arrived) chain))
    (entries_on p line n) (clock-facts r line n h bounds l).accesses.others
