-- A line that comes to an agent that is to own it is ready for nobody else.
use Rattle.fsb_bench_values.proofs.Words
use Words.{ℕ, ◌+◌, ◌≡◌, ◌≢◌, Bool, true, false, List, [], ◌∷◌, Some, length, refl, subst, arith, IsComing}
use Words.{awaited_by_grant, is_some_and, events_below, chain_below, and-then, Link, MemoryLine, unheld, run, is_linked}
use Words.{is_overtaken, owns, Reaches, answers-in-order, awaits-grant, clock-facts, events-may-happen, grant-first}
use Words.{granted-owns, oldest-ends, unlinked, ended_requests, grant_at, holds_line, is_end_at, is_granted, is_ready}
use Words.{snooped_at, Grant, Past, SnoopEnd, Run, past_of}

-- who has no link is overtaken by a link that owns
overtaken : (b : ℕ) (link : Link) (links : List Link) → owns link ≡ true → is_linked b (link ∷ links) ≡ false
    → is_overtaken b (link ∷ links) ≡ true
overtaken b link links own free = grind arith

-- the only end of a clock
only-end : (p : Past) (n q : ℕ) (ends : List ℕ)
    → ((x y : ℕ) (rest : List ℕ) → ended_requests p n ≡ x ∷ y ∷ rest → ⊥)
    → ended_requests p n ≡ ends → is_end_at p n q ≡ true → ended_requests p n ≡ q ∷ []
unfolding is_end_at
only-end p n q [] few e h = absurd (let no = rw e at h in (let f : ⊥ = cc in f))
only-end p n q (x ∷ []) few e h = grind arith
only-end p n q (x ∷ y ∷ rest) few e h = absurd (few x y rest e)

granted-there : (p : Past) (a line t : ℕ) (grant : Grant) → grant_at p t ≡ Some grant → grant.agent ≡ a
    → grant.line ≡ line → is_granted p a line t ≡ true
unfolding is_granted is_some_and
granted-there p a line t grant at agent names = grind arith

-- the chain of a line that comes begins with the link of its grant
pub record IsOldestOf (p : Past) (line n : ℕ) (grant : Grant) : Type 0 where
  pub link : Link
  pub links : List Link
  pub chain : chain_below p line n ≡ link ∷ links
  pub agent : link.agent ≡ grant.agent
  pub owns_as : grant.owns ≡ true → owns link ≡ true

pub coming-oldest : (s : Run) (n a line : ℕ) (owned : Bool) → Reaches s (n + 1)
    → (k : IsComing (past_of s) a n line owned) → IsOldestOf (past_of s) line n k.grant
unfolding grant_at awaited_by_grant
coming-oldest s n a line owned h k =
    let p : Past = past_of s in
    let long = h.long in
    let before = k.before in
    let grant : Grant = k.grant in
    let there = and-then (λ (x : SnoopEnd). x.grant) (snooped_at p k.at) grant k.granted in
    let end : SnoopEnd = there.0 in
    let granted = granted-there p a line k.at grant k.granted k.to k.of_line in
    let first : grant.first ≡ end.first =
    grant-first s a line k.at end grant (omega arith) there.1 there.2 granted in
    let facts = clock-facts s line n h.timely h.bounds (omega arith) in
    let ends : is_end_at p n end.first ≡ true = subst (λ q. is_end_at p n q ≡ true) first k.ends in
    let alone = only-end p n end.first (ended_requests p n) facts.ends.few refl ends in
    let awaits = awaits-grant end grant there.2 in
    let chain = oldest-ends p (length s.trace) line n k.at end (awaited_by_grant end.outcome grant)
    (answers-in-order s h.timely) (omega arith) there.1 alone awaits k.of_line in
    grind (arith, granted-owns)

-- so nobody else has it ready
pub coming-alone : (s : Run) (n a b line : ℕ) → Reaches s (n + 1) → IsComing (past_of s) a n line true → b ≢ a
    → holds_line (past_of s) b line n ≡ true → is_ready (past_of s) b line n ≡ true → ⊥
coming-alone s n a b line h k other holds ready =
    let p : Past = past_of s in
    let long = h.long in
    let oldest = coming-oldest s n a line true h k in
    let tied = (events-may-happen s line n [] h.timely h.bounds (omega arith)).1 in
    let x : MemoryLine = run (unheld []) (events_below p line n) in
    grind (arith, unlinked, overtaken)
