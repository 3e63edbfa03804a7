-- The accesses of a clock of a timely run are served: those of hits, and those that come with the end of another line.
use Rattle.fsb_tied.proofs.Words
use Words.{ℕ, ◌+◌, ◌<◌, ◌≡◌, Bool, true, false, not, ◌&&◌, ◌||◌, List, [], ◌∷◌, Some, length, nat_eq, refl, sym, ap}
use Words.{subst, ◌∙◌, arith, and_from, and_parts, both_ways, eq-eqb, list_all, list_any, option_and_then, is_some_and}
use Words.{any_where-found, accessed_line, live_clock_of, Item, Done, Step, step_of, Completed, brings_at}
use Words.{completed_of_item, completes_by, is_arrival, is_brought, is_there, ended_requests, grant_at, has_arrived}
use Words.{holds_line, is_end_at, is_exclusive, is_granted, is_ready, snooped_at, is_hit, is_met, is_served, Grant}
use Words.{Past, SnoopEnd, Run, past_of, Need, is_load, needs_of, next_item, Timely, one_end, tied-snoop, granted-by}
use Words.{some-and, awaited_at, awaited_by_grant, is_served_hit, is_served_other, entries_on, is_awaited_for}
use Words.{is_brought_to, is_of_other_line}
use Rattle.fsb_tied.proofs.AnswersInOrder.{answers-in-order}
use Rattle.fsb_tied.proofs.Awaiting.{awaited-there, awaits-grant}
use Rattle.fsb_tied.proofs.CompletedAccesses.{Each, NeedOf, each-of-item, entries-pass}
use Rattle.fsb_tied.proofs.Moving.{any-of}

-- agent a has the line at c as an access needs it: for itself where it is a store
pub record HasFor (p : Past) (a line c : ℕ) (load : Bool) : Type 0 where
  pub holds : holds_line p a line c ≡ true
  pub alone : (load || is_exclusive p a line c) ≡ true

met-for : (p : Past) (a c : ℕ) (need : Need) (load alone : Bool) → need.alone ≡ alone → (alone ≡ false → load ≡ true)
    → is_met p a c need ≡ true → HasFor p a need.line c load
unfolding is_met
met-for p a c need load alone h1 h2 h3 = grind arith

-- an access that is met at c
met-access : (p : Past) (a c line : ℕ) (need : Need) (step : Step) → NeedOf need step.access
    → accessed_line step.access ≡ line
    → is_met p a c need ≡ true → HasFor p a line c (is_load step.access)
met-access p a c line need step of names met =
    subst (λ k. HasFor p a k c (is_load step.access)) (of.names ∙ names)
    (met-for p a c need (is_load step.access) need.alone refl of.load met)

-- an access of a hit is served
abbrev HitServed : Past → ℕ → ℕ → Completed → Type 0
HitServed p line n x =
    is_hit p x.agent n ≡ true → accessed_line x.step.access ≡ line
    → HasFor p x.agent line n (is_load x.step.access) × (is_ready p x.agent line n ≡ true)

hit-item : (p : Past) (a n : ℕ) (item : Item) → is_hit p a n ≡ true → next_item p a n ≡ Some item
    → list_all (is_served p a n) (needs_of item) ≡ true
unfolding is_hit is_some_and
hit-item p a n item e f = grind arith

hit-served : (p : Past) (line a n k : ℕ) (item : Item) → is_hit p a n ≡ true → next_item p a n ≡ Some item
    → Each (HitServed p line n) (completed_of_item a k item)
unfolding is_served
hit-served p line a n k item e f =
    each-of-item (HitServed p line n) (is_served p a n) a k item
    (λ need step of served hit names.
    let parts = and_parts (is_met p a n need) (is_ready p a need.line n) served in
    (met-access p a n line need step of names parts.0, subst (λ x. is_ready p a x n ≡ true) (of.names ∙ names) parts.1))
    (hit-item p a n item e f)

-- an agent that has an arrival has no hit
pub arrival-parts : (p : Past) (a n : ℕ) → is_arrival p a n ≡ true
    → (is_hit p a n ≡ false)
    × (is_some_and (next_item p a n) (λ item. list_any (completes_by p a n (needs_of item)) (needs_of item)) ≡ true)
unfolding is_arrival
arrival-parts p a n e = grind arith

each-absurd : (so : Completed → Type 0) (a k : ℕ) (item : Item)
    → ((step : Step) → so (record { agent = a; step = step }))
    → Each so (completed_of_item a k item)
each-absurd so a k item all =
    each-of-item so (λ need. true) a k item (λ need step of e. all step) (all-true (needs_of item))
  where
    all-true : (needs : List Need) → list_all (λ need. true) needs ≡ true
    all-true [] = refl
    all-true (need ∷ needs) = all-true needs

hit-absurd : (p : Past) (line a n k : ℕ) (item : Item) → is_hit p a n ≡ false
    → Each (HitServed p line n) (completed_of_item a k item)
hit-absurd p line a n k item none =
    each-absurd (HitServed p line n) a k item (λ step hit names. absurd (both_ways (is_hit p a n) none hit))

hit-says : (p : Past) (line n : ℕ) (done : Done) (b : Bool) → is_hit p done.agent n ≡ b
    → accessed_line done.access ≡ line
    → HitServed p line n (record { agent = done.agent; step = step_of done }) → is_served_hit p line n done ≡ true
unfolding is_served_hit
hit-says p line n done b h1 h2 h3 = grind arith

pub hits-served : (r : Run) (line n : ℕ) → Timely r → n < length r.trace
    → list_all (is_served_hit (past_of r) line n) (entries_on (past_of r) line n) ≡ true
hits-served r line n h l =
    let p : Past = past_of r in
    entries-pass r line n (HitServed p line n) (is_served_hit p line n) h l
    (λ done names so. hit-says p line n done (is_hit p done.agent n) refl names so)
    (λ a k item e f. hit-served p line a n k item e f)
    (λ a k item e f. hit-absurd p line a n k item (arrival-parts p a n e).0)

-- a grant has the first clock of its snoop end
pub grant-first : (r : Run) (a line t : ℕ) (s : SnoopEnd) (grant : Grant) → t < length r.trace
    → snooped_at (past_of r) t ≡ Some s
    → s.grant ≡ Some grant → is_granted (past_of r) a line t ≡ true → grant.first ≡ s.first
unfolding grant_at
grant-first r a line t s grant l e f granted =
    let k = granted-by r a line t l granted in
    let tied = tied-snoop r t s e in
    let number = one_end r.trace t k.number tied.0 k.is_snoop tied.1.reached in
    let there : option_and_then (λ (x : SnoopEnd). x.grant) (snooped_at (past_of r) t) ≡ Some grant = grind arith in
    let both : Some k.grant ≡ Some grant = sym k.granted ∙ there in
    let same : k.grant ≡ grant = cc in
    let clock : Some k.grant.first ≡ Some s.first = sym k.is_first ∙ ap (live_clock_of r.trace) number ∙ tied.1.first in
    let first : k.grant.first ≡ s.first = cc in
    ap (λ (g : Grant). g.first) (sym same) ∙ first

pub granted-parts : (p : Past) (a line t : ℕ) → is_granted p a line t ≡ true
    → (s : SnoopEnd) × (grant : Grant) × (snooped_at p t ≡ Some s) × (s.grant ≡ Some grant) × (grant.agent ≡ a)
    × (grant.line ≡ line)
unfolding is_granted grant_at
granted-parts p a line t e = grind (arith, some-and)

-- a line that is brought to an agent is one whose end it awaits
pub brought-to : (r : Run) (a n : ℕ) (need : Need) → Timely r → n < length r.trace
    → is_brought (past_of r) a n need ≡ true
    → is_brought_to (past_of r) need.line n a ≡ true
unfolding is_brought brings_at is_brought_to is_end_at is_awaited_for awaited_by_grant grant_at is_some_and
brought-to r a n need h l e =
    let p : Past = past_of r in
    let t = any_where-found (brings_at p a n need) (n + 1) e in
    let low : t.0 < n + 1 = t.1 in
    let parts = and_parts (is_granted p a need.line t.0)
    (is_some_and (grant_at p t.0) (λ x. is_end_at p n x.first && (x.owns || not need.alone))) t.2 in
    let g = granted-parts p a need.line t.0 parts.0 in
    let s : SnoopEnd = g.0 in
    let grant : Grant = g.1 in
    let there : snooped_at p t.0 ≡ Some s = g.2 in
    let made : s.grant ≡ Some grant = g.3 in
    let at : grant_at p t.0 ≡ Some grant = ap (option_and_then (λ (x : SnoopEnd). x.grant)) there ∙ made in
    let ends = (and_parts (is_end_at p n grant.first) (grant.owns || not need.alone) (rw at at parts.1)).0 in
    let first = grant-first r a need.line t.0 s grant (omega arith) there made parts.0 in
    let awaited = awaited-there p (length r.trace) n t.0 s (answers-in-order r h) (omega arith) there
    ∙ awaits-grant s grant made in
    any-of (λ q. is_some_and (awaited_at p n q) (is_awaited_for a need.line)) grant.first (ended_requests p n) ends
    (ap (λ q. is_some_and (awaited_at p n q) (is_awaited_for a need.line)) first
    ∙ ap (λ o. is_some_and o (is_awaited_for a need.line)) awaited
    ∙ and_from (nat_eq grant.line need.line) (nat_eq grant.agent a) (eq-eqb grant.line need.line g.5)
    (eq-eqb grant.agent a g.4))

-- an access that comes with the end of another line is served
abbrev OtherServed : Past → ℕ → ℕ → Completed → Type 0
OtherServed p line n x =
    is_hit p x.agent n ≡ false → is_brought_to p line n x.agent ≡ false → accessed_line x.step.access ≡ line
    → HasFor p x.agent line (n + 1) (is_load x.step.access) × (has_arrived p x.agent line (n + 1) n ≡ true)

completing : (needs all : List Need) (p : Past) (a n : ℕ) → list_any (completes_by p a n all) needs ≡ true
    → (need : Need) × (is_brought p a n need ≡ true)
    × (list_all (λ other. nat_eq other.line need.line || is_there p a n other) all ≡ true)
unfolding completes_by
completing [] all p a n e = absurd (let no : ⊥ = cc in no)
completing (need ∷ needs) all p a n e = grind (arith, completing needs all p a n)

-- what is needed of another line than the one that is brought is there
other-access : (r : Run) (line a n : ℕ) (need brought : Need) (step : Step) (b : Bool) → Timely r → n < length r.trace
    → NeedOf need step.access → nat_eq need.line brought.line ≡ b → (b || is_there (past_of r) a n need) ≡ true
    → is_brought (past_of r) a n brought ≡ true → is_brought_to (past_of r) line n a ≡ false
    → accessed_line step.access ≡ line
    → HasFor (past_of r) a line (n + 1) (is_load step.access) × (has_arrived (past_of r) a line (n + 1) n ≡ true)
unfolding is_there
other-access r line a n need brought step true h l of e there comes none names = grind (arith, brought-to)
other-access r line a n need brought step false h l of e there comes none names =
    let p : Past = past_of r in
    let parts = and_parts (is_met p a (n + 1) need) (has_arrived p a need.line (n + 1) n) there in (
      met-access p a (n + 1) line need step of names parts.0,
      subst (λ k. has_arrived p a k (n + 1) n ≡ true)
          (of.names ∙ names) parts.1,
    )

arrival-served : (r : Run) (line a n k : ℕ) (item : Item) → Timely r → n < length r.trace
    → is_arrival (past_of r) a n ≡ true
    → next_item (past_of r) a n ≡ Some item → Each (OtherServed (past_of r) line n) (completed_of_item a k item)
unfolding is_some_and
arrival-served r line a n k item h l e f =
    let p : Past = past_of r in
    let parts = arrival-parts p a n e in
    let c = completing (needs_of item) (needs_of item) p a n (rw f at parts.1) in
    each-of-item (OtherServed p line n) (λ other. nat_eq other.line c.0.line || is_there p a n other) a k item
    (λ need step of there hit none names. other-access r line a n need c.0 step
    (nat_eq need.line c.0.line) h l of refl there c.1 none names) c.2

other-absurd : (p : Past) (line a n k : ℕ) (item : Item) → is_hit p a n ≡ true
    → Each (OtherServed p line n) (completed_of_item a k item)
other-absurd p line a n k item hit =
    each-absurd (OtherServed p line n) a k item (λ step none out names. absurd (both_ways (is_hit p a n) none hit))

other-says : (p : Past) (line n : ℕ) (done : Done) (b c : Bool) → is_hit p done.agent n ≡ b
    → is_brought_to p line n done.agent ≡ c
    → accessed_line done.access ≡ line → OtherServed p line n (record { agent = done.agent; step = step_of done })
    → is_served_other p line n done ≡ true
unfolding is_served_other is_of_other_line
other-says p line n done b c h1 h2 h3 h4 = grind arith

pub others-served : (r : Run) (line n : ℕ) → Timely r → n < length r.trace
    → list_all (is_served_other (past_of r) line n) (entries_on (past_of r) line n) ≡ true
others-served r line n h l =
    let p : Past = past_of r in
    entries-pass r line n (OtherServed p line n) (is_served_other p line n) h l
    (λ done names so. other-says p line n done (is_hit p done.agent n)
    (is_brought_to p line n done.agent) refl refl names so)
    (λ a k item e f. other-absurd p line a n k item e)
    (λ a k item e f. arrival-served r line a n k item h l e f)
