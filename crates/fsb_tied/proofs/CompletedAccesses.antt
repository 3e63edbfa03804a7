-- What holds of each access that a timely run completes at a clock holds of each entry of its log there.
use Rattle.fsb_tied.proofs.Words
use Words.{ℕ, ◌+◌, ◌<◌, ◌≡◌, Bool, true, false, not, ◌&&◌, List, [], ◌∷◌, ◌++◌, map, Option, Some, length, nat_eq, refl}
use Words.{sym, subst, arith, ⊤, filter, list_all, accessed_line, Access, Item, Done, Step, step_of, steps_from}
use Words.{Completed, completed_at, completed_if, completed_of_item, entries_at, is_arrival, next_accesses}
use Words.{of_all_agents, is_hit, Past, Run, past_of, Need, is_load, locked_need, needs_after, needs_of, next_item}
use Words.{next_number, plain_need, Timely, same-list, whole-completions, entries_on}
use Rattle.fsb_access.specs.declared.item.Item.TheVariants.{Idle, Locked, One}

-- each element is so
abbrev pub Each : {X : Type 0} → (X → Type 0) → List X → Type 0
Each so [] = ⊤
Each so (x ∷ xs) = so x × Each so xs

each-append : {X : Type 0} (so : X → Type 0) (xs ys : List X) → Each so xs → Each so ys → Each so (xs ++ ys)
each-append so [] ys h k = k
each-append so (x ∷ xs) ys h k = (h.0, each-append so xs ys h.1 k)

all-agents : (so : Completed → Type 0) (list : ℕ → List Completed) → ((a : ℕ) → Each so (list a))
    → Each so (of_all_agents list)
unfolding of_all_agents
all-agents so list each = grind (arith, each-append)

each-if : (so : Completed → Type 0) (p : Past) (c a : ℕ) (b : Bool) → (b ≡ true → Each so (next_accesses p a c))
    → Each so (completed_if p c b a)
unfolding completed_if
each-if so p c a b h1 = grind arith

-- what holds of the accesses of each agent's next item, where it has a hit or an arrival, holds of all completed ones
each-completed : (so : Completed → Type 0) (p : Past) (c : ℕ)
    → ((a : ℕ) → is_hit p a c ≡ true → Each so (next_accesses p a c))
    → ((a : ℕ) → is_arrival p a c ≡ true → Each so (next_accesses p a c)) → Each so (completed_at p c)
unfolding completed_at
each-completed so p c hit arrival =
    each-append so (of_all_agents (λ a. completed_if p c (is_hit p a c) a))
    (of_all_agents (λ a. completed_if p c (is_arrival p a c) a))
    (all-agents so (λ a. completed_if p c (is_hit p a c) a) (λ a. each-if so p c a (is_hit p a c) (hit a)))
    (all-agents so (λ a. completed_if p c (is_arrival p a c) a) (λ a. each-if so p c a (is_arrival p a c) (arrival a)))

each-next : (so : Completed → Type 0) (p : Past) (a c : ℕ) (number : Option ℕ) (item : Option Item)
    → next_number p a c ≡ number
    → next_item p a c ≡ item → ((n : ℕ) (i : Item) → next_item p a c ≡ Some i → Each so (completed_of_item a n i))
    → Each so (next_accesses p a c)
unfolding next_accesses
each-next so p a c number item h1 h2 h3 = grind arith

-- the need serves the access: it is of its line, and where the line is not needed for itself the access is a load
pub record NeedOf (need : Need) (access : Access) : Type 0 where
  pub names : need.line ≡ accessed_line access
  pub load : need.alone ≡ false → is_load access ≡ true

-- what follows of each access whose need passes
abbrev Follows : (Completed → Type 0) → (Need → Bool) → ℕ → Type 0
Follows so test a =
    (need : Need) (step : Step) → NeedOf need step.access → test need ≡ true → so (record { agent = a; step = step })

not-false : (b : Bool) → not b ≡ false → b ≡ true
not-false b h1 = grind arith

each-group : (so : Completed → Type 0) (test : Need → Bool) (a n part : ℕ) (whole group : List Access)
    → Follows so test a
    → list_all test (map (locked_need [] whole) group) ≡ true
    → Each so (map (λ step. record { agent = a; step = step }) (steps_from n part group))
unfolding locked_need
each-group so test a n part whole [] follows e = tt
each-group so test a n part whole (access ∷ group) follows e =
    grind (arith, each-group so test a n (part + 1) whole group follows)

pub each-of-item : (so : Completed → Type 0) (test : Need → Bool) (a n : ℕ) (item : Item) → Follows so test a
    → list_all test (needs_of item) ≡ true → Each so (completed_of_item a n item)
unfolding completed_of_item needs_of needs_after plain_need
each-of-item so test a n (One access) follows e = grind arith
each-of-item so test a n (Locked group) follows e = each-group so test a n 0 group group follows e
each-of-item so test a n (Idle clocks) follows e = tt

-- an entry, as an access that is completed
abbrev pub entry_of : Done → Completed
entry_of done = record { agent = done.agent; step = step_of done }

-- an entry on the line passes where it is so
abbrev Passes : (Completed → Type 0) → (Done → Bool) → ℕ → Type 0
Passes so test line = (done : Done) → accessed_line done.access ≡ line → so (entry_of done) → test done ≡ true

entries-all : (so : Completed → Type 0) (test : Done → Bool) (line c : ℕ) (log : List Done) → Passes so test line
    → Each so (map entry_of (filter (λ done. nat_eq done.clock c) log))
    → list_all test (filter (λ done. nat_eq done.clock c && nat_eq (accessed_line done.access) line) log) ≡ true
entries-all so test line c [] says each = refl
entries-all so test line c (done ∷ log) says each = grind (arith, entries-all so test line c log says)

-- the accesses of the next item of each agent that completes at n are so
abbrev NextItems : (Completed → Type 0) → Past → ℕ → (ℕ → Bool) → Type 0
NextItems so p n completes =
    (a k : ℕ) (item : Item) → completes a ≡ true → next_item p a n ≡ Some item → Each so (completed_of_item a k item)

-- the entries of a timely run on a line, by what its hits and arrivals complete
pub entries-pass : (r : Run) (line n : ℕ) (so : Completed → Type 0) (test : Done → Bool) → Timely r → n < length r.trace
    → Passes so test line → NextItems so (past_of r) n (λ a. is_hit (past_of r) a n)
    → NextItems so (past_of r) n (λ a. is_arrival (past_of r) a n)
    → list_all test (entries_on (past_of r) line n) ≡ true
unfolding entries_on entries_at
entries-pass r line n so test h l says hit arrival =
    let p : Past = past_of r in
    let same = same-list (entries_at p n) (completed_at p n) (whole-completions r n h l) in
    let completed = each-completed so p n
    (λ a t. each-next so p a n (next_number p a n) (next_item p a n) refl refl (λ k item e. hit a k item t e))
    (λ a t. each-next so p a n (next_number p a n) (next_item p a n) refl refl (λ k item e. arrival a k item t e)) in
    entries-all so test line n p.log says (subst (λ xs. Each so xs) (sym same) completed)
