-- The entries of a clock, as what is completed there.
use Rattle.fsb_bench_run.proofs.Words
use Words.{ℕ, ◌≡◌, Bool, true, false, Option, List, [], ◌∷◌, ◌++◌, map, nat_eq, refl, ◌∙◌, arith, subst, filter}
use Words.{list_all, slice_get, option_map_or, and_from, slice_get_past, filter-append, Item, Done, Step, step_of}
use Words.{AgentView, completed_entries, hand_of, is_hit_by, next_steps, performed_entries, steps_at, AtHand}
use Words.{entries_at_hand, hand_after, place_of, IsViewOf, Completed, are_completed, completed_if, completed_of_item}
use Words.{entries_at, is_access, is_completed, is_in_time, is_operand, next_accesses, is_hit, Past, items_of}
use Words.{next_item, next_number}

-- an entry without its clock and its value
abbrev pub completed_of : Done → Completed
completed_of done = record { agent = done.agent; step = step_of done }

-- old entries are of no new clock
pub old-off : (first n : ℕ) (log : List Done) → is_in_time first n log ≡ true
    → filter (λ (done : Done). nat_eq done.clock n) log ≡ []
unfolding is_in_time
old-off first n [] e = refl
old-off first n (done ∷ log) e = grind (arith, old-off done.clock n log)

pub new-on : (n : ℕ) (log : List Done) → list_all (λ (done : Done). nat_eq done.clock n) log ≡ true
    → filter (λ (done : Done). nat_eq done.clock n) log ≡ log
new-on n [] e = refl
new-on n (done ∷ log) e = grind (arith, new-on n log)

-- the entries of the new clock are those that come
pub entries-there : (p : Past) (n : ℕ) (old new : List Done) → p.log ≡ old ++ new → is_in_time 0 n old ≡ true
    → list_all (λ (done : Done). nat_eq done.clock n) new ≡ true → entries_at p n ≡ map completed_of new
unfolding entries_at
entries-there p n old new e early at = grind (arith, old-off, new-on, filter-append)

completed-same : (x : Completed) → is_completed x x ≡ true
unfolding is_completed is_access is_operand
completed-same x = grind arith

pub all-completed : (xs : List Completed) → are_completed xs xs ≡ true
unfolding are_completed
all-completed [] = refl
all-completed (x ∷ xs) = and_from _ _ (completed-same x) (all-completed xs)

pub completed-from : (xs ys : List Completed) → xs ≡ ys → are_completed xs ys ≡ true
completed-from xs ys e = subst (λ zs. are_completed xs zs ≡ true) e (all-completed xs)

-- these steps of an agent, as what it completes
abbrev pub steps_completed : ℕ → List Step → List Completed
steps_completed a steps = map {B = Completed} (λ step. record { agent = a; step = step }) steps

-- the entries of steps are what the steps complete
hand-completed : (a clock : ℕ) (hand : AtHand) (steps : List Step)
    → map completed_of (entries_at_hand a clock hand steps) ≡ steps_completed a steps
hand-completed a clock hand [] = refl
hand-completed a clock hand (step ∷ steps) = grind (arith, hand-completed a clock (hand_after hand step.access) steps)

-- what an agent completes with its next item
next-by : (items : List Item) (a : ℕ) (number : Option ℕ)
    → steps_completed a (steps_at items (place_of items number))
    ≡ option_map_or (λ n. option_map_or (completed_of_item a n) (Rattle.std.specs.Option.option_and_then
    (slice_get items) number) []) number []
unfolding completed_of_item
next-by items a number = grind (arith, slice_get_past)

pub completes-by : (p : Past) (a n clock : ℕ) (w : AgentView) → w.number ≡ a → w.items ≡ items_of p a
    → w.place ≡ place_of (items_of p a) (next_number p a n)
    → map completed_of (completed_entries w clock) ≡ next_accesses p a n
unfolding next_accesses next_item
completes-by p a n clock w number items place =
    hand-completed w.number clock (hand_of w) (next_steps w)
    ∙ (λ i. steps_completed (number i) (steps_at (items i) (place i)))
    ∙ next-by (items_of p a) a (next_number p a n)

pub completes-next : (p : Past) (a n clock : ℕ) (w : AgentView) → IsViewOf p a n w
    → map completed_of (completed_entries w clock) ≡ next_accesses p a n
completes-next p a n clock w k = completes-by p a n clock w k.agent.number k.agent.items k.placed.place

-- the entries of an agent's hit are what it completes by it
pub hit-completes : (p : Past) (a n : ℕ) (w : AgentView) → IsViewOf p a n w → is_hit_by w n ≡ is_hit p a n
    → map completed_of (performed_entries w n) ≡ completed_if p n (is_hit p a n) a
unfolding completed_if
hit-completes p a n w k same = by (is_hit p a n) same
  where
    by : (b : Bool) → is_hit_by w n ≡ b
        → map completed_of (elim (is_hit_by w n) [ true ↦ completed_entries w n | false ↦ [] ])
        ≡ (elim b [ true ↦ next_accesses p a n | false ↦ [] ])
    by true e = rw e (completes-next p a n n w k)
    by false e = rw e refl
