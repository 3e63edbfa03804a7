-- The entries of an agent of a timely run are the accesses of its script up to its next item.
use Rattle.std.proofs.Common.{ℕ, ◌+◌, ◌<◌, ◌≤◌, ◌≡◌, Bool, true, false, not, ◌&&◌, nat_eq, nat_lt, nat_le, List, []}
use Rattle.std.proofs.Common.{◌∷◌, ◌++◌, map, length, Some, refl, ap, ◌⊎◌, arith, append-nil}
use Rattle.std.proofs.lemmas.Bool.{and_parts, eqb-true, eq-eqb, le-ltb, leb-true}
use Rattle.std.proofs.lemmas.List.{map-append}
use Rattle.std.proofs.lemmas.List.Elements.{filter-append}
use Rattle.std.specs.List.{filter}
use Rattle.fsb_access.specs.declared.access.Access.{Access}
use Rattle.fsb_access.specs.declared.access.Access.TheVariants.{Load, Store}
use Rattle.fsb_access.specs.declared.access.Operand.{Operand}
use Rattle.fsb_access.specs.declared.item.Item.{Item}
use Rattle.fsb_access.specs.declared.log.Done.{Done}
use Rattle.fsb_access.specs.ScriptOrder.{Step, steps_of, steps_of_item, step_of}
use Rattle.fsb_timely.specs.Completions.{Completed, is_operand, is_access, is_completed, are_completed, is_arrival}
use Rattle.fsb_timely.specs.Completions.{completed_of_item, next_accesses, completed_if, of_all_agents, completed_at}
use Rattle.fsb_timely.specs.Completions.{entries_at, is_in_time}
use Rattle.fsb_timely.specs.Hits.{is_hit}
use Rattle.fsb_timely.specs.Past.{Past}
use Rattle.fsb_timely.specs.Runs.{Run, past_of}
use Rattle.fsb_timely.specs.Scripts.{is_idling, next_number, next_item}
use Rattle.fsb_timely.specs.Timely.{Timely}
use Rattle.fsb_timely.proofs.LoggedItems.{whole-completions}

differs : (k n : ℕ) → (k ≡ n → ⊥) → nat_eq k n ≡ false
differs k n apart = grind arith

-- the entries below a clock, and those at it
abbrev pub below : ℕ → List Done → List Done
below c log = filter (λ done. nat_lt done.clock c) log

abbrev pub at : ℕ → List Done → List Done
at c log = filter (λ done. nat_eq done.clock c) log

none-earlier : (first end c : ℕ) (log : List Done) → c ≤ first → is_in_time first end log ≡ true → below c log ≡ []
unfolding is_in_time
none-earlier first end c [] l e = refl
none-earlier first end c (done ∷ log) l e =
    let parts = and_parts (nat_le first done.clock) (nat_lt done.clock end && is_in_time done.clock end log) e in
    let rest = and_parts (nat_lt done.clock end) (is_in_time done.clock end log) parts.1 in
    let above : first ≤ done.clock = leb-true first done.clock parts.0 in
    rw (le-ltb done.clock c (omega arith)) (none-earlier done.clock end c log (omega arith) rest.1)

pub below-more : (first end c : ℕ) (log : List Done) → is_in_time first end log ≡ true
    → below (c + 1) log ≡ below c log ++ at c log
unfolding is_in_time
below-more first end c [] e = refl
below-more first end c (done ∷ log) e = grind (arith, none-earlier, below-more done.clock end c log)

-- accesses that are the same are equal
same-operand : (x y : Operand) → is_operand x y ≡ true → x ≡ y
unfolding is_operand
same-operand x y h1 = grind arith

same-access : (x y : Access) → is_access x y ≡ true → x ≡ y
unfolding is_access
same-access (Load size addr) (Load size' addr') e = grind arith
same-access (Load size addr) (Store size' addr' value') e = absurd (let no : ⊥ = cc in no)
same-access (Store size addr value) (Load size' addr') e = absurd (let no : ⊥ = cc in no)
same-access (Store size addr value) (Store size' addr' value') e =
    let parts = and_parts (nat_eq size size' && nat_eq addr addr') (is_operand value value') e in
    let two = and_parts (nat_eq size size') (nat_eq addr addr') parts.0 in
    let a = eqb-true size size' two.0 in
    let b = eqb-true addr addr' two.1 in
    let v = same-operand value value' parts.1 in
    λ i. Store (a i) (b i) (v i)

same-completed : (x y : Completed) → is_completed x y ≡ true → x ≡ y
unfolding is_completed
same-completed x y e =
    let three = and_parts (nat_eq x.agent y.agent && nat_eq x.step.item y.step.item
    && nat_eq x.step.part y.step.part) (is_access x.step.access y.step.access) e in
    let two = and_parts (nat_eq x.agent y.agent && nat_eq x.step.item y.step.item)
    (nat_eq x.step.part y.step.part) three.0 in
    let one = and_parts (nat_eq x.agent y.agent) (nat_eq x.step.item y.step.item) two.0 in
    let agent = eqb-true x.agent y.agent one.0 in
    let item = eqb-true x.step.item y.step.item one.1 in
    let part = eqb-true x.step.part y.step.part two.1 in
    let access = same-access x.step.access y.step.access three.1 in
    λ i. record { agent = agent i; step = record { item = item i; part = part i; access = access i } }

pub same-list : (xs ys : List Completed) → are_completed xs ys ≡ true → xs ≡ ys
unfolding are_completed
same-list [] [] e = refl
same-list [] (y ∷ ys) e = absurd (let no : ⊥ = cc in no)
same-list (x ∷ xs) [] e = absurd (let no : ⊥ = cc in no)
same-list (x ∷ xs) (y ∷ ys) e =
    let parts = and_parts (is_completed x y) (are_completed xs ys) e in
    let first = same-completed x y parts.0 in
    let rest = same-list xs ys parts.1 in
    λ i. first i ∷ rest i

-- the steps of an agent among completed accesses
abbrev pub own : ℕ → List Completed → List Step
own a xs = map (λ (x : Completed). x.step) (filter (λ x. nat_eq x.agent a) xs)

pub steps-at : (a : ℕ) (log : List Done)
    → steps_of a log ≡ own a (map (λ (done : Done). record { agent = done.agent; step = step_of done }) log)
steps-at a [] = refl
steps-at a (done ∷ log) = grind (arith, steps-at a log)

pub own-append : (a : ℕ) (xs ys : List Completed) → own a (xs ++ ys) ≡ own a xs ++ own a ys
own-append a xs ys = grind (arith, filter-append, map-append)

own-none : (a b : ℕ) (steps : List Step) → nat_eq b a ≡ false
    → own a (map (λ step. record { agent = b; step = step }) steps) ≡ []
own-none a b [] f = refl
own-none a b (step ∷ steps) f = rw f (own-none a b steps f)

own-all : (a b : ℕ) (steps : List Step) → nat_eq b a ≡ true
    → own a (map (λ step. record { agent = b; step = step }) steps) ≡ steps
own-all a b [] t = refl
own-all a b (step ∷ steps) t = rw t (ap (λ xs. step ∷ xs) (own-all a b steps t))

own-other : (p : Past) (a b c : ℕ) (completes : Bool) → nat_eq b a ≡ false → own a (completed_if p c completes b) ≡ []
unfolding completed_if next_accesses completed_of_item
own-other p a b c completes h1 = grind (arith, own-none)

own-same : (p : Past) (a c n : ℕ) (item : Item) → next_number p a c ≡ Some n → next_item p a c ≡ Some item
    → own a (completed_if p c true a) ≡ steps_of_item n item
unfolding completed_if next_accesses completed_of_item
own-same p a c n item e f = rw (e, f) (own-all a a (steps_of_item n item) (eq-eqb a a refl))

pub own-agent : (p : Past) (a c : ℕ) (test : ℕ → Bool) → a < 4
    → own a (of_all_agents (λ b. completed_if p c (test b) b)) ≡ own a (completed_if p c (test a) a)
unfolding of_all_agents
own-agent p a c test h1 = grind (arith, own-append, own-other, append-nil)

either-not : (x y : Bool) → (x && false && y) ≡ false
either-not x y = grind arith

not-both : (p : Past) (a c : ℕ) → is_hit p a c ≡ true → is_arrival p a c ≡ false
unfolding is_arrival
not-both p a c e = rw e (either-not (not (is_idling p a c)) _)

nothing-if : (p : Past) (a c : ℕ) → own a (completed_if p c false a) ≡ []
unfolding completed_if
nothing-if p a c = refl

-- where an agent has a hit or an arrival, its steps at the clock are those of its next item
pub steps-completed : (r : Run) (a c n : ℕ) (item : Item) → Timely r → c < length r.trace → a < 4
    → next_number (past_of r) a c ≡ Some n → next_item (past_of r) a c ≡ Some item
    → (is_hit (past_of r) a c ≡ true) ⊎ (is_arrival (past_of r) a c ≡ true)
    → steps_of a (at c r.log) ≡ steps_of_item n item
unfolding completed_at entries_at past_of
steps-completed r a c n item h l few e f which =
    let p = past_of r in
    let list = same-list (entries_at p c) (completed_at p c) (whole-completions r c h l) in
    let hits = own-agent p a c (λ b. is_hit p b c) few in
    let arrivals = own-agent p a c (λ b. is_arrival p b c) few in
    grind (arith, steps-at, own-append, own-same, nothing-if, not-both, append-nil)
