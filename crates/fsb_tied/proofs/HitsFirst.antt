-- The entries of a clock on a line: those of hits come before the others.
use Rattle.fsb_tied.proofs.Words
use Words.{◌≡◌, ℕ, ◌<◌, Bool, true, false, ◌&&◌, not, if◌then◌else◌, nat_eq, List, [], ◌∷◌, ◌++◌, map, Option, Some}
use Words.{None, length, refl, sym, ap, subst, inl, inr, arith, cases_Bool, filter, list_all, option_map_or}
use Words.{accessed_line, Item, Done, Step, steps_of_item, Completed, completed_at, completed_if, completed_of_item}
use Words.{entries_at, is_arrival, next_accesses, of_all_agents, is_hit, Past, Run, past_of, next_item, next_number}
use Words.{Timely, same-list, whole-completions, entries_on}
use Rattle.fsb_tied.proofs.CompletedAccesses.{entry_of}
use Rattle.fsb_tied.proofs.ServedAccesses.{arrival-parts}
use Rattle.fsb_tied.proofs.StoredClocks.{arrivals_on, hit_entries_on}

-- those that pass come first
abbrev front : {X : Type 0} → (X → Bool) → List X → Bool
front f [] = true
front f (x ∷ xs) = if f x then front f xs else list_all (λ y. not (f y)) xs

pub all-kept : {X : Type 0} (f : X → Bool) (xs : List X) → list_all f xs ≡ true → filter f xs ≡ xs
all-kept f [] h = refl
all-kept f (x ∷ xs) h = grind (arith, all-kept f xs)

pub none-kept : {X : Type 0} (f : X → Bool) (xs : List X) → list_all (λ x. not (f x)) xs ≡ true → filter f xs ≡ []
none-kept f [] h = refl
none-kept f (x ∷ xs) h = grind (arith, none-kept f xs)

-- so those that pass, and then the others, are all of them in their order
front-parts : {X : Type 0} (f : X → Bool) (xs : List X) → front f xs ≡ true
    → filter f xs ++ filter (λ x. not (f x)) xs ≡ xs
front-parts f [] h = refl
front-parts f (x ∷ xs) h = grind (arith, all-kept, none-kept, front-parts f xs)

all-filtered : {X : Type 0} (f g : X → Bool) (xs : List X) → list_all f xs ≡ true → list_all f (filter g xs) ≡ true
all-filtered f g [] h = refl
all-filtered f g (x ∷ xs) h = grind (arith, all-filtered f g xs)

front-filtered : {X : Type 0} (f g : X → Bool) (xs : List X) → front f xs ≡ true → front f (filter g xs) ≡ true
front-filtered f g [] h = refl
front-filtered f g (x ∷ xs) h =
    elim (cases_Bool (f x)) [
      | inl t ↦
          let rest = front-filtered f g xs (rw t at h) in
          elim (cases_Bool (g x)) [ inl k ↦ rw (k, t) rest | inr k ↦ rw k rest ]
      | inr e ↦
          let none : list_all (λ y. not (f y)) xs ≡ true = rw e at h in
          let left = all-filtered (λ y. not (f y)) g xs none in
          elim (cases_Bool (g x)) [ inl k ↦ rw (k, e) left | inr k ↦ rw k (front-none f (filter g xs) left) ]
    ]
  where
    front-none : {X : Type 0} (f : X → Bool) (xs : List X) → list_all (λ y. not (f y)) xs ≡ true → front f xs ≡ true
    front-none f [] h = refl
    front-none f (x ∷ xs) h =
        elim (cases_Bool (f x)) [
          | inl t ↦ absurd (let no : ⊥ = (let h' = rw t at h in cc) in no)
          | inr e ↦ rw e (rw e at h)
        ]

front-append : {X : Type 0} (f : X → Bool) (xs ys : List X) → list_all f xs ≡ true → list_all (λ y. not (f y)) ys ≡ true
    → front f (xs ++ ys) ≡ true
front-append f [] [] h k = refl
front-append f [] (y ∷ ys) h k = grind arith
front-append f (x ∷ xs) ys h k = grind (arith, front-append f xs ys)

all-appended : {X : Type 0} (f : X → Bool) (xs ys : List X) → list_all f xs ≡ true → list_all f ys ≡ true
    → list_all f (xs ++ ys) ≡ true
all-appended f [] ys h k = k
all-appended f (x ∷ xs) ys h k = grind (arith, all-appended f xs ys)

-- the accesses of the next item of an agent that passes are those of one that passes
steps-own : (test : ℕ → Bool) (a : ℕ) (steps : List Step) → test a ≡ true
    → list_all (λ (x : Completed). test x.agent) (map (λ step. record { agent = a; step = step }) steps) ≡ true
steps-own test a [] t = refl
steps-own test a (step ∷ steps) t = rw (t, steps-own test a steps t) refl

next-own : (test : ℕ → Bool) (p : Past) (a c : ℕ) → test a ≡ true
    → list_all (λ (x : Completed). test x.agent) (next_accesses p a c) ≡ true
unfolding next_accesses completed_of_item
next-own test p a c t = by-number (next_number p a c) (next_item p a c)
  where
    by-number : (number : Option ℕ) (item : Option Item)
        → list_all (λ (x : Completed). test x.agent)
        (option_map_or (λ n. option_map_or (completed_of_item a n) item []) number [])
        ≡ true
    by-number None item = refl
    by-number (Some n) None = refl
    by-number (Some n) (Some item) = steps-own test a (steps_of_item n item) t

if-own : (test : ℕ → Bool) (p : Past) (c a : ℕ) (b : Bool) → (b ≡ true → test a ≡ true)
    → list_all (λ (x : Completed). test x.agent) (completed_if p c b a) ≡ true
unfolding completed_if
if-own test p c a true t = next-own test p a c (t refl)
if-own test p c a false t = refl

agents-own : (f : Completed → Bool) (list : ℕ → List Completed) → ((a : ℕ) → list_all f (list a) ≡ true)
    → list_all f (of_all_agents list) ≡ true
unfolding of_all_agents
agents-own f list all =
    all-appended f (list 0 ++ list 1 ++ list 2) (list 3)
    (all-appended f (list 0 ++ list 1) (list 2) (all-appended f (list 0) (list 1) (all 0) (all 1)) (all 2)) (all 3)

completed-front : (p : Past) (c : ℕ) → front (λ (x : Completed). is_hit p x.agent c) (completed_at p c) ≡ true
unfolding completed_at
completed-front p c =
    front-append (λ (x : Completed). is_hit p x.agent c) (of_all_agents (λ a. completed_if p c (is_hit p a c) a))
    (of_all_agents (λ a. completed_if p c (is_arrival p a c) a))
    (agents-own (λ (x : Completed). is_hit p x.agent c) (λ a. completed_if p c (is_hit p a c) a)
    (λ a. if-own (λ b. is_hit p b c) p c a (is_hit p a c) (λ t. t)))
    (agents-own (λ (x : Completed). not (is_hit p x.agent c)) (λ a. completed_if p c (is_arrival p a c) a)
    (λ a. if-own (λ b. not (is_hit p b c)) p c a (is_arrival p a c) (λ t. ap not (arrival-parts p a c t).0)))

front-named : (test : ℕ → Bool) (entries : List Done)
    → front (λ (x : Completed). test x.agent) (map entry_of entries) ≡ true
    → front (λ (done : Done). test done.agent) entries ≡ true
front-named test [] h = refl
front-named test (done ∷ entries) h =
    elim (cases_Bool (test done.agent)) [
      | inl t ↦ rw t (front-named test entries (rw t at h))
      | inr e ↦ rw e (all-named (λ a. not (test a)) entries (rw e at h))
    ]
  where
    all-named : (test : ℕ → Bool) (entries : List Done)
        → list_all (λ (x : Completed). test x.agent) (map entry_of entries) ≡ true
        → list_all (λ (done : Done). test done.agent) entries ≡ true
    all-named test [] h = refl
    all-named test (done ∷ entries) h = grind (arith, all-named test entries)

filter-both : {X : Type 0} (f g : X → Bool) (xs : List X) → filter (λ x. f x && g x) xs ≡ filter g (filter f xs)
filter-both f g [] = refl
filter-both f g (x ∷ xs) = grind (arith, filter-both f g xs)

-- the entries of a timely run on a line are those of hits, and then the others
pub hits-first : (r : Run) (line n : ℕ) → Timely r → n < length r.trace
    → hit_entries_on (past_of r) line n ++ arrivals_on (past_of r) line n ≡ entries_on (past_of r) line n
unfolding entries_on entries_at
hits-first r line n h l =
    let p : Past = past_of r in
    let hit : Done → Bool = λ done. is_hit p done.agent n in
    let same = same-list (entries_at p n) (completed_at p n) (whole-completions r n h l) in
    let whole : front (λ (x : Completed). is_hit p x.agent n) (entries_at p n) ≡ true =
    subst (λ xs. front (λ (x : Completed). is_hit p x.agent n) xs ≡ true) (sym same) (completed-front p n) in
    let now : List Done = filter (λ done. nat_eq done.clock n) p.log in
    let named = front-named (λ a. is_hit p a n) now whole in
    let here = front-filtered hit (λ done. nat_eq (accessed_line done.access) line) now named in
    let entries = filter-both (λ (done : Done). nat_eq done.clock n)
    (λ done. nat_eq (accessed_line done.access) line) p.log in
    front-parts hit (filter (λ done. nat_eq done.clock n && nat_eq (accessed_line done.access) line) p.log)
    (subst (λ xs. front hit xs ≡ true) (sym entries) here)
