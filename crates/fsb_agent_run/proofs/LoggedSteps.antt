-- What an agent makes at a clock, by its hit and by its arrival, has the steps that a timely run logs of it there.
use Rattle.fsb_agent_run.proofs.Words
use Words.{ℕ, ◌+◌, ◌<◌, ◌≡◌, Bool, false, ◌&&◌, ◌||◌, List, [], ◌∷◌, ◌++◌, map, Some, nat_eq, append-nil, refl, sym, ap}
use Words.{◌∙◌, inl, inr, arith, filter, list_any, cases_Bool, false_from_ne_true, both_ways, Item, Done, Step, step_of}
use Words.{steps_of, steps_of_item, Completed, completed_if, completed_of_item, is_arrival, next_accesses, is_hit, Past}
use Words.{Run, past_of, completes_at, is_done_at, next_item, next_number, Reaches, LogsAccesses, logged_access}
use Rattle.fsb_agent_run.proofs.ArrivedViews.{arrival-unhit}
use Rattle.fsb_agent_run.proofs.ItemsCompleted.{completes-not, logged-there}

-- the steps of accesses
abbrev steps_in : List Completed → List Step
steps_in accesses = map (λ (x : Completed). x.step) accesses

steps-both : (xs ys : List Done) → map step_of (xs ++ ys) ≡ steps_in (map logged_access xs ++ map logged_access ys)
steps-both [] [] = refl
steps-both [] (y ∷ ys) = ap (λ zs. step_of y ∷ zs) (steps-both [] ys)
steps-both (x ∷ xs) ys = ap (λ zs. step_of x ∷ zs) (steps-both xs ys)

steps-same : (a : ℕ) (steps : List Step) → steps_in (map (λ step. record { agent = a; step = step }) steps) ≡ steps
steps-same a [] = refl
steps-same a (step ∷ steps) = ap (λ zs. step ∷ zs) (steps-same a steps)

-- the accesses of the next item have its steps
steps-of-next : (p : Past) (a c n : ℕ) (item : Item) → next_number p a c ≡ Some n → next_item p a c ≡ Some item
    → steps_in (next_accesses p a c) ≡ steps_of_item n item
unfolding next_accesses completed_of_item
steps-of-next p a c n item e f = rw (e, f, next_accesses, completed_of_item) (steps-same a (steps_of_item n item))

-- an agent without an entry at a clock has no steps there
unlogged : (a c : ℕ) (log : List Done) → list_any (is_done_at a c) log ≡ false
    → steps_of a (filter (λ (done : Done). nat_eq done.clock c) log) ≡ []
unfolding is_done_at
unlogged a c [] e = refl
unlogged a c (done ∷ log) e =
    elim (cases_Bool (nat_eq done.clock c)) [
      | inr off ↦ rw off (unlogged a c log (rest (nat_eq done.agent a && nat_eq done.clock c) _ e))
      | inl on ↦ elim (cases_Bool (nat_eq done.agent a)) [
        | inr other ↦ rw (on, other) (unlogged a c log (rest (nat_eq done.agent a && nat_eq done.clock c) _ e))
        | inl own ↦ absurd (let no = rw (own, on) at e in cc)
      ]
    ]
  where
    rest : (x y : Bool) → (x || y) ≡ false → y ≡ false
    rest x y h1 = grind arith

-- the accesses of the clock have the steps of the log
steps-logged : (r : Run) (a c : ℕ) → Reaches r (c + 1) → a < 4
    → steps_in (completed_if (past_of r) c (is_hit (past_of r) a c) a
    ++ completed_if (past_of r) c (is_arrival (past_of r) a c) a)
    ≡ steps_of a (filter (λ (done : Done). nat_eq done.clock c) r.log)
unfolding completed_if completes_at past_of
steps-logged r a c h few = elim (cases_Bool (is_hit p a c)) [
  | inl hit ↦
      let off = false_from_ne_true (is_arrival p a c) (λ t. both_ways (is_hit p a c) (arrival-unhit p a c t) hit) in
      let k = logged-there r a c h few (inl hit) in
      (λ i. steps_in (completed_if p c (hit i) a ++ completed_if p c (off i) a))
      ∙ ap steps_in (append-nil (next_accesses p a c))
      ∙ steps-of-next p a c k.number k.item k.completes.next k.next ∙ sym k.steps
  | inr none ↦ elim (cases_Bool (is_arrival p a c)) [
    | inl on ↦
        let k = logged-there r a c h few (inr on) in
        (λ i. steps_in (completed_if p c (none i) a ++ completed_if p c (on i) a))
        ∙ steps-of-next p a c k.number k.item k.completes.next k.next ∙ sym k.steps
    | inr off ↦
        (λ i. steps_in (completed_if p c (none i) a ++ completed_if p c (off i) a))
        ∙ sym (unlogged a c p.log (completes-not r a c h few none off))
  ]
]
  where
    p : Past
    p = past_of r

pub entries-logged : (r : Run) (a c : ℕ) (hits arrivals : List Done) → Reaches r (c + 1) → a < 4
    → LogsAccesses c (completed_if (past_of r) c (is_hit (past_of r) a c) a) hits
    → LogsAccesses c (completed_if (past_of r) c (is_arrival (past_of r) a c) a) arrivals
    → map step_of (hits ++ arrivals) ≡ steps_of a (filter (λ (done : Done). nat_eq done.clock c) r.log)
entries-logged r a c hits arrivals h few hit arrival = grind (arith, steps-both, steps-logged)
