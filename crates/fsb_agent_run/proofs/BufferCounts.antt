-- The pushes and promises of an agent's buffers, one by one and all together.
use Rattle.fsb_agent_run.proofs.Words
use Words.{ℕ, ◌+◌, ◌≡◌, ◌≢◌, Bool, true, false, cond, not, Option, Some, None, List, [], ◌∷◌, ◌++◌, refl, sym, ap, ◌∙◌}
use Words.{inl, inr, arith, ◌==◌, count_by, is_none, cases_Bool, eqb-true, ne_eqb, sum_by-cons, sum_by_push, Fill, Push}
use Words.{fill_on, fills_without, is_push_for, promise_on, promised_to, push_for, pushed_to, pushes_without, one_if}
use Rattle.std.specs.Prelude.{◌&&◌, is_some}
use Rattle.fsb_agent_run.proofs.FillCounts.{come-count, count-here, count_on}
use Rattle.fsb_agent_run.proofs.FillsTold.{fill_on-without, promised_count, promised_count-cons}

-- how many pushes are for the request
abbrev pub push_count : ℕ → List Push → ℕ
push_count q pushes = count_by (is_push_for q) pushes

push_count-cons : (q : ℕ) (push : Push) (pushes : List Push)
    → push_count q (push ∷ pushes) ≡ cond (push.number == q) 1 0 + push_count q pushes
push_count-cons q push pushes = sum_by-cons (λ x. cond (is_push_for q x) 1 0) push pushes

-- one more
pub push_count-push : (q number : ℕ) (bytes : List ℕ) (pushes : List Push)
    → push_count q (pushes ++ record { number = number; bytes = bytes } ∷ [])
    ≡ push_count q pushes + cond (number == q) 1 0
push_count-push q number bytes pushes = grind (arith, sum_by_push)

-- one that was promised the bytes, if one was
pub push_count-pushed : (q : ℕ) (to : Option ℕ) (bytes : List ℕ) (pushes : List Push)
    → push_count q (pushed_to to bytes pushes)
    ≡ push_count q pushes + cond (elim to [ None ↦ false | Some number ↦ number == q ]) 1 0
push_count-pushed q to bytes pushes = grind (arith, push_count-push)

-- one less
pub push_count-without : (q number : ℕ) (pushes : List Push)
    → push_count q (pushes_without number pushes)
    + cond (is_some (push_for number pushes) && (number == q)) 1 0 ≡ push_count q pushes
push_count-without q number [] = refl
push_count-without q number (push ∷ pushes) =
    elim (cases_Bool (push.number == number)) [
      | inl on ↦
          let is : push.number ≡ number = eqb-true push.number number on in
          let rest : pushes_without number (push ∷ pushes) ≡ pushes = grind arith in
          let found : push_for number (push ∷ pushes) ≡ Some push = rw on refl in
          let here : ◌≡◌ {A = ℕ} (cond (is_some (push_for number (push ∷ pushes)) && (number == q)) 1 0) (cond
          (push.number == q) 1 0) =
          rw (found, is) refl in
          omega (arith, ap (push_count q) rest, push_count-cons q push pushes, here)
      | inr off ↦
          let rest : pushes_without number (push ∷ pushes) ≡ push ∷ pushes_without number pushes = grind arith in
          let found : push_for number (push ∷ pushes) ≡ push_for number pushes = rw off refl in
          omega (
            arith,
            ap (push_count q) rest,
            ap {B = ℕ} (λ o. cond (is_some o && (number == q)) 1 0) found,
            push_count-cons q push (pushes_without number pushes),
            push_count-cons q push pushes,
            push_count-without q number pushes,
          )
    ]

-- where a push is counted one is found
pub push-there : (q : ℕ) (pushes : List Push) → push_count q pushes ≡ 1 → is_some (push_for q pushes) ≡ true
push-there q [] e = absurd (let no : ⊥ = cc in no)
push-there q (push ∷ pushes) e = grind (arith, push-there q pushes)

-- what is promised stays where a fill comes
pub promise_on-push : (line other number : ℕ) (fills : List Fill)
    → promise_on line (fills ++ record { line = other; number = number; promise = None } ∷ []) ≡ promise_on line fills
promise_on-push line other number [] = grind arith
promise_on-push line other number (f ∷ fills) = grind (arith, promise_on-push line other number fills)

-- the fill of a line is promised
pub promise_on-promised : (line to : ℕ) (fills : List Fill) → is_some (fill_on line fills) ≡ true
    → promise_on line (promised_to line to fills) ≡ Some to
promise_on-promised line to [] some = absurd (let no : ⊥ = cc in no)
promise_on-promised line to (f ∷ fills) some = grind (arith, promise_on-promised line to fills)

-- those of other lines stay
pub promise_on-other : (line other to : ℕ) (fills : List Fill) → line ≢ other
    → promise_on line (promised_to other to fills) ≡ promise_on line fills
promise_on-other line other to [] apart = refl
promise_on-other line other to (f ∷ fills) apart =
    elim (cases_Bool (f.line == other)) [
      | inl on ↦
          let is : f.line ≡ other = eqb-true f.line other on in
          let not_here : (f.line == line) ≡ false = ne_eqb f.line line (λ e. apart (sym e ∙ is)) in
          rw (on, not_here) (promise_on-other line other to fills apart)
      | inr off ↦ rw off (kept (f.line == line) refl (promise_on-other line other to fills apart))
    ]
  where
    kept : (b : Bool) → (f.line == line) ≡ b → promise_on line (promised_to other to fills) ≡ promise_on line fills
        → promise_on line (f ∷ promised_to other to fills) ≡ promise_on line (f ∷ fills)
    kept b h1 h2 = grind arith

pub promise_on-without : (line other : ℕ) (fills : List Fill) → line ≢ other
    → promise_on line (fills_without other fills) ≡ promise_on line fills
promise_on-without line other fills apart = grind (arith, fill_on-without)

-- a line without a fill is not promised
pub promise_on-none : (line : ℕ) (fills : List Fill) → count_on line fills ≡ 0 → promise_on line fills ≡ None
promise_on-none line fills none = by (fill_on line fills) refl (come-count line fills false none)
  where
    by : (o : Option Fill) → fill_on line fills ≡ o → is_none (fill_on line fills) ≡ true → promise_on line fills ≡ None
    by o h1 h2 = grind arith

-- whether a line has a fill, by how many it has
pub fill-counted : (line : ℕ) (fills : List Fill) (b : Bool) → count_on line fills ≡ one_if b
    → is_some (fill_on line fills) ≡ b
fill-counted line fills b e = by (fill_on line fills) (come-count line fills b e)
  where
    by : (o : Option Fill) → is_none o ≡ not b → is_some o ≡ b
    by o h1 = grind arith

none_promised : (line to : ℕ) (fills : List Fill) → count_on line fills ≡ 0 → promised_to line to fills ≡ fills
none_promised line to [] none = refl
none_promised line to (f ∷ fills) none =
    elim (cases_Bool (f.line == line)) [
      | inl on ↦ absurd (omega (arith, none, count-here line f fills true on))
      | inr off ↦
          let rest : count_on line fills ≡ 0 = omega (arith, none, count-here line f fills false off) in
          rw off (ap (λ (xs : List Fill). f ∷ xs) (none_promised line to fills rest))
    ]

-- one more is promised
pub promised_count-more : (line to : ℕ) (fills : List Fill) → count_on line fills ≡ 1 → promise_on line fills ≡ None
    → promised_count (promised_to line to fills) ≡ promised_count fills + 1
promised_count-more line to [] one none = absurd (omega (arith, one))
promised_count-more line to (f ∷ fills) one none =
    elim (cases_Bool (f.line == line)) [
      | inl on ↦
          let left : count_on line fills ≡ 0 = omega (arith, one, count-here line f fills true on) in
          let rest : promised_to line to fills ≡ fills = none_promised line to fills left in
          let here : promised_to line to (f ∷ fills) ≡ record f { promise = Some to } ∷ promised_to line to fills =
          grind arith in
          let free : f.promise ≡ None = rw on at none in
          omega (
            arith,
            ap promised_count here,
            promised_count-cons (record f { promise = Some to }) (promised_to line to fills),
            promised_count-cons f fills,
            ap promised_count rest,
            ap {B = ℕ} (λ o. cond (is_some o) 1 0) free,
          )
      | inr off ↦
          let left : count_on line fills ≡ 1 = omega (arith, one, count-here line f fills false off) in
          let here : promised_to line to (f ∷ fills) ≡ f ∷ promised_to line to fills = rw off refl in
          omega (
            arith,
            ap promised_count here,
            promised_count-cons f (promised_to line to fills),
            promised_count-cons f fills,
            promised_count-more line to fills left (rw off at none),
          )
    ]
