-- Lists of entries, one entry on.
use Rattle.std.proofs.Common.{ℕ, zero, suc, ◌+◌, ◌-◌, ◌<◌, ◌≤◌, ◌≡◌, true, false, nat_eq, Option, Some, None, List, []}
use Rattle.std.proofs.Common.{◌∷◌, ◌++◌, length, take, drop, refl, sym, ap, ◌∙◌, inl, inr, arith, is_some, ◌⊎◌}
use Rattle.std.specs.List.{slice_get, slice_set}
use Rattle.std.proofs.lemmas.Bool.{cases_Bool, ne_eqb}
use Rattle.std.proofs.lemmas.List.{take_more, length-append, length-drop, length-take, append_assoc}
use Rattle.std.proofs.lemmas.Option.{get_or_from_slice_get, slice_get_within}
use Rattle.circular_buffer.specs.Buffer.{keep_last}
use Rattle.fsb_trace.specs.declared.outcome.Outcome.{Outcome}
use Rattle.fsb_queue.specs.declared.entry.Entry.{Entry}
use Rattle.fsb_queue.specs.Entries.{entry_of, without, with_outcome, settled_at}

-- one more entry, behind a list in which the number was not found: it is the one
pub entry_of-found : (number : ℕ) (xs : List Entry) (x : Entry) → entry_of number xs ≡ None
    → nat_eq x.number number ≡ true → entry_of number (xs ++ x ∷ []) ≡ Some x
unfolding entry_of
entry_of-found number [] x e t = rw t refl
entry_of-found number (y ∷ xs) x e t =
    elim (cases_Bool (nat_eq y.number number)) [
      | inl same ↦ absurd (let no : Some y ≡ None = rw same at e in (let h : ⊥ = cc in h))
      | inr other ↦ rw other (entry_of-found number xs x (rw other at e) t)
    ]

pub without-found : (number : ℕ) (xs : List Entry) (x : Entry) → entry_of number xs ≡ None
    → nat_eq x.number number ≡ true → without number (xs ++ x ∷ []) ≡ without number xs
unfolding entry_of without
without-found number [] x e t = rw t refl
without-found number (y ∷ xs) x e t =
    elim (cases_Bool (nat_eq y.number number)) [
      | inl same ↦ absurd (let no : Some y ≡ None = rw same at e in (let h : ⊥ = cc in h))
      | inr other ↦ rw other (ap (λ r. y ∷ r) (without-found number xs x (rw other at e) t))
    ]

-- it is not the one
entry_of-other : (number : ℕ) (xs : List Entry) (x : Entry) → nat_eq x.number number ≡ false
    → entry_of number (xs ++ x ∷ []) ≡ entry_of number xs
unfolding entry_of
entry_of-other number [] x f = rw f refl
entry_of-other number (y ∷ xs) x f = rw (entry_of-other number xs x f) refl

without-other : (number : ℕ) (xs : List Entry) (x : Entry) → nat_eq x.number number ≡ false
    → without number (xs ++ x ∷ []) ≡ without number xs ++ x ∷ []
unfolding without
without-other number [] x f = rw f refl
without-other number (y ∷ xs) x f =
    elim (cases_Bool (nat_eq y.number number)) [
      | inl same ↦ rw same refl
      | inr other ↦ rw other (ap (λ r. y ∷ r) (without-other number xs x f))
    ]

-- another one was found before
entry_of-late : (number : ℕ) (xs : List Entry) (x e : Entry) → entry_of number xs ≡ Some e
    → entry_of number (xs ++ x ∷ []) ≡ entry_of number xs
unfolding entry_of
entry_of-late number [] x e h = absurd (let no : ⊥ = cc in no)
entry_of-late number (y ∷ xs) x e h =
    elim (cases_Bool (nat_eq y.number number)) [
      | inl same ↦ rw same refl
      | inr other ↦ rw other (entry_of-late number xs x e (rw other at h))
    ]

without-late : (number : ℕ) (xs : List Entry) (x e : Entry) → entry_of number xs ≡ Some e
    → without number (xs ++ x ∷ []) ≡ without number xs ++ x ∷ []
unfolding entry_of without
without-late number [] x e h = absurd (let no : ⊥ = cc in no)
without-late number (y ∷ xs) x e h =
    elim (cases_Bool (nat_eq y.number number)) [
      | inl same ↦ rw same refl
      | inr other ↦ rw other (ap (λ r. y ∷ r) (without-late number xs x e (rw other at h)))
    ]

-- the entry at k is not taken out: one was found before, or it has another number
pub entry_of-kept : (number : ℕ) (xs : List Entry) (x : Entry) (o : Option Entry) → entry_of number xs ≡ o
    → (is_some o ≡ true) ⊎ (x.number ≡ number → ⊥) → entry_of number (xs ++ x ∷ []) ≡ o
entry_of-kept number xs x None e (inl t) = absurd (let no : ⊥ = cc in no)
entry_of-kept number xs x None e (inr f) = entry_of-other number xs x (ne_eqb x.number number f) ∙ e
entry_of-kept number xs x (Some y) e f = entry_of-late number xs x y e ∙ e

pub without-kept : (number : ℕ) (xs : List Entry) (x : Entry) (o : Option Entry) → entry_of number xs ≡ o
    → (is_some o ≡ true) ⊎ (x.number ≡ number → ⊥) → without number (xs ++ x ∷ []) ≡ without number xs ++ x ∷ []
without-kept number xs x None e (inl t) = absurd (let no : ⊥ = cc in no)
without-kept number xs x None e (inr f) = without-other number xs x (ne_eqb x.number number f)
without-kept number xs x (Some y) e f = without-late number xs x y e

-- the first of what is left of a list, and one entry more of what was passed
pub left_first : {X : Type 0} (xs ys : List X) (k : ℕ) (x : X) → k < length xs
    → slice_get (drop k xs ++ ys) 0 ≡ Some x → slice_get xs k ≡ Some x
left_first [] ys k x l e = absurd (omega arith)
left_first (z ∷ xs) ys zero x l e = e
left_first (z ∷ xs) ys (suc k) x l e = left_first xs ys k x (omega arith) e

pub left_none : {X : Type 0} (xs ys : List X) (k : ℕ) → k < length xs → slice_get (drop k xs ++ ys) 0 ≡ None → ⊥
left_none [] ys k l e = omega arith
left_none (z ∷ xs) ys zero l e = cc
left_none (z ∷ xs) ys (suc k) l e = left_none xs ys k (omega arith) e

pub left_rest : {X : Type 0} (xs ys : List X) (k : ℕ) → k < length xs → drop 1 (drop k xs ++ ys) ≡ drop (k + 1) xs ++ ys
left_rest [] ys k l = absurd (omega arith)
left_rest (z ∷ xs) ys zero l = refl
left_rest (z ∷ xs) ys (suc k) l =
    let e : suc k + 1 ≡ suc (k + 1) = omega arith in
    left_rest xs ys k (omega arith) ∙ sym (ap (λ n. drop n (z ∷ xs) ++ ys) e)

pub take_one : {X : Type 0} (xs : List X) (k : ℕ) (x : X) → slice_get xs k ≡ Some x
    → take (k + 1) xs ≡ take k xs ++ x ∷ []
take_one xs k x e =
    take_more xs k x (slice_get_within xs k x e) ∙ ap (λ y. take k xs ++ y ∷ []) (get_or_from_slice_get xs k x x e)

-- an entry dropped leaves no more
pub length-without : (number : ℕ) (xs : List Entry) → length (without number xs) ≤ length xs
unfolding without
length-without number [] = omega arith
length-without number (y ∷ xs) =
    let ih : length (without number xs) ≤ length xs = length-without number xs in
    elim (cases_Bool (nat_eq y.number number)) [
      | inl same ↦ rw same (omega arith)
      | inr other ↦ rw other (omega arith)
    ]

-- the entries after k of them were passed: those that are left, and behind them those passed but for the one found
abbrev pub passed : ℕ → ℕ → List Entry → List Entry
passed number k es = drop k es ++ without number (take k es)

length-passed : (number k : ℕ) (es : List Entry) → k ≤ length es → length (passed number k es) ≤ length es
length-passed number k es l =
    let less : length (without number (take k es)) ≤ length (take k es) = length-without number (take k es) in
    omega (arith, length-append (drop k es) (without number (take k es)), length-drop k es, length-take k es)

keep_all : {X : Type 0} (n : ℕ) (xs : List X) → length xs ≤ n → keep_last n xs ≡ xs
keep_all n xs l = let e : length xs - n ≡ 0 = omega arith in ap (λ k. drop k xs) e

-- the first of them is taken out
pub passed_found : (number k : ℕ) (es items : List Entry) (x : Entry) → items ≡ passed number k es
    → k < length es → slice_get items 0 ≡ Some x → entry_of number (take k es) ≡ None
    → nat_eq x.number number ≡ true → (drop 1 items ≡ passed number (k + 1) es)
    × (Some x ≡ entry_of number (take (k + 1) es))
passed_found number k es items x e l h n t =
    let first : slice_get es k ≡ Some x =
    left_first es (without number (take k es)) k x l (ap (λ ys. slice_get ys 0) (sym e) ∙ h) in
    let one : take (k + 1) es ≡ take k es ++ x ∷ [] = take_one es k x first in (
      ap (drop 1) e ∙ left_rest es (without number (take k es)) k l
          ∙ ap (λ r. drop (k + 1) es ++ r) (sym (without-found number (take k es) x n t)
          ∙ ap (without number) (sym one)),
      sym (entry_of-found number (take k es) x n t) ∙ ap (entry_of number) (sym one),
    )

-- or goes behind the others
pub passed_kept : (number k n : ℕ) (es items : List Entry) (x : Entry) (o : Option Entry)
    → items ≡ passed number k es → k < length es → length es ≤ n → slice_get items 0 ≡ Some x
    → entry_of number (take k es) ≡ o → (is_some o ≡ true) ⊎ (x.number ≡ number → ⊥)
    → (keep_last n (drop 1 items ++ x ∷ []) ≡ passed number (k + 1) es) × (o ≡ entry_of number (take (k + 1) es))
passed_kept number k n es items x o e l most h f g =
    let first : slice_get es k ≡ Some x =
    left_first es (without number (take k es)) k x l (ap (λ ys. slice_get ys 0) (sym e) ∙ h) in
    let one : take (k + 1) es ≡ take k es ++ x ∷ [] = take_one es k x first in
    let items' : drop 1 items ++ x ∷ [] ≡ passed number (k + 1) es =
    ap (λ ys. drop 1 ys ++ x ∷ []) e ∙ ap (λ ys. ys ++ x ∷ []) (left_rest es (without number (take k es)) k l)
    ∙ append_assoc (drop (k + 1) es) (without number (take k es)) (x ∷ [])
    ∙ ap (λ r. drop (k + 1) es ++ r) (sym (without-kept number (take k es) x o f g) ∙ ap (without number) (sym one)) in
    let small : length (passed number (k + 1) es) ≤ length es = length-passed number (k + 1) es (omega arith) in (
      ap (keep_last n) items' ∙ keep_all n (passed number (k + 1) es) (omega arith),
      sym (entry_of-kept number (take k es) x o f g) ∙ ap (entry_of number) (sym one),
    )

-- there is a first one
pub passed_there : (number k : ℕ) (es items : List Entry) → items ≡ passed number k es → k < length es
    → slice_get items 0 ≡ None → ⊥
passed_there number k es items e l h =
    left_none es (without number (take k es)) k l (ap (λ ys. slice_get ys 0) (sym e) ∙ h)

pub not_past : {X : Type 0} (xs : List X) (i : ℕ) → i < length xs → slice_get xs i ≡ None → ⊥
not_past [] i l e = omega arith
not_past (x ∷ xs) zero l e = cc
not_past (x ∷ xs) (suc i) l e = not_past xs i (omega arith) e

-- an outcome written to a place
pub settled_at-is : (i : ℕ) (outcome : Outcome) (es : List Entry) (e : Entry) → slice_get es i ≡ Some e
    → slice_set es i (with_outcome outcome e) ≡ settled_at i outcome es
unfolding settled_at
settled_at-is i outcome [] e h = absurd (let no : ⊥ = cc in no)
settled_at-is zero outcome (y ∷ es) e h = let same : y ≡ e = cc in ap (λ z. with_outcome outcome z ∷ es) (sym same)
settled_at-is (suc i) outcome (y ∷ es) e h = ap (λ r. y ∷ r) (settled_at-is i outcome es e h)
