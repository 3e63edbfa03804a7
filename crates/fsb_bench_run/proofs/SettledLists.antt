-- The entries with their snoop ends, as the list of all goes on; and lists of what requests serve.
use Rattle.fsb_bench_run.proofs.Words
use Words.{ℕ, zero, suc, ◌+◌, ◌<◌, ◌≡◌, ◌⊎◌, Bool, true, false, List, [], ◌∷◌, ◌++◌, Some, drop, length, map, refl, sym}
use Words.{ap, subst, ◌∙◌, arith, inl, inr, filter, slice_get, cases_Bool, length-append, filter-append, slice_get-push}
use Words.{Entry, Run, Served, IsServed}

filter-yes : {X : Type 0} (p : X → Bool) (x : X) (xs : List X) → p x ≡ true → filter p (x ∷ xs) ≡ x ∷ filter p xs
filter-yes p x xs t = rw t refl

filter-no : {X : Type 0} (p : X → Bool) (x : X) (xs : List X) → p x ≡ false → filter p (x ∷ xs) ≡ filter p xs
filter-no p x xs f = rw f refl

-- of a list in which nothing passes nothing is left
pub filter-none : {X : Type 0} (p : X → Bool) (xs : List X) → ((k : ℕ) (y : X) → slice_get xs k ≡ Some y → p y ≡ false)
    → filter p xs ≡ []
filter-none p [] off = refl
filter-none p (x ∷ xs) off = filter-no p x xs (off 0 x refl) ∙ filter-none p xs (λ k y at. off (suc k) y at)

has-later : {X : Type 0} (p : X → Bool) (x y : X) (xs : List X) → (j : ℕ) × (slice_get xs j ≡ Some y) × (p y ≡ true)
    → (j : ℕ) × (slice_get (x ∷ xs) j ≡ Some y) × (p y ≡ true)
has-later p x y xs k = (suc k.0, k.1, k.2)

-- what passes is in the list
pub filter-has : {X : Type 0} (p : X → Bool) (xs : List X) (k : ℕ) (y : X) → slice_get (filter p xs) k ≡ Some y
    → (j : ℕ) × (slice_get xs j ≡ Some y) × (p y ≡ true)
filter-has p [] k y at = absurd (let no : ⊥ = cc in no)
filter-has p (x ∷ xs) k y at = elim (cases_Bool (p x)) [
  | inl t ↦
      has-first p x y xs k t (λ j here. filter-has p xs j y here)
      (ap (λ ys. slice_get ys k) (sym (filter-yes p x xs t)) ∙ at)
  | inr f ↦ has-later p x y xs (filter-has p xs k y (ap (λ ys. slice_get ys k) (sym (filter-no p x xs f)) ∙ at))
]
  where
    has-first : {X : Type 0} (p : X → Bool) (x y : X) (xs : List X) (k : ℕ) → p x ≡ true
        → ((j : ℕ) → slice_get (filter p xs) j ≡ Some y → (i : ℕ) × (slice_get xs i ≡ Some y) × (p y ≡ true))
        → slice_get (x ∷ filter p xs) k ≡ Some y → (j : ℕ) × (slice_get (x ∷ xs) j ≡ Some y) × (p y ≡ true)
    has-first p x y xs zero t more e = let same : x ≡ y = cc in (0, ap (λ z. Some z) same, ap p (sym same) ∙ t)
    has-first p x y xs (suc k) t more e = has-later p x y xs (more k e)

-- two tests in either order
pub filter-swap : {X : Type 0} (p q : X → Bool) (xs : List X) → filter p (filter q xs) ≡ filter q (filter p xs)
filter-swap p q [] = refl
filter-swap p q (x ∷ xs) = grind (arith, filter-swap p q xs)

-- where what passes one test passes the other, this leaves all
pub filter-kept : {X : Type 0} (p q : X → Bool) (xs : List X)
    → ((k : ℕ) (y : X) → slice_get xs k ≡ Some y → p y ≡ true → q y ≡ true) → filter q (filter p xs) ≡ filter p xs
filter-kept p q [] kept = refl
filter-kept p q (x ∷ xs) kept = elim (cases_Bool (p x)) [
  | inl t ↦
      ap (filter q) (filter-yes p x xs t) ∙ filter-yes q x (filter p xs) (kept 0 x refl t)
      ∙ ap (λ ys. x ∷ ys) (filter-kept p q xs (λ k y at. kept (suc k) y at)) ∙ sym (filter-yes p x xs t)
  | inr f ↦
      ap (filter q) (filter-no p x xs f) ∙ filter-kept p q xs (λ k y at. kept (suc k) y at) ∙ sym (filter-no p x xs f)
]

-- all stay
pub stay-all : {X : Type 0} (p q : X → Bool) (xs more : List X)
    → ((k : ℕ) (y : X) → slice_get xs k ≡ Some y → p y ≡ true → q y ≡ true) → filter q more ≡ more
    → filter q (filter p xs ++ more) ≡ filter p xs ++ more
stay-all p q xs more kept rest = grind (arith, filter-append, filter-kept)

-- all but the first one stay
pub stay-later : {X : Type 0} (p q : X → Bool) (xs more : List X) (x : X) → slice_get xs 0 ≡ Some x → p x ≡ true
    → q x ≡ false
    → ((k : ℕ) (y : X) → slice_get xs (suc k) ≡ Some y → p y ≡ true → q y ≡ true) → filter q more ≡ more
    → filter q (filter p xs ++ more) ≡ drop 1 (filter p xs ++ more)
stay-later p q [] more x head t f kept rest = absurd (let no : ⊥ = cc in no)
stay-later p q (y ∷ xs) more x head t f kept rest = grind (arith, filter-append, filter-kept)

-- where each one stays as it is
pub map-same : {X : Type 0} (f : X → X) (xs : List X) → ((k : ℕ) (y : X) → slice_get xs k ≡ Some y → f y ≡ y)
    → map f xs ≡ xs
map-same f [] same = refl
map-same f (x ∷ xs) same = λ i. same 0 x refl i ∷ map-same f xs (λ k y at. same (suc k) y at) i

-- one passes now, behind all that pass: it comes to their end
pub passes-now : {X : Type 0} (p : X → Bool) (f : X → X) (xs : List X) (k : ℕ) (x : X) → slice_get xs k ≡ Some x
    → p x ≡ false → p (f x) ≡ true → ((j : ℕ) (y : X) → j < k → slice_get xs j ≡ Some y → f y ≡ y)
    → ((j : ℕ) (y : X) → k < j → slice_get xs j ≡ Some y → f y ≡ y)
    → ((j : ℕ) (y : X) → k < j → slice_get xs j ≡ Some y → p y ≡ false)
    → filter p (map f xs) ≡ filter p xs ++ f x ∷ []
passes-now p f [] k x at shut now before after off = absurd (let no : ⊥ = cc in no)
passes-now p f (y ∷ xs) zero x at shut now before after off =
    let none = filter-none p xs (λ j z e. off (suc j) z (omega arith) e) in
    let rest = map-same f xs (λ j z e. after (suc j) z (omega arith) e) in
    grind arith
passes-now p f (y ∷ xs) (suc k) x at shut now before after off =
    let more = passes-now p f xs k x at shut now (λ j z l e. before (suc j) z (omega arith) e)
    (λ j z l e. after (suc j) z (omega arith) e) (λ j z l e. off (suc j) z (omega arith) e) in
    ap (λ z. filter p (z ∷ map f xs)) (before 0 y (omega arith) refl)
    ∙ elim (cases_Bool (p y)) [
      | inl t ↦
          filter-yes p y (map f xs) t ∙ ap (λ ys. y ∷ ys) more
          ∙ sym (ap (λ ys. ys ++ f x ∷ []) (filter-yes p y xs t))
      | inr g ↦ filter-no p y (map f xs) g ∙ more ∙ sym (ap (λ ys. ys ++ f x ∷ []) (filter-no p y xs g))
    ]

-- of each entry, in order, the request that it serves
pub record AreServed (served : List Served) (entries : List Entry) (r : Run) : Type 0 where
  pub count : length served ≡ length entries
  pub each : (k : ℕ) (e : Entry) (s : Served) → slice_get entries k ≡ Some e → slice_get served k ≡ Some s
      → IsServed r e s

one-later : {X : Type 0} (xs : List X) (x : X) (k : ℕ) → slice_get xs k ≡ Some x → k ≡ length xs → ⊥
one-later [] x k at e = (let no : ⊥ = cc in no)
one-later (z ∷ xs) x zero at e = omega (arith, e)
one-later (z ∷ xs) x (suc k) at e = one-later xs x k at (omega (arith, e))

pub served-push : (r : Run) (served : List Served) (entries : List Entry) (s : Served) (e : Entry)
    → AreServed served entries r → IsServed r e s → AreServed (served ++ s ∷ []) (entries ++ e ∷ []) r
served-push r served entries s e are is =
    let count = are.count in
    record {
      count = length-append served (s ∷ []) ∙ ap (λ n. n + 1) count ∙ sym (length-append entries (e ∷ []));
      each = λ k y z at here. by k y z count (slice_get-push entries e k y at) (slice_get-push served s k z here);
    }
  where
    by : (k : ℕ) (y : Entry) (z : Served) → length served ≡ length entries
        → (slice_get entries k ≡ Some y) ⊎ ((k ≡ length entries) × (e ≡ y))
        → (slice_get served k ≡ Some z) ⊎ ((k ≡ length served) × (s ≡ z)) → IsServed r y z
    by k y z count (inl a) (inl b) = are.each k y z a b
    by k y z count (inl a) (inr b) = absurd (one-later entries y k a (b.0 ∙ count))
    by k y z count (inr a) (inl b) = absurd (one-later served z k b (a.0 ∙ sym count))
    by k y z count (inr a) (inr b) = subst (λ x. IsServed r x z) a.1 (subst (λ x. IsServed r e x) b.1 is)

pub served-drop : (r : Run) (served : List Served) (entries : List Entry) → AreServed served entries r
    → AreServed (drop 1 served) (drop 1 entries) r
served-drop r [] [] are = are
served-drop r [] (e ∷ entries) are = absurd (let count = are.count in omega arith)
served-drop r (s ∷ served) [] are = absurd (let count = are.count in omega arith)
served-drop r (s ∷ served) (e ∷ entries) are =
    let count = are.count in
    record { count = omega arith; each = λ k y z at here. are.each (suc k) y z at here }
