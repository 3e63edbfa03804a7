-- What is listed: of the clocks that pass a test, what each of them gives.
use Rattle.fsb_lawful.proofs.Words
use Words.{ℕ, zero, suc, ◌<◌, ◌≤◌, ◌≡◌, Bool, true, ◌&&◌, ◌||◌, List, [], ◌∷◌, Option, Some, length, arith, inl, inr}
use Words.{if◌then◌else◌, filter, filter_map, list_any, cases_Bool, or_left, or_right, length-append, filter-append}
use Words.{filter_map-append, list_any-append, all_where, count_where}

-- clock q passes the test, and what it gives passes the other one
pub record IsListed {Y : Type 0} (t : ℕ → Bool) (g : ℕ → Option Y) (f : Y → Bool) (q : ℕ) : Type 0 where
  pub there : t q ≡ true
  pub given : Y
  pub gives : g q ≡ Some given
  pub passes : f given ≡ true

-- what passes both tests passes the second among those that pass the first
pub any-kept : {X : Type 0} (g f : X → Bool) (xs : List X) → list_any (λ x. g x && f x) xs ≡ true
    → list_any f (filter g xs) ≡ true
any-kept g f [] e = absurd (let no : ⊥ = cc in no)
any-kept g f (x ∷ xs) e =
    elim (cases_Bool (g x)) [
      | inl t ↦ rw t (kept (f x) (list_any (λ y. g y && f y) xs) (list_any f (filter g xs)) (any-kept g f xs)
          (rw t at e))
      | inr n ↦ rw n (any-kept g f xs (rw n at e))
    ]
  where
    kept : (b both rest : Bool) → (both ≡ true → rest ≡ true) → (b || both) ≡ true → (b || rest) ≡ true
    kept b both rest h1 h2 = grind arith

-- the last clock of a list
last-any : {Y : Type 0} (t : ℕ → Bool) (g : ℕ → Option Y) (f : Y → Bool) (q : ℕ) → IsListed t g f q
    → list_any f (filter_map g (if t q then q ∷ [] else [])) ≡ true
last-any t g f q k = rw (k.there, k.gives) (or_left _ _ k.passes)

last-length : {Y : Type 0} (t : ℕ → Bool) (g : ℕ → Option Y) (f : Y → Bool) (q : ℕ) → IsListed t g f q
    → 1 ≤ length (filter f (filter_map g (if t q then q ∷ [] else [])))
last-length t g f q k = rw (k.there, k.gives, k.passes) (omega arith)

-- what a clock gives is in the list
pub any-listed : {Y : Type 0} (t : ℕ → Bool) (g : ℕ → Option Y) (f : Y → Bool) (n q : ℕ) → q < n
    → IsListed t g f q → list_any f (filter_map g (all_where t n)) ≡ true
unfolding all_where
any-listed t g f zero q l k = absurd (omega arith)
any-listed t g f (suc n) q l k =
    grind (arith, filter_map-append, list_any-append, or_left, or_right, last-any, any-listed t g f n q)

-- and the list is at least as long as there are such clocks
pub few-listed : {Y : Type 0} (some t : ℕ → Bool) (g : ℕ → Option Y) (f : Y → Bool) (n : ℕ)
    → ((q : ℕ) → q < n → some q ≡ true → IsListed t g f q)
    → count_where some n ≤ length (filter f (filter_map g (all_where t n)))
unfolding all_where count_where
few-listed some t g f zero h = omega arith
few-listed some t g f (suc n) h =
    grind (arith, filter_map-append, filter-append, length-append, last-length, few-listed some t g f n)

pub any-from : {Y : Type 0} (t : ℕ → Bool) (g : ℕ → Option Y) (f : Y → Bool) (n : ℕ)
    → list_any f (filter_map g (all_where t n)) ≡ true → (q : ℕ) × IsListed t g f q
unfolding all_where
any-from t g f zero e = absurd (let no : ⊥ = cc in no)
any-from t g f (suc n) e = grind (arith, list_any-append, filter_map-append, any-from t g f n)
