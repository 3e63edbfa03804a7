-- Lists of the numbers that pass a test, and what is asked of all of them.
use Rattle.std.proofs.Common.{ℕ, zero, suc, ◌<◌, ◌≡◌, Bool, true, false, ◌&&◌, ◌||◌, not, List, [], ◌∷◌, ◌++◌, map}
use Rattle.std.proofs.Common.{refl, sym, ap, ◌∙◌, if◌then◌else◌, arith, inl, inr}
use Rattle.std.specs.List.{filter, list_all, list_any}
use Rattle.std.proofs.lemmas.List.{map-append}
use Rattle.std.proofs.lemmas.List.Elements.{filter-append}
use Rattle.std.proofs.lemmas.List.Folds.{list_any-append}
use Rattle.std.proofs.lemmas.Bool.{cases_Bool}
use Rattle.fsb_count.specs.Clocks.{AgreeBelow, all_where, any_where, each_where}
use Rattle.fsb_count.proofs.Interface.{each_where-at}
use Rattle.fsb_owners.specs.Joint.{Joint}
use Rattle.fsb_owners.specs.Rules.{is_none_left}

-- tests that agree below n pass the same numbers
pub all_where-same : (p q : ℕ → Bool) (n : ℕ) → AgreeBelow n p q → all_where p n ≡ all_where q n
unfolding all_where
all_where-same p q zero a = refl
all_where-same p q (suc n) a =
    rw (all_where-same p q n (record { same = λ c l. a.same c (omega arith) }), a.same n (omega arith)) refl

one_mapped : {A : Type 0} (f : ℕ → A) (p : A → Bool) (b : Bool) (n : ℕ)
    → filter p (map f (if b then n ∷ [] else [])) ≡ map f (if b && p (f n) then n ∷ [] else [])
one_mapped f p true n = elim (cases_Bool (p (f n))) [ inl t ↦ rw t refl | inr e ↦ rw e refl ]
one_mapped f p false n = refl

-- those of the items at the numbers that pass
pub filter-where : {A : Type 0} (f : ℕ → A) (p : A → Bool) (t : ℕ → Bool) (n : ℕ)
    → filter p (map f (all_where t n)) ≡ map f (all_where (λ m. t m && p (f m)) n)
unfolding all_where
filter-where f p t zero = refl
filter-where f p t (suc n) =
    ap (filter p) (map-append f (all_where t n) (if t n then n ∷ [] else []))
    ∙ filter-append p (map f (all_where t n)) (map f (if t n then n ∷ [] else []))
    ∙ rw (filter-where f p t n, one_mapped f p (t n) n) (sym (map-append f (all_where (λ m. t m && p (f m)) n) (if t n && p (f n) then n ∷ [] else [])))

one_any : {A : Type 0} (f : ℕ → A) (p : A → Bool) (b : Bool) (n : ℕ)
    → list_any p (map f (if b then n ∷ [] else [])) ≡ (b && p (f n))
one_any f p true n = elim (cases_Bool (p (f n))) [ inl t ↦ rw t refl | inr e ↦ rw e refl ]
one_any f p false n = refl

either : (b c : Bool) → (b || c) ≡ elim b [ true ↦ true | false ↦ c ]
either true c = refl
either false c = refl

-- some item at the numbers that pass
pub any-where : {A : Type 0} (f : ℕ → A) (p : A → Bool) (t : ℕ → Bool) (n : ℕ)
    → list_any p (map f (all_where t n)) ≡ any_where (λ m. t m && p (f m)) n
unfolding all_where any_where
any-where f p t zero = refl
any-where f p t (suc n) =
    ap (list_any p) (map-append f (all_where t n) (if t n then n ∷ [] else []))
    ∙ list_any-append p (map f (all_where t n)) (map f (if t n then n ∷ [] else []))
    ∙ rw (any-where f p t n, one_any f p (t n) n) (either (any_where (λ m. t m && p (f m)) n) (t n && p (f n)))

-- no item fails exactly where none is left of those that fail
pub all-left : (p : Joint → Bool) (xs : List Joint) → is_none_left (filter (λ x. not (p x)) xs) ≡ list_all p xs
all-left p [] = refl
all-left p (x ∷ xs) = elim (cases_Bool (p x)) [ inl t ↦ rw t (all-left p xs) | inr e ↦ rw e refl ]

none-append : (xs ys : List Joint) → is_none_left (xs ++ ys) ≡ (is_none_left xs && is_none_left ys)
none-append [] ys = refl
none-append (x ∷ xs) ys = refl

one_none : (f : ℕ → Joint) (b : Bool) (n : ℕ) → is_none_left (map f (if b then n ∷ [] else [])) ≡ not b
one_none f true n = refl
one_none f false n = refl

neither : (b c : Bool) → (not b && not c) ≡ not (elim b [ true ↦ true | false ↦ c ])
neither true c = refl
neither false c = refl

-- no number passes exactly where no item is left
pub none-where : (f : ℕ → Joint) (t : ℕ → Bool) (n : ℕ) → is_none_left (map f (all_where t n)) ≡ not (any_where t n)
unfolding all_where any_where
none-where f t zero = refl
none-where f t (suc n) =
    ap (λ xs. is_none_left xs) (map-append f (all_where t n) (if t n then n ∷ [] else []))
    ∙ none-append (map f (all_where t n)) (map f (if t n then n ∷ [] else []))
    ∙ rw (none-where f t n, one_none f (t n) n) (neither (any_where t n) (t n))

-- what is computed to hold at all pairs below two bounds holds at each
pub at_each : (p : ℕ → ℕ → Bool) (n m : ℕ) → each_where (λ i. each_where (p i) m) n ≡ true
    → (i j : ℕ) → i < n → j < m → p i j ≡ true
at_each p n m e i j li lj = each_where-at (p i) m (each_where-at (λ i. each_where (p i) m) n e i li) j lj

-- both answers are the same
abbrev pub is_same : Bool → Bool → Bool
is_same true b = b
is_same false b = not b

pub same : (a b : Bool) → is_same a b ≡ true → a ≡ b
same true b e = sym e
same false true e = absurd (cc)
same false false e = refl
