-- Lists that are matched place by place, and what tests find in both; and what they find among the clocks that pass.
use Rattle.std.proofs.Common.{ℕ, zero, suc, ◌≡◌, Bool, true, false, cond, ◌&&◌, ◌||◌, List, [], ◌∷◌, ◌++◌, map, Option}
use Rattle.std.proofs.Common.{Some, None, refl, sym, ap, ◌∙◌, inl, inr, add-one}
use Rattle.std.specs.Prelude.{⊤}
use Rattle.std.specs.List.{find, list_any}
use Rattle.std.specs.Option.{option_or}
use Rattle.std.proofs.lemmas.Bool.{cases_Bool}
use Rattle.std.proofs.lemmas.List.Folds.{find-append, list_any-append}
use Rattle.fsb_count.specs.Clocks.{all_where, any_where, first_where}
use Rattle.fsb_count.proofs.Interface.{any_where-more}

-- the lists have one length, and the elements at each place are related
abbrev pub Matched : {X Y : Type 0} → (X → Y → Type 0) → List X → List Y → Type 0
Matched R [] [] = ⊤
Matched R [] (y ∷ ys) = ⊥
Matched R (x ∷ xs) [] = ⊥
Matched R (x ∷ xs) (y ∷ ys) = R x y × Matched R xs ys

first_same : {Z : Type 0} (x y : Z) (xs ys : List Z) → x ∷ xs ≡ y ∷ ys → x ≡ y
first_same x y xs ys e = cc

rest_same : {Z : Type 0} (x y : Z) (xs ys : List Z) → x ∷ xs ≡ y ∷ ys → xs ≡ ys
rest_same x y xs ys e = cc

-- lists with the same values are matched by them
pub map-Matched : {X Y Z : Type 0} (f : X → Z) (g : Y → Z) (xs : List X) (ys : List Y) → map f xs ≡ map g ys
    → Matched (λ x y. f x ≡ g y) xs ys
map-Matched f g [] [] e = tt
map-Matched f g [] (y ∷ ys) e = absurd (let no : ⊥ = cc in no)
map-Matched f g (x ∷ xs) [] e = absurd (let no : ⊥ = cc in no)
map-Matched f g (x ∷ xs) (y ∷ ys) e = (
  first_same (f x) (g y) (map f xs) (map g ys) e,
  map-Matched f g xs ys (rest_same (f x) (g y) (map f xs) (map g ys) e),
)

-- lists that are matched by values have the same ones
pub map-from_Matched : {X Y Z : Type 0} (R : X → Y → Type 0) (f : X → Z) (g : Y → Z) (xs : List X) (ys : List Y)
    → ((x : X) (y : Y) → R x y → f x ≡ g y) → Matched R xs ys → map f xs ≡ map g ys
map-from_Matched R f g [] [] s h = refl
map-from_Matched R f g [] (y ∷ ys) s h = absurd h
map-from_Matched R f g (x ∷ xs) [] s h = absurd h
map-from_Matched R f g (x ∷ xs) (y ∷ ys) s h = rw (s x y h.0, map-from_Matched R f g xs ys s h.1) refl

-- lists that are matched in two ways are matched in what follows from both
pub both-Matched : {X Y : Type 0} (R S T : X → Y → Type 0) (xs : List X) (ys : List Y)
    → ((x : X) (y : Y) → R x y → S x y → T x y) → Matched R xs ys → Matched S xs ys → Matched T xs ys
both-Matched R S T [] [] f h k = tt
both-Matched R S T [] (y ∷ ys) f h k = absurd h
both-Matched R S T (x ∷ xs) [] f h k = absurd h
both-Matched R S T (x ∷ xs) (y ∷ ys) f h k = (f x y h.0 k.0, both-Matched R S T xs ys f h.1 k.1)

-- tests that give the same for related elements
pub list_any-Matched : {X Y : Type 0} (R : X → Y → Type 0) (p : X → Bool) (q : Y
    → Bool) (xs : List X) (ys : List Y) → ((x : X) (y : Y) → R x y → p x ≡ q y) → Matched R xs ys
    → list_any p xs ≡ list_any q ys
list_any-Matched R p q [] [] f h = refl
list_any-Matched R p q [] (y ∷ ys) f h = absurd h
list_any-Matched R p q (x ∷ xs) [] f h = absurd h
list_any-Matched R p q (x ∷ xs) (y ∷ ys) f h = rw (f x y h.0, list_any-Matched R p q xs ys f h.1) refl

-- neither is there, or both are and are related
abbrev pub Alike : {X Y : Type 0} → (X → Y → Type 0) → Option X → Option Y → Type 0
Alike R None o = o ≡ None
Alike R (Some x) o = (y : _) × (o ≡ Some y) × R x y

pub find-Matched : {X Y : Type 0} (R : X → Y → Type 0) (p : X → Bool) (q : Y → Bool) (xs : List X) (ys : List Y)
    → ((x : X) (y : Y) → R x y → p x ≡ q y) → Matched R xs ys → Alike R (find p xs) (find q ys)
find-Matched R p q [] [] f h = refl
find-Matched R p q [] (y ∷ ys) f h = absurd h
find-Matched R p q (x ∷ xs) [] f h = absurd h
find-Matched R p q (x ∷ xs) (y ∷ ys) f h =
    elim (cases_Bool (p x)) [
      | inl t ↦ let u : q y ≡ true = sym (f x y h.0) ∙ t in rw (t, u) (y, refl, h.0)
      | inr t ↦ let u : q y ≡ false = sym (f x y h.0) ∙ t in rw (t, u) (find-Matched R p q xs ys f h.1)
    ]

all_more : (p : ℕ → Bool) (n : ℕ) → all_where p (suc n) ≡ all_where p n ++ cond (p n) (n ∷ []) []
unfolding all_where
all_more p n = refl

any_more : (p : ℕ → Bool) (n : ℕ) → any_where p (suc n) ≡ (any_where p n || p n)
any_more p n = rw add-one at (any_where-more p n)

or_else : (o d : Option ℕ) → elim o [ Some c ↦ Some c | None ↦ d ] ≡ option_or o d
or_else (Some c) d = refl
or_else None d = refl

first_more : (p : ℕ → Bool) (n : ℕ) → first_where p (suc n) ≡ option_or (first_where p n) (cond (p n) (Some n) None)
unfolding first_where
first_more p n = or_else (first_where p n) (cond (p n) (Some n) None)

any_last : (q : ℕ → Bool) (b : Bool) (n : ℕ) → list_any q (cond b (n ∷ []) []) ≡ (q n && b)
any_last q true n = elim (cases_Bool (q n)) [ inl t ↦ rw t refl | inr f ↦ rw f refl ]
any_last q false n = elim (cases_Bool (q n)) [ inl t ↦ rw t refl | inr f ↦ rw f refl ]

find_last : (q : ℕ → Bool) (b : Bool) (n : ℕ) → find q (cond b (n ∷ []) []) ≡ cond (q n && b) (Some n) None
find_last q true n = elim (cases_Bool (q n)) [ inl t ↦ rw t refl | inr f ↦ rw f refl ]
find_last q false n = elim (cases_Bool (q n)) [ inl t ↦ rw t refl | inr f ↦ rw f refl ]

-- a test among the clocks that pass another
pub list_any-all_where : (p q : ℕ → Bool) (n : ℕ) → list_any q (all_where p n) ≡ any_where (λ k. q k && p k) n
unfolding all_where any_where
list_any-all_where p q zero = refl
list_any-all_where p q (suc n) =
    ap (list_any q) (all_more p n) ∙ list_any-append q (all_where p n) (cond (p n) (n ∷ []) [])
    ∙ ap (λ b. b || list_any q (cond (p n) (n ∷ []) [])) (list_any-all_where p q n)
    ∙ ap (λ b. any_where (λ k. q k && p k) n || b) (any_last q (p n) n) ∙ sym (any_more (λ k. q k && p k) n)

pub find-all_where : (p q : ℕ → Bool) (n : ℕ) → find q (all_where p n) ≡ first_where (λ k. q k && p k) n
unfolding all_where first_where
find-all_where p q zero = refl
find-all_where p q (suc n) =
    ap (find q) (all_more p n) ∙ find-append q (all_where p n) (cond (p n) (n ∷ []) [])
    ∙ ap (λ o. option_or o (find q (cond (p n) (n ∷ []) []))) (find-all_where p q n)
    ∙ ap (option_or (first_where (λ k. q k && p k) n)) (find_last q (p n) n) ∙ sym (first_more (λ k. q k && p k) n)
