-- What stands in a list.
use Rattle.std.proofs.Common.{ℕ, zero, suc, ◌≡◌, ◌⊎◌, Bool, true, ◌&&◌, cond, List, [], ◌∷◌, ◌++◌, map, slice_get}
use Rattle.std.proofs.Common.{Some, refl, sym, ap, subst, inl, inr, arith}
use Rattle.std.specs.List.{filter, find, list_all, list_any}
use Rattle.std.proofs.lemmas.Bool.{and_from, and_parts, both_ways, cases_Bool, or_left, or_right}

-- it stands there
abbrev pub Among : {X : Type 0} → X → List X → Type 0
Among x [] = ⊥
Among x (y ∷ ys) = (y ≡ x) ⊎ Among x ys

pub among-left : {X : Type 0} (x : X) (xs ys : List X) → Among x xs → Among x (xs ++ ys)
among-left x [] ys h = absurd h
among-left x (y ∷ xs) ys (inl e) = inl e
among-left x (y ∷ xs) ys (inr h) = inr (among-left x xs ys h)

pub among-either : {X : Type 0} (x : X) (xs ys : List X) → Among x (xs ++ ys) → Among x xs ⊎ Among x ys
among-either x [] ys h = inr h
among-either x (y ∷ xs) ys (inl e) = inl (inl e)
among-either x (y ∷ xs) ys (inr h) = elim (among-either x xs ys h) [ inl k ↦ inl (inr k) | inr k ↦ inr k ]

pub among-filter : {X : Type 0} (f : X → Bool) (x : X) (xs : List X) → Among x (filter f xs) → Among x xs × (f x ≡ true)
among-filter f x [] h = absurd h
among-filter f x (y ∷ xs) h = grind (arith, among-filter f x xs)

pub filter-among : {X : Type 0} (f : X → Bool) (x : X) (xs : List X) → Among x xs → f x ≡ true → Among x (filter f xs)
filter-among f x [] h p = absurd h
filter-among f x (y ∷ xs) (inl e) p = grind arith
filter-among f x (y ∷ xs) (inr h) p = grind (arith, filter-among f x xs h p)

pub any-among : {X : Type 0} (f : X → Bool) (xs : List X) → list_any f xs ≡ true → (x : X) × Among x xs × (f x ≡ true)
any-among f [] e = absurd (let no : ⊥ = cc in no)
any-among f (y ∷ xs) e = grind (arith, any-among f xs)

pub among-any : {X : Type 0} (f : X → Bool) (x : X) (xs : List X) → Among x xs → f x ≡ true → list_any f xs ≡ true
among-any f x [] h p = absurd h
among-any f x (y ∷ xs) (inl e) p = or_left (f y) (list_any f xs) (subst (λ z. f z ≡ true) (sym e) p)
among-any f x (y ∷ xs) (inr h) p = or_right (f y) (list_any f xs) (among-any f x xs h p)

pub all-among : {X : Type 0} (f : X → Bool) (x : X) (xs : List X) → list_all f xs ≡ true → Among x xs → f x ≡ true
all-among f x [] e h = absurd h
all-among f x (y ∷ xs) e (inl same) = subst (λ z. f z ≡ true) same (and_parts (f y) (list_all f xs) e).0
all-among f x (y ∷ xs) e (inr h) = all-among f x xs (and_parts (f y) (list_all f xs) e).1 h

pub among-all : {X : Type 0} (f : X → Bool) (xs : List X) → ((x : X) → Among x xs → f x ≡ true) → list_all f xs ≡ true
among-all f [] h = refl
among-all f (y ∷ xs) h = and_from (f y) (list_all f xs) (h y (inl refl)) (among-all f xs (λ x k. h x (inr k)))

pub get-among : {X : Type 0} (x : X) (xs : List X) (k : ℕ) → slice_get xs k ≡ Some x → Among x xs
get-among x [] k e = absurd (let no : ⊥ = cc in no)
get-among x (y ∷ xs) zero e = inl (let same : y ≡ x = cc in same)
get-among x (y ∷ xs) (suc k) e = inr (get-among x xs k e)

pub among-get : {X : Type 0} (x : X) (xs : List X) → Among x xs → (k : ℕ) × (slice_get xs k ≡ Some x)
among-get x [] h = absurd h
among-get x (y ∷ xs) (inl e) = (zero, ap Some e)
among-get x (y ∷ xs) (inr h) = let rest = among-get x xs h in (suc rest.0, rest.1)

pub among-map : {X Y : Type 0} (f : X → Y) (x : X) (xs : List X) → Among x xs → Among (f x) (map f xs)
among-map f x [] h = absurd h
among-map f x (y ∷ xs) (inl e) = inl (ap f e)
among-map f x (y ∷ xs) (inr h) = inr (among-map f x xs h)

pub map-among : {X Y : Type 0} (f : X → Y) (y : Y) (xs : List X) → Among y (map f xs) → (x : X) × Among x xs × (f x ≡ y)
map-among f y [] h = absurd h
map-among f y (x ∷ xs) (inl e) = (x, inl refl, e)
map-among f y (x ∷ xs) (inr h) = let rest = map-among f y xs h in (rest.0, inr rest.1, rest.2)

-- what is found stands there and passes
pub found-among : {X : Type 0} (f : X → Bool) (x : X) (xs : List X) → find f xs ≡ Some x → Among x xs × (f x ≡ true)
found-among f x [] e = absurd (let no : ⊥ = cc in no)
found-among f x (y ∷ xs) e = grind (arith, found-among f x xs)

-- where something passes, something is found
pub among-found : {X : Type 0} (f : X → Bool) (x : X) (xs : List X) → Among x xs → f x ≡ true
    → (y : X) × (find f xs ≡ Some y)
among-found f x [] h p = absurd h
among-found f x (y ∷ xs) h p = elim (cases_Bool (f y)) [
  | inl t ↦ (y, rw t refl)
  | inr n ↦ elim h [
    | inl e ↦ absurd (both_ways (f y) n (subst (λ z. f z ≡ true) (sym e) p))
    | inr k ↦ let rest = among-found f x xs k p in (rest.0, rw n rest.1)
  ]
]

-- two tests in a row
pub filter-swap : {X : Type 0} (f g : X → Bool) (xs : List X) → filter f (filter g xs) ≡ filter g (filter f xs)
filter-swap f g [] = refl
filter-swap f g (x ∷ xs) = by (f x) (g x) refl refl (filter-swap f g xs)
  where
    by : (b c : Bool) → f x ≡ b → g x ≡ c → filter f (filter g xs) ≡ filter g (filter f xs)
        → filter f (cond c (x ∷ filter g xs) (filter g xs)) ≡ filter g (cond b (x ∷ filter f xs) (filter f xs))
    by b c h1 h2 h3 = grind arith

-- tests that agree on a list keep the same of it
pub filter-same : {X : Type 0} (f g : X → Bool) (xs : List X) → ((x : X) → Among x xs → f x ≡ g x)
    → filter f xs ≡ filter g xs
filter-same f g [] h = refl
filter-same f g (x ∷ xs) h = grind (arith, filter-same f g xs)

pub filter-all : {X : Type 0} (f : X → Bool) (xs : List X) → ((x : X) → Among x xs → f x ≡ true) → filter f xs ≡ xs
filter-all f [] h = refl
filter-all f (x ∷ xs) h = grind (arith, filter-all f xs)

pub filter-two : {X : Type 0} (f g : X → Bool) (xs : List X) → filter f (filter g xs) ≡ filter (λ x. g x && f x) xs
filter-two f g [] = refl
filter-two f g (x ∷ xs) = by (g x) (filter-two f g xs)
  where
    by : (c : Bool) → filter f (filter g xs) ≡ filter (λ y. g y && f y) xs
        → filter f (cond c (x ∷ filter g xs) (filter g xs))
        ≡ cond (c && f x) (x ∷ filter (λ y. g y && f y) xs) (filter (λ y. g y && f y) xs)
    by c h1 = grind arith
