-- Lists of the clocks that pass a test, and lists that are matched with them.
use Rattle.fsb_bridge_run.proofs.Words
use Words.{ℕ, zero, suc, ◌+◌, ◌<◌, ◌≡◌, ◌≢◌, Bool, true, List, [], ◌∷◌, ◌++◌, length, map, refl, sym, ap, ◌∙◌, arith}
use Words.{add-zero, all_where, all_where-failed, all_where-passed, Matched}
use Rattle.std.specs.Prelude.{⊤}

-- tests that agree below n have the same clocks there
pub all_where-below : (p q : ℕ → Bool) (n : ℕ) → ((k : ℕ) → k < n → p k ≡ q k) → all_where p n ≡ all_where q n
unfolding all_where
all_where-below p q zero h = refl
all_where-below p q (suc n) h = grind (arith, all_where-below p q n)

-- more clocks, of which none passes, change nothing
all_where-past : (p : ℕ → Bool) (a m : ℕ) → ((k : ℕ) → p k ≡ true → k < a) → all_where p (a + m) ≡ all_where p a
all_where-past p a zero low = ap (all_where p) (add-zero a)
all_where-past p a (suc m) low =
    let next : a + suc m ≡ a + m + 1 = omega arith in
    grind (arith, all_where-failed, all_where-past p a m low)

-- so where all that pass lie below both, both have the same
pub all_where-bounds : (p : ℕ → Bool) (a b : ℕ) → ((k : ℕ) → p k ≡ true → k < a) → ((k : ℕ) → p k ≡ true → k < b)
    → all_where p a ≡ all_where p b
all_where-bounds p a b low below =
    let both : a + b ≡ b + a = omega arith in
    sym (all_where-past p a b low) ∙ ap (all_where p) both ∙ all_where-past p b a below

-- a test that one more passes, behind all the others
pub all_where-added : (p q : ℕ → Bool) (n i : ℕ) → i < n → ((k : ℕ) → p k ≡ true → k < i) → q i ≡ true
    → ((k : ℕ) → k ≢ i → q k ≡ p k) → all_where q n ≡ all_where p n ++ i ∷ []
all_where-added p q n i l low here same =
    let upto : (k : ℕ) → q k ≡ true → k < i + 1 = grind arith in
    let within : (k : ℕ) → q k ≡ true → k < n = λ k t. let m = upto k t in omega arith in
    let before : (k : ℕ) → p k ≡ true → k < n = λ k t. let m = low k t in omega arith in
    all_where-bounds q n (i + 1) within upto ∙ all_where-passed q i here
    ∙ ap (λ xs. xs ++ i ∷ []) (all_where-below q p i (λ k less. same k (λ e. omega arith)))
    ∙ ap (λ xs. xs ++ i ∷ []) (all_where-bounds p i n low before)

-- each of these numbers passes
abbrev pub AllPass : (ℕ → Bool) → List ℕ → Type 0
AllPass p [] = ⊤
AllPass p (n ∷ ns) = (p n ≡ true) × AllPass p ns

pass-more : (p : ℕ → Bool) (ns : List ℕ) (n : ℕ) → AllPass p ns → p n ≡ true → AllPass p (ns ++ n ∷ [])
pass-more p [] n h t = (t, tt)
pass-more p (m ∷ ns) n h t = (h.0, pass-more p ns n h.1 t)

pub all_where-pass : (p : ℕ → Bool) (n : ℕ) → AllPass p (all_where p n)
unfolding all_where
all_where-pass p zero = tt
all_where-pass p (suc n) = by (p n) refl (all_where-pass p n)
  where
    append-none : (ns : List ℕ) → ns ++ [] ≡ ns
    append-none [] = refl
    append-none (m ∷ ns) = ap (λ xs. m ∷ xs) (append-none ns)

    by : (b : Bool) → p n ≡ b → AllPass p (all_where p n) → AllPass p (all_where p (suc n))
    by b h1 h2 = grind (arith, pass-more, append-none)

-- matched lists stay matched in what follows for each pair whose number passes
pub Matched-into : {X : Type 0} (R S : X → ℕ → Type 0) (p : ℕ → Bool) (xs : List X) (ns : List ℕ) → AllPass p ns
    → ((x : X) (n : ℕ) → p n ≡ true → R x n → S x n) → Matched R xs ns → Matched S xs ns
Matched-into R S p [] [] all f h = tt
Matched-into R S p [] (n ∷ ns) all f h = absurd h
Matched-into R S p (x ∷ xs) [] all f h = absurd h
Matched-into R S p (x ∷ xs) (n ∷ ns) all f h = (f x n all.0 h.0, Matched-into R S p xs ns all.1 f h.1)

-- and where each element is changed
pub Matched-map : {X : Type 0} (R S : X → ℕ → Type 0) (p : ℕ → Bool) (g : X → X) (xs : List X) (ns : List ℕ)
    → AllPass p ns → ((x : X) (n : ℕ) → p n ≡ true → R x n → S (g x) n) → Matched R xs ns → Matched S (map g xs) ns
Matched-map R S p g [] [] all f h = tt
Matched-map R S p g [] (n ∷ ns) all f h = absurd h
Matched-map R S p g (x ∷ xs) [] all f h = absurd h
Matched-map R S p g (x ∷ xs) (n ∷ ns) all f h = (f x n all.0 h.0, Matched-map R S p g xs ns all.1 f h.1)

-- one pair more
pub Matched-more : {X : Type 0} (R : X → ℕ → Type 0) (xs : List X) (ns : List ℕ) (x : X) (n : ℕ) → Matched R xs ns
    → R x n → Matched R (xs ++ x ∷ []) (ns ++ n ∷ [])
Matched-more R [] [] x n h k = (k, tt)
Matched-more R [] (m ∷ ns) x n h k = absurd h
Matched-more R (y ∷ xs) [] x n h k = absurd h
Matched-more R (y ∷ xs) (m ∷ ns) x n h k = (h.0, Matched-more R xs ns x n h.1 k)

-- matched lists have one length
pub Matched-length : {X : Type 0} (R : X → ℕ → Type 0) (xs : List X) (ns : List ℕ) → Matched R xs ns
    → length xs ≡ length ns
Matched-length R [] [] h = refl
Matched-length R [] (n ∷ ns) h = absurd h
Matched-length R (x ∷ xs) [] h = absurd h
Matched-length R (x ∷ xs) (n ∷ ns) h = ap suc (Matched-length R xs ns h.1)
