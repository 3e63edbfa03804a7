-- Lists of what some clocks give.
use Rattle.fsb_run_laws.proofs.Words
use Words.{ℕ, zero, suc, ◌+◌, ◌<◌, ◌≡◌, Bool, true, ◌&&◌, [], ◌∷◌, ◌++◌, Option, Some, None, if◌then◌else◌, refl, sym}
use Words.{ap, ◌∙◌, arith, add-one, filter, filter_map, all_where, listed}
use Rattle.std.proofs.lemmas.List.Elements.{filter-append, filter_map-append}

-- what a clock gives, where it passes
abbrev pub given : {Y : Type 0} → Bool → Option Y → Option Y
given b o = if b then o else None

-- what is kept of it
abbrev pub kept : {Y : Type 0} → (Y → Bool) → Option Y → Option Y
kept f None = None
kept f (Some y) = if f y then Some y else None

last-kept : {Y : Type 0} (f : Y → Bool) (o : Option Y) → filter f (listed o) ≡ listed (kept f o)
unfolding listed
last-kept f o = grind arith

-- the clocks below n, and n
pub given-more : {Y : Type 0} (t : ℕ → Bool) (g : ℕ → Option Y) (n : ℕ)
    → filter_map g (all_where t (n + 1)) ≡ filter_map g (all_where t n) ++ listed (given (t n) (g n))
unfolding all_where listed
given-more t g n = grind (arith, filter_map-append)

-- lists of the same clocks
pub given-alike : {Y : Type 0} (t t' : ℕ → Bool) (g g' : ℕ → Option Y) (n : ℕ)
    → ((q : ℕ) → q < n → given (t q) (g q) ≡ given (t' q) (g' q))
    → filter_map g (all_where t n) ≡ filter_map g' (all_where t' n)
unfolding all_where
given-alike t t' g g' zero h = refl
given-alike t t' g g' (suc n) h =
    sym (ap (λ k. filter_map g (all_where t k)) (add-one n)) ∙ given-more t g n
    ∙ (λ i. given-alike t t' g g' n (λ q l. h q (omega arith)) i ++ listed (h n (omega arith) i))
    ∙ sym (given-more t' g' n) ∙ ap (λ k. filter_map g' (all_where t' k)) (add-one n)

-- those of them that are kept
pub kept-alike : {Y : Type 0} (f : Y → Bool) (t t' : ℕ → Bool) (g g' : ℕ → Option Y) (n : ℕ)
    → ((q : ℕ) → q < n → kept f (given (t q) (g q)) ≡ given (t' q) (g' q))
    → filter f (filter_map g (all_where t n)) ≡ filter_map g' (all_where t' n)
unfolding all_where
kept-alike f t t' g g' zero h = refl
kept-alike f t t' g g' (suc n) h =
    sym (ap (λ k. filter f (filter_map g (all_where t k))) (add-one n)) ∙ ap (filter f) (given-more t g n)
    ∙ filter-append f (filter_map g (all_where t n)) (listed (given (t n) (g n)))
    ∙ ap (λ xs. filter f (filter_map g (all_where t n)) ++ xs) (last-kept f (given (t n) (g n)))
    ∙ (λ i. kept-alike f t t' g g' n (λ q l. h q (omega arith)) i ++ listed (h n (omega arith) i))
    ∙ sym (given-more t' g' n) ∙ ap (λ k. filter_map g' (all_where t' k)) (add-one n)

-- what passes two tests
pub all-both : (t f : ℕ → Bool) (n : ℕ) → filter f (all_where t n) ≡ all_where (λ q. t q && f q) n
unfolding all_where
all-both t f zero = refl
all-both t f (suc n) =
    filter-append f (all_where t n) (if t n then n ∷ [] else [])
    ∙ (λ i. all-both t f n i ++ by (t n) (f n) refl i)
  where
    by : (b c : Bool) → f n ≡ c → filter f (if b then n ∷ [] else []) ≡ (if b && c then n ∷ [] else [])
    by b c h1 = grind arith

-- tests that give the same of what the clocks give
pub filter-alike : {Y : Type 0} (f h : Y → Bool) (t : ℕ → Bool) (g : ℕ → Option Y) (n : ℕ)
    → ((q : ℕ) (y : Y) → q < n → t q ≡ true → g q ≡ Some y → f y ≡ h y)
    → filter f (filter_map g (all_where t n)) ≡ filter h (filter_map g (all_where t n))
unfolding all_where listed
filter-alike f h t g zero same = refl
filter-alike {Y = Y} f h t g (suc n) same =
    ap (filter f) more ∙ filter-append f (filter_map g (all_where t n)) (listed (given (t n) (g n)))
    ∙ (λ i. filter-alike f h t g n (λ q y l. same q y (omega arith)) i ++ last (t n) (g n) refl refl i)
    ∙ sym (filter-append h (filter_map g (all_where t n)) (listed (given (t n) (g n)))) ∙ sym (ap (filter h) more)
  where
    more : filter_map g (all_where t (suc n)) ≡ filter_map g (all_where t n) ++ listed (given (t n) (g n))
    more = sym (ap (λ k. filter_map g (all_where t k)) (add-one n)) ∙ given-more t g n

    last : (b : Bool) (o : Option Y) → t n ≡ b → g n ≡ o → filter f (listed (given b o)) ≡ filter h (listed (given b o))
    last b o h1 h2 = grind arith
