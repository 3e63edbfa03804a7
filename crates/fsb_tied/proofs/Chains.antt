-- The links of a line that are left, from that of one snoop end on.
use Rattle.fsb_tied.proofs.Words
use Words.{ℕ, zero, suc, ◌<◌, ◌≡◌, true, false, List, [], ◌∷◌, ◌++◌, Some, refl, ap, subst, arith, inl, inr, cases_lt}
use Words.{option_map_or, Link, is_ended, snooped_at, Past, SnoopEnd, Awaited, awaited_by, giver_at, link_for}
use Words.{link_left, links_left, purpose_at}

-- the link of a snoop end at t after which this end is awaited
abbrev pub link_of : Past → ℕ → ℕ → SnoopEnd → Awaited → Link
link_of p line t s awaited =
    record { agent = awaited.agent; kind = purpose_at s; giver = giver_at p line t awaited.agent s }

-- the links that a snoop end at t leaves at n
abbrev pub links_at : Past → ℕ → ℕ → ℕ → List Link
links_at p line n t = option_map_or (link_left p line n t) (snooped_at p t) []

pub at-gone : (p : Past) (line n t : ℕ) (s : SnoopEnd) → snooped_at p t ≡ Some s → is_ended p n s.first ≡ true
    → links_at p line n t ≡ []
unfolding link_left
at-gone p line n t s e ended = rw (e, ended) refl

-- where all have ended none is left
pub none-left : (p : Past) (line n t : ℕ)
    → ((u : ℕ) (s : SnoopEnd) → u < t → snooped_at p u ≡ Some s → is_ended p n s.first ≡ true)
    → links_left p line n t ≡ []
unfolding links_left link_left
none-left p line n zero ended = refl
none-left p line n (suc t) ended = grind (arith, none-left p line n t)

pub at-there : (p : Past) (line n t : ℕ) (s : SnoopEnd) (awaited : Awaited) → snooped_at p t ≡ Some s
    → is_ended p n s.first ≡ false → awaited_by s ≡ Some awaited → awaited.line ≡ line
    → links_at p line n t ≡ link_of p line t s awaited ∷ []
unfolding link_left link_for
at-there p line n t s awaited e unended awaits names = grind arith

-- the first link that is left stays the first
pub first-left : (p : Past) (line n t b : ℕ) (link : Link) → links_left p line n t ≡ []
    → links_at p line n t ≡ link ∷ []
    → t < b → (links : List Link) × (links_left p line n b ≡ link ∷ links)
unfolding links_left
first-left p line n t zero link none here l = absurd (omega arith)
first-left p line n t (suc b) link none here l =
    elim (cases_lt t b) [
      | inl less ↦
          let before = first-left p line n t b link none here less in
          (before.0 ++ links_at p line n b, ap (λ xs. xs ++ links_at p line n b) before.1)
      | inr more ↦
          let same : t ≡ b = omega arith in
          ([], subst (λ k. links_left p line n k ++ links_at p line n k ≡ link ∷ []) same (λ i. none i ++ here i))
    ]

-- and where it alone goes, the others are left
pub others-left : (p : Past) (line n m t b : ℕ) (link : Link) → links_left p line n t ≡ []
    → links_at p line n t ≡ link ∷ []
    → links_left p line m t ≡ [] → links_at p line m t ≡ []
    → ((u : ℕ) → t < u → u < b → links_at p line n u ≡ links_at p line m u) → t < b
    → links_left p line n b ≡ link ∷ links_left p line m b
unfolding links_left
others-left p line n m t zero link none here none' here' same l = absurd (omega arith)
others-left p line n m t (suc b) link none here none' here' same l =
    grind (arith, others-left p line n m t b link none here none' here')

-- links that are all the same are left
pub same-left : (p : Past) (line n m b : ℕ) → ((u : ℕ) → u < b → links_at p line n u ≡ links_at p line m u)
    → links_left p line n b ≡ links_left p line m b
unfolding links_left
same-left p line n m zero same = refl
same-left p line n m (suc b) same = grind (arith, same-left p line n m b)
