-- What the questions to a chain answer when a link is put at its end.
use Rattle.std.proofs.Common.{◌≡◌, ◌==◌, ℕ, Bool, true, false, cond, not, ◌&&◌, ◌||◌, ◌⊎◌, inl, inr, Some, List, []}
use Rattle.std.proofs.Common.{◌∷◌, ◌++◌, refl, sym, ap, subst, arith}
use Rattle.std.proofs.Math.Bool.{or-true, or-false, or_assoc}
use Rattle.std.proofs.lemmas.Bool.Decides.{nat_tests}
use Rattle.fsb_line.specs.declared.link.Link.{Link}
use Rattle.fsb_line.specs.Links.{IsChained, any_owns, any_won, giver_after, has_late_upgrade, has_won, is_linked}
use Rattle.fsb_line.specs.Links.{is_overtaken, is_won, newest, owns}

-- the link at the end is the newest
pub newest-end : (ls : List Link) (l : Link) → newest (ls ++ l ∷ []) ≡ Some l
newest-end [] l = refl
newest-end (k ∷ []) l = refl
newest-end (k ∷ m ∷ ls) l = newest-end (m ∷ ls) l

-- there is a newest link, or there is none
pub newest_cases : (ls : List Link) → (ls ≡ []) ⊎ ((l : Link) × (newest ls ≡ Some l))
newest_cases [] = inl refl
newest_cases (l ∷ []) = inr (l, refl)
newest_cases (k ∷ m ∷ ls) = elim (newest_cases (m ∷ ls)) [ inl h ↦ absurd (cc) | inr h ↦ inr h ]

pub is_linked-end : (a : ℕ) (ls : List Link) (l : Link)
    → is_linked a (ls ++ l ∷ []) ≡ (is_linked a ls || (l.agent == a))
is_linked-end a [] l = or-false (l.agent == a)
is_linked-end a (k ∷ ks) l = rw (is_linked-end a ks l) (sym (or_assoc (k.agent == a) (is_linked a ks) (l.agent == a)))

pub has_won-end : (a : ℕ) (ls : List Link) (l : Link)
    → has_won a (ls ++ l ∷ []) ≡ (has_won a ls || ((l.agent == a) && is_won l))
has_won-end a [] l = or-false ((l.agent == a) && is_won l)
has_won-end a (k ∷ ks) l = rw (has_won-end a ks l)
    (sym (or_assoc ((k.agent == a) && is_won k) (has_won a ks) ((l.agent == a) && is_won l)))

pub any_won-end : (ls : List Link) (l : Link) → any_won (ls ++ l ∷ []) ≡ (any_won ls || is_won l)
any_won-end [] l = or-false (is_won l)
any_won-end (k ∷ ks) l = rw (any_won-end ks l) (sym (or_assoc (is_won k) (any_won ks) (is_won l)))

overtaken_one : (o e : Bool) → ((o && (not e && true)) || false) ≡ cond e false (o || false)
overtaken_one true true = refl
overtaken_one true false = refl
overtaken_one false true = refl
overtaken_one false false = refl

overtaken_more : (o e s p t q : Bool)
    → ((o && (not e && not (s || t))) || cond t false (p || q)) ≡ cond t false (p || ((o && (not e && not s)) || q))
overtaken_more o e s p true q = elim o as (λ o. ((o && (not e && not (s || true))) || false) ≡ false) [
  | true ↦ elim e as (λ e. ((true && (not e && not (s || true))) || false) ≡ false) [
    | true ↦ refl
    | false ↦ elim s as (λ s. ((true && (not false && not (s || true))) || false) ≡ false) [
      | true ↦ refl
      | false ↦ refl
    ]
  ]
  | false ↦ refl
]
overtaken_more true true s true false q = refl
overtaken_more true true s false false q = refl
overtaken_more true false true true false q = refl
overtaken_more true false true false false q = refl
overtaken_more true false false true false q = refl
overtaken_more true false false false false q = refl
overtaken_more false e s true false q = refl
overtaken_more false e s false false q = refl

pub is_overtaken-end : (a : ℕ) (ls : List Link) (l : Link)
    → is_overtaken a (ls ++ l ∷ []) ≡ cond (l.agent == a) false (owns l || is_overtaken a ls)
is_overtaken-end a [] l = overtaken_one (owns l) (l.agent == a)
is_overtaken-end a (k ∷ ks) l =
    rw (is_linked-end a ks l, is_overtaken-end a ks l)
    (overtaken_more (owns k) (k.agent == a) (is_linked a ks) (owns l) (l.agent == a) (is_overtaken a ks))

late_more : (o w s p t : Bool) → ((o && (w || t)) || (s || (p && t))) ≡ (((o && w) || s) || ((o || p) && t))
late_more true true s p t = refl
late_more true false true p true = refl
late_more true false true p false = refl
late_more true false false p true = refl
late_more true false false true false = refl
late_more true false false false false = refl
late_more false w s p t = refl

pub has_late_upgrade-end : (ls : List Link) (l : Link)
    → has_late_upgrade (ls ++ l ∷ []) ≡ (has_late_upgrade ls || (any_owns ls && is_won l))
has_late_upgrade-end [] l = elim (owns l) as (λ o. ((o && false) || false) ≡ false) [ true ↦ refl | false ↦ refl ]
has_late_upgrade-end (k ∷ ks) l =
    rw (any_won-end ks l, has_late_upgrade-end ks l)
    (late_more (owns k) (any_won ks) (has_late_upgrade ks) (any_owns ks) (is_won l))

-- the agent of the newest link awaits it
pub newest_is_linked : (ls : List Link) (l : Link) → newest ls ≡ Some l → is_linked l.agent ls ≡ true
newest_is_linked [] l h = absurd (cc)
newest_is_linked (k ∷ []) l h = let e : k ≡ l = cc in
    subst (λ m. is_linked m.agent (k ∷ []) ≡ true) e (grind (arith, nat_tests))
newest_is_linked (k ∷ m ∷ ls) l h = let e = newest_is_linked (m ∷ ls) l h in rw e (or-true (k.agent == l.agent))

-- a newest link stays so behind an older one
pub newest-tail : (l : Link) (ls : List Link) (k : Link) → newest ls ≡ Some k → newest (l ∷ ls) ≡ Some k
newest-tail l [] k h = absurd (cc)
newest-tail l (m ∷ ls) k h = h

-- where an agent is neither linked nor overtaken, no link owns
pub any_owns-unlinked : (a : ℕ) (ls : List Link) → is_linked a ls ≡ false → is_overtaken a ls ≡ false
    → any_owns ls ≡ false
any_owns-unlinked a [] u v = refl
any_owns-unlinked a (k ∷ ks) u v = one (owns k) (k.agent == a) (is_linked a ks) (is_overtaken a ks)
    (any_owns ks) u v (any_owns-unlinked a ks)
  where
    one : (o e s t p : Bool) → (e || s) ≡ false → ((o && (not e && not s)) || t) ≡ false
        → (s ≡ false → t ≡ false → p ≡ false) → (o || p) ≡ false
    one o true s t p u v f = absurd (cc)
    one o false true t p u v f = absurd (cc)
    one true false false t p u v f = absurd (cc)
    one false false false t p u v f = f u v

-- a chain stays one with a newest link that takes its bytes from the owner before it
pub IsChained-end : (ls : List Link) (l : Link) → IsChained ls
    → ((k : Link) → newest ls ≡ Some k → l.giver ≡ giver_after k) → IsChained (ls ++ l ∷ [])
IsChained-end [] l h f = h
IsChained-end (k ∷ []) l h f = (f k refl, h)
IsChained-end (k ∷ m ∷ ls) l h f = (h.0, IsChained-end (m ∷ ls) l h.1 f)

pub IsChained-tail : (l : Link) (ls : List Link) → IsChained (l ∷ ls) → IsChained ls
IsChained-tail l [] h = h
IsChained-tail l (m ∷ ls) h = h.1

-- whoever awaits the end of a won upgrade awaits a link
pub won_is_linked : (a : ℕ) (ls : List Link) → has_won a ls ≡ true → is_linked a ls ≡ true
won_is_linked a [] h = absurd (cc)
won_is_linked a (k ∷ ks) h = one (k.agent == a) (is_won k) (has_won a ks) (is_linked a ks) h (won_is_linked a ks)
  where
    one : (e w s t : Bool) → ((e && w) || s) ≡ true → (s ≡ true → t ≡ true) → (e || t) ≡ true
    one true w s t h f = refl
    one false w s t h f = f h

pub won_is_any : (a : ℕ) (ls : List Link) → has_won a ls ≡ true → any_won ls ≡ true
won_is_any a [] h = absurd (cc)
won_is_any a (k ∷ ks) h = one (k.agent == a) (is_won k) (has_won a ks) (any_won ks) h (won_is_any a ks)
  where
    one : (e w s t : Bool) → ((e && w) || s) ≡ true → (s ≡ true → t ≡ true) → (w || t) ≡ true
    one e true s t h f = refl
    one true false s t h f = f h
    one false false s t h f = f h

-- a chain with a newest link isn't empty, and its oldest link is as before, or is the newest one
pub end_not_empty : (ls : List Link) (l : Link) → ls ++ l ∷ [] ≡ [] → ⊥
end_not_empty [] l h = cc
end_not_empty (k ∷ ks) l h = cc

pub end_oldest : (ls : List Link) (l k : Link) (ks : List Link) → ls ++ l ∷ [] ≡ k ∷ ks
    → ((ls ≡ []) × (l ≡ k)) ⊎ ((ms : List Link) × (ls ≡ k ∷ ms))
end_oldest [] l k ks h = inl (refl, cc)
end_oldest (m ∷ ms) l k ks h = inr (ms, let e : m ≡ k = cc in ap (λ m. m ∷ ms) e)
