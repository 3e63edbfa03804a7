-- Which joint states a step turns into others: it is computed for each of them.
use Rattle.std.proofs.Common.{suc, ◌≡◌, Bool, true, false, ◌&&◌, ◌||◌, not, List, [], ◌∷◌, refl, sym, ap, ◌∙◌}
use Rattle.std.proofs.Common.{arith, inl, inr}
use Rattle.std.specs.List.{Contains, filter, list_all, list_any}
use Rattle.std.proofs.lemmas.Bool.{cases_Bool}
use Rattle.std.proofs.lemmas.List.Elements.{All-contains, All-contains_itself, All-filter}
use Rattle.std.proofs.lemmas.List.Sums.{AllPass-from_list_all}
use Rattle.fsb_owners.specs.Joint.{Joint, every_joint}
use Rattle.fsb_owners.specs.Joint.{reached_by}
use Rattle.fsb_owners.specs.Rules.{is_none_left}
use Rattle.fsb_owner_laws.specs.Losses.{AreCoherent}

-- both answers are the same
abbrev pub is_same : Bool → Bool → Bool
is_same true b = b
is_same false b = not b

same : (a b : Bool) → is_same a b ≡ true → a ≡ b
same true b e = sym e
same false true e = absurd (cc)
same false false e = refl

-- the step turns this joint state into some joint state of a coherent line
abbrev pub lands : (Joint → Joint → Bool) → Joint → Bool
lands step from = list_any (λ to. step from to) every_joint

pub none_filter : (p : Joint → Bool) (xs : List Joint) → is_none_left (filter p xs) ≡ not (list_any p xs)
none_filter p [] = refl
none_filter p (x ∷ xs) = elim (cases_Bool (p x)) [ inl t ↦ rw t refl | inr e ↦ rw e (none_filter p xs) ]

any_none : (q : Joint → Bool) (xs : List Joint) → ((x : Joint) → q x ≡ false) → list_any q xs ≡ false
any_none q [] h = refl
any_none q (x ∷ xs) h = rw (h x) (any_none q xs h)

regroup : (a b c d : Bool) → ((a || b) || (c || d)) ≡ ((a || c) || (b || d))
regroup true b c d = refl
regroup false true true d = refl
regroup false true false d = refl
regroup false false c d = refl

any_either : (p q : Joint → Bool) (xs : List Joint) → list_any (λ x. p x || q x) xs ≡ (list_any p xs || list_any q xs)
any_either p q [] = refl
any_either p q (x ∷ xs) = rw (any_either p q xs) (regroup (p x) (q x) (list_any p xs) (list_any q xs))

-- the order of two searches does not matter
any_swap : (step : Joint → Joint → Bool) (xs ys : List Joint)
    → list_any (λ to. list_any (λ from. step from to) xs) ys ≡ list_any (λ from. list_any (λ to. step from to) ys) xs
any_swap step [] ys = any_none (λ to. false) ys (λ to. refl)
any_swap step (x ∷ xs) ys =
    any_either (λ to. step x to) (λ to. list_any (λ from. step from to) xs) ys
    ∙ ap (λ b. list_any (λ to. step x to) ys || b) (any_swap step xs ys)

-- none is reached exactly where none lands
pub none_reached : (step : Joint → Joint → Bool) (set : List Joint)
    → is_none_left (reached_by step set) ≡ not (list_any (lands step) set)
unfolding reached_by
none_reached step set =
    none_filter (λ to. list_any (λ from. step from to) set) every_joint ∙ ap not (any_swap step set every_joint)

-- tests that answer alike for each joint state of a coherent line find alike in a coherent set
pub any_alike : (p q : Joint → Bool) (set : List Joint) → ((x : Joint) → Contains every_joint x → p x ≡ q x) → AreCoherent set
    → list_any p set ≡ list_any q set
any_alike p q [] h a = refl
any_alike p q (x ∷ xs) h a =
    rw (h x (a 0 x (omega arith)), any_alike p q xs h (λ k d l. a (suc k) d (omega (arith, l)))) refl

pub alike : (p q : Joint → Bool) → list_all (λ x. is_same (p x) (q x)) every_joint ≡ true
    → (x : Joint) → Contains every_joint x → p x ≡ q x
alike p q e x h =
    same (p x) (q x) (All-contains (λ y. is_same (p y) (q y) ≡ true) every_joint x
    (AllPass-from_list_all (λ y. is_same (p y) (q y)) every_joint e) h)

-- both, for a test of a joint state
pub reached_where : (step : Joint → Joint → Bool) (q : Joint → Bool) (set : List Joint)
    → list_all (λ x. is_same (lands step x) (q x)) every_joint ≡ true → AreCoherent set
    → is_none_left (reached_by step set) ≡ is_none_left (filter q set)
reached_where step q set e a =
    none_reached step set ∙ ap not (any_alike (lands step) q set (alike (lands step) q e) a) ∙ sym (none_filter q set)

pub coherent_reached : (step : Joint → Joint → Bool) (set : List Joint) → AreCoherent (reached_by step set)
unfolding reached_by
coherent_reached step set =
    All-filter (λ to. list_any (λ from. step from to) set) (Contains every_joint) every_joint (All-contains_itself every_joint)

pub coherent_filter : (p : Joint → Bool) (set : List Joint) → AreCoherent set → AreCoherent (filter p set)
coherent_filter p set a = All-filter p (Contains every_joint) set a

pub any_filter : (p q : Joint → Bool) (xs : List Joint) → list_any q (filter p xs) ≡ list_any (λ x. p x && q x) xs
any_filter p q [] = refl
any_filter p q (x ∷ xs) =
    elim (cases_Bool (p x)) [
      | inl t ↦ rw t (ap (λ b. q x || b) (any_filter p q xs))
      | inr e ↦ rw e (any_filter p q xs)
    ]

-- those that pass all land: none is lost
pub reached_from : (step : Joint → Joint → Bool) (p : Joint → Bool) (set : List Joint)
    → list_all (λ x. is_same (p x && lands step x) (p x)) every_joint ≡ true → AreCoherent set
    → is_none_left (reached_by step (filter p set)) ≡ is_none_left (filter p set)
reached_from step p set e a =
    none_reached step (filter p set) ∙ ap not (any_filter p (lands step) set)
    ∙ ap not (any_alike (λ x. p x && lands step x) p set (alike (λ x. p x && lands step x) p e) a) ∙ sym (none_filter p set)
