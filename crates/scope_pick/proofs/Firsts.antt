-- Where a text comes first in a list that grows.
use Rattle.std.proofs.Common.{◌≡◌, ◌∙◌, ℕ, ◌+◌, ◌<◌, Bool, true, false, nat_eq, cond, List, [], ◌∷◌, ◌++◌, length, map, take, get_or, Option, Some, None, refl, ap, sym, arith, BTreeMap}
use Rattle.std.specs.Option.{option_or}
use Rattle.std.specs.Str.{bytes_eq}
use Rattle.std.specs.Cmp.Lexicographic.{pointwise}
use Rattle.std.specs.List.{position, position_or_len}
use Rattle.std.proofs.lemmas.List.{take_more, map-append, length-take-le}
use Rattle.scope_pick.specs.declared.variable.Variable.{Variable}
use Rattle.scope_pick.specs.Headers.{kept_at, place_in, AreFirsts, scopes_in, codes_in}
use Rattle.scope_pick.specs.Numbering.{is_beside, is_same_wire}
use denote.Ref.{Bor}

position_or_len-map : {X Y : Type 0} (p : Y → Bool) (f : X → Y) (xs : List X)
    → position_or_len p (map f xs) ≡ position_or_len (λ x. p (f x)) xs
position_or_len-map p f [] = refl
position_or_len-map p f (x ∷ xs) = rw (position_or_len-map p f xs) refl

length-map : {X Y : Type 0} (f : X → Y) (xs : List X) → length (map f xs) ≡ length xs
length-map f [] = refl
length-map f (x ∷ xs) = rw (length-map f xs) refl

-- the place in a list that is made element by element
pub position-map : {X Y : Type 0} (p : Y → Bool) (f : X → Y) (xs : List X)
    → position p (map f xs) ≡ position (λ x. p (f x)) xs
position-map p f xs = rw (position_or_len-map p f xs, length-map f xs) refl

-- one more element
position-push : {X : Type 0} (p : X → Bool) (xs : List X) (x : X)
    → position p (xs ++ x ∷ []) ≡ option_or (position p xs) (cond (p x) (Some (length xs)) None)
position-push p [] x = grind arith
position-push p (y ∷ xs) x =
    let more : position p (xs ++ x ∷ []) ≡ option_or (position p xs) (cond (p x) (Some (length xs)) None) = position-push p xs x in
    grind (arith, more)

-- what is kept once the text is kept, where nothing was kept for it
pub kept-new : (b : Bool) (index : ℕ) (old new : Option ℕ) → new ≡ cond b (Some index) old
    → (b ≡ true → old ≡ None) → new ≡ option_or old (cond b (Some index) None)
kept-new true index old new is none = is ∙ sym (ap (λ o. option_or o (Some index)) (none refl))
kept-new false index None new is none = is
kept-new false index (Some i) new is none = is

-- one more text
firsts-more : (firsts next : BTreeMap (Bor (List ℕ)) ℕ) (texts : List (List ℕ)) (text : List ℕ) (index : ℕ)
    → index ≡ length texts
    → ((other : List ℕ) → kept_at next other
    ≡ option_or (kept_at firsts other) (cond (bytes_eq text other) (Some index) None))
    → AreFirsts firsts texts → AreFirsts next (texts ++ text ∷ [])
firsts-more firsts next texts text index len puts are other =
    puts other
    ∙ ap (λ o. option_or o (cond (bytes_eq text other) (Some index) None)) (are other)
    ∙ ap (λ n. option_or (place_in texts other) (cond (bytes_eq text other) (Some n) None)) len
    ∙ sym (position-push (λ t. pointwise nat_eq t other) texts text)

-- the text of one more variable
pub firsts-taken : (f : Variable → List ℕ) (firsts next : BTreeMap (Bor (List ℕ)) ℕ) (vs : List Variable) (v : Variable)
    → (i : ℕ) (text : List ℕ) → i < length vs → v ≡ get_or vs i v → text ≡ f v
    → ((other : List ℕ) → kept_at next other
    ≡ option_or (kept_at firsts other) (cond (bytes_eq text other) (Some i) None))
    → AreFirsts firsts (map f (take i vs)) → AreFirsts next (map f (take (i + 1) vs))
firsts-taken f firsts next vs v i text within is said puts are other =
    let all : map f (take (i + 1) vs) ≡ map f (take i vs) ++ text ∷ [] =
    ap (map f) (take_more vs i v within) ∙ map-append f (take i vs) (get_or vs i v ∷ [])
    ∙ ap (λ x. map f (take i vs) ++ f x ∷ []) (sym is) ∙ ap (λ t. map f (take i vs) ++ t ∷ []) (sym said) in
    let len : i ≡ length (map f (take i vs)) =
    sym (length-map f (take i vs) ∙ length-take-le i vs (omega (arith, within))) in
    firsts-more firsts next (map f (take i vs)) text i len puts are other ∙ ap (λ l. place_in l other) (sym all)

-- the first declaration of a variable's scope
pub scope-placed : (vs ws : List Variable) (v : Variable) (text : List ℕ) → vs ≡ ws → text ≡ v.scope.items
    → place_in (scopes_in vs) text ≡ position (λ w. is_beside w v) ws
unfolding is_beside
scope-placed vs ws v text same said =
    position-map (λ t. pointwise nat_eq t text) (λ w. w.scope.items) vs
    ∙ ap (λ t. position (λ w. pointwise nat_eq w.scope.items t) vs) said
    ∙ ap (position (λ w. is_beside w v)) same

-- the first declaration with a variable's code
pub code-placed : (vs ws : List Variable) (v : Variable) (text : List ℕ) → vs ≡ ws → text ≡ v.code.items
    → place_in (codes_in vs) text ≡ position (λ w. is_same_wire w v) ws
unfolding is_same_wire
code-placed vs ws v text same said =
    position-map (λ t. pointwise nat_eq t text) (λ w. w.code.items) vs
    ∙ ap (λ t. position (λ w. pointwise nat_eq w.code.items t) vs) said
    ∙ ap (position (λ w. is_same_wire w v)) same
