-- The best scopes, where each is asked by its own variables.
use Rattle.std.proofs.Common.{◌≡◌, ◌∙◌, ℕ, ◌+◌, ◌<◌, Bool, nat_le, cond, ◌&&◌, count_by, map, take, get_or, length, List, [], ◌∷◌, refl, ap, sym, arith, BTreeMap, Vec, Global}
use Rattle.std.proofs.lemmas.List.{take_more}
use Rattle.std.proofs.lemmas.List.Elements.{filter_agree}
use Rattle.std.proofs.lemmas.List.Folds.{list_all-append}
use Rattle.std.specs.List.{filter, fold, list_all}
use Rattle.scope_pick.specs.declared.wires.Named.{Named}
use Rattle.scope_pick.specs.Groups.{in_scope, group_at, AreGroups}
use Rattle.scope_pick.specs.Scopes.{lines, is_head}
use Rattle.scope_pick.proofs.Within.{head-within, found-within}
use Rattle.scope_wiring.specs.Candidates.{heads, is_found, found_count, is_greatest, found_counts, best_among}

-- tests that agree count on the same
count-on-agree : (p q : ℕ → Bool) → ((n : ℕ) → p n ≡ q n) → (ns : List ℕ) (so_far : ℕ)
    → fold (λ a n. a + cond (p n) 1 0) so_far ns ≡ fold (λ a n. a + cond (q n) 1 0) so_far ns
count-on-agree p q h [] so_far = refl
count-on-agree p q h (n ∷ ns) so_far =
    ap (λ b. fold (λ a m. a + cond (p m) 1 0) (so_far + cond b 1 0) ns) (h n)
    ∙ count-on-agree p q h ns (so_far + cond (q n) 1 0)

-- tests that agree count the same
count-agree : (p q : ℕ → Bool) → ((n : ℕ) → p n ≡ q n) → (ns : List ℕ) → count_by p ns ≡ count_by q ns
count-agree p q h ns = count-on-agree p q h ns 0

map-agree : (f g : Named → ℕ) → ((e : Named) → f e ≡ g e) → (ns : List Named) → map f ns ≡ map g ns
map-agree f g h [] = refl
map-agree f g h (e ∷ ns) = rw (h e, map-agree f g h ns) refl

-- the scopes, each by its first variable
pub heads-within : (groups : BTreeMap ℕ (Vec Named Global)) (ns : List Named) → AreGroups groups ns
    → filter (λ (e : Named). is_head (group_at groups e.scope) e) ns ≡ heads ns
unfolding heads
heads-within groups ns are = filter_agree _ _ (λ e. rw (are e.scope) (head-within ns e)) ns

found-same : (ns : List Named) (settled : List ℕ) (scope line : ℕ)
    → is_found (in_scope scope ns) settled scope line ≡ is_found ns settled scope line
unfolding is_found
found-same ns settled scope line = rw (found-within ns scope line) refl

-- how many needed lines a scope has
pub count-within : (ns : List Named) (settled : List ℕ) (scope : ℕ)
    → found_count (in_scope scope ns) settled scope ≡ found_count ns settled scope
unfolding found_count
count-within ns settled scope =
    count-agree (is_found (in_scope scope ns) settled scope) (is_found ns settled scope)
    (found-same ns settled scope) lines

-- the scopes with the most of them
pub best-within : (groups : BTreeMap ℕ (Vec Named Global)) (ns : List Named) (settled : List ℕ)
    → (hs : List Named) (counts : List ℕ) (most : ℕ) → AreGroups groups ns
    → counts ≡ map (λ (e : Named). found_count (group_at groups e.scope) settled e.scope) hs
    → ((count : ℕ) → is_greatest counts count ≡ nat_le most count)
    → filter (λ (e : Named). nat_le most (found_count (group_at groups e.scope) settled e.scope)) hs
    ≡ best_among ns settled hs
unfolding best_among found_counts
best-within groups ns settled hs counts most are counted greatest =
    filter_agree _ (λ (e : Named). is_greatest (found_counts ns settled hs) (found_count ns settled e.scope))
    (λ e. ap (nat_le most) (same e) ∙ sym (greatest (found_count ns settled e.scope))
    ∙ ap (λ l. is_greatest l (found_count ns settled e.scope)) (counted ∙ map-agree _ _ same hs)) hs
  where
    same : (e : Named) → found_count (group_at groups e.scope) settled e.scope ≡ found_count ns settled e.scope
    same e = rw (are e.scope) (count-within ns settled e.scope)

-- one more count
pub greatest-more : (counts : List ℕ) (i most next d : ℕ) → i < length counts
    → ((count : ℕ) → is_greatest (take i counts) count ≡ nat_le most count)
    → ((count : ℕ) → (nat_le most count && nat_le (get_or counts i d) count) ≡ nat_le next count)
    → (count : ℕ) → is_greatest (take (i + 1) counts) count ≡ nat_le next count
unfolding is_greatest
greatest-more counts i most next d within so_far more count =
    ap (list_all (λ c. nat_le c count)) (take_more counts i d within)
    ∙ list_all-append (λ c. nat_le c count) (take i counts) (get_or counts i d ∷ [])
    ∙ grind (arith, so_far count, more count)
