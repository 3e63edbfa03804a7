-- Objects that are shown samples, one after another.
use Rattle.std.proofs.Common.{◌≡◌, ℕ, suc, ◌+◌, ◌<◌, List, [], ◌∷◌, ◌++◌, length, map, take, drop, get_or, set, refl}
use Rattle.std.proofs.Common.{sym, ap, ◌∙◌, arith, add-one, append_assoc, append-nil}
use Rattle.std.proofs.Math.ListN.{get_or-map}
use Rattle.std.proofs.Math.Seq.{take-suc, take-length, drop-cons, set-append_seam}
use Rattle.std.proofs.lemmas.Grind.{common_steps}
use Rattle.std.proofs.lemmas.List.{length-map, length-take-le, map-append, map-set, take_more, drop_all}
use Rattle.std.proofs.lemmas.List.Sums.{sum_by-append}
use Rattle.std.specs.List.{sum_by}
use Rattle.fsb_signal.specs.declared.sample.Sample.{Sample}
use Rattle.fsb_probe.specs.Weights.{total_weight, totals_of}

one_weight : (weight : Sample → ℕ) (x : Sample) → sum_by weight (x ∷ []) ≡ weight x
one_weight weight x = grind (arith, common_steps)

-- one sample more adds its weight
pub total_more : (weight same : Sample → ℕ) (w : List Sample) (i : ℕ) (x : Sample) (before after : ℕ)
    → i < length w → x ≡ get_or w i x → before ≡ total_weight weight (take i w) → same ≡ weight
    → after ≡ before + same x → after ≡ total_weight weight (take (i + 1) w)
total_more weight same w i x before after l is b s a =
    a ∙ ap (λ n. n + same x) b ∙ ap (λ f. total_weight weight (take i w) + f x) s
    ∙ ap (λ n. total_weight weight (take i w) + n) (sym (one_weight weight x))
    ∙ sym (sum_by-append weight (take i w) (x ∷ []))
    ∙ ap (λ y. sum_by weight (take i w ++ y ∷ [])) is
    ∙ ap (sum_by weight) (sym (take_more w i x l))

-- of a list of values, the one at its middle is changed
set-middle : {A : Type 0} (all front back : List A) (value other : A) (i : ℕ)
    → all ≡ front ++ value ∷ back → length front ≡ i → set all i other ≡ (front ++ other ∷ []) ++ back
set-middle all front back value other i is long =
    ap (λ l. set l i other) is ∙ ap (λ j. set (front ++ value ∷ back) j other) (sym long)
    ∙ set-append_seam front value back other ∙ sym (append_assoc front (other ∷ []) back)

-- the object at a place is shown the samples, as those before it were
pub watched_at : {B : Type 0} (counted : B → ℕ) (weight : B → Sample → ℕ) (w : List Sample)
    (now old : List B) (i : ℕ) (d new : B)
    → i < length old → map weight now ≡ map weight old
    → map counted now ≡ map (λ b. total_weight (weight b) w) (take i old) ++ map counted (drop i old)
    → counted new ≡ total_weight (weight (get_or now i d)) w
    → map counted (set now i new)
    ≡ map (λ b. total_weight (weight b) w) (take (i + 1) old) ++ map counted (drop (i + 1) old)
watched_at {B = B} counted weight w now old i d new within weights front shown =
    let after : B → ℕ = λ b. total_weight (weight b) w in
    let here : B = get_or old i d in
    let all : map counted now ≡ map after (take i old) ++ counted here ∷ map counted (drop (suc i) old) =
    front ∙ ap (λ l. map after (take i old) ++ map counted l) (drop-cons old i d within) in
    let long : length (map after (take i old)) ≡ i =
    length-map (take i old) after ∙ length-take-le i old (omega (arith, within)) in
    let same : weight (get_or now i d) ≡ weight here =
    sym (get_or-map weight now i d) ∙ ap (λ l. get_or l i (weight d)) weights ∙ get_or-map weight old i d in
    let total : counted new ≡ after here = shown ∙ ap (λ f. total_weight f w) same in
    map-set counted now i new
    ∙ set-middle (map counted now) _ _ (counted here) (counted new) i all long
    ∙ rw (add-one, take-suc old i d within, map-append, total) refl

totals_by : {B : Type 0} (weight : B → Sample → ℕ) (w : List Sample) (old : List B)
    → map (λ b. total_weight (weight b) w) old ≡ totals_of (map weight old) w
totals_by weight w [] = refl
totals_by weight w (b ∷ old) = ap (λ l. total_weight (weight b) w ∷ l) (totals_by weight w old)

-- all objects were shown the samples
pub watched_all : {B : Type 0} (counted : B → ℕ) (weight : B → Sample → ℕ) (w : List Sample)
    (now old : List B) (i : ℕ) → i ≡ length old
    → map counted now ≡ map (λ b. total_weight (weight b) w) (take i old) ++ map counted (drop i old)
    → map counted now ≡ totals_of (map weight old) w
watched_all counted weight w now old i end front =
    front
    ∙ ap (λ l. map (λ b. total_weight (weight b) w) (take i old) ++ map counted l) (drop_all i old (omega arith))
    ∙ append-nil _
    ∙ ap (λ n. map (λ b. total_weight (weight b) w) (take n old)) end
    ∙ ap (map (λ b. total_weight (weight b) w)) (take-length old)
    ∙ totals_by weight w old
