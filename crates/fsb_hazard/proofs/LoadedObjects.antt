-- Objects that load lines one after the other.
use Rattle.std.proofs.Common.{◌≡◌, ℕ, suc, ◌+◌, ◌<◌, Bool, List, [], ◌∷◌, ◌++◌, length, map, take, drop, get_or, set}
use Rattle.std.proofs.Common.{Option, sym, ap, ◌∙◌, arith, add-one, append_assoc, refl}
use Rattle.std.proofs.Math.ListN.{get_or-map}
use Rattle.std.proofs.Math.Seq.{take-suc, drop-cons, set-append_seam, get_or-append_seam}
use Rattle.std.proofs.lemmas.List.{length-map, length-take-le, map-append, map-set, take-map, drop-map}
use Rattle.fsb_hazard.specs.declared.line.HazardLine.{HazardLine}
use Rattle.fsb_hazard.specs.Told.{Told, told_after}
use Rattle.fsb_hazard.specs.Asking.{IsLoadedInPart}

-- of a list of values, the one at its middle is changed
pub set-middle : {A : Type 0} (all front back : List A) (value other : A) (i : ℕ)
    → all ≡ front ++ value ∷ back → length front ≡ i → set all i other ≡ (front ++ other ∷ []) ++ back
set-middle all front back value other i is long =
    ap (λ l. set l i other) is ∙ ap (λ j. set (front ++ value ∷ back) j other) (sym long)
    ∙ set-append_seam front value back other ∙ sym (append_assoc front (other ∷ []) back)

pub get_or-middle : {A : Type 0} (all front back : List A) (value d : A) (i : ℕ)
    → all ≡ front ++ value ∷ back → length front ≡ i → get_or all i d ≡ value
get_or-middle all front back value d i is long =
    ap (λ l. get_or l i d) is ∙ ap (λ j. get_or (front ++ value ∷ back) j d) (sym long)
    ∙ get_or-append_seam front value back d

-- the object at a place loads the lines, as those before it did
pub loaded_at : {B : Type 0} (told : B → Option Told) (scripted : B → Bool) (lines : List HazardLine)
    (now old : List B) (i : ℕ) (d new : B)
    → i < length old → map scripted now ≡ map scripted old
    → map told now ≡ map (λ b. told_after (scripted b) lines (told b)) (take i old) ++ map told (drop i old)
    → told new ≡ told_after (scripted (get_or now i d)) lines (told (get_or now i d))
    → map told (set now i new)
    ≡ map (λ b. told_after (scripted b) lines (told b)) (take (i + 1) old) ++ map told (drop (i + 1) old)
loaded_at {B = B} told scripted lines now old i d new within kinds front loads =
    let after : B → Option Told = λ b. told_after (scripted b) lines (told b) in
    let here : B = get_or old i d in
    let all : map told now ≡ map after (take i old) ++ told here ∷ map told (drop (suc i) old) =
    front ∙ ap (λ l. map after (take i old) ++ map told l) (drop-cons old i d within) in
    let long : length (map after (take i old)) ≡ i = length-map (take i old) after
    ∙ length-take-le i old (omega (arith, within)) in
    let was : told (get_or now i d) ≡ told here =
    sym (get_or-map told now i d) ∙ get_or-middle (map told now) _ _ (told here) (told d) i all long in
    let kind : scripted (get_or now i d) ≡ scripted here =
    sym (get_or-map scripted now i d) ∙ ap (λ l. get_or l i (scripted d)) kinds ∙ get_or-map scripted old i d in
    let loaded : told new ≡ after here = loads ∙ ap (λ t. told_after (scripted (get_or now i d)) lines t) was
    ∙ ap (λ s. told_after s lines (told here)) kind in
    map-set told now i new
    ∙ set-middle (map told now) _ _ (told here) (told new) i all long
    ∙ rw (add-one, take-suc old i d within, map-append, loaded) refl

-- the object at a place did not load the lines, and those before it did
pub loaded_before : {B : Type 0} (told after : B → Option Told) (now old : List B) (i : ℕ) (new : B)
    → i < length old → map told now ≡ map after (take i old) ++ map told (drop i old)
    → map told (set now i new) ≡ map told now
    → IsLoadedInPart (map told old) (map after old) (map told (set now i new))
loaded_before told after now old i new within front same = record {
  place = i;
  within = rw length-map within;
  parts = same ∙ front ∙ rw (take-map, drop-map) refl;
}
