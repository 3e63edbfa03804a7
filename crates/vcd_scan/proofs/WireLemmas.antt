-- The wires of codes, by their places.
use Rattle.std.proofs.Common.{◌≡◌, ℕ, suc, ◌<◌, Bool, true, false, List, [], ◌∷◌, ◌++◌, length, Option, Some, None}
use Rattle.std.proofs.Common.{get_or, refl, sym, ap, ◌∙◌, arith, subst}
use Rattle.vcd_grammar.specs.Words.{same}
use Rattle.vcd_scan.specs.declared.wire.Wire.{Wire}
use Rattle.vcd_scan.specs.CodePlaces.{first_of}
use Rattle.vcd_scan.specs.Placed.{first_place}
use Rattle.vcd_scan.specs.Wired.{taps_in, codes_told}

none-some : {X P : Type 0} (x : X) → ◌≡◌ {A = Option X} None (Some x) → P
none-some x h = absurd cc

some-same : {X : Type 0} (a b : X) → ◌≡◌ {A = Option X} (Some a) (Some b) → a ≡ b
some-same a b h = cc

-- a code without a place has no taps
pub no_taps : (ws : List Wire) (code : List ℕ) → first_place ws code ≡ None → taps_in (codes_told ws) code ≡ None
no_taps [] code h = refl
no_taps (w ∷ ws) code h = by (same w.code.items code) (first_place ws code) refl refl (no_taps ws code)
  where
    by : (b : Bool) (o : Option ℕ) → same w.code.items code ≡ b → first_place ws code ≡ o
        → (first_place ws code ≡ None → taps_in (codes_told ws) code ≡ None)
        → taps_in (codes_told (w ∷ ws)) code ≡ None
    by true o t k rest = none-some 0 (sym (rw t at h))
    by false None t k rest = rw t (rest k)
    by false (Some i) t k rest = none-some (suc i) (sym (rw (t, k) at h))

-- the wire at the place of a code has its taps
abbrev IsAt : List Wire → List ℕ → ℕ → Type 0
IsAt ws code place =
    (place < length ws) × ((d : Wire) → Some (get_or ws place d).taps.items ≡ taps_in (codes_told ws) code)

at_place : (ws : List Wire) (code : List ℕ) (place : ℕ) → first_place ws code ≡ Some place → IsAt ws code place
at_place [] code place h = none-some place h
at_place (w ∷ ws) code place h =
    by (same w.code.items code) (first_place ws code) refl refl (λ i t. at_place ws code i t)
  where
    by : (b : Bool) (o : Option ℕ) → same w.code.items code ≡ b → first_place ws code ≡ o
        → ((i : ℕ) → first_place ws code ≡ Some i → IsAt ws code i) → IsAt (w ∷ ws) code place
    by true o t k rest =
        let is : 0 ≡ place = some-same 0 place (rw t at h) in
        subst (λ p. IsAt (w ∷ ws) code p) is (omega arith, λ d. rw t refl)
    by false None t k rest = none-some place (rw (t, k) at h)
    by false (Some i) t k rest =
        let found = rest i k in
        let is : suc i ≡ place = some-same (suc i) place (rw (t, k) at h) in
        subst (λ p. IsAt (w ∷ ws) code p) is (omega (arith, found.0), λ d. rw t (found.1 d))

pub place_within : (ws : List Wire) (code : List ℕ) (place : ℕ) → first_place ws code ≡ Some place → place < length ws
place_within ws code place h = (at_place ws code place h).0

pub taps_there : (ws : List Wire) (code : List ℕ) (place : ℕ) (w : Wire) → first_place ws code ≡ Some place
    → w ≡ get_or ws place w → Some w.taps.items ≡ taps_in (codes_told ws) code
taps_there ws code place w h is = ap (λ (v : Wire). Some v.taps.items) is ∙ (at_place ws code place h).1 w

-- one more wire
pub first_more : (ws : List Wire) (w : Wire) (code : List ℕ)
    → first_place (ws ++ w ∷ []) code ≡ first_of (first_place ws code) (same w.code.items code) (length ws)
first_more [] w code = by (same w.code.items code) refl
  where
    by : (b : Bool) → same w.code.items code ≡ b
        → first_place (w ∷ []) code ≡ first_of None (same w.code.items code) 0
    by true t = rw t refl
    by false t = rw t refl
first_more (v ∷ ws) w code =
    by (same v.code.items code) (first_place ws code) (same w.code.items code) refl refl refl (first_more ws w code)
  where
    by : (b : Bool) (o : Option ℕ) (c : Bool) → same v.code.items code ≡ b → first_place ws code ≡ o
        → same w.code.items code ≡ c
        → first_place (ws ++ w ∷ []) code ≡ first_of (first_place ws code) (same w.code.items code) (length ws)
        → first_place ((v ∷ ws) ++ w ∷ []) code
        ≡ first_of (first_place (v ∷ ws) code) (same w.code.items code) (length (v ∷ ws))
    by true o c t k e rest = rw t refl
    by false (Some i) c t k e rest = rw t (rw (rest, k) refl)
    by false None true t k e rest = rw t (rw (rest, k, e) refl)
    by false None false t k e rest = rw t (rw (rest, k, e) refl)

pub first_put : (ws between now : List Wire) (w : Wire) (word code : List ℕ) (long : ℕ)
    → now ≡ between ++ w ∷ [] → between ≡ ws → w.code.items ≡ word → long ≡ length ws
    → first_of (first_place ws code) (same word code) long ≡ first_place now code
first_put ws between now w word code long put kept is size =
    (λ i. first_of (first_place ws code) (same (sym is i) code) (size i))
    ∙ sym (first_more ws w code)
    ∙ ap (λ vs. first_place vs code) (sym (put ∙ ap (λ vs. vs ++ w ∷ []) kept))
