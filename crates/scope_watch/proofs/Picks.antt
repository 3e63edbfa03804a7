-- The wires that are picked of variables are what is taken of the declarations.
use Rattle.std.proofs.Common.{◌≡◌, ◌∙◌, ℕ, Bool, true, false, ◌||◌, nat_eq, List, [], ◌∷◌, map, Option, Some, None, option_map, slice_get, refl, sym, ap, if◌then◌else◌}
use Rattle.std.specs.List.{filter_map, cons_option, list_any}
use Rattle.std.proofs.lemmas.Bool.{and_parts, and_from, eqb-true, eq-eqb}
use Rattle.std.proofs.lemmas.Option.{slice_get-map}
use Rattle.vcd_grammar.specs.Words.{same}
use Rattle.vcd_way.specs.declared.tap.Tap.{Tap}
use Rattle.vcd_way.specs.Declarations.{Declaration}
use Rattle.scope_pick.specs.declared.variable.Variable.{Variable}
use Rattle.scope_wiring.specs.declared.wire.Wire.{Wire}
use Rattle.scope_way.specs.Variables.{Shown, shown_by, shown_from}
use Rattle.scope_way.specs.Wired.{tap_if_coded, tap_by_code, taps_by_code}
use Rattle.vcd_scan.specs.declared.table.Wires.{Wires}
use Rattle.vcd_scan.specs.Wired.{taps_in, wires_told}
use Rattle.vcd_joined.specs.Choosing.{IsTaken}
use Rattle.vcd_joined.specs.Picking.{picking}
use Rattle.scope_watch.specs.Buses.{codes_of, coded, tap_if, tap_at, taps_at, HasWires}

-- ---- one word and another

same-sound : (a b : List ℕ) → same a b ≡ true → a ≡ b
same-sound [] [] e = refl
same-sound [] (y ∷ b) e = absurd cc
same-sound (x ∷ a) [] e = absurd cc
same-sound (x ∷ a) (y ∷ b) e =
    let p = and_parts (nat_eq x y) (same a b) e in
    (λ i. eqb-true x y p.0 i ∷ same-sound a b p.1 i)

same-refl : (a : List ℕ) → same a a ≡ true
same-refl [] = refl
same-refl (x ∷ a) = and_from (nat_eq x x) (same a a) (eq-eqb x x refl) (same-refl a)

same-turned : (a b : List ℕ) → same a b ≡ true → same b a ≡ true
same-turned a b e = ap (λ x. same b x) (same-sound a b e) ∙ same-refl b

-- ---- codes with their taps

-- what a code stands for among codes
abbrev taps_among : List Wire → List Variable → List (List ℕ) → List ℕ → Option (List Tap)
taps_among ws vs cs code = if list_any (same code) cs then Some (taps_at vs code ws) else None

found-if : (ws : List Wire) (vs : List Variable) (c code : List ℕ) (rest : Option (List Tap)) (any : Bool) (b d : Bool)
    → same c code ≡ b → same code c ≡ d
    → rest ≡ (if any then Some (taps_at vs code ws) else None)
    → (if b then Some (taps_at vs c ws) else rest) ≡ (if d || any then Some (taps_at vs code ws) else None)
found-if ws vs c code rest any true true e k h = ap (λ x. Some (taps_at vs x ws)) (same-sound c code e)
found-if ws vs c code rest any false false e k h = h
found-if ws vs c code rest any true false e k h =
    absurd (let turned = same-turned c code e in let no : ⊥ = cc in no)
found-if ws vs c code rest any false true e k h =
    absurd (let turned = same-turned code c k in let no : ⊥ = cc in no)

coded-taps : (ws : List Wire) (vs : List Variable) (cs : List (List ℕ)) (code : List ℕ)
    → taps_in (map (coded ws vs) cs) code ≡ taps_among ws vs cs code
coded-taps ws vs [] code = refl
coded-taps ws vs (c ∷ cs) code =
    found-if ws vs c code (taps_in (map (coded ws vs) cs) code) (list_any (same code) cs) (same c code) (same code c)
    refl refl (coded-taps ws vs cs code)

-- ---- variables and declarations

abbrev code-of : Declaration → List ℕ
code-of d = d.code

abbrev code-held : Variable → List ℕ
code-held v = v.code.items

abbrev code-shown : Shown → List ℕ
code-shown s = s.code

codes-by : (vs : List Variable) → map code-shown (map shown_by vs) ≡ map code-held vs
codes-by [] = refl
codes-by (v ∷ vs) = ap (λ cs. v.code.items ∷ cs) (codes-by vs)

codes-from : (ds : List Declaration) → map code-shown (map shown_from ds) ≡ map code-of ds
codes-from [] = refl
codes-from (d ∷ ds) = ap (λ cs. d.code ∷ cs) (codes-from ds)

any-code : (code : List ℕ) (ds : List Declaration)
    → list_any (same code) (map code-of ds) ≡ list_any (λ (d : Declaration). same code d.code) ds
any-code code [] = refl
any-code code (d ∷ ds) = ap (λ b. same code d.code || b) (any-code code ds)

-- the tap, if this is the code
abbrev tap-coded : List ℕ → Tap → Option (List ℕ) → Option Tap
tap-coded code tap None = None
tap-coded code tap (Some c) = if same code c then Some tap else None

held-tap : (code : List ℕ) (tap : Tap) (v : Option Variable)
    → tap_if code tap v ≡ tap-coded code tap (option_map code-held v)
unfolding tap_if
held-tap code tap None = refl
held-tap code tap (Some v) = refl

declared-tap : (code : List ℕ) (tap : Tap) (d : Option Declaration)
    → tap-coded code tap (option_map code-of d) ≡ tap_if_coded code tap d
unfolding tap_if_coded
declared-tap code tap None = refl
declared-tap code tap (Some d) = refl

tap-by : (code : List ℕ) (vs : List Variable) (ds : List Declaration) (w : Wire) → map code-held vs ≡ map code-of ds
    → tap_at vs code w ≡ tap_by_code ds code w
unfolding tap_at tap_by_code
tap-by code vs ds w e =
    held-tap code w.tap (slice_get vs w.index)
    ∙ ap (tap-coded code w.tap) (sym (slice_get-map code-held vs w.index) ∙ ap (λ cs. slice_get cs w.index) e
    ∙ slice_get-map code-of ds w.index)
    ∙ declared-tap code w.tap (slice_get ds w.index)

taps-by : (code : List ℕ) (vs : List Variable) (ds : List Declaration) (ws : List Wire)
    → map code-held vs ≡ map code-of ds → taps_at vs code ws ≡ filter_map (tap_by_code ds code) ws
taps-by code vs ds [] e = refl
taps-by code vs ds (w ∷ ws) e = (λ i. cons_option (tap-by code vs ds w e i) (taps-by code vs ds ws e i))

among : (ws : List Wire) (vs : List Variable) (ds : List Declaration) (code : List ℕ)
    → map code-held vs ≡ map code-of ds → taps_among ws vs (codes_of vs) code ≡ taps_by_code ws ds code
unfolding taps_by_code
among ws vs ds code e =
    (λ i. if (ap (list_any (same code)) e ∙ any-code code ds) i then Some (taps-by code vs ds ws e i) else None)

pub taken : (ws : List Wire) (vs : List Variable) (ds : List Declaration) (w : Wires) → HasWires ws vs w
    → map shown_by vs ≡ map shown_from ds → IsTaken (picking (λ all. ws)) ds (wires_told w)
taken ws vs ds w h e =
    let codes : map code-held vs ≡ map code-of ds = sym (codes-by vs) ∙ ap (map code-shown) e ∙ codes-from ds in
    record {
      lines = h.lines;
      taps = λ code. ap (λ x. taps_in x code) h.codes ∙ coded-taps ws vs (codes_of vs) code ∙ among ws vs ds code codes;
    }
