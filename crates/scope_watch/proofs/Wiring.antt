-- The wires of a bus, code by code.
use Rattle.std.proofs.Common.{◌≡◌, ◌∙◌, ℕ, Bool, true, false, ◌||◌, nat_eq, List, [], ◌∷◌, Option, Some, None, slice_get, refl, sym, ap, if◌then◌else◌}
use Rattle.std.specs.List.{cons_option, list_all}
use Rattle.std.proofs.lemmas.Bool.{and_parts, and_from}
use Rattle.vcd_grammar.specs.Words.{same}
use Rattle.vcd_way.specs.declared.tap.Tap.{Tap}
use Rattle.vcd_way.specs.Lawful.{is_line, is_lawful_tap}
use Rattle.scope_wiring.specs.declared.wire.Wire.{Wire}
use Rattle.scope_pick.specs.declared.variable.Variable.{Variable}
use Rattle.vcd_grammar.specs.Judging.{is_declared}
use Rattle.scope_wiring.specs.Wirings.{is_wired}
use Rattle.scope_way.specs.Wired.{wired_lines, AreLawfulWires}
use Rattle.scope_watch.specs.Buses.{tap_if, tap_at, taps_at}

cons-lawful : (o : Option Tap) (rest : List Tap) → ((t : Tap) → o ≡ Some t → is_lawful_tap t ≡ true)
    → list_all is_lawful_tap rest ≡ true → list_all is_lawful_tap (cons_option o rest) ≡ true
cons-lawful None rest h k = k
cons-lawful (Some t) rest h k = and_from _ _ (h t refl) k

own-if : (b : Bool) (tap taken : Tap) → (if b then Some tap else None) ≡ Some taken → tap ≡ taken
own-if true tap taken e = cc
own-if false tap taken e = absurd cc

own : (code : List ℕ) (tap : Tap) (v : Option Variable) (taken : Tap) → tap_if code tap v ≡ Some taken → tap ≡ taken
unfolding tap_if
own code tap None taken e = absurd cc
own code tap (Some v) taken e = own-if (same code v.code.items) tap taken e

-- the taps of a code are lawful where all are
pub lawful-taps : (vs : List Variable) (code : List ℕ) (ws : List Wire) → AreLawfulWires ws
    → list_all is_lawful_tap (taps_at vs code ws) ≡ true
unfolding tap_at
lawful-taps vs code [] k = refl
lawful-taps vs code (w ∷ ws) k =
    let parts = and_parts (is_lawful_tap w.tap) (list_all (λ (v : Wire). is_lawful_tap v.tap) ws) k in
    cons-lawful (tap_if code w.tap (slice_get vs w.index)) (taps_at vs code ws)
    (λ t e. sym (ap is_lawful_tap (own code w.tap (slice_get vs w.index) t e)) ∙ parts.0)
    (lawful-taps vs code ws parts.1)

-- so are the lines
pub lawful-lines : (ws : List Wire) → AreLawfulWires ws → list_all is_line (wired_lines ws) ≡ true
unfolding wired_lines
lawful-lines [] k = refl
lawful-lines (w ∷ ws) k =
    let parts = and_parts (is_lawful_tap w.tap) (list_all (λ (v : Wire). is_lawful_tap v.tap) ws) k in
    and_from _ _ (and_parts _ _ parts.0).0 (lawful-lines ws parts.1)

-- a line is wired where it is among the lines of wires
pub lines-wired : (ws : List Wire) (line : ℕ) → is_wired ws line ≡ is_declared (wired_lines ws) line
unfolding is_wired wired_lines
lines-wired [] line = refl
lines-wired (w ∷ ws) line = ap (λ b. nat_eq w.tap.line line || b) (lines-wired ws line)
