-- Wires that take the same, as lines and taps.
use Rattle.std.proofs.Common.{◌≡◌, ℕ, Bool, true, false, if◌then◌else◌, is_some, List, [], ◌∷◌, map, slice_get}
use Rattle.std.proofs.Common.{Option, Some, None, refl, sym, ap, subst, ◌∙◌}
use Rattle.std.specs.List.{filter_map, cons_option}
use Rattle.std.specs.Option.{option_map_or}
use Rattle.vcd_grammar.specs.Words.{same}
use Rattle.vcd_grammar.specs.Codes.{lines_of}
use Rattle.vcd_grammar.specs.Judging.{marks_of_lines}
use Rattle.vcd_way.specs.Declarations.{Declaration}
use Rattle.vcd_way.specs.declared.tap.Tap.{Tap}
use Rattle.vcd_way.specs.Events.{whole}
use Rattle.vcd_way.specs.Strict.{StrictHeader, marks_by}
use Rattle.scope_wiring.specs.declared.wire.Wire.{Wire}
use Rattle.scope_way.specs.Wired.{tap_if_coded, tap_by_code, taps_by_code, wired_lines}
use Rattle.scope_both.specs.Taking.{AreSameLines, lines_by_wires, TakesTheSame}
use Rattle.scope_both.proofs.Codes.{is_coded, Knows}
use Rattle.scope_both.proofs.Steps.{Lines, Taps, HasLines, Takes}

-- the lines and the taps of wires
abbrev pub wires-lines : List Wire → Lines
wires-lines ws = λ ds. wired_lines ws

abbrev pub wires-taps : List Wire → Taps
wires-taps ws = λ ds code. taps_by_code ws ds code

-- wires of whole variables
abbrev AreWhole : List Wire → Type 0
AreWhole ws = map (λ (w : Wire). w.tap) ws ≡ map whole (wired_lines ws)

record First (w : Wire) (ws : List Wire) : Type 0 where
  tap : w.tap ≡ whole w.tap.line
  rest : AreWhole ws

first-whole : (w : Wire) (ws : List Wire) → AreWhole (w ∷ ws) → First w ws
unfolding wired_lines
first-whole w ws h = record { tap = cc; rest = cc }

-- the taps of some taps' lines
abbrev lines-of-taps : List Tap → List ℕ
lines-of-taps taps = map (λ (tap : Tap). tap.line) taps

whole-cons : (o : Option Tap) (taps : List Tap) → ((tap : Tap) → o ≡ Some tap → tap ≡ whole tap.line)
    → taps ≡ map whole (lines-of-taps taps)
    → cons_option o taps ≡ map whole (lines-of-taps (cons_option o taps))
whole-cons None taps h e = e
whole-cons (Some tap) taps h e = λ i. h tap refl i ∷ e i

coded-tap : (code : List ℕ) (tap other : Tap) (d : Option Declaration) → tap_if_coded code tap d ≡ Some other → other ≡ tap
unfolding tap_if_coded
coded-tap code tap other None h = cc h
coded-tap code tap other (Some d) h = by (same code d.code) h
  where
    by : (b : Bool) → (if b then Some tap else None) ≡ Some other → other ≡ tap
    by true e = cc
    by false e = cc e

wire-tap : (ds : List Declaration) (code : List ℕ) (w : Wire) (tap : Tap) → tap_by_code ds code w ≡ Some tap
    → tap ≡ w.tap
unfolding tap_by_code
wire-tap ds code w tap h = coded-tap code w.tap tap (slice_get ds w.index) h

whole-taps : (ws : List Wire) (ds : List Declaration) (code : List ℕ) → AreWhole ws
    → filter_map (tap_by_code ds code) ws ≡ map whole (lines_by_wires ws ds code)
whole-taps [] ds code h = refl
whole-taps (w ∷ ws) ds code h =
    let first = first-whole w ws h in
    whole-cons (tap_by_code ds code w) (filter_map (tap_by_code ds code) ws)
    (λ tap e. let same : tap ≡ w.tap = wire-tap ds code w tap e in
    same ∙ first.tap ∙ ap (λ (x : Tap). whole x.line) (sym same))
    (whole-taps ws ds code first.rest)

known-taps : (ws : List Wire) (ds : List Declaration) (code : List ℕ) → is_coded ds code ≡ true
    → taps_by_code ws ds code ≡ Some (filter_map (tap_by_code ds code) ws)
unfolding taps_by_code
known-taps ws ds code h = ap (λ b. if b then Some (filter_map (tap_by_code ds code) ws) else None) h

has-lines : (ws : List Wire) (ds : List Declaration) (h : StrictHeader) (code lines : List ℕ) → TakesTheSame ws ds h
    → Knows ds h → lines_of h.codes code ≡ Some lines → HasLines (wires-taps ws) ds code lines
has-lines ws ds h code lines takes k e = record {
  numbers = lines_by_wires ws ds code;
  taps = known-taps ws ds code (sym (k code) ∙ ap is_some e) ∙ ap (λ taps. Some taps) (whole-taps ws ds code takes.whole);
  same = subst (λ (x : Option (List ℕ)). AreSameLines (lines_by_wires ws ds code) (option_map_or (λ ls. ls) x [])) e
      (takes.codes code);
}

pub wires-take : (ws : List Wire) (ds : List Declaration) (h : StrictHeader) → TakesTheSame ws ds h → Knows ds h
    → Takes (wires-lines ws) (wires-taps ws) ds h
wires-take ws ds h takes k =
    record { lines = takes.lines; codes = λ code lines e. has-lines ws ds h code lines takes k e }

pub same-marks : (ws : List Wire) (ds : List Declaration) (h : StrictHeader) → TakesTheSame ws ds h
    → marks_of_lines (wired_lines ws) ≡ marks_by h
same-marks ws ds h takes = λ i. record { ap = takes.lines 20 i; rp = takes.lines 21 i }
