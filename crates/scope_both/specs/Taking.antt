-- Wires that take of a dump what the strict grammar takes of it.
use Rattle.std.specs.Prelude.{◌≡◌, ℕ, List, [], map}
use Rattle.std.specs.List.{filter_map}
use Rattle.std.specs.Option.{option_map_or}
use Rattle.vcd_grammar.specs.Codes.{lines_of}
use Rattle.vcd_grammar.specs.Judging.{is_declared}
use Rattle.vcd_way.specs.Declarations.{Declaration}
use Rattle.vcd_way.specs.declared.tap.Tap.{Tap}
use Rattle.vcd_way.specs.Ways.{ValueRules}
use Rattle.vcd_way.specs.Events.{whole}
use Rattle.vcd_way.specs.Answers.{header_by}
use Rattle.vcd_way.specs.Strict.{StrictHeader, strict}
use Rattle.scope_wiring.specs.declared.wire.Wire.{Wire}
use Rattle.scope_way.specs.Wired.{tap_by_code, wired_lines, wired_way}

-- the lines are the same, in whatever order
abbrev pub AreSameLines : List ℕ → List ℕ → Type 0
AreSameLines ls ns = (number : ℕ) → is_declared ls number ≡ is_declared ns number

-- the lines whose wires take a variable of this code
abbrev pub lines_by_wires : List Wire → List Declaration → List ℕ → List ℕ
lines_by_wires ws ds code = map (λ (tap : Tap). tap.line) (filter_map (tap_by_code ds code) ws)

-- the lines of this code in the strict way
abbrev pub strict_lines : StrictHeader → List ℕ → List ℕ
strict_lines h code = option_map_or (λ lines. lines) (lines_of h.codes code) []

-- wires among declarations take what the strict way takes of them: whole variables as they stand, the same lines, and
-- each by a variable of the same code
pub record TakesTheSame (ws : List Wire) (ds : List Declaration) (h : StrictHeader) : Type 0 where
  pub whole : map (λ (w : Wire). w.tap) ws ≡ map whole (wired_lines ws)
  pub lines : AreSameLines (wired_lines ws) h.lines
  pub codes : (code : List ℕ) → AreSameLines (lines_by_wires ws ds code) (strict_lines h code)

-- the same of the header of a text
abbrev pub TakesStrictly : List Wire → ValueRules → List ℕ → Type 0
TakesStrictly ws m text = TakesTheSame ws (header_by (wired_way ws m) text) (header_by strict text)
