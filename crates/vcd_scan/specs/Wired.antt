-- The way of wires that were chosen: which taps each code stands for, and which lines there are.
use Rattle.std.specs.Prelude.{ℕ, List, [], ◌∷◌, map, Option, Some, None, if◌then◌else◌}
use Rattle.vcd_grammar.specs.Words.{same}
use Rattle.vcd_way.specs.declared.tap.Tap.{Tap}
use Rattle.vcd_way.specs.Ways.{Keeps, ValueRules, Way}
use Rattle.vcd_scan.specs.declared.wire.Wire.{Wire}
use Rattle.vcd_scan.specs.declared.table.Wires.{Wires}

-- a code, and the taps that it stands for
pub record WireCode : Type 0 where
  pub code : List ℕ
  pub taps : List Tap

-- the codes of a dump, and the lines that there are
pub record Wiring : Type 0 where
  pub codes : List WireCode
  pub lines : List ℕ

-- the taps of a code, where it was declared
abbrev pub taps_in : List WireCode → List ℕ → Option (List Tap)
taps_in [] code = None
taps_in (c ∷ cs) code = if same c.code code then Some c.taps else taps_in cs code

-- the way of these wires, by these rules; it is read from the end of the header on
abbrev pub wired : ValueRules → Way Wiring
wired m = record {
  start = record { codes = []; lines = [] };
  declares = λ w d. Keeps w [];
  closes = λ w. Keeps w [];
  lines = λ w. w.lines;
  taps = λ w code. taps_in w.codes code;
  rules = m;
}

-- codes with their taps
abbrev pub codes_told : List Wire → List WireCode
codes_told wires = map (λ (w : Wire). record { code = w.code.items; taps = w.taps.items }) wires

-- wires
abbrev pub wires_told : Wires → Wiring
wires_told w = record { codes = codes_told w.wires.items; lines = w.lines.items }
