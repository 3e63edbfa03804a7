-- The ways that keep what a header declares, and choose at its end which of it are lines.
use Rattle.std.specs.Prelude.{◌≡◌, ℕ, false, List, [], ◌∷◌, ◌++◌, Option, if◌then◌else◌}
use Rattle.vcd_way.specs.declared.tap.Tap.{Tap}
use Rattle.vcd_way.specs.Declarations.{Declaration}
use Rattle.vcd_way.specs.Ways.{Keeps, ValueRules, Way}
use Rattle.vcd_way.specs.Pieces.{Happening}
use Rattle.vcd_way.specs.Steps.{DumpState, is_past_header_at, unknown_from_here}
use Rattle.vcd_scan.specs.Wired.{Wiring, taps_in}

-- what is taken of declarations
pub record Choice : Type 0 where
  -- the lines that there are
  pub lines : List Declaration → List ℕ
  -- the taps of a code, where it was declared
  pub taps : List Declaration → List ℕ → Option (List Tap)

-- the way that keeps each declaration, refuses none, and takes this of them, by these rules
abbrev pub choosing : Choice → ValueRules → Way (List Declaration)
choosing c m = record {
  start = [];
  declares = λ ds d. Keeps (ds ++ d ∷ []) [];
  closes = λ ds. Keeps ds (c.lines ds);
  lines = c.lines;
  taps = c.taps;
  rules = m;
}

-- these wires are what is taken of the declarations
pub record IsTaken (c : Choice) (ds : List Declaration) (w : Wiring) : Type 0 where
  pub lines : w.lines ≡ c.lines ds
  pub taps : (code : List ℕ) → taps_in w.codes code ≡ c.taps ds code

-- what rules say of values alone
abbrev pub of_values : ValueRules → ValueRules
of_values m = record m { widest = 0; skips_preface = false }

-- what has happened to the lines in a header: once it is over, they are unknown
abbrev pub happened_by_header : Choice → DumpState (List Declaration) → List Happening
happened_by_header c s = if is_past_header_at s.spot then unknown_from_here (c.lines s.header) else []
