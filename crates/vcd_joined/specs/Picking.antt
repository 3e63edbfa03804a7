-- The ways by picked wires are among those that choose at the header's end.
use Rattle.std.specs.Prelude.{List}
use Rattle.vcd_way.specs.Declarations.{Declaration}
use Rattle.scope_wiring.specs.declared.wire.Wire.{Wire}
use Rattle.scope_way.specs.Wired.{taps_by_code, wired_lines}
use Rattle.vcd_joined.specs.Choosing.{Choice}

-- what is taken by wires that are chosen of the declarations
abbrev pub picking : (List Declaration → List Wire) → Choice
picking choose = record {
  lines = λ ds. wired_lines (choose ds);
  taps = λ ds code. taps_by_code (choose ds) ds code;
}
