-- The wires that are picked of the variables of a header.
use Rattle.std.specs.Prelude.{◌≡◌, ℕ, List, map, Option, Some, None, slice_get, if◌then◌else◌}
use Rattle.std.specs.List.{filter_map}
use Rattle.vcd_grammar.specs.Words.{same}
use Rattle.vcd_way.specs.declared.tap.Tap.{Tap}
use Rattle.scope_pick.specs.declared.variable.Variable.{Variable}
use Rattle.scope_wiring.specs.declared.wire.Wire.{Wire}
use Rattle.scope_wiring.specs.declared.wiring.Choice.{Choice}
use Rattle.scope_wiring.specs.declared.wiring.Picking.TheVariants as pickings
use Rattle.scope_wiring.specs.Pickings.{IsPicking}
use Rattle.scope_way.specs.Wired.{wired_lines}
use Rattle.vcd_scan.specs.declared.table.Wires.{Wires}
use Rattle.vcd_scan.specs.Wired.{WireCode, wires_told}
use Rattle.scope_watch.specs.declared.bus.Bus.{Bus}
use Rattle.scope_watch.specs.declared.bus.Picked.{Picked}
use Rattle.scope_watch.specs.declared.bus.Picked.TheVariants as picks

-- the codes of variables
abbrev pub codes_of : List Variable → List (List ℕ)
codes_of vs = map (λ (v : Variable). v.code.items) vs

-- the tap, if the variable has this code
unfoldable pub tap_if : List ℕ → Tap → Option Variable → Option Tap
tap_if code tap None = None
tap_if code tap (Some v) = if same code v.code.items then Some tap else None

-- the tap of a wire among variables, if its variable has the code
unfoldable pub tap_at : List Variable → List ℕ → Wire → Option Tap
tap_at vs code w = tap_if code w.tap (slice_get vs w.index)

-- the taps of the wires whose variables have the code
abbrev pub taps_at : List Variable → List ℕ → List Wire → List Tap
taps_at vs code ws = filter_map (tap_at vs code) ws

-- a code with its taps
abbrev pub coded : List Wire → List Variable → List ℕ → WireCode
coded ws vs code = record { code = code; taps = taps_at vs code ws }

-- what a reader takes by these wires: each variable's code with its taps, and the lines
pub record HasWires (ws : List Wire) (vs : List Variable) (w : Wires) : Type 0 where
  pub lines : (wires_told w).lines ≡ wired_lines ws
  pub codes : (wires_told w).codes ≡ map (coded ws vs) (codes_of vs)

-- a bus by wires that were picked
pub record IsBus (vs : List Variable) (choice : Choice) (b : Bus) : Type 0 where
  pub picked : IsPicking vs choice (pickings.Wired b.wiring)
  pub wires : HasWires b.wiring.wires.items vs b.wires

-- what is answered of variables, as the user chooses
abbrev pub IsPicked : List Variable → Choice → Picked → Type 0
IsPicked vs choice (picks.Wired bus) = IsBus vs choice bus
IsPicked vs choice (picks.Refused refusal) = IsPicking vs choice (pickings.Refused refusal)
