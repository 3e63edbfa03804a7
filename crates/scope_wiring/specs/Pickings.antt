-- The one answer over all options.
use Rattle.std.specs.Prelude.{◌≡◌, ℕ, List, Some, None}
use Rattle.scope_pick.specs.declared.variable.Variable.{Variable}
use Rattle.scope_pick.specs.declared.wires.Named.{Named}
use Rattle.scope_pick.specs.Wires.{named_lines}
use Rattle.scope_wiring.specs.declared.home.Home.{Home}
use Rattle.scope_wiring.specs.declared.wiring.Choice.{Choice}
use Rattle.scope_wiring.specs.declared.wiring.Picking.{Picking}
use Rattle.scope_wiring.specs.declared.wiring.Picking.TheVariants as pickings
use Rattle.scope_wiring.specs.Settling.{settled_lines}
use Rattle.scope_wiring.specs.Homes.{home_of}
use Rattle.scope_wiring.specs.Wirings.{cause_with, wires_with, absent_lines}
use Rattle.scope_wiring.specs.Candidates.{candidates}

-- the answer where this is the scope that is judged: the wires exactly where there is no cause against them,
-- or else the first cause
abbrev pub IsPickingAt : List Variable → Choice → List Named → List ℕ → Home → Picking → Type 0
IsPickingAt vs choice ns settled home (pickings.Wired w) =
    (cause_with vs choice.lines.items choice.without.items settled home ≡ None)
    × (w.home ≡ home)
    × (w.wires.items ≡ wires_with vs choice.lines.items ns settled home)
    × (w.absent.items ≡ absent_lines (wires_with vs choice.lines.items ns settled home))
IsPickingAt vs choice ns settled home (pickings.Refused r) =
    (cause_with vs choice.lines.items choice.without.items settled home ≡ Some r.cause)
    × (r.candidates.items ≡ candidates vs choice.lines.items ns settled home r.cause)

-- the same for these names and settled lines
abbrev pub IsPickingWith : List Variable → Choice → List Named → List ℕ → Picking → Type 0
IsPickingWith vs choice ns settled = IsPickingAt vs choice ns settled (home_of vs ns settled choice.scope)

-- the lines that the user settles
unfoldable pub settled_in : Choice → List ℕ
settled_in choice = settled_lines choice.lines.items choice.without.items

-- the answer for the declared variables and the user's choice
abbrev pub IsPicking : List Variable → Choice → Picking → Type 0
IsPicking vs choice = IsPickingWith vs choice (named_lines vs) (settled_in choice)
