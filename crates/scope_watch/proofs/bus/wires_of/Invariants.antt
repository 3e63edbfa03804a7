-- The codes so far, and those of the variables that are left, are all of them.
use Rattle.std.proofs.Common.{◌≡◌, ◌++◌, map, length}
use Rattle.vcd_scan.specs.Wired.{wires_told}
use Rattle.scope_way.specs.Wired.{wired_lines}
use Rattle.scope_watch.specs.Buses.{codes_of, coded}
use Rattle.scope_watch.proofs.bus.wires_of.Given as goal

abbrev pub invariant-loop-variable : goal.invariant-loop-variable
invariant-loop-variable l = record {
  lines : (wires_told l.wires).lines ≡ wired_lines l.picked;
  codes : (wires_told l.wires).codes ++ map (coded l.picked l.fn.variables) (codes_of l.rest)
      ≡ map (coded l.picked l.fn.variables) (codes_of l.fn.variables);
}

abbrev pub decreases-loop-variable : goal.decreases-loop-variable
decreases-loop-variable l = length l.rest
