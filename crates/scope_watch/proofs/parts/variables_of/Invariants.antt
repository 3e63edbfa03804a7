-- The variables so far, and the declarations that are left, are all of them.
use Rattle.std.proofs.Common.{◌≡◌, ◌++◌, map, length}
use Rattle.vcd_header.specs.Told.{declarations_told}
use Rattle.scope_way.specs.Variables.{shown_by, shown_from}
use Rattle.scope_watch.proofs.parts.variables_of.Given as goal

abbrev pub invariant-loop-one : goal.invariant-loop-one
invariant-loop-one l =
    map shown_by l.variables.items ++ map shown_from (declarations_told l.rest)
    ≡ map shown_from (declarations_told l.fn.declared)

abbrev pub decreases-loop-one : goal.decreases-loop-one
decreases-loop-one l = length l.rest
