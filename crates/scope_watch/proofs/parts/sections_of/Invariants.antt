-- The copies so far and the sections that are left are all sections.
use Rattle.std.proofs.Common.{◌≡◌, ◌++◌, length}
use Rattle.vcd_header.specs.Told.{sections_told}
use Rattle.scope_watch.proofs.parts.sections_of.Given as goal

abbrev pub invariant-loop-section : goal.invariant-loop-section
invariant-loop-section l = sections_told l.copies.items ++ sections_told l.rest ≡ sections_told l.fn.sections

abbrev pub decreases-loop-section : goal.decreases-loop-section
decreases-loop-section l = length l.rest
