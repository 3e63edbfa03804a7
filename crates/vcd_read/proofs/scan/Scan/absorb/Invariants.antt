-- The bytes that are done were read, and those that are left follow them in the piece.
use Rattle.std.proofs.Common.{length}
use Rattle.vcd_read.specs.Scanning.{reading}
use Rattle.vcd_read.proofs.Absorbing.{Absorbed}
use Rattle.vcd_read.proofs.scan.Scan.absorb.Given as goal

abbrev pub invariant-loop-rest : goal.invariant-loop-rest
invariant-loop-rest l = Absorbed l.limit (reading l.initial.self) (reading l.self) l.piece l.rest
    l.initial.to.items l.to.items

abbrev pub decreases-loop-rest : goal.decreases-loop-rest
decreases-loop-rest l = length l.rest
