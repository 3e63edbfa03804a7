-- A read that failed consumed nothing.
use Rattle.std.specs.Io.KnownBytes.{Keeps}
use Rattle.fsb_io.proofs.file.read_tried.Given as goal

abbrev pub invariant-loop : goal.invariant-loop
invariant-loop g l = Keeps (g.F.Read.remaining l.initial.file) (g.F.Read.remaining l.file)
