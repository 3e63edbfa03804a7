-- A write that failed appended nothing.
use Rattle.std.specs.Io.KnownBytes.{Keeps}
use Rattle.fsb_io.proofs.file.write_tried.Given as goal

abbrev pub invariant-loop : goal.invariant-loop
invariant-loop g l = Keeps (g.F.Write.contents l.initial.file) (g.F.Write.contents l.file)
