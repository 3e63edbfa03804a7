use Rattle.std.proofs.Common.{◌≡◌, ◌≤◌, IsTrue, length}
use Rattle.fsb_io.proofs.Written.{Written}
use Rattle.fsb_io.proofs.sink.put_all.Given as goal

abbrev pub invariant-loop-rest : goal.invariant-loop-rest
invariant-loop-rest g l = record {
  written : IsTrue g.O.Sink.tells → Written l.piece l.rest (g.O.Sink.holds l.fn.sink) (g.O.Sink.holds l.sink);
  name_stays : IsTrue g.O.Sink.tells → g.O.Sink.begun_as l.sink ≡ g.O.Sink.begun_as l.fn.sink;
  later : g.O.Sink.faults l.fn.sink ≤ g.O.Sink.faults l.sink;
}

abbrev pub decreases-loop-rest : goal.decreases-loop-rest
decreases-loop-rest g l = length l.rest
