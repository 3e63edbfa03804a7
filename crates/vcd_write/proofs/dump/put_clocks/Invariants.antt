use Rattle.std.proofs.Common.{◌≡◌, ◌≤◌, IsTrue, drop}
use Rattle.fsb_io.proofs.Interface.{Written}
use Rattle.fsb_signal.specs.Samples.{is_known}
use Rattle.fsb_signal.specs.Parity.{has_no_parity}
use Rattle.fsb_signal.specs.DumpText.{clocks_text}
use Rattle.vcd_write.proofs.dump.put_clocks.Given as goal

abbrev pub invariant-loop-clock : goal.invariant-loop-clock
invariant-loop-clock g l = record {
  known : IsTrue (is_known l.before);
  parity : l.profile ≡ 1 → IsTrue (has_no_parity l.before);
  later : g.D.Sink.faults l.initial.sink ≤ g.D.Sink.faults l.sink;
  name : IsTrue g.D.Sink.tells → g.D.Sink.begun_as l.sink ≡ g.D.Sink.begun_as l.initial.sink;
  written : IsTrue g.D.Sink.tells
      → Written (clocks_text l.profile 0 l.first l.samples)
      (clocks_text l.profile l.clock l.before (drop l.clock l.samples)) (g.D.Sink.holds l.initial.sink)
      (g.D.Sink.holds l.sink);
}
