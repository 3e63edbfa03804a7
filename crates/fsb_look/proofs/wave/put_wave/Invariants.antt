use Rattle.std.proofs.Common.{◌≡◌, ◌≤◌, ℕ, List, IsTrue, drop}
use Rattle.std.specs.List.{flat_map}
use Rattle.fsb_io.proofs.Interface.{Written}
use Rattle.fsb_signal.specs.declared.sample.Sample.{Sample}
use Rattle.fsb_wave.specs.Wave.{Stands}
use Rattle.fsb_wave.specs.WaveText.{wave_lines, wave_text}
use Rattle.fsb_look.proofs.wave.put_wave.Given as goal

abbrev pub invariant-loop-i : goal.invariant-loop-i
invariant-loop-i g l = record {
  written : IsTrue g.O.Sink.tells → (from to : ℕ) (h : List Sample) → Stands l.wave from to h
      → Written (wave_text h from to) (flat_map (λ line. line) (drop l.i (wave_lines h from to)))
      (g.O.Sink.holds l.initial.out) (g.O.Sink.holds l.out);
  name : IsTrue g.O.Sink.tells → g.O.Sink.begun_as l.out ≡ g.O.Sink.begun_as l.initial.out;
  later : g.O.Sink.faults l.initial.out ≤ g.O.Sink.faults l.out;
}
