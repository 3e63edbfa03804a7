use Rattle.std.proofs.Common.{◌≡◌, ◌≤◌, IsTrue, drop, map}
use Rattle.fsb_io.proofs.Interface.{Written}
use Rattle.fsb_show.specs.ShowText.{numbered_text, probe_text}
use Rattle.fsb_show.proofs.text.put_totals.Given as goal

-- the lines of the objects so far are written
abbrev pub invariant-loop-i : goal.invariant-loop-i
invariant-loop-i g l = record {
  written : IsTrue g.O.Sink.tells
      → Written (numbered_text probe_text 0
      (map (λ b. (goal.Probe-dyn g (b.vtable, b.value)).counted b.value) l.probes))
      (numbered_text probe_text l.i
      (drop l.i (map (λ b. (goal.Probe-dyn g (b.vtable, b.value)).counted b.value) l.probes)))
      (g.O.Sink.holds l.initial.out) (g.O.Sink.holds l.out);
  name : IsTrue g.O.Sink.tells → g.O.Sink.begun_as l.out ≡ g.O.Sink.begun_as l.initial.out;
  later : g.O.Sink.faults l.initial.out ≤ g.O.Sink.faults l.out;
}
