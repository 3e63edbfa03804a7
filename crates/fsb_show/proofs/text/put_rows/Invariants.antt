use Rattle.std.proofs.Common.{◌≡◌, ◌≤◌, IsTrue, drop}
use Rattle.fsb_io.proofs.Interface.{Written}
use Rattle.fsb_show.specs.ShowText.{numbered_text, row_text}
use Rattle.fsb_show.proofs.text.put_rows.Given as goal

-- the lines of the rows so far are written
abbrev pub invariant-loop-i : goal.invariant-loop-i
invariant-loop-i g l = record {
  written : IsTrue g.O.Sink.tells
      → Written (numbered_text row_text 0 l.rows) (numbered_text row_text l.i (drop l.i l.rows))
      (g.O.Sink.holds l.initial.out) (g.O.Sink.holds l.out);
  name : IsTrue g.O.Sink.tells → g.O.Sink.begun_as l.out ≡ g.O.Sink.begun_as l.initial.out;
  later : g.O.Sink.faults l.initial.out ≤ g.O.Sink.faults l.out;
}
