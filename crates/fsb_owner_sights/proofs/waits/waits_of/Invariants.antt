use Rattle.std.proofs.Common.{ℕ, ◌+◌, ◌≡◌, take}
use Rattle.std.specs.List.{list_any}
use Rattle.fsb_trace.specs.At.{Trace}
use Rattle.fsb_owner_rows.specs.Kept.{AreKeptAt}
use Rattle.fsb_owner_rows.specs.OfRow.{row_names}
use Rattle.fsb_owner_judge.specs.Lines.{ShowWaits, is_waiting}
use Rattle.fsb_owner_sights.proofs.waits.waits_of.Given as goal

abbrev pub invariant-loop-row : goal.invariant-loop-row
invariant-loop-row l = record {
  lines : (line : ℕ) → is_waiting l.waits.items line ≡ list_any (row_names line) (take l.row-index l.rows);
  shown : (v : Trace) → AreKeptAt l.rows v l.clock → AreKeptAt l.rows v l.next → l.next ≡ l.clock + 1
      → ShowWaits v l.clock l.waits.items;
}
