-- So many bytes were taken by now, and no more than the limit.
use Rattle.std.proofs.Common.{◌≡◌, ◌≤◌, ◌+◌, ◌-◌, ◌^◌, IsTrue, length}
use Rattle.scope_watch.proofs.piece.read_rest.Given as goal

abbrev pub invariant-pieces : goal.invariant-pieces
invariant-pieces g l = record {
  few : l.all ≤ 2 ^ 40;
  len : length l.room ≡ length l.fn.room;
  counted : IsTrue g.S.Source.tells
      → l.all + length (g.S.Source.left l.source) ≡ l.fn.taken + length (g.S.Source.left l.fn.source);
  later : g.S.Source.faults l.fn.source ≤ g.S.Source.faults l.source;
  name_stays : IsTrue g.S.Source.tells → g.S.Source.begun_as l.source ≡ g.S.Source.begun_as l.fn.source;
  holds_stays : IsTrue g.S.Source.tells → g.S.Source.holds l.source ≡ g.S.Source.holds l.fn.source;
}

abbrev pub decreases-pieces : goal.decreases-pieces
decreases-pieces g l = 2 ^ 40 - l.all
