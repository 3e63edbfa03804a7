use Rattle.std.proofs.Common.{◌≡◌, ◌≤◌, ◌+◌, ◌-◌, ◌^◌, ◌++◌, ℕ, List, IsTrue, length, vec_len}
use Rattle.fsb_watch.specs.Watching.{Stood}
use Rattle.fsb_watch.proofs.watch.watch_left.Given as goal

abbrev pub invariant-loop-taken : goal.invariant-loop-taken
invariant-loop-taken g l = record {
  taken : (fed : List ℕ) × Stood g.W.Watcher.has_seen l.fn.watcher l.watcher l.pieces fed × (length fed ≡ l.taken)
      × (IsTrue g.S.Source.tells → g.S.Source.left l.fn.source ≡ fed ++ g.S.Source.left l.source);
  within : l.taken ≤ 2 ^ 40 + 1;
  size : vec_len l.piece ≡ 65536;
  later : g.S.Source.faults l.fn.source ≤ g.S.Source.faults l.source;
  name_stays : IsTrue g.S.Source.tells → g.S.Source.begun_as l.source ≡ g.S.Source.begun_as l.fn.source;
  holds_stays : IsTrue g.S.Source.tells → g.S.Source.holds l.source ≡ g.S.Source.holds l.fn.source;
}

abbrev pub decreases-loop-taken : goal.decreases-loop-taken
decreases-loop-taken g l = 2 ^ 40 + 1 - l.taken
