-- The bytes that were taken were read, and what they tell was shown.
use Rattle.std.proofs.Common.{◌≡◌, ◌≤◌, ◌+◌, ◌-◌, ◌^◌, ◌++◌, ℕ, List, IsTrue, length}
use Rattle.vcd_way.specs.Ways.{ValueRules}
use Rattle.vcd_way.specs.Events.{DumpEvent}
use Rattle.vcd_scan.specs.Wired.{Wiring}
use Rattle.scope_watch.specs.Watching.{Seen}
use Rattle.scope_watch.proofs.values.watch_left.Given as goal

abbrev pub invariant-pieces : goal.invariant-pieces
invariant-pieces g l = record {
  at : (more : List ℕ) × (l.all ≡ l.fn.taken + length more)
      × (IsTrue g.S.Source.tells → g.S.Source.left l.fn.source ≡ more ++ g.S.Source.left l.source)
      × ((first : g.row.W.Denot) (h : List DumpEvent) (m : ValueRules) (w : Wiring) (head fed : List ℕ)
      → Seen (λ es. g.W.EventWatcher.has_seen first l.fn.watcher (h ++ es)) m w l.fn.reader head fed
      → Seen (λ es. g.W.EventWatcher.has_seen first l.watcher (h ++ es)) m w l.reader head (fed ++ more));
  few : l.all ≤ 2 ^ 40;
  len : length l.room ≡ length l.fn.room;
  later : g.S.Source.faults l.fn.source ≤ g.S.Source.faults l.source;
  name_stays : IsTrue g.S.Source.tells → g.S.Source.begun_as l.source ≡ g.S.Source.begun_as l.fn.source;
  holds_stays : IsTrue g.S.Source.tells → g.S.Source.holds l.source ≡ g.S.Source.holds l.fn.source;
}

abbrev pub decreases-pieces : goal.decreases-pieces
decreases-pieces g l = 2 ^ 40 - l.all
