-- The bytes that were taken were read, and hold no whole header.
use Rattle.std.proofs.Common.{◌≡◌, ◌≤◌, ◌-◌, ◌^◌, ◌++◌, ℕ, List, IsTrue, false, nat_le, length}
use Rattle.scope_watch.specs.Heading.{Opens}
use Rattle.scope_watch.specs.Prefaces.{HasRead, preface_limit}
use Rattle.scope_watch.proofs.begin.read_left.Given as goal

abbrev pub invariant-pieces : goal.invariant-pieces
invariant-pieces g l = record {
  at : (fed : List ℕ) × Opens l.reader fed × (length fed ≡ l.taken)
      × (IsTrue g.S.Source.tells → g.S.Source.left l.fn.source ≡ fed ++ g.S.Source.left l.source)
      × HasRead l.preface fed × (nat_le preface_limit l.preface.count ≡ false);
  few : l.taken ≤ 2 ^ 40;
  len : length l.room ≡ length l.fn.room;
  later : g.S.Source.faults l.fn.source ≤ g.S.Source.faults l.source;
  name_stays : IsTrue g.S.Source.tells → g.S.Source.begun_as l.source ≡ g.S.Source.begun_as l.fn.source;
  holds_stays : IsTrue g.S.Source.tells → g.S.Source.holds l.source ≡ g.S.Source.holds l.fn.source;
}

abbrev pub decreases-pieces : goal.decreases-pieces
decreases-pieces g l = 2 ^ 40 - l.taken
