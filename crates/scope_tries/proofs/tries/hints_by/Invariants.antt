-- The hints so far are those of the tries so far.
use Rattle.std.proofs.Common.{◌≡◌, ◌≤◌, IsTrue, take}
use Rattle.scope_tries.specs.Tries.{AreHints, IsTried}
use Rattle.scope_tries.proofs.tries.hints_by.Given as goal

abbrev pub invariant-loop-by : goal.invariant-loop-by
invariant-loop-by g l = record {
  hints : IsTrue g.S.Source.tells →
      AreHints (IsTried l.choice l.plan l.edge l.broken (g.S.Source.holds l.fn.dump)) (take l.by-index l.tries) l.hints.items;
  later : g.S.Source.faults l.fn.dump ≤ g.S.Source.faults l.dump;
  holds_stays : IsTrue g.S.Source.tells → g.S.Source.holds l.dump ≡ g.S.Source.holds l.fn.dump;
}
