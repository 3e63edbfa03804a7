use Rattle.std.proofs.Common.{◌≡◌, ◌≤◌, IsTrue, [], length}
use Rattle.fsb_gather.specs.HandsOn.{HandsOn}
use Rattle.fsb_gather.proofs.gather.Gather.finish.Given as goal

abbrev pub invariant-loop-self : goal.invariant-loop-self
invariant-loop-self g l = record {
  handed : IsTrue g.D.Sink.tells →
      HandsOn l.fn.self.gathered l.self.gathered (g.D.Sink.holds l.fn.self.sink) (g.D.Sink.holds l.self.sink);
  name_stays : IsTrue g.D.Sink.tells → g.D.Sink.begun_as l.self.sink ≡ g.D.Sink.begun_as l.fn.self.sink;
  later : g.D.Sink.faults l.fn.self.sink ≤ g.D.Sink.faults l.self.sink;
  not_called : l.fn.self.gathered ≡ [] → l.self.sink ≡ l.fn.self.sink;
  still_none : l.fn.self.gathered ≡ [] → l.self.gathered ≡ [];
}

abbrev pub decreases-loop-self : goal.decreases-loop-self
decreases-loop-self g l = length l.self.gathered
