use Rattle.std.proofs.Common.{◌++◌, List, take}
use Rattle.fsb_signal.specs.declared.marks.Marks.{Marks}
use Rattle.fsb_signal.specs.declared.sample.Sample.{Sample}
use Rattle.fsb_watch.proofs.show.show_each.Given as goal

abbrev pub invariant-loop-sample : goal.invariant-loop-sample
invariant-loop-sample g l =
    (first : g.row.W.Denot) (marks : Marks) (h : List Sample) → g.W.Watcher.has_seen first l.initial.watcher marks h
    → g.W.Watcher.has_seen first l.watcher marks (h ++ take l.sample-index l.samples)
