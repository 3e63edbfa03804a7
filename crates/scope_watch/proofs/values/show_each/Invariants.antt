use Rattle.std.proofs.Common.{◌++◌, List, map, take}
use Rattle.vcd_way.specs.Events.{DumpEvent}
use Rattle.vcd_course.specs.Told.{event_told}
use Rattle.scope_watch.proofs.values.show_each.Given as goal

abbrev pub invariant-loop-event : goal.invariant-loop-event
invariant-loop-event g l =
    (first : g.row.W.Denot) (h : List DumpEvent) → g.W.EventWatcher.has_seen first l.initial.watcher h
    → g.W.EventWatcher.has_seen first l.watcher (h ++ map event_told (take l.event-index l.events))
