-- Why a dump was not read.
use Rattle.scope_watch.specs.declared.stop.ScopeStop.{ScopeStop}
use Rattle.scope_watch.specs.declared.stop.ScopeStop.TheVariants as stops
use Rattle.scope_watch.specs.declared.stop.WatchStop.{WatchStop}
use Rattle.scope_watch.specs.declared.stop.WatchStop.TheVariants as watches

-- a watcher that stops, as a stop of the reading
abbrev pub stop_of : WatchStop → ScopeStop
stop_of watches.TooMany = stops.TooMany
stop_of watches.WriteFault = stops.WriteFault
stop_of watches.Memory = stops.Memory

-- a stop that comes of reading a source, and says nothing of its text but that it is too long
abbrev pub IsStopOfReading : ScopeStop → Type 0
IsStopOfReading (stops.Bad fault) = ⊥
IsStopOfReading stops.NoHeader = ⊥
IsStopOfReading stops.ReadFault = Unit {0}
IsStopOfReading stops.TooLong = Unit {0}
IsStopOfReading stops.TooMany = ⊥
IsStopOfReading stops.WriteFault = ⊥
IsStopOfReading stops.Memory = ⊥
