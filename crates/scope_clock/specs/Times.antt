-- The times of the clocks of a dump.
use Rattle.std.specs.Prelude.{◌≡◌, ◌<◌, ◌≤◌, ◌^◌, ◌⊎◌, ℕ, true, List, [], ◌∷◌, length, slice_get, Option, Some, None, Result, Ok, Err}
use Rattle.vcd_way.specs.Declarations.{Declaration}
use Rattle.vcd_way.specs.Ways.{Way}
use Rattle.vcd_way.specs.Answers.{first_fault_by, events_by}
use Rattle.vcd_way.specs.Events.{DumpEvent, Sampled, Hole, Resumed}
use Rattle.vcd_way.specs.Pieces.{time_at}
use Rattle.scope_way.specs.Wired.{wired_way}
use Rattle.scope_wiring.specs.declared.wiring.Choice.{Choice}
use Rattle.scope_wiring.specs.declared.wiring.Wiring.{Wiring}
use Rattle.scope_watch.specs.declared.header.Header.{Header}
use Rattle.scope_watch.specs.declared.values.Sampling.{Sampling}
use Rattle.scope_watch.specs.declared.stop.ScopeStop.{ScopeStop}
use Rattle.scope_watch.specs.declared.stop.ScopeStop.TheVariants as stops
use Rattle.scope_watch.specs.Checking.{IsUnpicked, IsWiredBy, IsFaultBehind, TellsMany}
use Rattle.scope_watch.specs.Heading.{IsHeaderFault, IsTooLong}
use Rattle.scope_watch.specs.Prefaces.{is_no_dump}
use Rattle.scope_watch.specs.Watching.{rules_for}
use Rattle.scope_clock.specs.declared.timer.Timer.{Timer}

-- the times of the edges at which the events have samples
abbrev pub edge_times : List DumpEvent → List ℕ
edge_times [] = []
edge_times (Sampled sample stamp ∷ events) = time_at stamp ∷ edge_times events
edge_times (Hole stamp ∷ events) = edge_times events
edge_times (Resumed stamp ∷ events) = edge_times events

-- it waits for the clock of this number, and was shown these events
pub record HasTimed (t : Timer) (clock : ℕ) (events : List DumpEvent) : Type 0 where
  pub clock_is : t.clock ≡ clock
  pub count : t.count ≡ length (edge_times events)
  pub time : t.time ≡ slice_get (edge_times events) clock

-- so many events are too many to count their clocks
abbrev pub most_timed : ℕ
most_timed = 18446744073709551615

-- the edge of the clock of this number has this time in the dump, by the wires that are picked as the user chooses
pub record IsClockTime (choice : Choice) (s : Sampling) (dumped : List ℕ) (clock time : ℕ) : Type 0 where
  pub header : Header
  pub wiring : Wiring
  pub wired : IsWiredBy choice s header wiring dumped
  pub time_is : slice_get (edge_times (events_by (wired_way wiring.wires.items (rules_for s)) dumped)) clock ≡ Some time

-- the wires are picked as the user chooses, and by them the dump has no clock of this number
pub record LacksClock (choice : Choice) (s : Sampling) (dumped : List ℕ) (clock : ℕ) : Type 0 where
  pub header : Header
  pub wiring : Wiring
  pub wired : IsWiredBy choice s header wiring dumped
  pub none : slice_get (edge_times (events_by (wired_way wiring.wires.items (rules_for s)) dumped)) clock ≡ None

-- the clock of this number has no time: the wires are not picked, or the dump has no such clock
abbrev pub HasNoTime : Choice → Sampling → List ℕ → ℕ → Type 0
HasNoTime choice s dumped clock = IsUnpicked choice s dumped ⊎ LacksClock choice s dumped clock

-- why no time is told of a dump: a fault is one in its header, or the first one in the way of the wires that are picked
abbrev pub IsUntimed : ScopeStop → Choice → Sampling → List ℕ → Type 0
IsUntimed (stops.Bad fault) choice s dumped = IsHeaderFault dumped fault ⊎ IsFaultBehind choice s dumped fault
IsUntimed stops.NoHeader choice s dumped = is_no_dump dumped ≡ true
IsUntimed stops.TooLong choice s dumped = IsTooLong dumped
IsUntimed stops.TooMany choice s dumped = TellsMany most_timed choice s dumped
IsUntimed stops.WriteFault choice s dumped = ⊥
IsUntimed stops.Memory choice s dumped = Unit {0}
IsUntimed stops.ReadFault choice s dumped = Unit {0}

-- what is answered of a text, read in a way
abbrev pub IsTimedBy : Result (Option ℕ) ScopeStop → Way (List Declaration) → ℕ → List ℕ → Type 0
IsTimedBy (Ok time) way clock text = time ≡ slice_get (edge_times (events_by way text)) clock
IsTimedBy (Err (stops.Bad fault)) way clock text = first_fault_by way text ≡ Some fault
IsTimedBy (Err stops.NoHeader) way clock text = ⊥
IsTimedBy (Err stops.TooLong) way clock text = 2 ^ 40 < length text
IsTimedBy (Err stops.TooMany) way clock text = most_timed ≤ length (events_by way text)
IsTimedBy (Err stops.WriteFault) way clock text = ⊥
IsTimedBy (Err stops.Memory) way clock text = Unit {0}
IsTimedBy (Err stops.ReadFault) way clock text = Unit {0}
