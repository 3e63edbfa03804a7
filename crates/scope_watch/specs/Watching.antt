-- What was read of values, and shown.
use Rattle.std.specs.Prelude.{◌≡◌, ◌<◌, ◌≤◌, ◌^◌, ◌⊎◌, ℕ, List, [], ◌++◌, length, Option, Some, None, option_map, Result, Ok, Err}
use Rattle.vcd_grammar.specs.declared.fault.VcdFault.{VcdFault}
use Rattle.vcd_way.specs.Declarations.{Declaration}
use Rattle.vcd_way.specs.Ways.{ValueRules, Way}
use Rattle.vcd_way.specs.Answers.{first_fault_by, early_end_by, events_by}
use Rattle.vcd_way.specs.Wide.{wide_rules}
use Rattle.vcd_way.specs.Events.{DumpEvent}
use Rattle.vcd_scan.specs.declared.reader.ValueReader.{ValueReader}
use Rattle.vcd_scan.specs.declared.stop.ScanStop.{ScanStop}
use Rattle.vcd_scan.specs.declared.stop.ScanStop.TheVariants as scans
use Rattle.vcd_scan.specs.Wired.{Wiring}
use Rattle.vcd_scan.specs.Standing.{Stands, refusal_of, rules_of, wiring_of, events_of}
use Rattle.vcd_scan.specs.Standing.{tokens_after, last_tokens_after, known_after, told_after, limit_after}
use Rattle.vcd_scan.specs.Ending.{early_told, early_end_after, fault_to_end, told_to_end}
use Rattle.scope_watch.specs.declared.stop.ScopeStop.{ScopeStop}
use Rattle.scope_watch.specs.declared.stop.ScopeStop.TheVariants as stops
use Rattle.scope_watch.specs.declared.values.Sampling.{Sampling}
use Rattle.scope_watch.specs.declared.values.Ended.{Ended}
use Rattle.scope_watch.specs.Limit.{IsLimit}

-- the rules by which a dump of any tool is read, where it is sampled so
abbrev pub rules_for : Sampling → ValueRules
rules_for s = record wide_rules {
  edge = s.edge;
  takes_first = s.takes_first;
  late = s.late.items;
}

-- some of the first bytes behind a header show this fault to a reader of these wires
pub record ShowsFaultBehind (m : ValueRules) (w : Wiring) (head fed : List ℕ) (fault : VcdFault) : Type 0 where
  pub some : List ℕ
  pub more : List ℕ
  pub whole : fed ≡ some ++ more
  pub first : (known_after m w (tokens_after head some)).fault ≡ Some fault

-- a reader that has refused so has read a fault
abbrev pub Refuses : ValueRules → Wiring → List ℕ → List ℕ → Option ScanStop → Type 0
Refuses m w head fed None = Unit {0}
Refuses m w head fed (Some (scans.Bad fault)) = ShowsFaultBehind m w head fed fault
Refuses m w head fed (Some scans.Memory) = ⊥

-- a reader by these rules and wires stands for these bytes behind a header; what they tell was seen and taken away, and
-- a fault is one of them
pub record Seen (seen : List DumpEvent → Type 0) (m : ValueRules) (w : Wiring) (r : ValueReader) (head fed : List ℕ) : Type 0 where
  pub rules : rules_of r ≡ m
  pub wiring : wiring_of r ≡ w
  pub stands : Stands r head fed
  pub taken : refusal_of r ≡ None → events_of r ≡ []
  pub shown : refusal_of r ≡ None → seen (told_after m w (tokens_after head fed))
  pub refused : Refuses m w head fed (refusal_of r)

-- a stop of the watcher, or for want of memory
abbrev pub IsStopOfWatching : ScopeStop → Type 0
IsStopOfWatching (stops.Bad fault) = ⊥
IsStopOfWatching stops.NoHeader = ⊥
IsStopOfWatching stops.ReadFault = ⊥
IsStopOfWatching stops.TooLong = ⊥
IsStopOfWatching stops.TooMany = Unit {0}
IsStopOfWatching stops.WriteFault = Unit {0}
IsStopOfWatching stops.Memory = Unit {0}

-- the text ends well behind these bytes, or so early, this limit is told there, and all that it tells was seen
pub record EndsWell (ended : Ended) (seen : List DumpEvent → Type 0) (m : ValueRules) (w : Wiring) (head fed : List ℕ) : Type 0 where
  pub none : fault_to_end m w head fed ≡ None
  pub early_end : option_map early_told ended.early_end ≡ early_end_after m w head fed
  pub limit : ended.limit ≡ limit_after m w (last_tokens_after head fed)
  pub shown : seen (told_to_end m w head fed)

-- the text has a fault behind its header: some of its bytes show it, or it ends there
abbrev pub EndsBadly : ValueRules → Wiring → List ℕ → List ℕ → VcdFault → Type 0
EndsBadly m w head fed fault =
    ShowsFaultBehind m w head fed fault
    ⊎ (fault_to_end m w head fed ≡ Some fault)

-- what is answered of a text that ends behind these bytes; a watcher counts no more where there are so many events
abbrev pub Finishes : Result Ended ScopeStop → (List DumpEvent → Type 0) → ℕ → ValueRules → Wiring → List ℕ → List ℕ → Type 0
Finishes (Ok ended) seen most m w head fed = EndsWell ended seen m w head fed
Finishes (Err (stops.Bad fault)) seen most m w head fed = EndsBadly m w head fed fault
Finishes (Err stops.NoHeader) seen most m w head fed = ⊥
Finishes (Err stops.TooMany) seen most m w head fed = most ≤ length (told_to_end m w head fed)
Finishes (Err stops.WriteFault) seen most m w head fed = Unit {0}
Finishes (Err stops.Memory) seen most m w head fed = Unit {0}
Finishes (Err stops.ReadFault) seen most m w head fed = Unit {0}
Finishes (Err stops.TooLong) seen most m w head fed = Unit {0}

-- a stop at the end of a text
abbrev pub IsStopOfEnd : ScopeStop → Type 0
IsStopOfEnd (stops.Bad fault) = Unit {0}
IsStopOfEnd stops.NoHeader = ⊥
IsStopOfEnd stops.ReadFault = ⊥
IsStopOfEnd stops.TooLong = ⊥
IsStopOfEnd stops.TooMany = Unit {0}
IsStopOfEnd stops.WriteFault = Unit {0}
IsStopOfEnd stops.Memory = Unit {0}

-- a whole text, read in a way whose events are shown, has no fault, and this early end and this limit, if one
pub record IsRead (ended : Ended) (seen : List DumpEvent → Type 0) (way : Way (List Declaration)) (text : List ℕ) : Type 0 where
  pub none : first_fault_by way text ≡ None
  pub early_end : option_map early_told ended.early_end ≡ early_end_by way text
  pub limit : IsLimit way text ended.limit
  pub shown : seen (events_by way text)

-- what is answered of a whole text, read in a way whose events are shown to a watcher that counts no more where there
-- are so many
abbrev pub IsWatched : Result Ended ScopeStop → (List DumpEvent → Type 0) → ℕ → Way (List Declaration) → List ℕ → Type 0
IsWatched (Ok ended) seen most way text = IsRead ended seen way text
IsWatched (Err (stops.Bad fault)) seen most way text = first_fault_by way text ≡ Some fault
IsWatched (Err stops.NoHeader) seen most way text = ⊥
IsWatched (Err stops.TooLong) seen most way text = 2 ^ 40 < length text
IsWatched (Err stops.TooMany) seen most way text = most ≤ length (events_by way text)
IsWatched (Err stops.WriteFault) seen most way text = Unit {0}
IsWatched (Err stops.Memory) seen most way text = Unit {0}
IsWatched (Err stops.ReadFault) seen most way text = Unit {0}
