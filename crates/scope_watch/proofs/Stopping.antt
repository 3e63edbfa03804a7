-- Stops of a source and of a watcher.
use Rattle.std.proofs.Common.{◌≡◌, ◌≤◌, ◌-◌, ℕ, List, ◌++◌, length, Result, Err, refl, ap, subst, arith, length-append}
use Rattle.vcd_way.specs.Ways.{ValueRules}
use Rattle.vcd_way.specs.Events.{DumpEvent}
use Rattle.scope_watch.specs.declared.values.Ended.{Ended}
use Rattle.vcd_scan.specs.Wired.{Wiring}
use Rattle.vcd_scan.specs.Firsts.{IsFirstOf}
use Rattle.vcd_scan.specs.Ending.{told_to_end}
use Rattle.scope_watch.specs.declared.stop.ScopeStop.{ScopeStop}
use Rattle.scope_watch.specs.declared.stop.ScopeStop.TheVariants as stops
use Rattle.scope_watch.specs.declared.stop.WatchStop.{WatchStop}
use Rattle.scope_watch.specs.declared.stop.WatchStop.TheVariants as watches
use Rattle.scope_watch.specs.Stops.{IsStopOfReading, stop_of}
use Rattle.scope_watch.specs.Watching.{Finishes, IsStopOfWatching}

pub finishes-source : (stop : ScopeStop) (seen : List DumpEvent → Type 0) (most : ℕ) (m : ValueRules) (w : Wiring)
    (head fed : List ℕ) → IsStopOfReading stop → Finishes (Err stop) seen most m w head fed
finishes-source (stops.Bad fault) seen most m w head fed h = absurd h
finishes-source stops.NoHeader seen most m w head fed h = h
finishes-source stops.ReadFault seen most m w head fed h = tt
finishes-source stops.TooLong seen most m w head fed h = tt
finishes-source stops.TooMany seen most m w head fed h = absurd h
finishes-source stops.WriteFault seen most m w head fed h = tt
finishes-source stops.Memory seen most m w head fed h = tt

pub finishes-watcher : (stop : ScopeStop) (seen : List DumpEvent → Type 0) (most : ℕ) (m : ValueRules) (w : Wiring)
    (head fed : List ℕ) → IsStopOfWatching stop → (stop ≡ stops.TooMany → most ≤ length (told_to_end m w head fed))
    → Finishes (Err stop) seen most m w head fed
finishes-watcher (stops.Bad fault) seen most m w head fed h many = absurd h
finishes-watcher stops.NoHeader seen most m w head fed h many = h
finishes-watcher stops.ReadFault seen most m w head fed h many = tt
finishes-watcher stops.TooLong seen most m w head fed h many = tt
finishes-watcher stops.TooMany seen most m w head fed h many = many refl
finishes-watcher stops.WriteFault seen most m w head fed h many = tt
finishes-watcher stops.Memory seen most m w head fed h many = tt

-- an answer that is one stop is no other
abbrev pub answered : ScopeStop → Result Ended ScopeStop
answered stop = Err stop

pub same-stop : (a b : ScopeStop) → answered a ≡ answered b → a ≡ b
same-stop a b e = cc

pub not-long : (stop : ScopeStop) → IsStopOfWatching stop → answered stop ≡ answered stops.TooLong → ⊥
not-long stop h e = subst (λ x. IsStopOfWatching x) (same-stop stop stops.TooLong e) h

pub not-fault : (stop : ScopeStop) → IsStopOfWatching stop → answered stop ≡ answered stops.ReadFault → ⊥
not-fault stop h e = subst (λ x. IsStopOfWatching x) (same-stop stop stops.ReadFault e) h

-- the events that were shown are first ones of those of the text
pub many-stays : (n : ℕ) (h first all : List DumpEvent) → IsFirstOf first all → n ≤ length (h ++ first)
    → n - length h ≤ length all
many-stays n h first all f few =
    omega (arith, few, length-append h first, ap length f.whole, length-append first f.rest)

-- and at the end all of them
pub ended-many : (n : ℕ) (h all : List DumpEvent) → n ≤ length (h ++ all) → n - length h ≤ length all
ended-many n h all few = omega (arith, few, length-append h all)

pub finishes-stop : (stop : WatchStop) (seen : List DumpEvent → Type 0) (most : ℕ) (m : ValueRules) (w : Wiring)
    (head fed : List ℕ) → (stop ≡ watches.TooMany → most ≤ length (told_to_end m w head fed))
    → Finishes (Err (stop_of stop)) seen most m w head fed
finishes-stop watches.TooMany seen most m w head fed many = many refl
finishes-stop watches.WriteFault seen most m w head fed many = tt
finishes-stop watches.Memory seen most m w head fed many = tt

-- a watcher that stops so that the answer is a fault of writing stopped for one
abbrev pub failing : (X : Type 0) → ScopeStop → Result X ScopeStop
failing X stop = Err stop

pub was-write-fault : {X : Type 0} (stop : WatchStop) → failing X (stop_of stop) ≡ failing X stops.WriteFault
    → stop ≡ watches.WriteFault
was-write-fault watches.TooMany e = cc e
was-write-fault watches.WriteFault e = refl
was-write-fault watches.Memory e = cc e

pub was-too-many : {X : Type 0} (stop : WatchStop) → failing X (stop_of stop) ≡ failing X stops.TooMany
    → stop ≡ watches.TooMany
was-too-many watches.TooMany e = refl
was-too-many watches.WriteFault e = cc e
was-too-many watches.Memory e = cc e
