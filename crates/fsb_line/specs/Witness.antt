-- Worked runs, as lists of events.
use Rattle.std.specs.Prelude.{ℕ, true, false, List, [], ◌∷◌, ◌++◌}
use Rattle.fsb_line.specs.declared.purpose.Purpose.TheVariants.{Own, Read, Upgrade, WriteBack}
use Rattle.fsb_line.specs.Coherence.{IsCoherent}
use Rattle.fsb_line.specs.Events.{Event, May, after}
use Rattle.fsb_line.specs.Events.Event.{Begins, Drops, Ends, IsCancelled, IsDeferred, IsGranted, IsHanded, IsLost, IsReplied, IsRetried, IsUpgraded, IsWritten, Loads, Responds, Stores}
use Rattle.fsb_line.specs.Line.{Bytes, unheld}
use Rattle.fsb_line.specs.LineRuns.{MayRun, run}

-- a line of one byte is enough to tell stores apart
abbrev pub byte : ℕ → Bytes
byte n = n ∷ []

-- a store of that byte
abbrev pub stores : ℕ → Bytes → Bytes
stores n bytes = byte n

-- no store
abbrev pub as_it_is : Bytes → Bytes
as_it_is bytes = bytes

-- agents 0 and 1 ask to own the line and agent 2 to read it, and all three snoop ends come before any byte
abbrev pub promises : List Event
promises = Begins 0 Own 0 ∷ Begins 1 Own 1 ∷ Begins 2 Read 2 ∷ IsGranted 0 Own false ∷ IsHanded 1 Own 0 ∷ IsHanded 2 Read 1 ∷ []

-- then the bytes come: both owners store, and the reader reads what the second one stored
abbrev pub deliveries : List Event
deliveries = Responds ∷ Ends (stores 5) ∷ Responds ∷ Ends (stores 7) ∷ Responds ∷ Ends as_it_is ∷ Loads 2 ∷ []

-- agent 0 asks to own the line and is deferred; agent 1 asks to read the pending line and is retried; the reply gives the line to agent 0, and agent 1 asks again and is promised it before agent 0 has it
abbrev pub deferral : List Event
deferral =
    Begins 0 Own 0 ∷ IsDeferred 0 Own false ∷ Begins 1 Read 1 ∷ IsRetried 1 Read ∷ IsReplied ∷ Begins 1 Read 2 ∷ IsHanded 1 Read 0
    ∷ Responds ∷ Ends (stores 5) ∷ Responds ∷ Ends as_it_is ∷ Loads 1 ∷ []

-- agents 0 and 1 read the line, one after the other, and share it
abbrev pub sharing : List Event
sharing =
    Begins 0 Read 0 ∷ IsGranted 0 Read false ∷ Responds ∷ Ends as_it_is
    ∷ Begins 1 Read 1 ∷ IsGranted 1 Read true ∷ Responds ∷ Ends as_it_is ∷ []

-- both ask to upgrade. Agent 0 wins, and promises the line to agent 1 before its own upgrade has ended; agent 1 gets it with its bytes
abbrev pub upgrade_race : List Event
upgrade_race =
    Begins 0 Upgrade 2 ∷ Begins 1 Upgrade 3 ∷ IsUpgraded 0 ∷ IsHanded 1 Upgrade 0
    ∷ Ends (stores 5) ∷ Responds ∷ Ends (stores 7) ∷ Loads 1 ∷ []

-- agent 0 asks to own the line and is to try again, but its request took the line from agent 1, whose upgrade is lost; agent 1 asks to own the line instead
abbrev pub lost_upgrade : List Event
lost_upgrade =
    Begins 0 Own 2 ∷ Begins 1 Upgrade 3 ∷ IsRetried 0 Own ∷ IsLost 1
    ∷ Begins 1 Own 4 ∷ IsGranted 1 Own true ∷ Responds ∷ Ends (stores 7) ∷ Loads 1 ∷ []

-- agent 0 stores and writes the line back, while agent 1 asks to read it; a request of agent 2 is cancelled; and agent 1 drops the line in the end
abbrev pub write_back : List Event
write_back =
    Begins 0 Own 0 ∷ IsGranted 0 Own false ∷ Responds ∷ Ends (stores 5) ∷ Stores 0 (stores 7)
    ∷ Begins 0 WriteBack 1 ∷ Begins 1 Read 2 ∷ Begins 2 Own 3 ∷ IsCancelled 2 ∷ IsWritten 0 ∷ IsGranted 1 Read false
    ∷ Responds ∷ Ends as_it_is ∷ Responds ∷ Ends as_it_is ∷ Loads 1 ∷ Drops 1 ∷ []

-- agent 0 owns the line and has stored into it
abbrev pub owned : List Event
owned = Begins 0 Own 0 ∷ IsGranted 0 Own false ∷ Responds ∷ Ends (stores 5) ∷ []

-- agent 0 is to own the line, and its bytes haven't come
abbrev pub awaited : List Event
awaited = Begins 0 Own 0 ∷ IsGranted 0 Own false ∷ []

-- agent 1 asks to read the line
abbrev pub reader : List Event
reader = Begins 1 Read 1 ∷ []

-- agent 1 asks to own it
abbrev pub rival : List Event
rival = Begins 1 Own 1 ∷ []

-- agent 0 has lost the line to agent 1, whose bytes haven't come
abbrev pub taken_over : List Event
taken_over = owned ++ (Begins 1 Own 1 ∷ IsHanded 1 Own 0 ∷ [])

-- agent 0 is to own the line, by a reply that hasn't come, and agent 1 asks to own it too
abbrev pub deferred : List Event
deferred = Begins 0 Own 0 ∷ IsDeferred 0 Own false ∷ Begins 1 Own 1 ∷ []

-- agents 0 and 1 share the line, and the upgrade of agent 1 finds it taken by a request of agent 0 that is to be made again
abbrev pub contest : List Event
contest = sharing ++ (Begins 0 Own 2 ∷ Begins 1 Upgrade 3 ∷ IsRetried 0 Own ∷ [])

-- a condition is needed: after events that may happen it refuses an event, and if that one happened all the same, the line would be incoherent after events that may happen then
pub record IsNeeded (before : List Event) (refused : Event) (later : List Event) : Type 0 where
  pub happens : MayRun (unheld (byte 0)) before
  pub refuses : ¬ May (run (unheld (byte 0)) before) refused
  pub goes_on : MayRun (after (run (unheld (byte 0)) before) refused) later
  pub breaks : ¬ IsCoherent (run (after (run (unheld (byte 0)) before) refused) later)
