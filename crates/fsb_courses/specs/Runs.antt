-- Runs of the machine of a line that fit the wires, clock by clock.
use Rattle.std.specs.Prelude.{◌≡◌, ◌<◌, ◌≤◌, ℕ, ◌+◌, true, false, List, [], ◌∷◌, map, length, take, Option, Some, None}
use Rattle.std.specs.List.{Contains}
use Rattle.fsb_signal.specs.declared.lines.TheConstants.Lines.{HIT, HITM}
use Rattle.fsb_signal.specs.Samples.{line_at}
use Rattle.fsb_line.specs.declared.purpose.Purpose.{Purpose}
use Rattle.fsb_line.specs.Coherence.{IsCoherent}
use Rattle.fsb_line.specs.Events.{Event, May, after}
use Rattle.fsb_line.specs.Events.Event.{Drops, Stores}
use Rattle.fsb_line.specs.Line.{MemoryLine}
use Rattle.fsb_line.specs.LineRuns.{MayRun, run}
use Rattle.fsb_trace.specs.At.{Trace}
use Rattle.fsb_trace.specs.Requests.{is_reply, live_request_of}
use Rattle.fsb_owners.specs.Joint.{Joint, agents, state_at}
use Rattle.fsb_owners.specs.Possible.{may_ask}
use Rattle.fsb_owners.specs.Shown.{asks, is_coming, is_spoiled, is_turned, may_drop_at, purpose_at}
use Rattle.fsb_courses.specs.Courses.{LineSnoop, answers_rightly, line_snoop_at}
use Rattle.fsb_courses.specs.Turns.{WaitTheirTurn}
use Rattle.fsb_courses.specs.Machine.{MachineSnoop, changes_no_state, machine_snoop}

-- the states of four agents
abbrev pub states_of : MemoryLine → Joint
states_of x = map x.state agents

-- the events leave the states as they are: accesses that load, requests that begin or are cancelled, responses and ends
abbrev pub AllStill : List Event → Type 0
AllStill [] = Unit {0}
AllStill (e ∷ es) = (changes_no_state e ≡ true) × AllStill es

-- at c an agent stores only where its bytes have come, drops only where it waits for nothing, and no other event changes a state
abbrev pub KeepsGuards : Trace → ℕ → ℕ → Event → Type 0
KeepsGuards v line c (Stores a change) = is_coming v line a (c + 1) ≡ false
KeepsGuards v line c (Drops a) = may_drop_at v line c a ≡ true
KeepsGuards v line c e = changes_no_state e ≡ true

abbrev pub AllKeepGuards : Trace → ℕ → ℕ → List Event → Type 0
AllKeepGuards v line c [] = Unit {0}
AllKeepGuards v line c (e ∷ es) = KeepsGuards v line c e × AllKeepGuards v line c es

-- the snoop end, as the wires show it at c
abbrev pub shown_as : Trace → ℕ → LineSnoop → MachineSnoop
shown_as v c s = record {
  asker = s.asker;
  kind = s.kind;
  is_reply = is_reply (live_request_of v s.number);
  hitm = line_at HITM v c;
  turned = is_turned v s.number;
  hit = line_at HIT v c;
}

-- an event that may happen and is this snoop end takes the line from x to y; where there is none, nothing happens
abbrev pub SnoopsAs : Trace → ℕ → Option LineSnoop → MemoryLine → MemoryLine → Type 0
SnoopsAs v c None x y = x ≡ y
SnoopsAs v c (Some s) x y =
    (e : Event) × May x e × (machine_snoop x e (line_at HIT v c) ≡ Some (shown_as v c s)) × (after x e ≡ y)

-- events that may happen take the line through clock c, as the wires show it: first some that leave the states; then the snoop
-- end; then stores and drops that keep the guards, among events that leave the states. Who begins a request may ask so. The
-- events that leave the states need not be those of the wires
pub record FitsClock (v : Trace) (line c : ℕ) (before after : MemoryLine) : Type 0 where
  pub early : List Event
  pub early_may : MayRun before early
  pub early_still : AllStill early
  pub asked : (a : ℕ) (kind : Purpose) → asks v line a c ≡ true → purpose_at v c ≡ Some kind →
      may_ask kind (state_at (states_of before) a) ≡ true
  pub answered : answers_rightly v c (line_snoop_at v line c) (states_of before) ≡ true
  pub snooped : MemoryLine
  pub snoops : SnoopsAs v c (line_snoop_at v line c) (run before early) snooped
  pub coherent : IsCoherent snooped
  pub late : List Event
  pub late_may : MayRun snooped late
  pub late_guarded : AllKeepGuards v line c late
  pub ends : run snooped late ≡ after

-- a run of the machine through n clocks, with the line before each of them, fits the wires, and is always coherent
pub record FitsWires (first : List Joint) (v : Trace) (line n : ℕ) (lines : ℕ → MemoryLine) : Type 0 where
  pub begins : Contains first (states_of (lines 0))
  pub coherent : (c : ℕ) → c ≤ n → IsCoherent (lines c)
  pub goes_on : (c : ℕ) → c < n → FitsClock v line c (lines c) (lines (c + 1))

-- there is such a run
pub record HasRun (first : List Joint) (v : Trace) (line n : ℕ) : Type 0 where
  pub lines : ℕ → MemoryLine
  pub fits : FitsWires first v line n lines

-- up to each clock, the requests for each line wait for their turn and a run of the machine fits the wires, unless a request for
-- the line failed hard
abbrev pub IsMadeByMachines : List Joint → Trace → Type 0
IsMadeByMachines first w =
    (c line : ℕ) → c < length w → is_spoiled (take (c + 1) w) line ≡ false
    → WaitTheirTurn (take (c + 1) w) line c × HasRun first (take (c + 1) w) line (c + 1)
