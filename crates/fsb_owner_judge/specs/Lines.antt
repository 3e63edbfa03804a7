-- What is kept of all lines, and what it says of a trace.
use Rattle.std.specs.Prelude.{◌≡◌, ℕ, Bool, false, nat_eq, is_some, if◌then◌else◌, List, [], ◌∷◌, Option}
use Rattle.std.specs.List.{list_any}
use Rattle.steady_map.specs.Entries.{get}
use Rattle.fsb_trace.specs.At.{Trace}
use Rattle.fsb_owners.specs.Joint.{Joint}
use Rattle.fsb_owners.specs.Possible.{after_clock, possible}
use Rattle.fsb_owners.specs.Shown.{is_spoiled}
use Rattle.fsb_joint.specs.Sets.{joints_of}
use Rattle.fsb_joint.specs.Lines.{set_of_line}
use Rattle.fsb_joint.specs.LineClock.{droppable_at, ready_at}
use Rattle.fsb_owner_judge.specs.declared.sights.Asking.{Asking}
use Rattle.fsb_owner_judge.specs.declared.sights.LineEnd.{LineEnd}
use Rattle.fsb_owner_judge.specs.declared.sights.Waiting.{Waiting}
use Rattle.fsb_owner_judge.specs.declared.lines.OwnerLines.{OwnerLines}
use Rattle.fsb_owner_judge.specs.Sights.{asking_at, line_end_at}

-- the joint states that are kept of the line
abbrev pub kept_of : OwnerLines → ℕ → List Joint
kept_of lines line = joints_of (set_of_line lines.sets line)

-- the line is kept as spoiled
abbrev pub is_kept_spoiled : OwnerLines → ℕ → Bool
is_kept_spoiled lines line = is_some (get lines.spoiled line)

-- of each line these joint states are possible before clock c
abbrev pub Follows : OwnerLines → List Joint → Trace → ℕ → Type 0
Follows lines first v c = (line : ℕ) → kept_of lines line ≡ possible first v line c

-- exactly the spoiled lines of the trace are kept as spoiled
abbrev pub KnowsSpoiled : OwnerLines → Trace → Type 0
KnowsSpoiled lines v = (line : ℕ) → is_kept_spoiled lines line ≡ is_spoiled v line

-- the line is one of these
abbrev pub is_waiting : List Waiting → ℕ → Bool
is_waiting waits line = list_any (λ w. nat_eq w.line line) waits

-- each of these lines stands once, with the agents whose bytes have come and those that wait for nothing at c
abbrev pub ShowWaits : Trace → ℕ → List Waiting → Type 0
ShowWaits v c [] = Unit
ShowWaits v c (w ∷ ws) =
    ((is_waiting ws w.line ≡ false) × (w.ready ≡ ready_at v w.line c) × (w.may_drop ≡ droppable_at v w.line c))
    × ShowWaits v c ws

-- what clock c shows: a request that begins, a snoop end, and lines on which somebody waits
pub record ShowsClock (v : Trace) (c : ℕ) (begun : Option Asking) (ended : Option LineEnd) (waits : List Waiting) : Type 0 where
  pub begins : begun ≡ asking_at v c
  pub ends : ended ≡ line_end_at v c
  pub waiting : ShowWaits v c waits

-- the joint states after the clock, of a line that is walked or is not
abbrev pub walked : Trace → ℕ → ℕ → Bool → List Joint → List Joint
walked v c line is_walked set = if is_walked then after_clock v line c set else set
