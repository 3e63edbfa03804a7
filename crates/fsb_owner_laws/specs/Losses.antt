-- Where the joint states of a line are lost: which of them a snoop end turns into no joint state of a coherent line.
use Rattle.std.specs.Prelude.{ℕ, nat_eq, Bool, true, ◌&&◌, not, if◌then◌else◌, List}
use Rattle.std.specs.List.{All, Contains, filter, list_any}
use Rattle.fsb_signal.specs.declared.lines.TheConstants.Lines.{HIT}
use Rattle.fsb_signal.specs.Samples.{line_at}
use Rattle.fsb_line.specs.declared.purpose.Purpose.{Purpose}
use Rattle.fsb_line.specs.declared.purpose.Purpose.TheVariants.{Own, Read, Upgrade, WriteBack}
use Rattle.fsb_line.specs.States.{is_sole}
use Rattle.fsb_trace.specs.At.{Trace}
use Rattle.fsb_trace.specs.Requests.{is_reply, live_request_of}
use Rattle.fsb_owners.specs.Joint.{Joint, agents, every_joint, has_other_holder, state_at}
use Rattle.fsb_owners.specs.Possible.{at_snoop_end, possible_shown}

-- each joint state of the set is one that a coherent line may have
abbrev pub AreCoherent : List Joint → Type 0
AreCoherent set = All (Contains every_joint) set

-- another agent has the line Exclusive or Modified
unfoldable pub has_other_sole : ℕ → Joint → Bool
has_other_sole agent joint = list_any (λ a. not (nat_eq a agent) && is_sole (state_at joint a)) agents

-- the others leave the line as this reply gives it: nobody else holds it where its agent is to have it alone, and nobody
-- else may store where its agent is to share it
unfoldable pub fits_reply : Bool → ℕ → Purpose → Joint → Bool
fits_reply hit asker Read joint = if hit then not (has_other_sole asker joint) else not (has_other_holder asker joint)
fits_reply hit asker Own joint = not (has_other_holder asker joint)
fits_reply hit asker Upgrade joint = not (has_other_holder asker joint)
fits_reply hit asker WriteBack joint = true

-- the joint states that the snoop end of live request j turns into others: of a request all, of a reply those that fit it
unfoldable pub turned_by : Trace → ℕ → ℕ → ℕ → Purpose → List Joint → List Joint
turned_by v c j asker kind set =
    if is_reply (live_request_of v j) then filter (fits_reply (line_at HIT v c) asker kind) set else set

-- those of the joint states left at c that a snoop end at c, if there is one, turns into others
unfoldable pub possible_turned : List Joint → Trace → ℕ → ℕ → List Joint
possible_turned first v line c = at_snoop_end v line c (turned_by v c) (possible_shown first v line c)
