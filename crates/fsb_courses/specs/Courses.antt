-- A course of one line: the states that four agents have of it, clock by clock, as the machine of a line moves them under what
-- the wires show. It speaks of one joint state at a time, and of one agent.
use Rattle.std.specs.Prelude.{◌≡◌, ◌≢◌, ◌<◌, ◌≤◌, ◌⊎◌, ℕ, ◌+◌, nat_eq, Bool, true, false, ◌||◌, if◌then◌else◌, List, map, length, Option, Some, None}
use Rattle.std.specs.List.{Contains}
use Rattle.std.specs.Option.{option_and_then, option_map}
use Rattle.fsb_signal.specs.declared.lines.TheConstants.Lines.{HIT, HITM}
use Rattle.fsb_signal.specs.Samples.{line_at}
use Rattle.fsb_line.specs.declared.purpose.Purpose.{Purpose}
use Rattle.fsb_line.specs.declared.purpose.Purpose.TheVariants.{Own, Read, Upgrade, WriteBack}
use Rattle.fsb_line.specs.declared.purpose.Settled.{Settled}
use Rattle.fsb_line.specs.declared.purpose.Settled.TheVariants.{Replied}
use Rattle.fsb_line.specs.declared.state.Mesi.{Mesi}
use Rattle.fsb_line.specs.declared.state.Mesi.TheVariants.{Exclusive, Invalid, Modified}
use Rattle.fsb_line.specs.States.{is_held, is_modified, is_sole, state_after}
use Rattle.fsb_trace.specs.At.{Trace}
use Rattle.fsb_trace.specs.Requests.{is_reply, live_request_of}
use Rattle.fsb_owners.specs.Joint.{Joint, agents, state_at}
use Rattle.fsb_owners.specs.Possible.{fits_answer, may_ask, settled_at_end}
use Rattle.fsb_owners.specs.Shown.{agent_at, asks, is_coming, is_for_line, is_turned, may_drop_at, origin_clock_of, purpose_at, snooped_at}

-- four agents. Who has the line Exclusive or Modified has it alone
pub record HasOneWriter (joint : Joint) : Type 0 where
  pub four : length joint ≡ 4
  pub alone : (a b : ℕ) → a < 4 → b < 4 → a ≢ b → is_sole (state_at joint a) ≡ true →
      is_held (state_at joint b) ≡ false

-- a snoop end, as it counts for a line: the number of the live request whose snoop ends, and who asked for the line and how;
-- of a reply that is the request that it answers
pub record LineSnoop : Type 0 where
  pub number : ℕ
  pub asker : ℕ
  pub kind : Purpose

-- the snoop end of live request j, where the request that counts begins at q
unfoldable pub line_snoop_by : Trace → ℕ → ℕ → Option LineSnoop
line_snoop_by v j q =
    option_and_then (λ a. option_map {U = LineSnoop} (λ kind. record { number = j; asker = a; kind = kind }) (purpose_at v q))
    (agent_at v q)

-- the snoop end at c of a request for the line, or of the reply to one
unfoldable pub line_snoop_at : Trace → ℕ → ℕ → Option LineSnoop
line_snoop_at v line c =
    option_and_then (λ j. if is_for_line v line j then option_and_then (line_snoop_by v j) (origin_clock_of v j) else None)
    (snooped_at v c)

-- the agents answer so in this joint state. To a write-back: its agent has the line Modified. To another request: HITM# stands
-- exactly where another agent has the line Modified, and HIT# exactly where none has and another one holds it
unfoldable pub fits_snoop : Bool → Bool → ℕ → Purpose → Joint → Bool
fits_snoop hit hitm asker Read joint = fits_answer hit hitm asker joint
fits_snoop hit hitm asker Own joint = fits_answer hit hitm asker joint
fits_snoop hit hitm asker Upgrade joint = fits_answer hit hitm asker joint
fits_snoop hit hitm asker WriteBack joint = is_modified (state_at joint asker)

-- what stands at the snoop end at c, if there is one, is what the agents answer; a reply snoops nobody
abbrev pub answers_rightly : Trace → ℕ → Option LineSnoop → Joint → Bool
answers_rightly v c None joint = true
answers_rightly v c (Some s) joint =
    is_reply (live_request_of v s.number) || fits_snoop (line_at HIT v c) (line_at HITM v c) s.asker s.kind joint

-- how the machine of a line settles the request at this snoop end. A deferral counts as a retry: both leave their agent's state
unfoldable pub settled_at_snoop : Trace → ℕ → LineSnoop → Settled
settled_at_snoop v c s =
    if is_reply (live_request_of v s.number) then Replied
    else settled_at_end (line_at HITM v c) (is_turned v s.number) s.kind

-- what that snoop end makes of the state of agent b
unfoldable pub state_after_snoop : Trace → ℕ → LineSnoop → Joint → ℕ → Mesi
state_after_snoop v c s joint b = state_after (state_at joint b) (nat_eq b s.asker) s.kind (settled_at_snoop v c s) (line_at HIT v c)

-- the joint state behind the snoop end at c, if there is one
abbrev pub joint_after_snoop : Trace → ℕ → Option LineSnoop → Joint → Joint
joint_after_snoop v c None joint = joint
joint_after_snoop v c (Some s) joint = map (state_after_snoop v c s joint) agents

-- the agent has stored into the line that it has Exclusive, and whose bytes have come
pub record HasStored (v : Trace) (line c b : ℕ) (from to : Mesi) : Type 0 where
  pub exclusive : from ≡ Exclusive
  pub ready : is_coming v line b (c + 1) ≡ false
  pub modified : to ≡ Modified

-- the agent has dropped its clean copy, while it waits for nothing on the line
pub record HasDropped (v : Trace) (line c b : ℕ) (from to : Mesi) : Type 0 where
  pub clean : is_modified from ≡ false
  pub idle : may_drop_at v line c b ≡ true
  pub gone : to ≡ Invalid

-- what nobody sees of an agent in a clock: it keeps its state, or it stores, or it drops its copy
abbrev pub MayMove : Trace → ℕ → ℕ → ℕ → Mesi → Mesi → Type 0
MayMove v line c b from to = (from ≡ to) ⊎ (HasStored v line c b from to ⊎ HasDropped v line c b from to)

-- clock c takes the line from one joint state to the next. Who begins a request for it may ask so. What stands at a snoop end is
-- what the agents answer, and who may write has the line alone behind it. Then each agent moves on unseen
pub record IsStep (v : Trace) (line c : ℕ) (before after : Joint) : Type 0 where
  pub asked : (a : ℕ) (kind : Purpose) → asks v line a c ≡ true → purpose_at v c ≡ Some kind →
      may_ask kind (state_at before a) ≡ true
  pub answered : answers_rightly v c (line_snoop_at v line c) before ≡ true
  pub one_writer : HasOneWriter (joint_after_snoop v c (line_snoop_at v line c) before)
  pub moves : (b : ℕ) → b < 4 →
      MayMove v line c b (state_at (joint_after_snoop v c (line_snoop_at v line c) before) b) (state_at after b)

-- a course of the line through n clocks: a joint state before each of them and one behind the last. It begins with one of the
-- first joint states, who may write has the line alone throughout, and each clock takes it on
pub record IsCourse (first : List Joint) (v : Trace) (line n : ℕ) (course : ℕ → Joint) : Type 0 where
  pub begins : Contains first (course 0)
  pub one_writer : (c : ℕ) → c ≤ n → HasOneWriter (course c)
  pub goes_on : (c : ℕ) → c < n → IsStep v line c (course c) (course (c + 1))

-- there is such a course
pub record HasCourse (first : List Joint) (v : Trace) (line n : ℕ) : Type 0 where
  pub course : ℕ → Joint
  pub is_course : IsCourse first v line n course

-- there is such a course that ends with this joint state
pub record HasCourseTo (first : List Joint) (v : Trace) (line n : ℕ) (joint : Joint) : Type 0 where
  pub course : ℕ → Joint
  pub is_course : IsCourse first v line n course
  pub ends : course n ≡ joint
