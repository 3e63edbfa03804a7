-- The joint states that a line may have, clock by clock: those that fit what the wires have shown.
use Rattle.std.specs.Prelude.{ℕ, zero, suc, ◌+◌, Bool, ◌&&◌, not, if◌then◌else◌, List, Option, Some, None}
use Rattle.std.specs.List.{filter}
use Rattle.fsb_signal.specs.declared.lines.TheConstants.Lines.{HIT, HITM}
use Rattle.fsb_signal.specs.Samples.{line_at}
use Rattle.fsb_line.specs.declared.purpose.Purpose.{Purpose}
use Rattle.fsb_line.specs.declared.purpose.Purpose.TheVariants.{Own, Read, Upgrade, WriteBack}
use Rattle.fsb_line.specs.declared.purpose.Settled.{Settled}
use Rattle.fsb_line.specs.declared.purpose.Ruling.TheVariants.{Keep}
use Rattle.fsb_line.specs.declared.purpose.Settled.TheVariants.{Replied}
use Rattle.fsb_line.specs.declared.state.Mesi.{Mesi}
use Rattle.fsb_line.specs.States.{is_held, is_modified, settled_as, suits}
use Rattle.fsb_trace.specs.At.{Trace}
use Rattle.fsb_trace.specs.Requests.{is_reply, live_request_of}
use Rattle.fsb_owners.specs.Joint.{Joint, has_other_holder, has_other_owner, is_after_drops, is_after_snoop_end, is_after_stores, reached_by, state_at}
use Rattle.fsb_owners.specs.Shown.{agent_at, origin_clock_of, is_coming, is_turned, may_drop_at, names, purpose_at, is_for_line, snooped_at}

-- an agent with this state may ask so: a read for what it does not hold, a read and invalidate for what it has
-- neither Exclusive nor Modified, an upgrade for what it holds and may not store into, a write-back of what it has Modified
unfoldable pub may_ask : Purpose → Mesi → Bool
may_ask Read state = suits Read state
may_ask Own state = suits Own state
may_ask Upgrade state = suits Upgrade state && is_held state
may_ask WriteBack state = suits WriteBack state

-- the joint states in which this agent may ask so
unfoldable pub asking : Option ℕ → Option Purpose → List Joint → List Joint
asking None kind set = set
asking (Some a) None set = set
asking (Some a) (Some kind) set = filter (λ joint. may_ask kind (state_at joint a)) set

-- what a request for the line that begins at c leaves, once it is decoded
unfoldable pub after_begin : Trace → ℕ → ℕ → List Joint → List Joint
after_begin v line c set = if names v line c then asking (agent_at v c) (purpose_at v c) set else set

-- HIT# and HITM# are right of this joint state: HITM# exactly where another agent has the line Modified, and HIT# exactly
-- where none has and another holds it
unfoldable pub fits_answer : Bool → Bool → ℕ → Joint → Bool
fits_answer hit hitm asker joint =
    if has_other_owner asker joint then hitm && not hit
    else (if has_other_holder asker joint then hit && not hitm else not hit && not hitm)

-- the joint states that fit this snoop end. Of a write-back: its agent has the line Modified. Of another request: HIT# and
-- HITM# are right
unfoldable pub showing : Bool → Bool → ℕ → Purpose → List Joint → List Joint
showing hit hitm asker Read set = filter (fits_answer hit hitm asker) set
showing hit hitm asker Own set = filter (fits_answer hit hitm asker) set
showing hit hitm asker Upgrade set = filter (fits_answer hit hitm asker) set
showing hit hitm asker WriteBack set = filter (λ joint. is_modified (state_at joint asker)) set

-- how the request is settled, as its snoop end shows. A deferral counts as a retry: both change the others alike, and its
-- agent not
unfoldable pub settled_at_end : Bool → Bool → Purpose → Settled
settled_at_end hitm turned kind = settled_as kind hitm turned Keep

-- what a reply makes of the joint states: it shows nothing of the others
unfoldable pub replied_to : ℕ → Purpose → Bool → List Joint → List Joint
replied_to asker kind hit set = reached_by (is_after_snoop_end asker kind Replied hit) set

-- the joint states that live request j leaves at its snoop end c; a reply leaves all
unfoldable pub left_by : Trace → ℕ → ℕ → ℕ → Purpose → List Joint → List Joint
left_by v c j asker kind set =
    if is_reply (live_request_of v j) then set else showing (line_at HIT v c) (line_at HITM v c) asker kind set

-- the joint states after that snoop end
unfoldable pub made_by : Trace → ℕ → ℕ → ℕ → Purpose → List Joint → List Joint
made_by v c j asker kind set =
    if is_reply (live_request_of v j) then replied_to asker kind (line_at HIT v c) set
    else reached_by (is_after_snoop_end asker kind (settled_at_end (line_at HITM v c) (is_turned v j) kind) (line_at HIT v c)) set

-- a step by the agent and the kind of the request that counts at live request j, where both are known
unfoldable pub by_request : Trace → ℕ → (ℕ → Purpose → List Joint → List Joint) → List Joint → List Joint
by_request v j step set =
    elim (origin_clock_of v j) [
      | None ↦ set
      | Some q ↦ elim (agent_at v q) [ None ↦ set | Some a ↦ elim (purpose_at v q) [ None ↦ set | Some kind ↦ step a kind set ] ]
    ]

-- a step by the live request for the line whose snoop ends at c, if there is one
unfoldable pub at_snoop_end : Trace → ℕ → ℕ → (ℕ → ℕ → Purpose → List Joint → List Joint) → List Joint → List Joint
at_snoop_end v line c step set =
    elim (snooped_at v c) [ None ↦ set | Some j ↦ if is_for_line v line j then by_request v j (step j) set else set ]

-- what a snoop end at c leaves
unfoldable pub after_answer : Trace → ℕ → ℕ → List Joint → List Joint
after_answer v line c set = at_snoop_end v line c (left_by v c) set

-- what it then turns these into
unfoldable pub after_snoop_end : Trace → ℕ → ℕ → List Joint → List Joint
after_snoop_end v line c set = at_snoop_end v line c (made_by v c) set

-- nobody sees stores and drops. An agent may store into an Exclusive copy from the end of its bytes on, which shows a clock
-- later. It may drop a clean copy at any clock at which it waits for nothing on the line
unfoldable pub after_unseen : Trace → ℕ → ℕ → List Joint → List Joint
after_unseen v line c set =
    reached_by (is_after_drops (may_drop_at v line c))
    (reached_by (is_after_stores (λ a. not (is_coming v line a (c + 1)))) set)

-- the joint states after clock c, from those before it
unfoldable pub after_clock : Trace → ℕ → ℕ → List Joint → List Joint
after_clock v line c set =
    after_unseen v line c (after_snoop_end v line c (after_answer v line c (after_begin v line c set)))

-- the joint states that the line may have before clock c, where these are possible at first
unfoldable pub possible : List Joint → Trace → ℕ → ℕ → List Joint
possible first v line zero = first
possible first v line (suc c) = after_clock v line c (possible first v line c)

-- those left by a request that begins at c
unfoldable pub possible_begun : List Joint → Trace → ℕ → ℕ → List Joint
possible_begun first v line c = after_begin v line c (possible first v line c)

-- those left by a snoop end at c as well
unfoldable pub possible_shown : List Joint → Trace → ℕ → ℕ → List Joint
possible_shown first v line c = after_answer v line c (possible_begun first v line c)
