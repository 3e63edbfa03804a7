-- A snoop end of the machine of a line, in the words of a course.
use Rattle.std.specs.Prelude.{ℕ, nat_eq, Bool, true, false, if◌then◌else◌, Option, Some, None}
use Rattle.std.specs.Option.{option_map}
use Rattle.fsb_line.specs.declared.purpose.Purpose.{Purpose}
use Rattle.fsb_line.specs.declared.purpose.Purpose.TheVariants.{Upgrade, WriteBack}
use Rattle.fsb_line.specs.declared.purpose.Settled.TheVariants.{Replied}
use Rattle.fsb_line.specs.declared.state.Mesi.{Mesi}
use Rattle.fsb_line.specs.States.{state_after}
use Rattle.fsb_line.specs.Events.{Event}
use Rattle.fsb_line.specs.Events.Event.{Begins, Ends, IsCancelled, Loads, Responds}
use Rattle.fsb_line.specs.Events.Event.{IsDeferred, IsGranted, IsHanded, IsLost, IsReplied, IsRetried, IsUpgraded, IsWritten}
use Rattle.fsb_line.specs.Line.{LineDeferral, MemoryLine}
use Rattle.fsb_owners.specs.Possible.{settled_at_end}

-- who asked for the line and how, whether it is the snoop end of a reply, and what stands there: HITM#, that the request is
-- turned away by DEFER#, and HIT#
pub record MachineSnoop : Type 0 where
  pub asker : ℕ
  pub kind : Purpose
  pub is_reply : Bool
  pub hitm : Bool
  pub turned : Bool
  pub hit : Bool

-- the snoop end of a request
unfoldable pub of_asker : ℕ → Purpose → Bool → Bool → Bool → MachineSnoop
of_asker a kind hitm turned hit =
    record { asker = a; kind = kind; is_reply = false; hitm = hitm; turned = turned; hit = hit }

-- the snoop end of the reply to a request
unfoldable pub of_deferral : LineDeferral → MachineSnoop
of_deferral d = record { asker = d.agent; kind = d.kind; is_reply = true; hitm = false; turned = false; hit = d.shared }

-- the snoop end that the event is, where HIT# stands so; none where it is another event. What HIT# says counts where the memory
-- gives the line, now or by a reply
unfoldable pub machine_snoop : MemoryLine → Event → Bool → Option MachineSnoop
machine_snoop x (IsWritten a) hit = Some (of_asker a WriteBack false false hit)
machine_snoop x (IsHanded a kind owner) hit = Some (of_asker a kind true false hit)
machine_snoop x (IsGranted a kind shared) hit = Some (of_asker a kind false false shared)
machine_snoop x (IsUpgraded a) hit = Some (of_asker a Upgrade false false hit)
machine_snoop x (IsLost a) hit = Some (of_asker a Upgrade false false hit)
machine_snoop x (IsRetried a kind) hit = Some (of_asker a kind false true hit)
machine_snoop x (IsDeferred a kind shared) hit = Some (of_asker a kind false true shared)
machine_snoop x IsReplied hit = option_map {U = MachineSnoop} of_deferral x.deferral
machine_snoop x _ hit = None

-- the event is no snoop end, no store and no drop
unfoldable pub changes_no_state : Event → Bool
changes_no_state (Loads a) = true
changes_no_state (Begins a kind number) = true
changes_no_state (IsCancelled a) = true
changes_no_state Responds = true
changes_no_state (Ends change) = true
changes_no_state _ = false

-- what a course says that this snoop end makes of the state of agent b
unfoldable pub state_by_course : MachineSnoop → Mesi → ℕ → Mesi
state_by_course s state b =
    state_after state (nat_eq b s.asker) s.kind (if s.is_reply then Replied else settled_at_end s.hitm s.turned s.kind) s.hit
