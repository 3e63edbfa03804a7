-- The state of an agent as its grants and losses in the past tell it.
use Rattle.std.specs.Prelude.{◌==◌, ℕ, Bool, true, false, cond, not, ◌&&◌, ◌||◌, Option, Some, None, List, [], ◌∷◌}
use Rattle.fsb_line.specs.declared.state.Mesi.{Mesi}
use Rattle.fsb_line.specs.declared.state.Mesi.TheVariants.{Exclusive, Invalid, Modified, Shared}
use Rattle.fsb_line.specs.Events.{Event, after}
use Rattle.fsb_line.specs.Events.Event.{Drops, IsDeferred, IsGranted, IsHanded, IsLost, IsReplied, IsRetried, IsUpgraded, IsWritten, Stores}
use Rattle.fsb_line.specs.Line.{LineDeferral, MemoryLine}
use Rattle.fsb_line.specs.States.{kind_owns}

-- the reply gets the line for this agent
abbrev pub replies_to : Option LineDeferral → ℕ → Bool
replies_to None a = false
replies_to (Some d) a = d.agent == a

-- and for it alone: it asked to own the line, or nobody was seen to hold it
abbrev pub replies_alone_to : Option LineDeferral → ℕ → Bool
replies_alone_to None a = false
replies_alone_to (Some d) a = (d.agent == a) && (kind_owns d.kind || not d.shared)

-- and to own it
abbrev pub replies_owned_to : Option LineDeferral → ℕ → Bool
replies_owned_to None a = false
replies_owned_to (Some d) a = (d.agent == a) && kind_owns d.kind

-- the event grants the line to the agent
unfoldable pub is_grant : ℕ → MemoryLine → Event → Bool
is_grant a x (IsHanded b kind owner) = b == a
is_grant a x (IsGranted b kind shared) = b == a
is_grant a x (IsUpgraded b) = b == a
is_grant a x IsReplied = replies_to x.deferral a
is_grant a x _ = false

-- the agent loses the line: it drops it or writes it back, or the event is the snoop end of another agent's request to own it, whatever comes of that
unfoldable pub is_loss : ℕ → MemoryLine → Event → Bool
is_loss a x (Drops b) = b == a
is_loss a x (IsWritten b) = b == a
is_loss a x (IsHanded b kind owner) = not (b == a) && kind_owns kind
is_loss a x (IsGranted b kind shared) = not (b == a) && kind_owns kind
is_loss a x (IsUpgraded b) = not (b == a)
is_loss a x (IsLost b) = not (b == a)
is_loss a x (IsRetried b kind) = not (b == a) && kind_owns kind
is_loss a x (IsDeferred b kind shared) = not (b == a) && kind_owns kind
is_loss a x _ = false

-- the event grants the line to the agent for itself: by a request to own it, or where nobody else was seen to hold it
unfoldable pub is_grant_alone : ℕ → MemoryLine → Event → Bool
is_grant_alone a x (IsHanded b kind owner) = (b == a) && kind_owns kind
is_grant_alone a x (IsGranted b kind shared) = (b == a) && (kind_owns kind || not shared)
is_grant_alone a x (IsUpgraded b) = b == a
is_grant_alone a x IsReplied = replies_alone_to x.deferral a
is_grant_alone a x _ = false

-- the agent is no longer alone with the line: it drops it or writes it back, or the event is the snoop end of any request of another agent
unfoldable pub ends_alone : ℕ → MemoryLine → Event → Bool
ends_alone a x (Drops b) = b == a
ends_alone a x (IsWritten b) = true
ends_alone a x (IsHanded b kind owner) = not (b == a)
ends_alone a x (IsGranted b kind shared) = not (b == a)
ends_alone a x (IsUpgraded b) = not (b == a)
ends_alone a x (IsLost b) = not (b == a)
ends_alone a x (IsRetried b kind) = not (b == a)
ends_alone a x (IsDeferred b kind shared) = not (b == a)
ends_alone a x _ = false

-- the line becomes dirty at the agent: by a grant to own it, or by a store
unfoldable pub is_dirtied : ℕ → MemoryLine → Event → Bool
is_dirtied a x (Stores b change) = b == a
is_dirtied a x (IsHanded b kind owner) = (b == a) && kind_owns kind
is_dirtied a x (IsGranted b kind shared) = (b == a) && kind_owns kind
is_dirtied a x (IsUpgraded b) = b == a
is_dirtied a x IsReplied = replies_owned_to x.deferral a
is_dirtied a x _ = false

-- one of the events passes the test in its turn
abbrev pub any_event : (MemoryLine → Event → Bool) → MemoryLine → List Event → Bool
any_event test x [] = false
any_event test x (e ∷ es) = test x e || any_event test (after x e) es

-- at one of the events something was gained, and at none after it was it lost
abbrev pub gained_and_kept : (MemoryLine → Event → Bool) → (MemoryLine → Event → Bool) → MemoryLine → List Event → Bool
gained_and_kept gain loss x [] = false
gained_and_kept gain loss x (e ∷ es) = (gain x e && not (any_event loss (after x e) es)) || gained_and_kept gain loss (after x e) es

-- held: since a grant, with no loss after it
abbrev pub is_held_since : ℕ → MemoryLine → List Event → Bool
is_held_since a x es = gained_and_kept (is_grant a) (is_loss a) x es

-- alone: since a grant for itself, with nothing after it that ends that
abbrev pub is_alone_since : ℕ → MemoryLine → List Event → Bool
is_alone_since a x es = gained_and_kept (is_grant_alone a) (ends_alone a) x es

-- dirty: since a grant to own it or a store, with nothing after it that ends that
abbrev pub is_dirty_since : ℕ → MemoryLine → List Event → Bool
is_dirty_since a x es = gained_and_kept (is_dirtied a) (ends_alone a) x es

-- the state that these three make
abbrev pub state_by : Bool → Bool → Bool → Mesi
state_by held alone dirty = cond dirty Modified (cond alone Exclusive (cond held Shared Invalid))
