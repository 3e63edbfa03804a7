-- What can happen to a line, when it may, and the line after it.
use Rattle.std.specs.Prelude.{◌≡◌, ◌≢◌, ◌==◌, ◌<◌, ◌≤◌, ℕ, Bool, true, false, cond, Option, Some, None, is_some, IsTrue, IsFalse, List, [], ◌∷◌, ◌++◌, unwrap_or, ⊤}
use Rattle.fsb_line.specs.declared.purpose.Purpose.{Purpose}
use Rattle.fsb_line.specs.declared.purpose.Purpose.TheVariants.{Upgrade, WriteBack}
use Rattle.fsb_line.specs.declared.purpose.Settled.{Settled}
use Rattle.fsb_line.specs.declared.purpose.Settled.TheVariants.{Deferred, Granted, Handed, Replied, Retried, Upgraded, Written}
use Rattle.fsb_line.specs.declared.purpose.Ruling.{Ruling}
use Rattle.fsb_line.specs.declared.link.Link.{Link}
use Rattle.fsb_line.specs.declared.state.Mesi.TheVariants.{Invalid, Modified}
use Rattle.fsb_line.specs.Line.{OpenRequest, Bytes, LineDeferral, MemoryLine, brought, put, source, trimmed}
use Rattle.fsb_line.specs.Links.{carries, gives, is_linked, owns, feeds_memory}
use Rattle.fsb_line.specs.States.{asks_line, gets_line, is_held, is_held_off, is_modified, is_sole, state_after, settled_as, suits}

-- what can happen to a line. A `change` is what the stores of one access, or of one locked item, make of the bytes
pub data Event : Type 0 where
  -- the agent loads from its copy
  Loads : (agent : ℕ) → Event
  -- the agent stores into its copy
  Stores : (agent : ℕ) → (change : Bytes → Bytes) → Event
  -- the agent drops its clean copy, for another line of the cache set
  Drops : (agent : ℕ) → Event
  -- the agent begins a request
  Begins : (agent : ℕ) → (kind : Purpose) → (number : ℕ) → Event
  -- the agent's request is cancelled by an address error
  IsCancelled : (agent : ℕ) → Event
  -- snoop end of a write-back
  IsWritten : (agent : ℕ) → Event
  -- snoop end of a request whose line another agent has Modified: that one is to give it
  IsHanded : (agent : ℕ) → (kind : Purpose) → (owner : ℕ) → Event
  -- snoop end of a request to which the memory gives the line
  IsGranted : (agent : ℕ) → (kind : Purpose) → (shared : Bool) → Event
  -- snoop end of an upgrade that is won
  IsUpgraded : (agent : ℕ) → Event
  -- snoop end of an upgrade that is lost: its agent no longer holds the line
  IsLost : (agent : ℕ) → Event
  -- snoop end of a request that is to be made again
  IsRetried : (agent : ℕ) → (kind : Purpose) → Event
  -- snoop end of a request that is answered later
  IsDeferred : (agent : ℕ) → (kind : Purpose) → (shared : Bool) → Event
  -- snoop end of the reply to the deferred request
  IsReplied : Event
  -- the response of the oldest link: its data are put on the bus
  Responds : Event
  -- the end of the oldest link: its bytes arrive, and the stores that awaited them are made
  Ends : (change : Bytes → Bytes) → Event

-- the agent's request is open, of this kind, and no open request is older
pub record IsOldest (x : MemoryLine) (a : ℕ) (kind : Purpose) : Type 0 where
  pub number : ℕ
  pub asked : x.ask a ≡ Some (record { kind = kind; number = number })
  pub oldest : (b : ℕ) (k : OpenRequest) → x.ask b ≡ Some k → number ≤ k.number

-- no other agent has the line Modified
abbrev pub NobodyElseModified : MemoryLine → ℕ → Type 0
NobodyElseModified x a = (b : ℕ) → b ≢ a → IsFalse (is_modified (x.state b))

-- no other agent holds the line
abbrev pub NobodyElseHolds : MemoryLine → ℕ → Type 0
NobodyElseHolds x a = (b : ℕ) → b ≢ a → IsFalse (is_held (x.state b))

-- an agent may begin a request: it has none on the line, open, deferred or linked, and its state suits it; the number is new; and a write-back is held off while another agent's request is open
pub record MayBegin (x : MemoryLine) (a : ℕ) (kind : Purpose) (number : ℕ) : Type 0 where
  pub no_ask : x.ask a ≡ None
  pub no_link : IsFalse (is_linked a x.chain)
  pub no_deferral : (d : LineDeferral) → x.deferral ≡ Some d → d.agent ≢ a
  pub suited : IsTrue (suits kind (x.state a))
  pub newest : (b : ℕ) (k : OpenRequest) → x.ask b ≡ Some k → k.number < number
  pub not_held_off : (b : ℕ) → b ≢ a → IsFalse (is_held_off kind (is_some (x.ask b)))

-- a copy is ready where its agent holds the line and awaits no link
pub record IsReady (x : MemoryLine) (a : ℕ) : Type 0 where
  pub held : IsTrue (is_held (x.state a))
  pub no_link : IsFalse (is_linked a x.chain)

-- the snoop end of the oldest request, with nobody else Modified
pub record MaySettle (x : MemoryLine) (a : ℕ) (kind : Purpose) : Type 0 where
  pub oldest : IsOldest x a kind
  pub clean : NobodyElseModified x a

-- the memory gives the line: nobody is seen to hold it unless it is shared, and it isn't pending
pub record MayGrant (x : MemoryLine) (a : ℕ) (kind : Purpose) (shared : Bool) : Type 0 where
  pub settles : MaySettle x a kind
  pub gets : IsTrue (gets_line kind)
  pub unseen : shared ≡ false → NobodyElseHolds x a
  pub not_pending : x.deferral ≡ None

-- the agent that has the line Modified hands it to another
pub record MayHand (x : MemoryLine) (a : ℕ) (kind : Purpose) (owner : ℕ) : Type 0 where
  pub oldest : IsOldest x a kind
  pub asks : IsTrue (asks_line kind)
  pub other : owner ≢ a
  pub modified : IsTrue (is_modified (x.state owner))

-- an upgrade is won where its agent still holds the line, which isn't pending
pub record MayUpgrade (x : MemoryLine) (a : ℕ) : Type 0 where
  pub settles : MaySettle x a Upgrade
  pub held : IsTrue (is_held (x.state a))
  pub not_pending : x.deferral ≡ None

-- an upgrade is lost where its agent no longer holds the line, which isn't pending
pub record MayLose (x : MemoryLine) (a : ℕ) : Type 0 where
  pub settles : MaySettle x a Upgrade
  pub lost : IsFalse (is_held (x.state a))
  pub not_pending : x.deferral ≡ None

-- the oldest link awaits the response that moves its data
abbrev pub AwaitsResponse : MemoryLine → List Link → Type 0
AwaitsResponse x [] = ⊥
AwaitsResponse x (l ∷ ls) = IsTrue (carries l) × (x.moved ≡ None)

-- the oldest link has its bytes
abbrev pub HasArrived : MemoryLine → List Link → Type 0
HasArrived x [] = ⊥
HasArrived x (l ∷ ls) = IsTrue (is_some (brought x l))

-- the event may happen to the line
unfoldable pub May : MemoryLine → Event → Type 0
May x (Loads a) = IsReady x a
May x (Stores a change) = IsReady x a × IsTrue (is_sole (x.state a))
May x (Drops a) = IsFalse (is_modified (x.state a))
May x (Begins a kind number) = MayBegin x a kind number
May x (IsCancelled a) = ⊤
May x (IsWritten a) = IsOldest x a WriteBack
May x (IsHanded a kind owner) = MayHand x a kind owner
May x (IsGranted a kind shared) = MayGrant x a kind shared
May x (IsUpgraded a) = MayUpgrade x a
May x (IsLost a) = MayLose x a
May x (IsRetried a kind) = MaySettle x a kind × IsTrue (asks_line kind)
May x (IsDeferred a kind shared) = MayGrant x a kind shared
May x IsReplied = IsTrue (is_some x.deferral)
May x Responds = AwaitsResponse x x.chain
May x (Ends change) = HasArrived x x.chain

-- the line after a snoop end: the states are the next ones, and the request is no longer open
unfoldable pub settled : MemoryLine → ℕ → Purpose → Settled → Bool → MemoryLine
settled x a kind outcome shared = record x {
  state = λ b. state_after (x.state b) (b == a) kind outcome shared;
  ask = put x.ask a None;
}

-- the line with a newest link
unfoldable pub linked : MemoryLine → ℕ → Purpose → Option ℕ → MemoryLine
linked x a kind giver = record x { chain = x.chain ++ record { agent = a; kind = kind; giver = giver } ∷ [] }

-- the line after its giver gave at a snoop end: at once where its bytes have come, else it has promised
unfoldable pub given : MemoryLine → ℕ → MemoryLine
given x owner = record x { pushed = cond (is_linked owner x.chain) x.pushed (Some (x.copy owner)) }

-- the line after the reply to a deferred request
unfoldable pub replied : MemoryLine → Option LineDeferral → MemoryLine
replied x None = x
replied x (Some d) = linked (record (settled x d.agent d.kind Replied d.shared) { deferral = None }) d.agent d.kind None

-- the line after the response of its oldest link
unfoldable pub responded : MemoryLine → List Link → MemoryLine
responded x [] = x
responded x (l ∷ ls) = record x { moved = source x l }

-- what the agent gives to the next link: the bytes, if it promised them
abbrev pub passed_on : ℕ → Bytes → List Link → Option Bytes
passed_on a bytes [] = None
passed_on a bytes (l ∷ ls) = cond (gives l.giver a) (Some bytes) None

-- the bytes after the stores that awaited the end of this link. Only a link that owns makes any
abbrev pub changed : Link → (Bytes → Bytes) → Bytes → Bytes
changed l change bytes = cond (owns l) (change bytes) bytes

-- the bytes after the stores that awaited the end of the oldest link
abbrev pub stored_at_end : List Link → (Bytes → Bytes) → Bytes → Bytes
stored_at_end [] change bytes = bytes
stored_at_end (l ∷ ls) change bytes = changed l change bytes

-- the line after the end of its oldest link, which brings these bytes
unfoldable pub arrived : MemoryLine → Link → List Link → (Bytes → Bytes) → Bytes → MemoryLine
arrived x l ls change bytes = record x {
  copy = put x.copy l.agent (changed l change bytes);
  chain = ls;
  memory = cond (feeds_memory l) bytes x.memory;
  pushed = passed_on l.agent (changed l change bytes) ls;
  moved = None;
  now = changed l change x.now;
}

-- the line after the end of its oldest link
unfoldable pub oldest_ended : MemoryLine → List Link → (Bytes → Bytes) → MemoryLine
oldest_ended x [] change = x
oldest_ended x (l ∷ ls) change = arrived x l ls change (unwrap_or (brought x l) [])

-- what the event makes of the line
unfoldable pub effect : MemoryLine → Event → MemoryLine
effect x (Loads a) = x
effect x (Stores a change) = record x { state = put x.state a Modified; copy = put x.copy a (change (x.copy a)); now = change x.now }
effect x (Drops a) = record x { state = put x.state a Invalid }
effect x (Begins a kind number) = record x { ask = put x.ask a (Some (record { kind = kind; number = number })) }
effect x (IsCancelled a) = record x { ask = put x.ask a None }
effect x (IsWritten a) = linked (settled (given x a) a WriteBack Written false) a WriteBack (Some a)
effect x (IsHanded a kind owner) = linked (settled (given x owner) a kind Handed true) a kind (Some owner)
effect x (IsGranted a kind shared) = linked (settled x a kind Granted shared) a kind None
effect x (IsUpgraded a) = linked (settled x a Upgrade Upgraded false) a Upgrade None
effect x (IsLost a) = settled x a Upgrade Upgraded false
effect x (IsRetried a kind) = settled x a kind Retried false
effect x (IsDeferred a kind shared) = record (settled x a kind Deferred shared) { deferral = Some (record { agent = a; kind = kind; shared = shared }) }
effect x IsReplied = replied x x.deferral
effect x Responds = responded x x.chain
effect x (Ends change) = oldest_ended x x.chain change

-- the line after the event
unfoldable pub after : MemoryLine → Event → MemoryLine
after x e = trimmed (effect x e)

-- the bytes after the stores that the event makes
unfoldable pub stored : MemoryLine → Event → Bytes → Bytes
stored x (Stores a change) bytes = change bytes
stored x (Ends change) bytes = stored_at_end x.chain change bytes
stored x _ bytes = bytes

-- the outcome of a snoop end is the one that the bus decides on, by whether another agent has the line Modified, by whether the line is pending, and by some turn
abbrev pub IsDecided : MemoryLine → Purpose → Bool → Settled → Type 0
IsDecided x kind owned outcome = (turn : Ruling) × (settled_as kind owned (is_some x.deferral) turn ≡ outcome)

-- where the event is a snoop end, its outcome is decided so
unfoldable pub IsDecidedEnd : MemoryLine → Event → Type 0
IsDecidedEnd x (IsWritten a) = IsDecided x WriteBack false Written
IsDecidedEnd x (IsHanded a kind owner) = IsDecided x kind true Handed
IsDecidedEnd x (IsGranted a kind shared) = IsDecided x kind false Granted
IsDecidedEnd x (IsUpgraded a) = IsDecided x Upgrade false Upgraded
IsDecidedEnd x (IsLost a) = IsDecided x Upgrade false Upgraded
IsDecidedEnd x (IsRetried a kind) = IsDecided x kind false Retried
IsDecidedEnd x (IsDeferred a kind shared) = IsDecided x kind false Deferred
IsDecidedEnd x _ = ⊤
