-- The order and the bytes of a line, and what each event owes.
use Rattle.std.specs.Prelude.{◌≡◌, ◌≢◌, ◌<◌, ℕ, false, Some, None, IsTrue, IsFalse, List, [], ◌∷◌, ⊤}
use Rattle.fsb_line.specs.declared.purpose.Purpose.TheVariants.{Own, WriteBack}
use Rattle.fsb_line.specs.declared.link.Link.{Link}
use Rattle.fsb_line.specs.Events.{Event, IsReady, NobodyElseHolds}
use Rattle.fsb_line.specs.Events.Event.{Ends, IsHanded, IsUpgraded, IsWritten, Loads, Responds, Stores}
use Rattle.fsb_line.specs.Line.{OpenRequest, Bytes, LineDeferral, MemoryLine, brought, has_copy, source}
use Rattle.fsb_line.specs.Links.{IsChained, has_late_upgrade, is_linked, is_overtaken, newest, owns}
use Rattle.fsb_line.specs.States.{gets_line, is_held, is_modified, is_sole, suits}

-- a line is pending for a deferral of a kind that gets it: the agent awaits nothing else on it; nobody is sole; and nobody else holds the line where it is to be owned, or where nobody was seen to hold it
pub record IsPending (x : MemoryLine) (d : LineDeferral) : Type 0 where
  pub gets : IsTrue (gets_line d.kind)
  pub no_ask : x.ask d.agent ≡ None
  pub no_link : IsFalse (is_linked d.agent x.chain)
  pub nobody_sole : (a : ℕ) → IsFalse (is_sole (x.state a))
  pub unshared : d.kind ≡ Own → NobodyElseHolds x d.agent
  pub unseen : d.shared ≡ false → NobodyElseHolds x d.agent

-- the order of a line, without its bytes
pub record Ordered (x : MemoryLine) : Type 0 where
  -- who has the line Exclusive or Modified has it alone
  pub alone : (a : ℕ) → IsTrue (is_sole (x.state a)) → NobodyElseHolds x a
  -- the state of an asker suits what it asks for
  pub suited : (a : ℕ) (k : OpenRequest) → x.ask a ≡ Some k → IsTrue (suits k.kind (x.state a))
  -- an asker awaits no link
  pub apart : (a : ℕ) (k : OpenRequest) → x.ask a ≡ Some k → IsFalse (is_linked a x.chain)
  -- an open write-back is older than every other open request
  pub first : (a b : ℕ) (j k : OpenRequest) → x.ask a ≡ Some j → x.ask b ≡ Some k → a ≢ b → j.kind ≡ WriteBack → j.number < k.number
  -- what a deferral leaves behind stands until its reply
  pub pending : (d : LineDeferral) → x.deferral ≡ Some d → IsPending x d
  -- the newest link is that of the agent that has the line alone
  pub sole_is_newest : (a : ℕ) (l : Link) → IsTrue (is_sole (x.state a)) → newest x.chain ≡ Some l → l.agent ≡ a
  -- it owns where that agent has the line Modified
  pub modified_owns : (a : ℕ) (l : Link) → IsTrue (is_modified (x.state a)) → newest x.chain ≡ Some l → IsTrue (owns l)
  -- and the agent of a newest link that owns has the line Modified
  pub newest_owner : (l : Link) → newest x.chain ≡ Some l → IsTrue (owns l) → IsTrue (is_modified (x.state l.agent))
  -- each link but the first takes its bytes from the owner before it, else from the memory
  pub chained : IsChained x.chain
  -- no owning link of another agent came after a holder's own link
  pub holds_on : (a : ℕ) → IsTrue (is_held (x.state a)) → IsFalse (is_overtaken a x.chain)
  -- no upgrade was won behind an owning link
  pub no_late_upgrade : IsFalse (has_late_upgrade x.chain)

-- the bytes of a line
pub record Valued (x : MemoryLine) : Type 0 where
  -- each copy has the line's bytes
  pub copies : (a : ℕ) → IsTrue (has_copy x a) → x.copy a ≡ x.now
  -- so has the memory, where no link is left and nobody has the line Modified
  pub rests : x.chain ≡ [] → ((a : ℕ) → IsFalse (is_modified (x.state a))) → x.memory ≡ x.now
  -- so has the source of the oldest link
  pub oldest : (l : Link) (ls : List Link) → x.chain ≡ l ∷ ls → source x l ≡ Some x.now
  -- and what is on the bus
  pub carried : (bytes : Bytes) → x.moved ≡ Some bytes → bytes ≡ x.now
  -- nothing is on the bus where no link is left
  pub quiet : x.chain ≡ [] → x.moved ≡ None

-- what an access to a copy owes: the copy has the line's bytes
pub record ReadsNow (x : MemoryLine) (a : ℕ) : Type 0 where
  pub value : x.copy a ≡ x.now

-- what a store owes: the same, and that its agent has the line alone
pub record WritesAlone (x : MemoryLine) (a : ℕ) : Type 0 where
  pub value : x.copy a ≡ x.now
  pub alone : NobodyElseHolds x a

-- what a snoop end owes at which an agent gives the line: the agent has it Modified, and alone
pub record GivesAlone (x : MemoryLine) (owner : ℕ) : Type 0 where
  pub modified : IsTrue (is_modified (x.state owner))
  pub alone : NobodyElseHolds x owner

-- what a response owes: the line's bytes are put on the bus
abbrev pub MovesNow : MemoryLine → List Link → Type 0
MovesNow x [] = ⊥
MovesNow x (l ∷ ls) = source x l ≡ Some x.now

-- what an end owes: it brings the line's bytes; and where it may store, no other copy is there
pub record EndsNow (x : MemoryLine) (l : Link) : Type 0 where
  pub value : brought x l ≡ Some x.now
  pub alone : IsTrue (owns l) → (a : ℕ) → a ≢ l.agent → IsFalse (has_copy x a)

-- and so for the oldest link of a chain
abbrev pub EndsOldest : MemoryLine → List Link → Type 0
EndsOldest x [] = ⊥
EndsOldest x (l ∷ ls) = EndsNow x l

-- what an event owes where it happens
unfoldable pub Owes : MemoryLine → Event → Type 0
Owes x (Loads a) = ReadsNow x a
Owes x (Stores a change) = WritesAlone x a
Owes x (IsWritten a) = GivesAlone x a
Owes x (IsHanded a kind owner) = GivesAlone x owner
Owes x (IsUpgraded a) = ReadsNow x a
Owes x Responds = MovesNow x x.chain
Owes x (Ends change) = EndsOldest x x.chain
Owes x _ = ⊤

-- a line that is coherent
pub record IsCoherent (x : MemoryLine) : Type 0 where
  -- who may write has the line alone
  pub one_writer : (a : ℕ) → IsTrue (is_sole (x.state a)) → NobodyElseHolds x a
  -- every ready copy has the line's bytes
  pub ready_copies : (a : ℕ) → IsReady x a → x.copy a ≡ x.now
  -- so has the memory, where nothing is on its way and nobody has the line Modified
  pub memory : x.chain ≡ [] → ((a : ℕ) → IsFalse (is_modified (x.state a))) → x.memory ≡ x.now
  -- and what is on the bus
  pub bus : (bytes : Bytes) → x.moved ≡ Some bytes → bytes ≡ x.now
  -- nobody is sole on a pending line
  pub pending : (d : LineDeferral) → x.deferral ≡ Some d → (a : ℕ) → IsFalse (is_sole (x.state a))
