-- One line of memory: its states, copies, requests and chain.
use Rattle.std.specs.Prelude.{◌≡◌, ◌==◌, ℕ, Bool, cond, not, ◌&&◌, ◌||◌, Option, Some, None, List, []}
use Rattle.fsb_line.specs.declared.purpose.Purpose.{Purpose}
use Rattle.fsb_line.specs.declared.link.Link.{Link}
use Rattle.fsb_line.specs.declared.state.Mesi.{Mesi}
use Rattle.fsb_line.specs.declared.state.Mesi.TheVariants.{Invalid}
use Rattle.fsb_line.specs.Links.{carries, has_won, is_linked, feeds_memory}
use Rattle.fsb_line.specs.States.{is_held}

-- the bytes of a line
abbrev pub Bytes : Type 0
Bytes = List ℕ

-- a request that is in flight with no snoop end yet. An older one has a smaller number
pub record OpenRequest : Type 0 where
  pub kind : Purpose
  pub number : ℕ

-- a request that was deferred and has no reply yet; `shared` says that another agent was seen to hold the line
pub record LineDeferral : Type 0 where
  pub agent : ℕ
  pub kind : Purpose
  pub shared : Bool

-- one line of memory
pub record MemoryLine : Type 0 where
  -- the state of each agent
  pub state : ℕ → Mesi
  -- the bytes at each agent; none where it has none
  pub copy : ℕ → Bytes
  -- the open request of each agent
  pub ask : ℕ → Option OpenRequest
  -- the links, oldest first
  pub chain : List Link
  pub deferral : Option LineDeferral
  -- the bytes in the memory
  pub memory : Bytes
  -- what the giver of the oldest link has given
  pub pushed : Option Bytes
  -- what the response of the oldest link has put on the bus
  pub moved : Option Bytes
  -- the line in the one flat memory, by which coherence is told
  pub now : Bytes

-- a line that nobody holds or asks for
abbrev pub unheld : Bytes → MemoryLine
unheld bytes = record {
  state = λ a. Invalid;
  copy = λ a. [];
  ask = λ a. None;
  chain = [];
  deferral = None;
  memory = bytes;
  pushed = None;
  moved = None;
  now = bytes;
}

-- two lines are the same in each field, at each agent
pub record SameFields (x y : MemoryLine) : Type 0 where
  pub state : (a : ℕ) → x.state a ≡ y.state a
  pub copy : (a : ℕ) → x.copy a ≡ y.copy a
  pub ask : (a : ℕ) → x.ask a ≡ y.ask a
  pub chain : x.chain ≡ y.chain
  pub deferral : x.deferral ≡ y.deferral
  pub memory : x.memory ≡ y.memory
  pub pushed : x.pushed ≡ y.pushed
  pub moved : x.moved ≡ y.moved
  pub now : x.now ≡ y.now

-- the function with another value at one place
unfoldable pub put : {A : Type 0} → (ℕ → A) → ℕ → A → ℕ → A
put f a value b = cond (b == a) value (f b)

-- the agent has bytes: it holds the line and awaits nothing, or its upgrade was won and hasn't ended
abbrev pub has_copy : MemoryLine → ℕ → Bool
has_copy x a = has_won a x.chain || (is_held (x.state a) && not (is_linked a x.chain))

-- the same line, with no bytes where an agent has none
unfoldable pub trimmed : MemoryLine → MemoryLine
trimmed x = record x { copy = λ a. cond (has_copy x a) (x.copy a) [] }

-- where the bytes of the oldest link come from: what its giver gave, or the memory
abbrev pub source : MemoryLine → Link → Option Bytes
source x l = cond (feeds_memory l) x.pushed (Some x.memory)

-- what the end of the oldest link brings its agent: what the response put on the bus, or its own copy where no data move
abbrev pub brought : MemoryLine → Link → Option Bytes
brought x l = cond (carries l) x.moved (Some (x.copy l.agent))
