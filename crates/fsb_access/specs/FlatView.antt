-- A flat memory: the bytes in chunks of eight.
use Rattle.std.specs.Prelude.{ℕ, ◌/◌, ◌%◌, List, unwrap_or, replicate, slice_index}
use Rattle.std.specs.BTreeMap.{is_at}
use Rattle.std.specs.Map.{lookup}
use Rattle.std.specs.Ordering.{nat_cmp}
use Rattle.fsb_access.specs.ByteMemory.{ByteMemory}
use Rattle.fsb_access.specs.Replay.{ReplayState}

-- what a flat memory keeps: the bytes of each chunk that was put to, by its number, and each agent's last loaded value
pub record FlatView : Type 0 where
  pub chunks : List (ℕ × List ℕ)
  pub last : List ℕ

-- the eight bytes of a chunk: 0 each, where nothing was put
abbrev pub chunk_bytes : List (ℕ × List ℕ) → ℕ → List ℕ
chunk_bytes chunks number = unwrap_or (lookup (is_at (nat_cmp number)) chunks) (replicate 8 0)

-- the byte at each address: chunk number n has the addresses 8n to 8n + 7
unfoldable pub memory_of_chunks : List (ℕ × List ℕ) → ByteMemory
memory_of_chunks chunks addr = slice_index (chunk_bytes chunks (addr / 8)) (addr % 8)

-- the state of a replay that a flat memory has come to
abbrev pub state_of : FlatView → ReplayState
state_of flat = record { memory = memory_of_chunks flat.chunks; last = λ agent. slice_index flat.last agent }
