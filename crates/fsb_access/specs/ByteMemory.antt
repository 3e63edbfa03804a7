-- A byte memory, and the numbers that its bytes spell.
use Rattle.std.specs.Prelude.{ℕ, zero, suc, ◌+◌, ◌-◌, ◌*◌, ◌/◌, ◌%◌, ◌^◌, ◌&&◌, ◌==◌, nat_lt, nat_le, if◌then◌else◌, List, [], ◌∷◌, fold, length, slice_index}
use Rattle.fsb_access.specs.declared.access.Setting.{Setting}

-- a byte memory: the byte at each address
abbrev pub ByteMemory : Type 0
ByteMemory = ℕ → ℕ

-- the memory with one byte put at an address
abbrev pub put_byte : ByteMemory → ℕ → ℕ → ByteMemory
put_byte memory addr byte place = if place == addr then byte else memory place

-- the memory after settings: one byte after the other, so that later settings win
abbrev pub set_memory : ByteMemory → List Setting → ByteMemory
set_memory memory settings = fold (λ memory setting. put_byte memory setting.addr setting.byte) memory settings

-- the memory that settings make: 0 everywhere before them
abbrev pub start_memory : List Setting → ByteMemory
start_memory settings = set_memory (λ _. 0) settings

-- the bytes of a memory from an address on, as many as said
unfoldable pub bytes_at : ByteMemory → ℕ → ℕ → List ℕ
bytes_at memory addr zero = []
bytes_at memory addr (suc count) = memory addr ∷ bytes_at memory (addr + 1) count

-- the number that bytes spell, the lowest first
abbrev pub value_of_bytes : List ℕ → ℕ
value_of_bytes [] = 0
value_of_bytes (byte ∷ bytes) = byte + 256 * value_of_bytes bytes

-- the number that so many bytes from an address on spell
abbrev pub value_at : ByteMemory → ℕ → ℕ → ℕ
value_at memory addr size = value_of_bytes (bytes_at memory addr size)

-- the memory with bytes put from an address on
unfoldable pub put_bytes : ByteMemory → ℕ → List ℕ → ByteMemory
put_bytes memory addr bytes place =
    if nat_le addr place && nat_lt place (addr + length bytes) then slice_index bytes (place - addr) else memory place

-- one byte of a number, counted from the lowest
abbrev pub byte_of : ℕ → ℕ → ℕ
byte_of value count = (value / 256 ^ count) % 256

-- the memory with the lowest bytes of a number put from an address on, as many as said
unfoldable pub put_value : ByteMemory → ℕ → ℕ → ℕ → ByteMemory
put_value memory addr size value place =
    if nat_le addr place && nat_lt place (addr + size) then byte_of value (place - addr) else memory place
