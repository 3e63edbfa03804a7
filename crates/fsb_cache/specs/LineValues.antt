-- Numbers in the bytes of one line, the lowest byte first.
use Rattle.std.specs.Prelude.{ℕ, ◌%◌, List, slice_index}
use Rattle.fsb_access.specs.ByteMemory.{bytes_at, put_value, value_at}

-- the number that a load of so many bytes at an address finds in the bytes of the address's line
abbrev pub value_in_line : List ℕ → ℕ → ℕ → ℕ
value_in_line bytes addr size = value_at (slice_index bytes) (addr % 32) size

-- the bytes of the address's line after a store of so many bytes there
abbrev pub line_with_value : List ℕ → ℕ → ℕ → ℕ → List ℕ
line_with_value bytes addr size value =
    bytes_at (put_value (slice_index bytes) (addr % 32) size value) 0 32
