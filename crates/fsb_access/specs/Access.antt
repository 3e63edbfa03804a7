-- Accesses: how many bytes, where, and which are lawful.
use Rattle.std.specs.Prelude.{ℕ, ◌*◌, ◌/◌, ◌%◌, ◌^◌, Bool, ◌&&◌, ◌||◌, ◌==◌, nat_lt, IsTrue}
use Rattle.fsb_access.specs.declared.access.Access.{Access}
use Rattle.fsb_access.specs.declared.access.Access.TheVariants.{Load, Store}
use Rattle.fsb_access.specs.declared.access.Operand.{Operand}
use Rattle.fsb_access.specs.declared.access.Operand.TheVariants.{Literal, LastPlus}

-- how many bytes an access loads or stores
abbrev pub size_of : Access → ℕ
size_of (Load size addr) = size
size_of (Store size addr value) = size

-- the address of its first byte
abbrev pub addr_of : Access → ℕ
addr_of (Load size addr) = addr
addr_of (Store size addr value) = addr

-- the cache line that it lies in: lines have 32 bytes
abbrev pub accessed_line : Access → ℕ
accessed_line access = addr_of access / 32

-- the chunk of eight bytes of that line, 0 to 3, that it lies in
abbrev pub chunk_of : Access → ℕ
chunk_of access = (addr_of access / 8) % 4

-- the number that an operand names: the literal, or what is added
abbrev pub number_of : Operand → ℕ
number_of (Literal number) = number
number_of (LastPlus number) = number

-- an access has 1, 2, 4 or 8 bytes
abbrev pub is_size : ℕ → Bool
is_size size = (size == 1) || (size == 2) || (size == 4) || (size == 8)

-- the bytes lie below 2^36, and the address is a multiple of their number
abbrev pub is_place : ℕ → ℕ → Bool
is_place size addr = is_size size && nat_lt addr (2 ^ 36) && (addr % size == 0)

-- the number is below 2^(8 * size)
abbrev pub fits : ℕ → ℕ → Bool
fits size number = nat_lt number (2 ^ (8 * size))

-- 1, 2, 4 or 8 bytes below 2^36, at a multiple of their number, and a store's number has no more bytes
abbrev pub is_lawful_access : Access → Bool
is_lawful_access (Load size addr) = is_place size addr
is_lawful_access (Store size addr value) = is_place size addr && fits size (number_of value)

-- the access is lawful
abbrev pub IsLawfulAccess : Access → Type 0
IsLawfulAccess access = IsTrue (is_lawful_access access)
