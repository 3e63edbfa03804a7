-- The bytes of a line in the replay of a log: what the stores on it make of them.
use Rattle.fsb_tied.proofs.Words
use Words.{◌≡◌, ℕ, zero, suc, ◌+◌, ◌*◌, ◌/◌, ◌%◌, ◌<◌, true, Bool, ◌&&◌, not, if◌then◌else◌, List, [], ◌∷◌, map, fold}
use Words.{slice_index, refl, ap, ◌∙◌, arith, add-zero, and_parts, filter, list_all, accessed_line, addr_of, is_place}
use Words.{size_of, ByteMemory, bytes_at, put_value, Access, Done, ReplayState, replay, replayed_values, served_state}
use Words.{served_value, bytes_at-beside, put_value-inside, put_value-outside, is_load, change_of, changes_of}
use Words.{line_bytes}
use Rattle.std.specs.Prelude.{nat_eq}

-- memories that agree on some addresses of theirs have the same bytes there
bytes_at-shifted : (memory other : ByteMemory) (addr place count : ℕ)
    → ((k : ℕ) → k < count → memory (addr + k) ≡ other (place + k))
    → bytes_at memory addr count ≡ bytes_at other place count
unfolding bytes_at
bytes_at-shifted memory other addr place zero same = refl
bytes_at-shifted memory other addr place (suc count) same =
    let first : memory addr ≡ other place = simp add-zero at (same 0 (omega arith)) in
    let rest = bytes_at-shifted memory other (addr + 1) (place + 1) count
    (λ k h. moved k (same (suc k) (omega arith))) in
    rw (first, rest) refl
  where
    moved : (k : ℕ) → memory (addr + suc k) ≡ other (place + suc k) → memory (addr + 1 + k) ≡ other (place + 1 + k)
    moved k h = grind arith

-- the bytes that were read from an address on are those of the memory
byte-read : (memory : ByteMemory) (addr count k : ℕ) → k < count
    → slice_index (bytes_at memory addr count) k ≡ memory (addr + k)
unfolding bytes_at
byte-read memory addr zero k l = absurd (omega arith)
byte-read memory addr (suc count) zero l = let same : addr + 0 ≡ addr = add-zero addr in rw same refl
byte-read memory addr (suc count) (suc k) l = grind (arith, byte-read memory (addr + 1) count k (omega arith))

-- a byte of a line behind a number that is put into it, seen from the line's first byte on
byte-put : (memory : ByteMemory) (bytes : List ℕ) (addr size value k : ℕ)
    → slice_index bytes k ≡ memory (addr / 32 * 32 + k)
    → put_value memory addr size value (addr / 32 * 32 + k) ≡ put_value (slice_index bytes) (addr % 32) size value k
byte-put memory bytes addr size value k read = grind (arith, put_value-outside, put_value-inside)

-- a number that is put into a line, in the line's bytes
line-put : (memory : ByteMemory) (addr size value : ℕ)
    → line_bytes (put_value memory addr size value) (addr / 32)
    ≡ bytes_at (put_value (slice_index (line_bytes memory (addr / 32))) (addr % 32) size value) 0 32
unfolding line_bytes
line-put memory addr size value =
    bytes_at-shifted (put_value memory addr size value)
    (put_value (slice_index (bytes_at memory (addr / 32 * 32) 32)) (addr % 32) size value) (addr / 32 * 32) 0 32
    (λ k l. let same : 0 + k ≡ k = omega arith in rw same
    (byte-put memory (bytes_at memory (addr / 32 * 32) 32) addr size value k
    (byte-read memory (addr / 32 * 32) 32 k l)))

-- the entry stores into the line
unfoldable pub stores_into : ℕ → Done → Bool
stores_into line done = not (is_load done.access) && nat_eq (accessed_line done.access) line

-- the entry has bytes within one line
unfoldable pub is_placed : Done → Bool
is_placed done = is_place (size_of done.access) (addr_of done.access)

-- what one served access makes of the bytes of a line
line-served : (state : ReplayState) (agent value line : ℕ) (access : Access)
    → is_place (size_of access) (addr_of access) ≡ true → value ≡ served_value state agent access
    → line_bytes (served_state state agent access).memory line
    ≡ (if not (is_load access) && nat_eq (accessed_line access) line
    then bytes_at (put_value (slice_index (line_bytes state.memory line)) (addr_of access % 32)
    (size_of access) value) 0 32
    else line_bytes state.memory line)
unfolding is_load line_bytes
line-served state agent value line access h1 h2 = grind (arith, line-put, bytes_at-beside)

-- The bytes of a line after entries are served one after the other: those of before, with the stores on the line made
-- in their order.
pub replay-line : (state : ReplayState) (line : ℕ) (log : List Done) → list_all is_placed log ≡ true
    → map (λ done. done.value) log ≡ replayed_values state log
    → line_bytes (replay state log).memory line
    ≡ changes_of (filter (stores_into line) log) (line_bytes state.memory line)
unfolding changes_of change_of stores_into is_placed
replay-line state line [] placed values = refl
replay-line state line (done ∷ log) placed values =
    let parts = and_parts (is_placed done) (list_all is_placed log) placed in
    let head : done.value ≡ served_value state done.agent done.access = cc in
    let tail : map (λ (d : Done). d.value) log ≡ replayed_values (served_state state done.agent done.access) log = cc in
    let rest = replay-line (served_state state done.agent done.access) line log parts.1 tail in
    let here = line-served state done.agent done.value line done.access parts.0 head in
    rest ∙ ap (λ bytes. fold (λ before d. change_of d before) bytes (filter (stores_into line) log)) here
    ∙ one done log (line_bytes state.memory line)
  where
    one : (done : Done) (log : List Done) (bytes : List ℕ)
        → fold (λ before d. change_of d before)
        (if not (is_load done.access) && nat_eq (accessed_line done.access) line then bytes_at
        (put_value (slice_index bytes) (addr_of done.access % 32)
        (size_of done.access) done.value) 0 32 else bytes) (filter (stores_into line) log)
        ≡ fold (λ before d. change_of d before) bytes (filter (stores_into line) (done ∷ log))
    one done log bytes = grind arith
