-- Numbers in the bytes of a line.
use Rattle.std.proofs.Common.{ℕ, zero, suc, add-zero, zero-add, ◌+◌, ◌-◌, ◌*◌, ◌/◌, ◌%◌, ◌<◌, ◌≤◌, ◌≡◌, true, ◌&&◌}
use Rattle.std.proofs.Common.{List, ◌++◌, length, get_or, take, drop, refl, sym, ap, ◌∙◌, arith}
use Rattle.std.proofs.lemmas.Bool.Decides.{nat_tests}
use Rattle.std.proofs.lemmas.List.{length-append, length-drop, length-take, length-take-le, take_all}
use Rattle.std.specs.Prelude.{nat_le, nat_lt, slice_index}
use Rattle.std.specs.Int.{to_le_bytes, w64}
use borrow.Rule.Slice.PartMut.{put_mid}
use Rattle.fsb_access.proofs.Interface.{bytes_at-is, get_or-put_mid, put_bytes-low}
use Rattle.fsb_access.specs.Access.{is_size}
use Rattle.fsb_access.specs.ByteMemory.{ByteMemory, bytes_at, put_bytes, put_value, value_at, value_of_bytes}
use Rattle.fsb_cache.specs.LineValues.{line_with_value, value_in_line}

-- the bytes of an aligned number lie within the line
pub within_line : (addr size : ℕ) → is_size size ≡ true → addr % size ≡ 0 → (addr % 32 + size ≤ 32) × (size ≤ 8)
within_line addr size sized aligned = (grind (arith, nat_tests), grind (arith, nat_tests))

-- the number that they spell
pub value_in_line-is : (bytes : List ℕ) (addr size value : ℕ) → length bytes ≡ 32 → addr % 32 + size ≤ 32
    → value ≡ value_of_bytes (take size (drop (addr % 32) bytes)) → value ≡ value_in_line bytes addr size
value_in_line-is bytes addr size value long within is =
    is ∙ sym (ap value_of_bytes
    (bytes_at-is (slice_index bytes) bytes (addr % 32) (addr % 32) size (omega arith) (λ k h. refl)))

-- the line after they were written
pub line_with_value-is : (bytes part : List ℕ) (addr size value : ℕ) → length bytes ≡ 32 → addr % 32 + size ≤ 32
    → size ≤ 8 → part ≡ take size (to_le_bytes w64 value)
    → put_mid (addr % 32) size bytes part ≡ line_with_value bytes addr size value
unfolding put_bytes
line_with_value-is bytes part addr size value long within few is =
    sym
    (bytes_at-is (put_value (slice_index bytes) start size value) written 0 0 32 (omega (arith, length-written)) each
    ∙ take_all 32 written (omega (arith, length-written)))
  where
    start : ℕ
    start = addr % 32

    written : List ℕ
    written = put_mid start size bytes part

    sized : length part ≡ size
    sized = ap length is ∙ length-take-le size (to_le_bytes w64 value) few

    length-written : length written ≡ 32
    length-written =
        let parts : length written ≡ length (take start bytes ++ (part ++ drop size (drop start bytes))) = refl in
        omega (
          arith,
          sized,
          length-append (take start bytes) (part ++ drop size (drop start bytes)),
          length-append part (drop size (drop start bytes)),
          length-take start bytes,
          length-drop size (drop start bytes),
          length-drop start bytes,
        )

    put_as_bytes : put_value (slice_index bytes) start size value ≡ put_bytes (slice_index bytes) start part
    put_as_bytes = sym (ap (put_bytes (slice_index bytes) start) is
        ∙ put_bytes-low (slice_index bytes) start size value (to_le_bytes w64 value) refl few)

    each : (k : ℕ) → k < 32 → put_value (slice_index bytes) start size value (0 + k) ≡ get_or written (0 + k) 0
    each k h = ap (λ m. m (0 + k)) put_as_bytes
        ∙ sym (get_or-put_mid bytes part start size (0 + k) (sym sized) (omega (arith, sized)))

-- the bytes of two memories, which agree a distance apart
bytes_at-moved : (memory other : ByteMemory) (addr from count : ℕ)
    → ((k : ℕ) → k < count → memory (addr + k) ≡ other (from + k))
    → bytes_at memory addr count ≡ bytes_at other from count
unfolding bytes_at
bytes_at-moved memory other addr from zero same = refl
bytes_at-moved memory other addr from (suc count) same =
    let first : memory addr ≡ other from = simp add-zero at (same 0 (omega arith)) in
    let rest = bytes_at-moved memory other (addr + 1) (from + 1) count (λ k h. moved k (same (suc k) (omega arith))) in
    rw (first, rest) refl
  where
    moved : (k : ℕ) → memory (addr + suc k) ≡ other (from + suc k) → memory (addr + 1 + k) ≡ other (from + 1 + k)
    moved k h =
        let next : addr + 1 + k ≡ addr + suc k = omega arith in
        let beside : from + 1 + k ≡ from + suc k = omega arith in rw (next, beside) h

-- one of the bytes of a memory
get_or-bytes_at : (memory : ByteMemory) (addr count k : ℕ) → k < count
    → get_or (bytes_at memory addr count) k 0 ≡ memory (addr + k)
unfolding bytes_at
get_or-bytes_at memory addr zero k h = absurd (omega arith)
get_or-bytes_at memory addr (suc count) zero h = ap memory (sym (add-zero addr))
get_or-bytes_at memory addr (suc count) (suc k) h =
    get_or-bytes_at memory (addr + 1) count k (omega arith)
    ∙ ap memory (let next : addr + 1 + k ≡ addr + suc k = omega arith in next)

-- a line of a memory, and the memory
pub loaded_as_in_memory : (memory : ByteMemory) (addr size : ℕ) → addr % 32 + size ≤ 32
    → value_in_line (bytes_at memory (addr / 32 * 32) 32) addr size ≡ value_at memory addr size
loaded_as_in_memory memory addr size within =
    ap value_of_bytes (bytes_at-moved (slice_index (bytes_at memory (addr / 32 * 32) 32)) memory (addr % 32)
    addr size same)
  where
    same : (k : ℕ) → k < size → slice_index (bytes_at memory (addr / 32 * 32) 32) (addr % 32 + k) ≡ memory (addr + k)
    same k h =
        let place : addr / 32 * 32 + (addr % 32 + k) ≡ addr + k = omega arith in
        get_or-bytes_at memory (addr / 32 * 32) 32 (addr % 32 + k) (omega arith) ∙ ap memory place

pub stored_as_in_memory : (memory : ByteMemory) (addr size value : ℕ) → addr % 32 + size ≤ 32
    → line_with_value (bytes_at memory (addr / 32 * 32) 32) addr size value
    ≡ bytes_at (put_value memory addr size value) (addr / 32 * 32) 32
unfolding put_value
stored_as_in_memory memory addr size value within =
    bytes_at-moved (put_value (slice_index line) (addr % 32) size value) (put_value memory addr size value) 0
    (addr / 32 * 32) 32 same
  where
    line : List ℕ
    line = bytes_at memory (addr / 32 * 32) 32

    same : (k : ℕ) → k < 32
        → put_value (slice_index line) (addr % 32) size value (0 + k)
        ≡ put_value memory addr size value (addr / 32 * 32 + k)
    same k h =
        let test : (nat_le (addr % 32) (0 + k) && nat_lt (0 + k) (addr % 32 + size))
        ≡ (nat_le addr (addr / 32 * 32 + k) && nat_lt (addr / 32 * 32 + k) (addr + size)) =
        grind (arith, nat_tests) in
        let distance : 0 + k - addr % 32 ≡ addr / 32 * 32 + k - addr = omega arith in
        let byte : slice_index line (0 + k) ≡ memory (addr / 32 * 32 + k) =
        rw (zero-add k) (get_or-bytes_at memory (addr / 32 * 32) 32 k h) in
        rw (test, distance, byte) refl
