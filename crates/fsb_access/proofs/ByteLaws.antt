-- Bytes and numbers of a memory: what is put, what is found again, and what stays.
use Rattle.std.proofs.Common.{◌≡◌, ℕ, zero, suc, ◌+◌, ◌-◌, ◌*◌, ◌/◌, ◌%◌, ◌^◌, ◌<◌, ◌≤◌, true, false, ◌&&◌, ◌⊎◌, List}
use Rattle.std.proofs.Common.{◌∷◌, length, get_or, take, drop, drop-cons, refl, ◌∙◌, ⊎_elim, inl, inr, arith, add-zero}
use Rattle.std.proofs.lemmas.Bool.Decides.{nat_tests}
use Rattle.std.proofs.Math.Nat.{pow-suc, div-div-eq-div-mul}
use Rattle.std.specs.Prelude.{nat_le, nat_lt}
use Rattle.fsb_access.specs.Access.{is_place}
use Rattle.fsb_access.specs.ByteMemory.{ByteMemory, bytes_at, put_value, byte_of, value_at}

-- memories that agree on some addresses have the same bytes there
pub bytes_at-same :
    (memory other : ByteMemory) (addr count : ℕ) → ((k : ℕ) → k < count → memory (addr + k) ≡ other (addr + k))
    → bytes_at memory addr count ≡ bytes_at other addr count
unfolding bytes_at
bytes_at-same memory other addr zero same = refl
bytes_at-same memory other addr (suc count) same =
    let first : memory addr ≡ other addr = simp add-zero at (same 0 (omega arith)) in
    let rest = bytes_at-same memory other (addr + 1) count (λ k h. moved k (same (suc k) (omega arith))) in
    rw (first, rest) refl
  where
    moved : (k : ℕ) → memory (addr + suc k) ≡ other (addr + suc k) → memory (addr + 1 + k) ≡ other (addr + 1 + k)
    moved k h = let next : addr + 1 + k ≡ addr + suc k = omega arith in rw next h

-- bytes of a memory are those of a list that it has at these addresses
pub bytes_at-is :
    (memory : ByteMemory) (bytes : List ℕ) (addr start count : ℕ) → start + count ≤ length bytes →
    ((k : ℕ) → k < count → memory (addr + k) ≡ get_or bytes (start + k) 0) →
    bytes_at memory addr count ≡ take count (drop start bytes)
unfolding bytes_at
bytes_at-is memory bytes addr start zero within same = refl
bytes_at-is memory bytes addr start (suc count) within same =
    let first : memory addr ≡ get_or bytes start 0 = simp add-zero at (same 0 (omega arith)) in
    let split : drop start bytes ≡ get_or bytes start 0 ∷ drop (suc start) bytes =
    drop-cons bytes start 0 (omega arith) in
    let rest : bytes_at memory (addr + 1) count ≡ take count (drop (suc start) bytes) =
    bytes_at-is memory bytes (addr + 1) (suc start) count (omega arith)
    (λ k h. moved k (same (k + 1) (omega arith))) in
    rw (split, first, rest) refl
  where
    moved : (k : ℕ) → memory (addr + (k + 1)) ≡ get_or bytes (start + (k + 1)) 0
        → memory (addr + 1 + k) ≡ get_or bytes (suc start + k) 0
    moved k h = let to : addr + 1 + k ≡ addr + (k + 1) = omega arith in
        let from : suc start + k ≡ start + (k + 1) = omega arith in rw (to, from) h

-- a byte of a number that was put, and a byte beside it
pub put_value-inside :
    (memory : ByteMemory) (addr size value place : ℕ) → addr ≤ place → place < addr + size
    → put_value memory addr size value place ≡ byte_of value (place - addr)
unfolding put_value
put_value-inside memory addr size value place from to =
    let within : (nat_le addr place && nat_lt place (addr + size)) ≡ true = grind (arith, nat_tests) in rw within refl

pub put_value-outside :
    (memory : ByteMemory) (addr size value place : ℕ) → (place < addr) ⊎ (addr + size ≤ place)
    → put_value memory addr size value place ≡ memory place
unfolding put_value
put_value-outside memory addr size value place beside =
    let beyond : (nat_le addr place && nat_lt place (addr + size)) ≡ false = grind (arith, nat_tests) in rw beyond refl

-- bytes beside a number that was put stay
pub bytes_at-beside :
    (memory : ByteMemory) (addr size value from count : ℕ) → (from + count ≤ addr) ⊎ (addr + size ≤ from) →
    bytes_at (put_value memory addr size value) from count ≡ bytes_at memory from count
bytes_at-beside memory addr size value from count beside =
    bytes_at-same (put_value memory addr size value) memory from count
    (λ k h. put_value-outside memory addr size value (from + k)
    (⊎_elim (λ (before : from + count ≤ addr). inl (omega arith))
    (λ (after : addr + size ≤ from). inr (omega arith)) beside))

-- a memory that has a number's bytes at an address has the number there
pub value_at-bytes :
    (memory : ByteMemory) (addr size value : ℕ) → ((k : ℕ) → k < size → memory (addr + k) ≡ byte_of value k)
    → value < 256 ^ size → value_at memory addr size ≡ value
unfolding bytes_at
value_at-bytes memory addr zero value same below = omega arith
value_at-bytes memory addr (suc size) value same below =
    let first : memory addr ≡ value % 256 = simp add-zero at (same 0 (omega arith)) ∙ omega arith in
    let rest = value_at-bytes memory (addr + 1) size (value / 256) (λ k h. moved k (same (suc k) (omega arith)))
    (omega (arith, pow-suc 256 size)) in
    rw (first, rest) (omega arith)
  where
    moved : (k : ℕ) → memory (addr + suc k) ≡ byte_of value (suc k) → memory (addr + 1 + k) ≡ byte_of (value / 256) k
    moved k h =
        let next : addr + 1 + k ≡ addr + suc k = omega arith in
        let power : 256 ^ suc k ≡ 256 * 256 ^ k = omega (arith, pow-suc 256 k) in
        rw (next, div-div-eq-div-mul value 256 (256 ^ k), ← power) h

-- a number of bytes has no more bytes than they are
pub value_at-fits : (memory : ByteMemory) (addr size : ℕ) → ((place : ℕ) → memory place < 256)
    → value_at memory addr size < 256 ^ size
unfolding bytes_at
value_at-fits memory addr zero small = omega arith
value_at-fits memory addr (suc size) small =
    omega (arith, small addr, value_at-fits memory (addr + 1) size small, pow-suc 256 size)

-- a load after a store of the same bytes gives the number that was stored
pub value_at-put_value :
    (memory : ByteMemory) (addr size value : ℕ) → value < 256 ^ size
    → value_at (put_value memory addr size value) addr size ≡ value
value_at-put_value memory addr size value below =
    value_at-bytes (put_value memory addr size value) addr size value (λ k h. inside k h) below
  where
    inside : (k : ℕ) → k < size → put_value memory addr size value (addr + k) ≡ byte_of value k
    inside k h = let place : addr + k - addr ≡ k = omega arith in
        put_value-inside memory addr size value (addr + k) (omega arith) (omega arith) ∙ rw place refl

-- the bytes of a lawful place lie within one line
pub place-within_line : (size addr : ℕ) → is_place size addr ≡ true → addr % 32 + size ≤ 32
place-within_line size addr lawful = grind (arith, nat_tests)
