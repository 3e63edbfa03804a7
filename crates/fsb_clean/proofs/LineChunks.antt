-- The chunks of a line: in which place each comes, and that the line's bytes are theirs.
use Rattle.std.proofs.Common.{ℕ, zero, suc, ◌+◌, ◌*◌, ◌<◌, ◌≡◌, slice_index, refl, sym, ap, ◌∙◌, arith}
use Rattle.fsb_access.specs.ByteMemory.{ByteMemory, bytes_at, value_of_bytes}
use Rattle.fsb_access.proofs.Interface.{bytes_at-same}
use Rattle.fsb_encode.specs.Burst.{burst_order}
use Rattle.fsb_timely.specs.Carried.{chunk_value}
use Rattle.fsb_timely.specs.Kept.{line_bytes}

-- there are four chunks
pub chunk-few : (chunk n : ℕ) → n < 4 → slice_index (burst_order chunk) n < 4
unfolding burst_order
chunk-few zero zero l = omega arith
chunk-few zero (suc zero) l = omega arith
chunk-few zero (suc (suc zero)) l = omega arith
chunk-few zero (suc (suc (suc zero))) l = omega arith
chunk-few zero (suc (suc (suc (suc n)))) l = absurd (omega arith)
chunk-few (suc zero) zero l = omega arith
chunk-few (suc zero) (suc zero) l = omega arith
chunk-few (suc zero) (suc (suc zero)) l = omega arith
chunk-few (suc zero) (suc (suc (suc zero))) l = omega arith
chunk-few (suc zero) (suc (suc (suc (suc n)))) l = absurd (omega arith)
chunk-few (suc (suc zero)) zero l = omega arith
chunk-few (suc (suc zero)) (suc zero) l = omega arith
chunk-few (suc (suc zero)) (suc (suc zero)) l = omega arith
chunk-few (suc (suc zero)) (suc (suc (suc zero))) l = omega arith
chunk-few (suc (suc zero)) (suc (suc (suc (suc n)))) l = absurd (omega arith)
chunk-few (suc (suc (suc chunk))) zero l = omega arith
chunk-few (suc (suc (suc chunk))) (suc zero) l = omega arith
chunk-few (suc (suc (suc chunk))) (suc (suc zero)) l = omega arith
chunk-few (suc (suc (suc chunk))) (suc (suc (suc zero))) l = omega arith
chunk-few (suc (suc (suc chunk))) (suc (suc (suc (suc n)))) l = absurd (omega arith)

-- the place at which a chunk comes
pub record Place (chunk k : ℕ) : Type 0 where
  pub at : ℕ
  pub few : at < 4
  pub comes : slice_index (burst_order chunk) at ≡ k

-- each of the four comes
pub chunk-place : (chunk k : ℕ) → k < 4 → Place chunk k
unfolding burst_order
chunk-place zero zero l = record { at = 0; few = omega arith; comes = refl }
chunk-place zero (suc zero) l = record { at = 1; few = omega arith; comes = refl }
chunk-place zero (suc (suc zero)) l = record { at = 2; few = omega arith; comes = refl }
chunk-place zero (suc (suc (suc zero))) l = record { at = 3; few = omega arith; comes = refl }
chunk-place zero (suc (suc (suc (suc k)))) l = absurd (omega arith)
chunk-place (suc zero) zero l = record { at = 1; few = omega arith; comes = refl }
chunk-place (suc zero) (suc zero) l = record { at = 0; few = omega arith; comes = refl }
chunk-place (suc zero) (suc (suc zero)) l = record { at = 3; few = omega arith; comes = refl }
chunk-place (suc zero) (suc (suc (suc zero))) l = record { at = 2; few = omega arith; comes = refl }
chunk-place (suc zero) (suc (suc (suc (suc k)))) l = absurd (omega arith)
chunk-place (suc (suc zero)) zero l = record { at = 2; few = omega arith; comes = refl }
chunk-place (suc (suc zero)) (suc zero) l = record { at = 3; few = omega arith; comes = refl }
chunk-place (suc (suc zero)) (suc (suc zero)) l = record { at = 0; few = omega arith; comes = refl }
chunk-place (suc (suc zero)) (suc (suc (suc zero))) l = record { at = 1; few = omega arith; comes = refl }
chunk-place (suc (suc zero)) (suc (suc (suc (suc k)))) l = absurd (omega arith)
chunk-place (suc (suc (suc chunk))) zero l = record { at = 3; few = omega arith; comes = refl }
chunk-place (suc (suc (suc chunk))) (suc zero) l = record { at = 2; few = omega arith; comes = refl }
chunk-place (suc (suc (suc chunk))) (suc (suc zero)) l = record { at = 1; few = omega arith; comes = refl }
chunk-place (suc (suc (suc chunk))) (suc (suc (suc zero))) l = record { at = 0; few = omega arith; comes = refl }
chunk-place (suc (suc (suc chunk))) (suc (suc (suc (suc k)))) l = absurd (omega arith)

-- the bytes that were read from an address on are those of the memory
byte-read : (memory : ByteMemory) (addr count k : ℕ) → k < count
    → slice_index (bytes_at memory addr count) k ≡ memory (addr + k)
unfolding bytes_at
byte-read memory addr zero k l = absurd (omega arith)
byte-read memory addr (suc count) zero l = let same : addr + 0 ≡ addr = omega arith in rw same refl
byte-read memory addr (suc count) (suc k) l =
    let next : addr + 1 + k ≡ addr + suc k = omega arith in
    byte-read memory (addr + 1) count k (omega arith) ∙ ap memory next

-- memories that have the same bytes of a line have the same chunks of it
pub same-chunk : (memory other : ByteMemory) (line chunk : ℕ) → chunk < 4
    → line_bytes memory line ≡ line_bytes other line → chunk_value memory line chunk ≡ chunk_value other line chunk
unfolding line_bytes chunk_value
same-chunk memory other line chunk l e =
    ap value_of_bytes (bytes_at-same memory other (line * 32 + chunk * 8) 8 (λ k m. byte k m))
  where
    byte : (k : ℕ) → k < 8 → memory (line * 32 + chunk * 8 + k) ≡ other (line * 32 + chunk * 8 + k)
    byte k m =
        let place : line * 32 + chunk * 8 + k ≡ line * 32 + (chunk * 8 + k) = omega arith in
        ap memory place ∙ sym (byte-read memory (line * 32) 32 (chunk * 8 + k) (omega arith))
        ∙ ap (λ bytes. slice_index bytes (chunk * 8 + k)) e
        ∙ byte-read other (line * 32) 32 (chunk * 8 + k) (omega arith) ∙ ap other (sym place)
