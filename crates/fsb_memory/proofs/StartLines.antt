-- The bytes of a line of the memory that settings make.
use Rattle.std.proofs.Common.{◌≡◌, ◌≢◌, ℕ, zero, suc, ◌+◌, ◌*◌, ◌/◌, ◌%◌, ◌<◌, true, false, List, [], ◌∷◌, length}
use Rattle.std.proofs.Common.{get_or, get_or-set_same, get_or-set_other, length-set, set, refl, sym, ap, ◌∙◌, ⊎_elim}
use Rattle.std.proofs.Common.{arith, add-zero}
use Rattle.std.proofs.lemmas.Bool.{cases_eq}
use Rattle.std.proofs.lemmas.Bool.Decides.{nat_tests}
use Rattle.std.proofs.lemmas.List.{take_all, places}
use Rattle.std.specs.Prelude.{◌==◌, replicate}
use Rattle.fsb_access.proofs.Interface.{bytes_at-is}
use Rattle.fsb_access.specs.ByteMemory.{ByteMemory, bytes_at, put_byte, set_memory}
use Rattle.fsb_access.specs.declared.access.Setting.{Setting}
use Rattle.fsb_memory.specs.Controller.{set_byte, set_bytes, start_bytes}

length-bytes_at : (memory : ByteMemory) (addr count : ℕ) → length (bytes_at memory addr count) ≡ count
unfolding bytes_at
length-bytes_at memory addr zero = refl
length-bytes_at memory addr (suc count) = ap suc (length-bytes_at memory (addr + 1) count)

get_or-bytes_at : (memory : ByteMemory) (addr count k : ℕ) → k < count
    → get_or (bytes_at memory addr count) k 0 ≡ memory (addr + k)
unfolding bytes_at
get_or-bytes_at memory addr zero k below = absurd (omega arith)
get_or-bytes_at memory addr (suc count) zero below = rw add-zero refl
get_or-bytes_at memory addr (suc count) (suc k) below =
    let place : addr + 1 + k ≡ addr + suc k = omega arith in
    get_or-bytes_at memory (addr + 1) count k (omega arith) ∙ ap memory place

-- a line after one byte of the memory was put
line-put_byte :
    (memory : ByteMemory) (line : ℕ) (setting : Setting)
    → bytes_at (put_byte memory setting.addr setting.byte) (line * 32) 32
    ≡ set_byte line (bytes_at memory (line * 32) 32) setting
line-put_byte memory line setting = ⊎_elim same apart (cases_eq (setting.addr / 32) line)
  where
    bytes : List ℕ
    bytes = bytes_at memory (line * 32) 32

    set_here : List ℕ
    set_here = set bytes (setting.addr % 32) setting.byte

    all : length bytes ≡ 32
    all = length-bytes_at memory (line * 32) 32

    at : setting.addr / 32 ≡ line → (k : ℕ) → k < 32
        → put_byte memory setting.addr setting.byte (line * 32 + k) ≡ get_or set_here (0 + k) 0
    at of k below = ⊎_elim here there (cases_eq k (setting.addr % 32))
      where
        here : k ≡ setting.addr % 32
            → put_byte memory setting.addr setting.byte (line * 32 + k) ≡ get_or set_here (0 + k) 0
        here is =
            let place : line * 32 + k ≡ setting.addr = omega arith in
            let index : 0 + k ≡ setting.addr % 32 = omega arith in
            let long : setting.addr % 32 < length bytes = omega (arith, all) in
            rw (place, index) (grind (arith, nat_tests, places, get_or-set_same))

        there : k ≢ setting.addr % 32
            → put_byte memory setting.addr setting.byte (line * 32 + k) ≡ get_or set_here (0 + k) 0
        there apart =
            let place : line * 32 + k ≢ setting.addr = omega arith in
            let index : 0 + k ≡ k = omega arith in
            let was = get_or-bytes_at memory (line * 32) 32 k below in
            rw index (grind (arith, nat_tests, places, get_or-set_other))

    same : setting.addr / 32 ≡ line
        → bytes_at (put_byte memory setting.addr setting.byte) (line * 32) 32 ≡ set_byte line bytes setting
    same of =
        let long : length set_here ≡ 32 = length-set bytes (setting.addr % 32) setting.byte ∙ all in
        let inside : (setting.addr / 32 == line) ≡ true = grind (arith, nat_tests) in
        bytes_at-is (put_byte memory setting.addr setting.byte) set_here (line * 32) 0 32 (omega (arith, long)) (at of)
        ∙ take_all 32 set_here (omega (arith, long)) ∙ rw inside refl

    apart : setting.addr / 32 ≢ line
        → bytes_at (put_byte memory setting.addr setting.byte) (line * 32) 32 ≡ set_byte line bytes setting
    apart other =
        let outside : (setting.addr / 32 == line) ≡ false = grind (arith, nat_tests) in
        bytes_at-is (put_byte memory setting.addr setting.byte) bytes (line * 32) 0 32 (omega (arith, all))
        (λ k h.
        let place : line * 32 + k ≢ setting.addr = omega arith in
        let index : 0 + k ≡ k = omega arith in
        let was = get_or-bytes_at memory (line * 32) 32 k h in
        rw index (grind (arith, nat_tests)))
        ∙ take_all 32 bytes (omega (arith, all)) ∙ rw outside refl

-- a line after settings
line-set_memory :
    (memory : ByteMemory) (line : ℕ) (settings : List Setting)
    → bytes_at (set_memory memory settings) (line * 32) 32 ≡ set_bytes line (bytes_at memory (line * 32) 32) settings
line-set_memory memory line [] = refl
line-set_memory memory line (setting ∷ settings) =
    line-set_memory (put_byte memory setting.addr setting.byte) line settings
    ∙ ap (λ bytes. set_bytes line bytes settings) (line-put_byte memory line setting)

-- a line of the memory that settings make
pub start_bytes-set : (settings : List Setting) (line : ℕ)
    → set_bytes line (replicate 32 0) settings ≡ start_bytes settings line
unfolding bytes_at
start_bytes-set settings line = sym (line-set_memory (λ _. 0) line settings)
