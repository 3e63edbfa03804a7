-- The chunks of the bytes of a line, and the memory that a log below a clock makes.
use Rattle.fsb_bench_values.proofs.Words
use Words.{ℕ, zero, suc, ◌+◌, ◌*◌, ◌<◌, ◌≤◌, ◌≡◌, Bool, true, List, [], ◌∷◌, ◌++◌, drop, take, length, lit<, nat_eq}
use Words.{nat_lt, slice_index, refl, ap, ◌∙◌, append-nil, arith, filter, list_all, and_parts, ltb-true, filter-append}
use Words.{ByteMemory, bytes_at, value_of_bytes, replay, start_of, Done, chunk_in, burst_order, chunk_value}
use Words.{memory_below, line_bytes, IsNext, Run}

-- ---- chunks

drop-bytes : (memory : ByteMemory) (addr count more total : ℕ) → total ≡ count + more
    → drop count (bytes_at memory addr total) ≡ bytes_at memory (addr + count) more
unfolding bytes_at
drop-bytes memory addr zero more total e = grind arith
drop-bytes memory addr (suc count) more zero e = absurd (omega (arith, e))
drop-bytes memory addr (suc count) more (suc total) e =
    grind (arith, drop-bytes memory (addr + 1) count more total (omega (arith, e)))

take-bytes : (memory : ByteMemory) (addr count more total : ℕ) → total ≡ count + more
    → take count (bytes_at memory addr total) ≡ bytes_at memory addr count
unfolding bytes_at
take-bytes memory addr zero more total e = refl
take-bytes memory addr (suc count) more zero e = absurd (omega (arith, e))
take-bytes memory addr (suc count) more (suc total) e =
    ap (λ xs. memory addr ∷ xs) (take-bytes memory (addr + 1) count more total (omega (arith, e)))

-- a chunk of the line's bytes has the value that the memory has there
pub chunk-of-line : (memory : ByteMemory) (line chunk : ℕ) → chunk < 4
    → chunk_in (line_bytes memory line) chunk ≡ chunk_value memory line chunk
unfolding line_bytes chunk_value
chunk-of-line memory line zero low =
    ap value_of_bytes (take-bytes memory (line * 32) 8 24 32 refl
    ∙ ap (λ a. bytes_at memory a 8) (let same : line * 32 ≡ line * 32 + 0 * 8 = omega arith in same))
chunk-of-line memory line (suc zero) low =
    ap (λ xs. value_of_bytes (take 8 xs)) (drop-bytes memory (line * 32) 8 24 32 refl)
    ∙ ap value_of_bytes (take-bytes memory (line * 32 + 8) 8 16 24 refl)
chunk-of-line memory line (suc (suc zero)) low =
    ap (λ xs. value_of_bytes (take 8 xs)) (drop-bytes memory (line * 32) 16 16 32 refl)
    ∙ ap value_of_bytes (take-bytes memory (line * 32 + 16) 8 8 16 refl)
chunk-of-line memory line (suc (suc (suc zero))) low =
    ap (λ xs. value_of_bytes (take 8 xs)) (drop-bytes memory (line * 32) 24 8 32 refl)
    ∙ ap value_of_bytes (take-bytes memory (line * 32 + 24) 8 0 8 refl)
chunk-of-line memory line (suc (suc (suc (suc chunk)))) low = absurd (omega (arith, low))

burst-small : (chunk : ℕ) → list_all (λ c. nat_lt c 4) (burst_order chunk) ≡ true
unfolding burst_order
burst-small chunk = grind arith

index-small : (xs : List ℕ) (k : ℕ) → list_all (λ c. nat_lt c 4) xs ≡ true → slice_index xs k < 4
index-small [] k e = lit< tt
index-small (x ∷ xs) zero e = ltb-true x 4 (and_parts (nat_lt x 4) (list_all (λ c. nat_lt c 4) xs) e).0
index-small (x ∷ xs) (suc k) e = index-small xs k (and_parts (nat_lt x 4) (list_all (λ c. nat_lt c 4) xs) e).1

pub burst-chunk : (chunk k : ℕ) → slice_index (burst_order chunk) k < 4
burst-chunk chunk k = index-small (burst_order chunk) k (burst-small chunk)

-- ---- the memory below a clock

none-below : (t n : ℕ) (log : List Done) → t ≤ n → list_all (λ done. nat_eq done.clock n) log ≡ true
    → filter (λ (done : Done). nat_lt done.clock t) log ≡ []
none-below t n [] l e = refl
none-below t n (done ∷ log) l e = grind (arith, none-below t n log l)

-- is that of the shorter run, up to its end
pub memory-grown : (r s : Run) (t : ℕ) → (k : IsNext r s) → s.plan.mem ≡ r.plan.mem → t ≤ length r.trace
    → memory_below s t ≡ memory_below r t
unfolding memory_below
memory-grown r s t k same l =
    let below : Done → Bool = λ done. nat_lt done.clock t in
    let log : filter below s.log ≡ filter below r.log =
    ap (filter below) k.more_log ∙ filter-append below r.log k.entries
    ∙ ap (λ xs. filter below r.log ++ xs) (none-below t (length r.trace) k.entries l k.at_end)
    ∙ append-nil (filter below r.log) in
    λ i. (replay (start_of (same i)) (log i)).memory
