-- The chunks of a flat memory, and the byte memory that they stand for.
use Rattle.std.proofs.Common.{◌≡◌, ◌≢◌, ℕ, zero, suc, ◌+◌, ◌-◌, ◌*◌, ◌/◌, ◌%◌, ◌^◌, ◌<◌, ◌≤◌, true, false, cond, ◌&&◌}
use Rattle.std.proofs.Common.{List, [], ◌∷◌, Some, lit<, length, length-set, get_or, set, get_or-set_same}
use Rattle.std.proofs.Common.{get_or-set_other, take, drop, nat_cmp, refl, ◌∙◌, ap, ⊎_elim, arith}
use Rattle.std.proofs.lemmas.Bool.{cases_Bool, cases_eq}
use Rattle.std.proofs.lemmas.Bool.Decides.{nat_tests}
use Rattle.std.proofs.lemmas.List.{places, get_or-take, get_or-replicate, length-take-le}
use Rattle.std.proofs.lemmas.List.Sums.{fold_more, fold-append}
use Rattle.std.proofs.Math.Nat.{pow-le-pow_right}
use Rattle.std.proofs.Math.Path.{fun_ext}
use Rattle.std.proofs.Math.Seq.{take-add}
use Rattle.std.specs.Prelude.{nat_le, nat_lt, ◌==◌, slice_index}
use Rattle.std.specs.BTreeMap.{is_at}
use Rattle.std.specs.Int.{to_le_bytes, w64}
use Rattle.std.specs.Map.{lookup}
use borrow.Rule.Slice.PartMut.{put_mid}
use Rattle.fsb_access.proofs.ByteLaws.{bytes_at-is}
use Rattle.fsb_access.specs.Access.{is_place}
use Rattle.fsb_access.specs.ByteMemory.{ByteMemory, start_memory, bytes_at, put_byte, put_bytes, put_value, byte_of}
use Rattle.fsb_access.specs.ByteMemory.{value_of_bytes, value_at, set_memory}
use Rattle.fsb_access.specs.FlatView.{FlatView, chunk_bytes, memory_of_chunks, state_of}
use Rattle.fsb_access.specs.Replay.{ReplayState, start_of, with_last}
use Rattle.fsb_access.specs.declared.access.Setting.{Setting}

-- an element after a write to a part of a list
pub get_or-put_mid :
    (list part : List ℕ) (start size place : ℕ) → size ≡ length part → start + length part ≤ length list →
    get_or (put_mid start size list part) place 0
    ≡ cond (nat_le start place && nat_lt place (start + length part)) (get_or part (place - start) 0)
    (get_or list place 0)
get_or-put_mid list part start size place sized within = grind (arith, nat_tests, places)

-- the chunks after one of them was put: that one, and the others
pub chunk_bytes-same :
    (old new : List (ℕ × List ℕ)) (number : ℕ) (chunk : List ℕ) →
    ((other : ℕ) → lookup (is_at (nat_cmp other)) new ≡ cond (is_at (nat_cmp number) other) (Some chunk)
    (lookup (is_at (nat_cmp other)) old)) →
    chunk_bytes new number ≡ chunk
chunk_bytes-same old new number chunk puts = let at = puts number in grind (arith, nat_tests)

pub chunk_bytes-other :
    (old new : List (ℕ × List ℕ)) (number : ℕ) (chunk : List ℕ) →
    ((other : ℕ) → lookup (is_at (nat_cmp other)) new ≡ cond (is_at (nat_cmp number) other) (Some chunk)
    (lookup (is_at (nat_cmp other)) old)) →
    (other : ℕ) → other ≢ number → chunk_bytes new other ≡ chunk_bytes old other
chunk_bytes-other old new number chunk puts other apart = let at = puts other in grind (arith, nat_tests)

-- two addresses of one chunk lie to each other as their places in it do
pub is_within-same :
    (addr place size : ℕ) → place / 8 ≡ addr / 8 →
    (nat_le (addr % 8) (place % 8) && nat_lt (place % 8) (addr % 8 + size))
    ≡ (nat_le addr place && nat_lt place (addr + size))
is_within-same addr place size is = grind (arith, nat_tests)

-- bytes within one chunk have no address in another
pub is_within-other :
    (addr place size : ℕ) → place / 8 ≢ addr / 8 → addr % 8 + size ≤ 8
    → (nat_le addr place && nat_lt place (addr + size)) ≡ false
is_within-other addr place size apart within = grind (arith, nat_tests)

-- the memory after one of its chunks had bytes put over a part of it
pub memory_of_chunks-put :
    (old new : List (ℕ × List ℕ)) (addr size : ℕ) (bytes : List ℕ) →
    ((other : ℕ) → lookup (is_at (nat_cmp other)) new
    ≡ cond (is_at (nat_cmp (addr / 8)) other)
    (Some (put_mid (addr % 8) size (chunk_bytes old (addr / 8)) bytes)) (lookup (is_at (nat_cmp other)) old)) →
    size ≡ length bytes → addr % 8 + length bytes ≤ 8 → length (chunk_bytes old (addr / 8)) ≡ 8 →
    memory_of_chunks new ≡ put_bytes (memory_of_chunks old) addr bytes
unfolding memory_of_chunks put_bytes
memory_of_chunks-put old new addr size bytes puts sized within long =
    fun_ext (λ place. ⊎_elim (same place) (other place) (cases_eq (place / 8) (addr / 8)))
  where
    same : (place : ℕ) → place / 8 ≡ addr / 8
        → memory_of_chunks new place ≡ put_bytes (memory_of_chunks old) addr bytes place
    same place is =
        let chunk = put_mid (addr % 8) size (chunk_bytes old (addr / 8)) bytes in
        let here : chunk_bytes new (addr / 8) ≡ chunk = chunk_bytes-same old new (addr / 8) chunk puts in
        let at = get_or-put_mid (chunk_bytes old (addr / 8)) bytes (addr % 8) size (place % 8) sized (omega arith) in
        let distance : place % 8 - addr % 8 ≡ place - addr = omega arith in
        rw (is, here, at, is_within-same addr place (length bytes) is, distance) refl

    other : (place : ℕ) → place / 8 ≢ addr / 8
        → memory_of_chunks new place ≡ put_bytes (memory_of_chunks old) addr bytes place
    other place apart =
        let there = chunk_bytes-other old new (addr / 8)
        (put_mid (addr % 8) size (chunk_bytes old (addr / 8)) bytes) puts (place / 8) apart in
        rw (there, is_within-other addr place (length bytes) apart within) refl

-- the bytes of a lawful place lie within one chunk
pub place-within : (size addr : ℕ) → is_place size addr ≡ true → addr % 8 + size ≤ 8
place-within size addr h = grind (arith, nat_tests)

-- a number of at most seven bytes
pub below_seven_bytes : (number count : ℕ) → number < 256 ^ count → count ≤ 7 → number < 2 ^ 56
below_seven_bytes number count below few = let most =
    pow-le-pow_right {n = 256} (lit< tt) {i = count} {j = 7} few in omega arith

-- bytes within one chunk, as the memory has them
pub bytes_at-chunk :
    (chunks : List (ℕ × List ℕ)) (addr size : ℕ) → addr % 8 + size ≤ 8 → length (chunk_bytes chunks (addr / 8)) ≡ 8 →
    bytes_at (memory_of_chunks chunks) addr size ≡ take size (drop (addr % 8) (chunk_bytes chunks (addr / 8)))
unfolding memory_of_chunks
bytes_at-chunk chunks addr size within long =
    bytes_at-is (memory_of_chunks chunks) (chunk_bytes chunks (addr / 8)) addr (addr % 8) size (omega arith)
    (λ k h.
    let number : (addr + k) / 8 ≡ addr / 8 = omega arith in
    let start : (addr + k) % 8 ≡ addr % 8 + k = omega arith in
    rw (number, start) refl)

-- a number read from the chunk of a lawful place is the memory's
pub value_at-chunk :
    (chunks : List (ℕ × List ℕ)) (chunk : List ℕ) (addr size count value : ℕ) →
    chunk ≡ chunk_bytes chunks (addr / 8) → length chunk ≡ 8 → count ≡ size → is_place size addr ≡ true →
    value ≡ value_of_bytes (take count (drop (addr % 8) chunk)) → value ≡ value_at (memory_of_chunks chunks) addr size
value_at-chunk chunks chunk addr size count value chunk_is long sized lawful value_is =
    let whole : length (chunk_bytes chunks (addr / 8)) ≡ 8 = rw chunk_is at long in
    let found = rw (chunk_is, sized) at value_is in
    rw (bytes_at-chunk chunks addr size (place-within size addr lawful) whole) found

-- the state after the last loaded value of an agent is written
pub state_of-loaded :
    (chunks : List (ℕ × List ℕ)) (last : List ℕ) (agent at value : ℕ) → at ≡ agent → agent < length last →
    state_of (record { chunks = chunks; last = set last at value })
    ≡ with_last (state_of (record { chunks = chunks; last = last })) agent value
state_of-loaded chunks last agent at value is within =
    let same : (λ (other : ℕ). slice_index (set last at value) other)
    ≡ (λ (other : ℕ). cond (other == agent) value (slice_index last other)) =
    fun_ext (λ other. ⊎_elim (here other) (there other) (cases_eq other agent)) in
    ap (λ (l : ℕ → ℕ). let state : ReplayState = record { memory = memory_of_chunks chunks; last = l } in state) same
  where
    here : (other : ℕ) → other ≡ agent
        → slice_index (set last at value) other ≡ cond (other == agent) value (slice_index last other)
    here other e = let same : at ≡ other = omega arith in let lt : other < length last = omega arith in
        grind (arith, nat_tests, places, get_or-set_same)

    there : (other : ℕ) → other ≢ agent
        → slice_index (set last at value) other ≡ cond (other == agent) value (slice_index last other)
    there other ne = let apart : other ≢ at = omega arith in grind (arith, nat_tests, places, get_or-set_other)

-- the bytes of a number, put as bytes
pub put_bytes-value :
    (memory : ByteMemory) (addr size value : ℕ) (bytes : List ℕ) → length bytes ≡ size →
    ((k : ℕ) → k < size → get_or bytes k 0 ≡ byte_of value k)
    → put_bytes memory addr bytes ≡ put_value memory addr size value
unfolding put_bytes put_value
put_bytes-value memory addr size value bytes long same =
    fun_ext (λ place. ⊎_elim (inside place) (outside place)
    (cases_Bool (nat_le addr place && nat_lt place (addr + size))))
  where
    inside : (place : ℕ) → (nat_le addr place && nat_lt place (addr + size)) ≡ true
        → put_bytes memory addr bytes place ≡ put_value memory addr size value place
    inside place within =
        let near : place - addr < size = grind (arith, nat_tests) in
        rw (long, within) (same (place - addr) near)

    outside : (place : ℕ) → (nat_le addr place && nat_lt place (addr + size)) ≡ false
        → put_bytes memory addr bytes place ≡ put_value memory addr size value place
    outside place beyond = rw (long, beyond) refl

-- each of the eight bytes of a number
pub get_or-to_le_bytes : (value k : ℕ) → k < 8 → get_or (to_le_bytes w64 value) k 0 ≡ byte_of value k
get_or-to_le_bytes value zero below = omega arith
get_or-to_le_bytes value (suc zero) below = refl
get_or-to_le_bytes value (suc (suc zero)) below = refl
get_or-to_le_bytes value (suc (suc (suc zero))) below = refl
get_or-to_le_bytes value (suc (suc (suc (suc zero)))) below = refl
get_or-to_le_bytes value (suc (suc (suc (suc (suc zero))))) below = refl
get_or-to_le_bytes value (suc (suc (suc (suc (suc (suc zero)))))) below = refl
get_or-to_le_bytes value (suc (suc (suc (suc (suc (suc (suc zero))))))) below = refl
get_or-to_le_bytes value (suc (suc (suc (suc (suc (suc (suc (suc k)))))))) below = absurd (omega arith)

-- the lowest bytes of a number, put as bytes
pub put_bytes-low :
    (memory : ByteMemory) (addr size value : ℕ) (bytes : List ℕ) → bytes ≡ to_le_bytes w64 value → size ≤ 8 →
    put_bytes memory addr (take size bytes) ≡ put_value memory addr size value
put_bytes-low memory addr size value bytes is few =
    put_bytes-value memory addr size value (take size bytes) (rw is (long)) same
  where
    long : length (take size (to_le_bytes w64 value)) ≡ size
    long = length-take-le size (to_le_bytes w64 value) few

    same : (k : ℕ) → k < size → get_or (take size bytes) k 0 ≡ byte_of value k
    same k h = rw is (get_or-take size (to_le_bytes w64 value) k 0 h ∙ get_or-to_le_bytes value k (omega arith))

-- the state of a memory that was put to
pub state_of-put :
    (old new : FlatView) (memory : ByteMemory) → memory_of_chunks new.chunks ≡ memory → new.last ≡ old.last →
    state_of new ≡ record (state_of old) { memory = memory }
state_of-put old new memory put kept = rw (put, kept) refl

-- the state of an empty memory
pub state_of-empty : (chunks : List (ℕ × List ℕ)) → chunks ≡ []
    → state_of (record { chunks = chunks; last = 0 ∷ 0 ∷ 0 ∷ 0 ∷ [] }) ≡ start_of []
unfolding memory_of_chunks
state_of-empty chunks empty =
    let bytes : (λ (place : ℕ). slice_index (chunk_bytes [] (place / 8)) (place % 8)) ≡ (λ (_ : ℕ). 0) =
    fun_ext (λ place. get_or-replicate 8 (place % 8) 0 0 (omega arith)) in
    let last : (λ (agent : ℕ). slice_index (0 ∷ 0 ∷ 0 ∷ 0 ∷ []) agent) ≡ (λ (_ : ℕ). 0) = fun_ext none in
    rw (empty, bytes, last) refl
  where
    none : (agent : ℕ) → slice_index (0 ∷ 0 ∷ 0 ∷ 0 ∷ []) agent ≡ 0
    none zero = refl
    none (suc zero) = refl
    none (suc (suc zero)) = refl
    none (suc (suc (suc zero))) = refl
    none (suc (suc (suc (suc agent)))) = refl

-- a chunk of a memory, put where it stands
pub put_bytes-held :
    (chunks : List (ℕ × List ℕ)) (number : ℕ) → length (chunk_bytes chunks number) ≡ 8 →
    put_bytes (memory_of_chunks chunks) (8 * number) (chunk_bytes chunks number) ≡ memory_of_chunks chunks
unfolding memory_of_chunks put_bytes
put_bytes-held chunks number long =
    fun_ext (λ place. ⊎_elim (inside place) (outside place)
    (cases_Bool (nat_le (8 * number) place && nat_lt place (8 * number + length (chunk_bytes chunks number)))))
  where
    inside : (place : ℕ)
        → (nat_le (8 * number) place && nat_lt place (8 * number + length (chunk_bytes chunks number))) ≡ true
        → put_bytes (memory_of_chunks chunks) (8 * number) (chunk_bytes chunks number) place
        ≡ memory_of_chunks chunks place
    inside place within =
        let here : place / 8 ≡ number = grind (arith, nat_tests) in
        let at : place - 8 * number ≡ place % 8 = omega arith in
        rw (within, here, at) refl

    outside : (place : ℕ)
        → (nat_le (8 * number) place && nat_lt place (8 * number + length (chunk_bytes chunks number))) ≡ false
        → put_bytes (memory_of_chunks chunks) (8 * number) (chunk_bytes chunks number) place
        ≡ memory_of_chunks chunks place
    outside place beyond = rw beyond refl

-- a byte of a chunk, put before the chunk is
pub put_bytes-set :
    (memory : ByteMemory) (chunk : List ℕ) (number addr byte : ℕ) → length chunk ≡ 8 → addr / 8 ≡ number →
    put_bytes memory (8 * number) (set chunk (addr % 8) byte) ≡ put_byte (put_bytes memory (8 * number) chunk) addr byte
unfolding put_bytes
put_bytes-set memory chunk number addr byte long of =
    fun_ext (λ place. ⊎_elim (here place) (there place) (cases_eq place addr))
  where
    here : (place : ℕ) → place ≡ addr
        → put_bytes memory (8 * number) (set chunk (addr % 8) byte) place
        ≡ put_byte (put_bytes memory (8 * number) chunk) addr byte place
    here place is =
        let at : place - 8 * number ≡ addr % 8 = omega arith in
        let below : addr % 8 < length chunk = omega arith in
        rw (at, length-set chunk (addr % 8) byte) (grind (arith, nat_tests, places, get_or-set_same))

    there : (place : ℕ) → place ≢ addr
        → put_bytes memory (8 * number) (set chunk (addr % 8) byte) place
        ≡ put_byte (put_bytes memory (8 * number) chunk) addr byte place
    there place apart = rw (length-set chunk (addr % 8) byte) (grind (arith, nat_tests, places, get_or-set_other))

-- one more setting of a chunk that is not put yet
pub chunk-set :
    (memory : ByteMemory) (chunk : List ℕ) (number count : ℕ) (settings : List Setting) (setting : Setting) →
    put_bytes memory (8 * number) chunk ≡ set_memory memory (take count settings) → length chunk ≡ 8
    → count < length settings →
    setting ≡ get_or settings count (record { addr = 0; byte = 0 }) → setting.addr / 8 ≡ number →
    put_bytes memory (8 * number) (set chunk (setting.addr % 8) setting.byte)
    ≡ set_memory memory (take (count + 1) settings)
chunk-set memory chunk number count settings setting stands long below is of =
    let more : set_memory memory (take (count + 1) settings)
    ≡ put_byte (set_memory memory (take count settings)) setting.addr setting.byte =
    rw is (fold_more (λ (m : ByteMemory) (s : Setting). put_byte m s.addr s.byte) memory settings count
    (record { addr = 0; byte = 0 }) below) in
    put_bytes-set memory chunk number setting.addr setting.byte long of ∙ rw (stands, more) refl

-- the memory after one of its chunks was put whole
pub memory_of_chunks-chunk :
    (old new : List (ℕ × List ℕ)) (number : ℕ) (chunk : List ℕ) →
    ((other : ℕ) → lookup (is_at (nat_cmp other)) new ≡ cond (is_at (nat_cmp number) other) (Some chunk)
    (lookup (is_at (nat_cmp other)) old)) →
    length chunk ≡ 8 → memory_of_chunks new ≡ put_bytes (memory_of_chunks old) (8 * number) chunk
unfolding memory_of_chunks put_bytes
memory_of_chunks-chunk old new number chunk puts long =
    fun_ext (λ place. ⊎_elim (same place) (other place) (cases_eq (place / 8) number))
  where
    same : (place : ℕ) → place / 8 ≡ number
        → memory_of_chunks new place ≡ put_bytes (memory_of_chunks old) (8 * number) chunk place
    same place is =
        let within : (nat_le (8 * number) place && nat_lt place (8 * number + length chunk)) ≡ true =
        grind (arith, nat_tests) in
        let at : place % 8 ≡ place - 8 * number = omega arith in
        rw (within, is, chunk_bytes-same old new number chunk puts, at) refl

    other : (place : ℕ) → place / 8 ≢ number
        → memory_of_chunks new place ≡ put_bytes (memory_of_chunks old) (8 * number) chunk place
    other place apart =
        let beyond : (nat_le (8 * number) place && nat_lt place (8 * number + length chunk)) ≡ false =
        grind (arith, nat_tests) in
        rw (beyond, chunk_bytes-other old new number chunk puts (place / 8) apart) refl

-- the state after more settings
pub state_of-set :
    (old new : FlatView) (settings : List Setting) (done count : ℕ) → state_of old ≡ start_of (take done settings) →
    memory_of_chunks new.chunks ≡ set_memory (memory_of_chunks old.chunks) (take count (drop done settings))
    → new.last ≡ old.last →
    state_of new ≡ start_of (take (done + count) settings)
state_of-set old new settings done count stands put kept =
    let before : memory_of_chunks old.chunks ≡ start_memory (take done settings) =
    ap (λ (s : ReplayState). s.memory) stands in
    let last : (λ (agent : ℕ). slice_index old.last agent) ≡ (λ (_ : ℕ). 0) = ap (λ (s : ReplayState). s.last) stands in
    let more : start_memory (take (done + count) settings)
    ≡ set_memory (start_memory (take done settings)) (take count (drop done settings)) =
    rw (take-add done count settings)
    (fold-append (λ (m : ByteMemory) (s : Setting). put_byte m s.addr s.byte) (λ _. 0) (take done settings)
    (take count (drop done settings))) in
    state_of-put old new _ put kept ∙ rw (before, last, more) refl
