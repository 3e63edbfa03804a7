-- The four chunks of a transfer: when they come, and how many came below a clock.
use Rattle.fsb_lawful.proofs.Words
use Words.{ℕ, zero, suc, ◌+◌, ◌*◌, ◌<◌, ◌≤◌, ◌≡◌, Bool, true, ◌||◌, Option, Some, None, is_some, nat_eq, refl, arith}
use Words.{if◌then◌else◌, eq-eqb, or_left, count_where, count_where-above, first_where-found, first_where-none}
use Words.{chunk_from}
use Rattle.fsb_lawful.proofs.OwnIds.{count-or, count-one-place}

-- a chunk of the transfer that begins at r is due at t
abbrev pub is_chunk : ℕ → ℕ → ℕ → Bool
is_chunk gap r t = is_some (chunk_from gap t r)

-- the places of the chunks
pub record ChunkPlace (gap r t : ℕ) : Type 0 where
  pub number : ℕ
  pub few : number < 4
  pub place : t ≡ r + number * (1 + gap)

chunk_by : (gap r t : ℕ) (o : Option ℕ) → chunk_from gap t r ≡ o → is_some o ≡ true → ChunkPlace gap r t
unfolding chunk_from
chunk_by gap r t o h1 h2 = grind (arith, first_where-found)

chunk-place : (gap r t : ℕ) → is_chunk gap r t ≡ true → ChunkPlace gap r t
chunk-place gap r t h = chunk_by gap r t (chunk_from gap t r) refl h

chunk_found : (gap r t n : ℕ) (o : Option ℕ) → chunk_from gap t r ≡ o → n < 4 → t ≡ r + n * (1 + gap)
    → is_some o ≡ true
unfolding chunk_from
chunk_found gap r t n (Some k) e l p = refl
chunk_found gap r t n None e l p =
    let none = first_where-none (λ n. nat_eq t (r + n * (1 + gap))) 4 e n l in
    let there = eq-eqb t (r + n * (1 + gap)) p in absurd (let no : ⊥ = cc in no)

chunk-at : (gap r t n : ℕ) → n < 4 → t ≡ r + n * (1 + gap) → is_chunk gap r t ≡ true
chunk-at gap r t n l p = chunk_found gap r t n (chunk_from gap t r) refl l p

-- the four places
place_is : (gap r t n : ℕ) → n < 4 → t ≡ r + n * (1 + gap)
    → ((t < r + 3 * (1 + gap)
    → (nat_eq t r || nat_eq t (r + (1 + gap)) || nat_eq t (r + 2 * (1 + gap))) ≡ true)) × (r ≤ t)
    × (t ≤ r + 3 * (1 + gap))
place_is gap r t zero l e = (λ m. or_left _ _ (or_left _ _ (eq-eqb t r (omega arith))), omega arith, omega arith)
place_is gap r t (suc zero) l e = grind arith
place_is gap r t (suc (suc zero)) l e = grind arith
place_is gap r t (suc (suc (suc zero))) l e = (λ m. absurd (omega arith), omega arith, omega arith)
place_is gap r t (suc (suc (suc (suc n)))) l e = absurd (omega arith)

-- a chunk is due from the response on, up to the last chunk
pub chunk-bounds : (gap r t : ℕ) → is_chunk gap r t ≡ true → (r ≤ t) × (t ≤ r + 3 * (1 + gap))
chunk-bounds gap r t h =
    let p = chunk-place gap r t h in let q = place_is gap r t p.number p.few p.place in (q.1, q.2)

-- a test that passes wherever another does passes as often at least
count-less : (p q : ℕ → Bool) (k : ℕ) → ((n : ℕ) → n < k → p n ≡ true → q n ≡ true)
    → count_where p k ≤ count_where q k
unfolding count_where
count-less p q zero h = omega arith
count-less p q (suc k) h = let before = count-less p q k (λ n l. h n (omega arith)) in
    step (p k) (q k) (h k (omega arith)) before
  where
    step : (a b : Bool) → (a ≡ true → b ≡ true) → count_where p k ≤ count_where q k
        → count_where p k + (if a then 1 else 0) ≤ count_where q k + (if b then 1 else 0)
    step a b h1 h2 = grind arith

-- up to the last chunk three came at most
pub chunks-few : (gap r m : ℕ) → m ≤ r + 3 * (1 + gap) → count_where (is_chunk gap r) m ≤ 3
chunks-few gap r m l =
    let less = count-less (is_chunk gap r)
    (λ t. nat_eq t r || nat_eq t (r + (1 + gap)) || nat_eq t (r + 2 * (1 + gap))) m
    (λ t k h. let p = chunk-place gap r t h in (place_is gap r t p.number p.few p.place).0 (omega arith)) in
    let two = count-or (λ t. nat_eq t r || nat_eq t (r + (1 + gap))) (λ t. nat_eq t (r + 2 * (1 + gap))) m in
    let one = count-or (λ t. nat_eq t r) (λ t. nat_eq t (r + (1 + gap))) m in
    let a = count-one-place r m in
    let b = count-one-place (r + (1 + gap)) m in
    let c = count-one-place (r + 2 * (1 + gap)) m in
    omega arith

-- behind the last chunk there are four
pub chunks-all : (gap r m : ℕ) → r + 3 * (1 + gap) < m → 4 ≤ count_where (is_chunk gap r) m
chunks-all gap r m l =
    let g : ℕ = 1 + gap in
    let a = count_where-above (is_chunk gap r) r (r + g) (omega arith)
    (chunk-at gap r r 0 (omega arith) (omega arith)) in
    let b = count_where-above (is_chunk gap r) (r + g) (r + 2 * g) (omega arith)
    (chunk-at gap r (r + g) 1 (omega arith) (omega arith)) in
    let c = count_where-above (is_chunk gap r) (r + 2 * g) (r + 3 * g) (omega arith)
    (chunk-at gap r (r + 2 * g) 2 (omega arith) (omega arith)) in
    let d = count_where-above (is_chunk gap r) (r + 3 * g) m (omega arith)
    (chunk-at gap r (r + 3 * g) 3 (omega arith) refl) in
    omega arith
