-- Which chunk a data clock of a timely run is: that which the wait of its request has due there.
use Rattle.fsb_bench_values.proofs.Words
use Words.{ℕ, zero, suc, ◌+◌, ◌*◌, ◌<◌, ◌≤◌, ◌≡◌, Bool, true, ◌&&◌, if◌then◌else◌, Option, Some, None, is_some, length}
use Words.{nat_eq, nat_le, nat_lt, refl, sym, ap, ◌∙◌, arith, inl, inr, and_parts, cases_lt, eq-eqb, leb-true, le-leb}
use Words.{ltb-true, is_some_and, count_where, from_clock, nth_where, count_where-above, count_where-mono}
use Words.{count_where-passed, count_where-same, first_where-found, first_where-none, nth_where-found, nth_where-rises}
use Words.{line_at, responds_at, does_move, moves_data, response_clock_of, data_clock_of, chunk_from, AgreeTo-sym}
use Words.{end_of-moving, line_at-agree, outcome_of-stays, responds_at-agree, response_clock_of-stays, clear_parts}
use Words.{has_answer, response_counted, response_there, Run, past_of, run_to, live_choice, Timely, has_data_at}
use Words.{settles_to_move, LastMoves, and-then, chunk-bounds, chunks-few, cuts-agree, is_chunk, last-moves, length-cut}
use Words.{live_choice-same, orderly-at, told-as-settled}
use Rattle.fsb_signal.specs.declared.lines.TheConstants.Lines.{DRDY}
use Rattle.fsb_laws.specs.Progress.{response_count}

-- the clocks between the chunks of live request i
abbrev pub wait_of : Run → ℕ → ℕ
wait_of r i = (live_choice r i).gap

-- ---- the chunks that came

-- whether a request has data at a clock, by its response and what is told of it
data-form : (r : Run) (t i p : ℕ) → Timely r → t < length r.trace → response_clock_of (run_to r t).trace i ≡ Some p
    → has_data_at (run_to r t) (past_of (run_to r t)) t i
    ≡ (moves_data (run_to r t).trace i && is_chunk (wait_of r i) p t)
unfolding has_data_at settles_to_move moves_data
data-form r t i p h l e =
    let v = run_to r t in
    let told = told-as-settled r t i p h l e in
    grind (arith, live_choice-same)

-- how many responded up to a clock
counted : (r : Run) (u t : ℕ) → u ≤ t → t < length r.trace
    → response_count (run_to r u).trace ≡ count_where (responds_at (run_to r t).trace) (u + 1)
unfolding response_count
counted r u t l m = grind (arith, cuts-agree, length-cut, count_where-same, responds_at-agree)

-- from its response up to before the next one a request is the one that responded last
last-between : (r : Run) (u t j p q : ℕ) → u ≤ t → t < length r.trace
    → response_clock_of (run_to r t).trace j ≡ Some p → count_where (responds_at (run_to r t).trace) q ≤ suc j
    → p ≤ u → u < q
    → response_count (run_to r u).trace ≡ suc j
unfolding response_clock_of
last-between r u t j p q l m e few low high =
    let w = (run_to r t).trace in
    let k = nth_where-found (responds_at w) j (length w) p e in
    let passed = count_where-passed (responds_at w) p k.1 in
    let count : count_where (responds_at w) p ≡ j = k.2 in
    let one = count_where-mono (responds_at w) (p + 1) (u + 1) (omega arith) in
    let two = count_where-mono (responds_at w) (u + 1) q (omega arith) in
    counted r u t l m ∙ (omega arith)

-- the test of the chunks from a response on is DRDY#, while the request is the one that responded last
chunk-there : (r : Run) (u t j p : ℕ) → Timely r → u ≤ t → t < length r.trace → LastMoves r u j
    → response_clock_of (run_to r t).trace j ≡ Some p → p ≤ u → moves_data (run_to r u).trace j ≡ true
    → from_clock p (line_at DRDY (run_to r t).trace) u ≡ is_chunk (wait_of r j) p u
unfolding from_clock
chunk-there r u t j p h l m k e low moves =
    let v = (run_to r u).trace in
    let agree = cuts-agree r u t l m in
    let size = length-cut r u (omega arith) in
    let there = response_clock_of-stays (u + 1) (run_to r t).trace v j p
    (AgreeTo-sym (u + 1) v (run_to r t).trace agree)
    (omega arith) e in
    rw (le-leb p u low) (sym (line_at-agree DRDY (u + 1) v (run_to r t).trace u agree (omega arith)) ∙ k.ready
    ∙ data-form r u j p h (omega arith) there ∙ ap (λ b. b && is_chunk (wait_of r j) p u) moves)

chunk-before : (gap p u : ℕ) (test : ℕ → Bool) (b : Bool) → u < p → is_chunk gap p u ≡ b
    → from_clock p test u ≡ is_chunk gap p u
unfolding from_clock
chunk-before gap p u test b h1 h2 = grind (arith, chunk-bounds)

-- what is told of a request that responded up to u is told later
same-moves : (r : Run) (u t j p : ℕ) → Timely r → u ≤ t → t < length r.trace
    → response_clock_of (run_to r t).trace j ≡ Some p → p ≤ u
    → moves_data (run_to r u).trace j ≡ moves_data (run_to r t).trace j
unfolding moves_data
same-moves r u t j p h l m e low =
    let v = (run_to r u).trace in
    let agree = cuts-agree r u t l m in
    let size = length-cut r u (omega arith) in
    let there = response_clock_of-stays (u + 1) (run_to r t).trace v j p
    (AgreeTo-sym (u + 1) v (run_to r t).trace agree)
    (omega arith) e in
    let told = told-as-settled r u j p h (omega arith) there in
    let before = told.before in
    ap (λ o. is_some_and o does_move)
    (outcome_of-stays (u + 1) v (run_to r t).trace j told.snoop p agree (omega arith) told.is_snoop (omega arith) there)

-- so many chunks came below m as its wait says
chunk-count : (r : Run) (t j p m : ℕ) → Timely r → t < length r.trace
    → ((u : ℕ) → u < m → p ≤ u → LastMoves r u j) → m ≤ t + 1 → response_clock_of (run_to r t).trace j ≡ Some p
    → moves_data (run_to r t).trace j ≡ true
    → count_where (from_clock p (line_at DRDY (run_to r t).trace)) m ≡ count_where (is_chunk (wait_of r j) p) m
chunk-count r t j p m h l last few e moves =
    count_where-same (from_clock p (line_at DRDY (run_to r t).trace)) (is_chunk (wait_of r j) p) m (record {
      same = λ u k. elim (cases_lt u p) [
        | inl early ↦
            chunk-before (wait_of r j) p u (line_at DRDY (run_to r t).trace) (is_chunk (wait_of r j) p u) early refl
        | inr late ↦
            chunk-there r u t j p h (omega arith) l (last u k late) e late
            (same-moves r u t j p h (omega arith) l e late ∙ moves)
      ];
    })

-- ---- the places of the chunks

chunk-found : (gap p t n : ℕ) (o : Option ℕ) → chunk_from gap t p ≡ o → n < 4 → t ≡ p + n * (1 + gap)
    → is_some o ≡ true
unfolding chunk_from
chunk-found gap p t n (Some k) e l place = refl
chunk-found gap p t n None e l place =
    let none = first_where-none (λ k. nat_eq t (p + k * (1 + gap))) 4 e n l in
    let there = eq-eqb t (p + n * (1 + gap)) place in
    absurd (let no : ⊥ = cc in no)

chunk-at : (gap p t n : ℕ) → n < 4 → t ≡ p + n * (1 + gap) → is_chunk gap p t ≡ true
chunk-at gap p t n l place = chunk-found gap p t n (chunk_from gap t p) refl l place

-- below the n-th place there are n chunks
chunks-below : (gap p n : ℕ) → n < 4 → count_where (is_chunk gap p) (p + n * (1 + gap)) ≡ n
chunks-below gap p n l = by n l
  where
    which : (k : ℕ) → k < 4
        → count_where (is_chunk gap p) p < count_where (is_chunk gap p) (p + 1 * (1 + gap))
        → count_where (is_chunk gap p) (p + 1 * (1 + gap)) < count_where (is_chunk gap p) (p + 2 * (1 + gap))
        → count_where (is_chunk gap p) (p + 2 * (1 + gap)) < count_where (is_chunk gap p) (p + 3 * (1 + gap))
        → count_where (is_chunk gap p) (p + 3 * (1 + gap)) ≤ 3
        → count_where (is_chunk gap p) (p + k * (1 + gap)) ≡ k
    which zero low one two three few = grind arith
    which (suc zero) low one two three few = omega (arith, one, two, three, few)
    which (suc (suc zero)) low one two three few = omega (arith, one, two, three, few)
    which (suc (suc (suc zero))) low one two three few = omega (arith, one, two, three, few)
    which (suc (suc (suc (suc k)))) low one two three few = absurd (omega (arith, low))

    by : (k : ℕ) → k < 4 → count_where (is_chunk gap p) (p + k * (1 + gap)) ≡ k
    by k low =
        let test = is_chunk gap p in
        let one = count_where-above test p (p + 1 * (1 + gap)) (omega arith)
        (chunk-at gap p p 0 (omega arith) (omega arith)) in
        let two = count_where-above test (p + 1 * (1 + gap)) (p + 2 * (1 + gap)) (omega arith)
        (chunk-at gap p (p + 1 * (1 + gap)) 1 (omega arith) refl) in
        let three = count_where-above test (p + 2 * (1 + gap)) (p + 3 * (1 + gap)) (omega arith)
        (chunk-at gap p (p + 2 * (1 + gap)) 2 (omega arith) refl) in
        let few = chunks-few gap p (p + 3 * (1 + gap)) (omega arith) in
        which k low one two three few

-- a chunk has its place
due-place : (gap p t : ℕ) → is_chunk gap p t ≡ true
    → (n : ℕ) × (chunk_from gap t p ≡ Some n) × (n < 4) × (t ≡ p + n * (1 + gap))
unfolding chunk_from
due-place gap p t e = grind (arith, first_where-found)

-- ---- a data clock

-- n is the k-th data clock of live request i: what is due there
pub record IsDataClock (r : Run) (n i k : ℕ) : Type 0 where
  pub response : ℕ
  pub is_response : response_clock_of (run_to r n).trace i ≡ Some response
  pub upto : response ≤ n
  pub due : chunk_from (wait_of r i) n response ≡ Some k
  pub has : has_data_at (run_to r n) (past_of (run_to r n)) n i ≡ true

if-some : (b : Bool) (o : Option ℕ) (n : ℕ) → (if b then o else None) ≡ Some n → (b ≡ true) × (o ≡ Some n)
if-some b o n h1 = grind arith

-- the request is the one that responded last
is-last : (r : Run) (n i k p : ℕ) → Timely r → n < length r.trace → k < 4 → response_clock_of (run_to r n).trace i
    ≡ Some p
    → moves_data (run_to r n).trace i ≡ true
    → nth_where (from_clock p (line_at DRDY (run_to r n).trace)) k (length (run_to r n).trace)
    ≡ Some n
    → response_count (run_to r n).trace ≡ suc i
is-last r n i k p h l few e moves f =
    let v = (run_to r n).trace in
    let test : ℕ → Bool = from_clock p (line_at DRDY v) in
    let size = length-cut r n l in
    let low = response_counted v i p e in
    elim (cases_lt (suc i) (response_count v)) [
      | inr most ↦ omega (arith, low, most)
      | inl more ↦
          let next = response_there v (suc i) more in
          let a = has_answer v next.0 (suc i) ((orderly-at r n h l).timely (suc i) next.0 next.1) in
          let c = clear_parts v i next.0 a.clear in
          let last = sym (end_of-moving v i p moves e) ∙ c.1 in
          let under : c.0 < next.0 = c.2 in
          let inside : next.0 < length v = next.2 in
          elim (cases_lt k 3) [
            | inl less ↦
                let rises = nth_where-rises test k 3 (length v) n c.0 less f last in
                absurd (omega (arith, rises, under, inside, size))
            | inr all ↦
                let three : k ≡ 3 = omega (arith, few, all) in
                let same : Some c.0 ≡ Some n = grind arith in
                let at : c.0 ≡ n = cc in
                absurd (omega (arith, at, under, inside, size))
          ]
    ]

pub data-clock : (r : Run) (n i k : ℕ) → Timely r → n < length r.trace → data_clock_of (run_to r n).trace i k ≡ Some n
    → IsDataClock r n i k
unfolding data_clock_of from_clock
data-clock r n i k h l e =
    let v = (run_to r n).trace in
    let there = if-some (nat_lt k 4 && moves_data v i) _ n e in
    let parts = and_parts (nat_lt k 4) (moves_data v i) there.0 in
    let few : k < 4 = ltb-true k 4 parts.0 in
    let x = and-then (λ t. nth_where (from_clock t (line_at DRDY v)) k (length v))
    (response_clock_of v i) n there.1 in
    let p : ℕ = x.0 in
    let nth = nth_where-found (from_clock p (line_at DRDY v)) k (length v) n x.2 in
    let here = and_parts (nat_le p n) (line_at DRDY v n) nth.1 in
    let upto : p ≤ n = leb-true p n here.0 in
    let count = is-last r n i k p h l few x.1 parts.1 x.2 in
    let most : count_where (responds_at v) (n + 1) ≤ suc i =
    (let c = counted r n n (omega arith) l in omega (arith, c, count)) in
    let last : (u : ℕ) → u < n + 1 → p ≤ u → LastMoves r u i = λ u m from.
    last-moves r u i h (omega arith) (last-between r u n i p (n + 1) (omega arith) l x.1 most from m) in
    let has = sym (last n (omega arith) upto).ready ∙ here.1 in
    let both = sym (data-form r n i p h l x.1) ∙ has in
    let place = due-place (wait_of r i) p n (and_parts (moves_data v i) (is_chunk (wait_of r i) p n) both).1 in
    let came = chunk-count r n i p n h l (λ u m from. last u (omega arith) from) (omega arith) x.1 parts.1 in
    let below = chunks-below (wait_of r i) p place.0 place.2 in
    let same : place.0 ≡ k =
    sym below ∙ ap (count_where (is_chunk (wait_of r i) p)) (sym place.3) ∙ sym came ∙ nth.2 in
    grind arith
