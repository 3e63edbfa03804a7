-- Rule 16: DRDY# and DBSY# of a timely run are those of the request that responded last.
use Rattle.fsb_lawful.proofs.Words
use Words.{ℕ, zero, suc, ◌+◌, ◌*◌, ◌<◌, ◌≤◌, ◌≡◌, Bool, true, false, ◌&&◌, Some, None, is_some, length, take, nat_lt}
use Words.{refl, sym, ap, ◌∙◌, arith, inl, inr, option_and_then, cases_Bool, cases_lt, le-leb, lt-ltb, is_some_and}
use Words.{any_where, count_where, from_clock, any_where-at, any_where-off, count_where-mono, count_where-passed}
use Words.{count_where-same, nth_where-found, DRDY, DBSY, Marks, line_at, responds_at, does_move, response_clock_of}
use Words.{moves_data, live_count, end_of, is_transferring, is_data_wrong, chunk_from, is_busy_from, breaks-16}
use Words.{AgreeTo-sym, end_of-moving, line_at-agree, outcome_of-stays, responds_at-agree, response_clock_of-stays}
use Words.{clear_parts, has_answer, is_transferring-last, is_transferring-none, last_is_live, response_past}
use Words.{response_there, transferring_form, Run, run_to, past_of, live_choice, Timely, settled_of, settles_to_move}
use Words.{has_data_at, is_busy_at, Keeps}
use Rattle.fsb_laws.specs.Progress.{response_count}
use Rattle.fsb_lawful.proofs.Chunks.{is_chunk, chunk-bounds, chunks-few, chunks-all}
use Rattle.fsb_lawful.proofs.CutRuns.{cuts-agree, length-cut, live_choice-same}
use Rattle.fsb_lawful.proofs.Keeping.{keeps}
use Rattle.fsb_lawful.proofs.OneAnswer.{transfers-at}
use Rattle.fsb_lawful.proofs.OrderlyRuns.{orderly-at}
use Rattle.fsb_lawful.proofs.ResponseCodes.{told-as-settled}

-- the clocks between the chunks of live request i
abbrev pub gap_of : Run → ℕ → ℕ
gap_of r i = (live_choice r i).gap

-- whether a request has data at a clock, and keeps the bus there, by its response and what is told of it
data-form : (r : Run) (t i p : ℕ) → Timely r → t < length r.trace → response_clock_of (run_to r t).trace i ≡ Some p
    → has_data_at (run_to r t) (past_of (run_to r t)) t i
    ≡ (moves_data (run_to r t).trace i && is_chunk (gap_of r i) p t)
unfolding has_data_at settles_to_move moves_data
data-form r t i p h l e =
    let v = run_to r t in
    let told = told-as-settled r t i p h l e in
    let choice = live_choice-same r t i told.snoop l told.is_snoop in
    ap (λ o. is_some_and (settled_of v (past_of v) i) does_move
    && is_some (option_and_then (chunk_from (live_choice v i).gap t) o)) e
    ∙ ap (λ x. is_some_and (settled_of v (past_of v) i) does_move && is_some (chunk_from x.gap t p)) choice
    ∙ ap (λ o. is_some_and o does_move && is_some (chunk_from (live_choice r i).gap t p)) (sym told.outcome)

busy-form : (r : Run) (t i p : ℕ) → Timely r → t < length r.trace → response_clock_of (run_to r t).trace i ≡ Some p
    → is_busy_at (run_to r t) (past_of (run_to r t)) t i
    ≡ (moves_data (run_to r t).trace i && is_busy_from (gap_of r i) t p)
unfolding is_busy_at settles_to_move moves_data is_some_and
busy-form r t i p h l e =
    let v = run_to r t in
    let told = told-as-settled r t i p h l e in
    let choice = live_choice-same r t i told.snoop l told.is_snoop in
    ap (λ o. is_some_and (settled_of v (past_of v) i) does_move
    && is_some_and o (is_busy_from (live_choice v i).gap t)) e
    ∙ ap (λ x. is_some_and (settled_of v (past_of v) i) does_move && is_busy_from x.gap t p) choice
    ∙ ap (λ o. is_some_and o does_move && is_busy_from (live_choice r i).gap t p) (sym told.outcome)

no-data : (v : Run) (t i : ℕ) → response_clock_of v.trace i ≡ None
    → (has_data_at v (past_of v) t i ≡ false) × (is_busy_at v (past_of v) t i ≡ false)
unfolding has_data_at is_busy_at is_some_and
no-data v t i e = grind arith

-- what the data lines of t are, where live request i responded last
pub record LastMoves (r : Run) (t i : ℕ) : Type 0 where
  pub ready : line_at DRDY (run_to r t).trace t ≡ has_data_at (run_to r t) (past_of (run_to r t)) t i
  pub busy : line_at DBSY (run_to r t).trace t ≡ is_busy_at (run_to r t) (past_of (run_to r t)) t i

only-one : (f : ℕ → Bool) (n i : ℕ) (b : Bool) → i < n → f i ≡ b → ((j : ℕ) → (j ≡ i → ⊥) → f j ≡ false)
    → any_where f n ≡ b
only-one f n i true l e other = any_where-at f n i l e
only-one f n i false l e other = grind (arith, any_where-off)

-- how many responded up to a clock
counted : (r : Run) (u t : ℕ) → u ≤ t → t < length r.trace
    → response_count (run_to r u).trace ≡ count_where (responds_at (run_to r t).trace) (u + 1)
unfolding response_count
counted r u t l m = grind (arith, cuts-agree, length-cut, count_where-same, responds_at-agree)

-- from its response up to before the next one a request is the one that responded last
last-between : (r : Run) (u t j p q : ℕ) → u ≤ t → t < length r.trace
    → response_clock_of (run_to r t).trace j ≡ Some p → count_where (responds_at (run_to r t).trace) q ≤ suc j
    → p ≤ u → u < q
    → response_count (run_to r u).trace ≡ suc j
unfolding response_clock_of
last-between r u t j p q l m e few low high =
    let w = (run_to r t).trace in
    let k = nth_where-found (responds_at w) j (length w) p e in
    let passed = count_where-passed (responds_at w) p k.1 in
    let count : count_where (responds_at w) p ≡ j = k.2 in
    let one = count_where-mono (responds_at w) (p + 1) (u + 1) (omega arith) in
    let two = count_where-mono (responds_at w) (u + 1) q (omega arith) in
    counted r u t l m ∙ (omega arith)

-- the test of the chunks from a response on is DRDY#, while the request is the one that responded last
chunk-there : (r : Run) (u t j p : ℕ) → Timely r → u ≤ t → t < length r.trace → LastMoves r u j
    → response_clock_of (run_to r t).trace j ≡ Some p → p ≤ u → moves_data (run_to r u).trace j ≡ true
    → from_clock p (line_at DRDY (run_to r t).trace) u ≡ is_chunk (gap_of r j) p u
unfolding from_clock
chunk-there r u t j p h l m k e low moves =
    let v = (run_to r u).trace in
    let agree = cuts-agree r u t l m in
    let size = length-cut r u (omega arith) in
    let there = response_clock_of-stays (u + 1) (run_to r t).trace v j p
    (AgreeTo-sym (u + 1) v (run_to r t).trace agree) (omega arith) e in
    rw (le-leb p u low) (sym (line_at-agree DRDY (u + 1) v (run_to r t).trace u agree (omega arith)) ∙ k.ready
    ∙ data-form r u j p h (omega arith) there ∙ ap (λ b. b && is_chunk (gap_of r j) p u) moves)

chunk-before : (gap p u : ℕ) (test : ℕ → Bool) (b : Bool) → u < p → is_chunk gap p u ≡ b
    → from_clock p test u ≡ is_chunk gap p u
unfolding from_clock
chunk-before gap p u test b h1 h2 = grind (arith, chunk-bounds)

-- what is told of a request that responded up to u is told later
same-moves : (r : Run) (u t j p : ℕ) → Timely r → u ≤ t → t < length r.trace
    → response_clock_of (run_to r t).trace j ≡ Some p → p ≤ u
    → moves_data (run_to r u).trace j ≡ moves_data (run_to r t).trace j
unfolding moves_data
same-moves r u t j p h l m e low =
    let v = (run_to r u).trace in
    let agree = cuts-agree r u t l m in
    let size = length-cut r u (omega arith) in
    let there = response_clock_of-stays (u + 1) (run_to r t).trace v j p
    (AgreeTo-sym (u + 1) v (run_to r t).trace agree) (omega arith) e in
    let told = told-as-settled r u j p h (omega arith) there in
    let before = told.before in
    ap (λ o. is_some_and o does_move)
    (outcome_of-stays (u + 1) v (run_to r t).trace j told.snoop p agree (omega arith) told.is_snoop
    (omega arith) there)

-- so many chunks came below m as its wait says
chunk-count : (r : Run) (t j p m : ℕ) → Timely r → t < length r.trace
    → ((u : ℕ) → u < m → p ≤ u → LastMoves r u j) → m ≤ t + 1 → response_clock_of (run_to r t).trace j ≡ Some p
    → moves_data (run_to r t).trace j ≡ true
    → count_where (from_clock p (line_at DRDY (run_to r t).trace)) m ≡ count_where (is_chunk (gap_of r j) p) m
chunk-count r t j p m h l last few e moves =
    count_where-same (from_clock p (line_at DRDY (run_to r t).trace)) (is_chunk (gap_of r j) p) m (record {
      same = λ u k. elim (cases_lt u p) [
        | inl early ↦ chunk-before (gap_of r j) p u (line_at DRDY (run_to r t).trace)
            (is_chunk (gap_of r j) p u) early refl
        | inr late ↦ chunk-there r u t j p h (omega arith) l (last u k late) e late
            (same-moves r u t j p h (omega arith) l e late ∙ moves)
      ];
    })

-- the end of a request that moves data is its last chunk
moved-end : (r : Run) (t j p e : ℕ) → Timely r → t < length r.trace
    → ((u : ℕ) → u < e + 1 → p ≤ u → LastMoves r u j) → e ≤ t → response_clock_of (run_to r t).trace j ≡ Some p
    → moves_data (run_to r t).trace j ≡ true
    → end_of (run_to r t).trace j ≡ Some e → p + 3 * (1 + gap_of r j) ≤ e
moved-end r t j p e h l last few k moves f =
    let w = (run_to r t).trace in
    let n = nth_where-found (from_clock p (line_at DRDY w)) 3 (length w) e (sym (end_of-moving w j p moves k) ∙ f) in
    let passed = count_where-passed (from_clock p (line_at DRDY w)) e n.1 in
    let three : count_where (from_clock p (line_at DRDY w)) e ≡ 3 = n.2 in
    let all = chunk-count r t j p (e + 1) h l last (omega arith) k moves in
    elim (cases_lt e (p + 3 * (1 + gap_of r j))) [
      | inl early ↦ let most = chunks-few (gap_of r j) p (e + 1) (omega arith) in absurd (omega arith)
      | inr late ↦ late
    ]

-- past its last chunk a request has no data
past-data : (gap p t : ℕ) (moves b d : Bool) → (moves ≡ true → p + 3 * (1 + gap) < t) → is_chunk gap p t ≡ b
    → is_busy_from gap t p ≡ d
    → ((moves && is_chunk gap p t) ≡ false) × ((moves && is_busy_from gap t p) ≡ false)
unfolding is_busy_from
past-data gap p t moves b d h1 h2 h3 = grind (arith, chunk-bounds)

-- a request before the last one has no data any more
earlier-none : (r : Run) (t i j : ℕ) → Timely r → t < length r.trace
    → ((u k : ℕ) → u < t → response_count (run_to r u).trace ≡ suc k → LastMoves r u k)
    → response_count (run_to r t).trace ≡ suc i → j < i
    → (has_data_at (run_to r t) (past_of (run_to r t)) t j ≡ false)
    × (is_busy_at (run_to r t) (past_of (run_to r t)) t j ≡ false)
unfolding response_clock_of
earlier-none r t i j h l before count less =
    let v = (run_to r t).trace in
    let size = length-cut r t l in
    let next = response_there v (suc j) (omega arith) in
    let q : ℕ = next.0 in
    let within : q < length v = next.2 in
    let place = nth_where-found (responds_at v) (suc j) (length v) q next.1 in
    let a = has_answer v q (suc j) ((orderly-at r t h l).timely (suc j) q next.1) in
    let c = clear_parts v j q a.clear in
    let e : ℕ = c.0 in
    let below : e < q = c.2 in
    let p = response_there v j (omega arith) in
    let last : (u : ℕ) → u < e + 1 → p.0 ≤ u
    → LastMoves r u j = λ u m k. before u j (omega arith)
    (last-between r u t j p.0 q (omega arith) l p.1 (let n = place.2 in omega arith) k (omega arith)) in
    let past : moves_data v j ≡ true
    → p.0 + 3 * (1 + gap_of r j) < t = λ moves. let end =
    moved-end r t j p.0 e h l last (omega arith) p.1 moves c.1 in omega arith in
    let none = past-data (gap_of r j) p.0 t (moves_data v j) (is_chunk (gap_of r j) p.0 t)
    (is_busy_from (gap_of r j) t p.0) past refl refl in
    (data-form r t j p.0 h l p.1 ∙ none.0, busy-form r t j p.0 h l p.1 ∙ none.1)

other-none : (r : Run) (t i j : ℕ) → Timely r → t < length r.trace
    → ((u k : ℕ) → u < t → response_count (run_to r u).trace ≡ suc k → LastMoves r u k)
    → response_count (run_to r t).trace ≡ suc i → (j ≡ i → ⊥)
    → (has_data_at (run_to r t) (past_of (run_to r t)) t j ≡ false)
    × (is_busy_at (run_to r t) (past_of (run_to r t)) t j ≡ false)
other-none r t i j h l before count differs =
    elim (cases_lt j i) [
      | inl less ↦ earlier-none r t i j h l before count less
      | inr more ↦ no-data (run_to r t) t j (response_past (run_to r t).trace j (omega (arith, differs)))
    ]

last_by : (r : Run) (n t i : ℕ) → Timely r → t < n → t < length r.trace
    → response_count (run_to r t).trace ≡ suc i → LastMoves r t i
last_by r zero t i h l m count = absurd (omega arith)
last_by r (suc n) t i h l m count =
    let v = run_to r t in
    let before : (u k : ℕ) → u < t → response_count (run_to r u).trace ≡ suc k
    → LastMoves r u k = λ u k less e. last_by r n u k h (omega arith) (omega arith) e in
    let live = last_is_live v.trace i (orderly-at r t h m) (omega arith) in
    let lines = transfers-at r t h m in
    record {
      ready = lines.data_ready
          ∙ only-one (has_data_at v (past_of v) t) (live_count v.trace) i _ live refl
          (λ j differs. (other-none r t i j h m before count differs).0);
      busy = lines.data_busy
          ∙ only-one (is_busy_at v (past_of v) t) (live_count v.trace) i _ live refl
          (λ j differs. (other-none r t i j h m before count differs).1);
    }

-- the data lines are those of the request that responded last
pub last-moves : (r : Run) (t i : ℕ) → Timely r → t < length r.trace → response_count (run_to r t).trace ≡ suc i
    → LastMoves r t i
last-moves r t i h l count = last_by r (t + 1) t i h (omega arith) l count

-- without a response there are no data
quiet : (r : Run) (c : ℕ) → Timely r → c < length r.trace → response_count (run_to r c).trace ≡ 0
    → (line_at DRDY (run_to r c).trace c ≡ false) × (line_at DBSY (run_to r c).trace c ≡ false)
quiet r c h l count =
    let v = run_to r c in
    let lines = transfers-at r c h l in
    let none : (j : ℕ) → response_clock_of v.trace j ≡ None = λ j. response_past v.trace j (omega arith) in (
      lines.data_ready
          ∙ any_where-off (has_data_at v (past_of v) c) (live_count v.trace) (λ j m. (no-data v c j (none j)).0),
      lines.data_busy ∙ any_where-off (is_busy_at v (past_of v) c) (live_count v.trace)
          (λ j m. (no-data v c j (none j)).1),
    )

-- the transfer of the request that responded last, by its chunks
transfer-is : (r : Run) (c i p m : ℕ) → Timely r → c < length r.trace
    → response_count (run_to r c).trace ≡ suc i → response_clock_of (run_to r c).trace i ≡ Some p → c ≤ m
    → m ≤ c + 1
    → is_transferring (run_to r c).trace m
    ≡ (moves_data (run_to r c).trace i && nat_lt (count_where (from_clock p (line_at DRDY (run_to r c).trace)) m) 4)
transfer-is r c i p m h l count e low high =
    grind (arith, length-cut, is_transferring-last, orderly-at, transferring_form)

few-by : (gap p m k : ℕ) (b : Bool) → k ≡ count_where (is_chunk gap p) m → nat_lt m (p + 3 * (1 + gap) + 1) ≡ b
    → nat_lt k 4 ≡ b
few-by gap p m k b h1 h2 = grind (arith, chunks-few, chunks-all)

busy-by : (gap p c : ℕ) (b : Bool) → p ≤ c → nat_lt (c + 1) (p + 3 * (1 + gap) + 1) ≡ b → is_busy_from gap c p ≡ b
unfolding is_busy_from
busy-by gap p c b h1 h2 = grind arith

-- where data move, a clock with a chunk has a transfer on the way, and DBSY# goes on as long
moving : (r : Run) (c i p : ℕ) → Timely r → c < length r.trace → response_count (run_to r c).trace ≡ suc i
    → response_clock_of (run_to r c).trace i ≡ Some p → p ≤ c → moves_data (run_to r c).trace i ≡ true
    → LastMoves r c i
    → (line_at DRDY (run_to r c).trace c ≡ true → is_transferring (run_to r c).trace c ≡ true)
    × (line_at DBSY (run_to r c).trace c ≡ is_transferring (run_to r c).trace (c + 1))
moving r c i p h l count e low moves last =
    let v = (run_to r c).trace in
    let gap = gap_of r i in
    let lasts : (u : ℕ) → u < c + 1 → p ≤ u
    → LastMoves r u i = λ u m k. last-moves r u i h (omega arith)
    (last-between r u c i p (c + 1) (omega arith) l e (let n = counted r c c (omega arith) l in omega arith) k m) in
    let drdy = last.ready ∙ data-form r c i p h l e ∙ ap (λ b. b && is_chunk gap p c) moves in
    let dbsy = last.busy ∙ busy-form r c i p h l e ∙ ap (λ b. b && is_busy_from gap c p) moves in
    let now = transfer-is r c i p c h l count e (omega arith) (omega arith)
    ∙ ap (λ b. b && nat_lt (count_where (from_clock p (line_at DRDY v)) c) 4) moves in
    let after = transfer-is r c i p (c + 1) h l count e (omega arith) (omega arith)
    ∙ ap (λ b. b && nat_lt (count_where (from_clock p (line_at DRDY v)) (c + 1)) 4) moves in
    let k = chunk-count r c i p c h l (λ u m. lasts u (omega arith)) (omega arith) e moves in
    let m = chunk-count r c i p (c + 1) h l lasts (omega arith) e moves in (
      λ t. now ∙ few-by gap p c _ true k (let high = (chunk-bounds gap p c (sym drdy ∙ t)).1 in
          lt-ltb c (p + 3 * (1 + gap) + 1) (omega arith)),
      dbsy
          ∙ busy-by gap p c (nat_lt (c + 1) (p + 3 * (1 + gap) + 1)) low refl
          ∙ sym (few-by gap p (c + 1) _ (nat_lt (c + 1) (p + 3 * (1 + gap) + 1)) m refl) ∙ sym after,
    )

still : (r : Run) (c i p : ℕ) → Timely r → c < length r.trace → response_count (run_to r c).trace ≡ suc i
    → response_clock_of (run_to r c).trace i ≡ Some p → moves_data (run_to r c).trace i ≡ false
    → LastMoves r c i
    → (line_at DRDY (run_to r c).trace c ≡ true → is_transferring (run_to r c).trace c ≡ true)
    × (line_at DBSY (run_to r c).trace c ≡ is_transferring (run_to r c).trace (c + 1))
still r c i p h l count e none last =
    let v = (run_to r c).trace in
    let drdy : line_at DRDY v c ≡ false = last.ready ∙ data-form r c i p h l e
    ∙ ap (λ b. b && is_chunk (gap_of r i) p c) none in
    let dbsy = last.busy ∙ busy-form r c i p h l e ∙ ap (λ b. b && is_busy_from (gap_of r i) c p) none in
    let after = transfer-is r c i p (c + 1) h l count e (omega arith) (omega arith)
    ∙ ap (λ b. b && nat_lt (count_where (from_clock p (line_at DRDY v)) (c + 1)) 4) none in
    (λ t. absurd (let no : false ≡ true = sym drdy ∙ t in cc no), dbsy ∙ sym after)

by-count : (r : Run) (c n : ℕ) → Timely r → c < length r.trace → response_count (run_to r c).trace ≡ n
    → (line_at DRDY (run_to r c).trace c ≡ true → is_transferring (run_to r c).trace c ≡ true)
    × (line_at DBSY (run_to r c).trace c ≡ is_transferring (run_to r c).trace (c + 1))
by-count r c zero h l count =
    let v = (run_to r c).trace in
    let k = quiet r c h l count in
    (λ t. absurd (let no : false ≡ true = sym k.0 ∙ t in cc no), k.1 ∙ sym (is_transferring-none v (c + 1) count))
by-count r c (suc i) h l count =
    let v = (run_to r c).trace in
    let size = length-cut r c l in
    let p = response_there v i (omega arith) in
    let within = p.2 in
    let last = last-moves r c i h l count in
    elim (cases_Bool (moves_data v i)) [
      | inl t ↦ moving r c i p.0 h l count p.1 (omega arith) t last
      | inr f ↦ still r c i p.0 h l count p.1 f last
    ]

at-clock : (r : Run) (c : ℕ) → Timely r → c < length r.trace → is_data_wrong (run_to r c).trace c ≡ false
unfolding is_data_wrong
at-clock r c h l = grind (arith, by-count)

-- rule 16
pub keeps-16 : (m : Marks) (r : Run) → Timely r → Keeps m 16 r.trace
unfolding run_to
keeps-16 m r h = keeps m 16 r.trace (λ c l. breaks-16 m (take (c + 1) r.trace) c ∙ at-clock r c h l)
