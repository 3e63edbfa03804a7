-- Which chunk is moved at a clock, and whether the clock is foul, stays however an orderly trace goes on.
use Rattle.std.proofs.Common.{ℕ, zero, suc, ◌+◌, ◌<◌, ◌≤◌, ◌≡◌, Bool, true, false, cond, ◌&&◌, not, Option}
use Rattle.std.proofs.Common.{Some, None, length, refl, sym, ap, ◌∙◌, arith, inl, inr, subst}
use Rattle.std.specs.Option.{option_map, option_and_then}
use Rattle.std.proofs.lemmas.Bool.{cases_Bool, and_parts, and_from}
use Rattle.std.proofs.lemmas.Option.{same_Some}
use Rattle.fsb_count.specs.Options.{is_some_and, is_at}
use Rattle.fsb_count.specs.Clocks.{AgreeBelow, first_where, last_where}
use Rattle.fsb_count.proofs.Interface.{count_where-same, first_where-carried, first_where-found, is_at-from, is_at-some}
use Rattle.fsb_count.proofs.Interface.{is_before-parts, last_where-failed, last_where-passed}
use Rattle.fsb_signal.specs.declared.lines.TheConstants.Lines.{ADS}
use Rattle.fsb_signal.specs.Samples.{data_at}
use Rattle.fsb_trace.specs.At.{Trace}
use Rattle.fsb_trace.specs.Agree.{AgreeTo}
use Rattle.fsb_trace.specs.Requests.{is_live, live_clock_of, live_count, live_number_of, live_request_of, is_reply}
use Rattle.fsb_trace.specs.Outcome.{outcome_of, is_deferral, is_deferred, response_clock_of}
use Rattle.fsb_trace.specs.Flight.{is_reply_to, is_live_reply_to, reply_clock_of, reply_number_of}
use Rattle.fsb_trace.proofs.Interface.{AgreeTo-sym, is_live-agree, line_at-agree, live_clock_of-number}
use Rattle.fsb_trace.proofs.Interface.{live_clock_of-stays, request_at-agree, response_clock_of-stays}
use Rattle.fsb_trace.proofs.Interface.{snoop_end_of-clock}
use Rattle.fsb_laws.proofs.Interface.{deferred_response, live_of_reply}
use Rattle.fsb_audit.specs.MovedChunks.{chunk_moved_at, chunk_moved_by, data_place_at, does_come_from_memory}
use Rattle.fsb_audit.specs.MovedChunks.{is_named_by_reply, is_from_memory, moved_at, mover_at, namer_of, nth_chunk}
use Rattle.fsb_audit.specs.Fouls.{foul_at, have_same_data, is_foul_clock, is_stale, latest_move}
use Rattle.fsb_audit.proofs.Movers.{GoesOnFrom, Responded, data_responded, first_where-alike, live_after, live_below}
use Rattle.fsb_audit.proofs.Movers.{mover_parts, responded, same_mover, same_outcome, same_place, same_request}
use Rattle.fsb_audit.proofs.Movers.{still_responded}

-- whether a request that responded is Deferred stays
pub same_deferred : (u v : Trace) (i : ℕ) → GoesOnFrom u v → Responded u i → is_deferred v i ≡ is_deferred u i
unfolding is_deferred
same_deferred u v i g r = ap (λ o. is_some_and o is_deferral) (same_outcome u v i g r)

-- whether a request is a live reply to it shows three clocks after that one's first clock
same_reply : (u v : Trace) (i q : ℕ) → GoesOnFrom u v → Responded u i → q + 3 < length u
    → is_live_reply_to u i q ≡ is_live_reply_to v i q
unfolding is_live_reply_to is_reply_to
same_reply u v i q g r l =
    rw (
      is_live-agree (length u) u v q g.agree l,
      line_at-agree ADS (length u) u v q g.agree (omega arith),
      request_at-agree (length u) u v q g.agree (omega arith),
      same_request u v i g r,
      still_responded u v i g r ∙ sym r.is_response,
    )
    refl

same_replies : (u v : Trace) (i q : ℕ) → GoesOnFrom u v → Responded u i → q + 3 < length u
    → AgreeBelow (q + 1) (is_live_reply_to u i) (is_live_reply_to v i)
same_replies u v i q g r l = record { same = λ c k. same_reply u v i c g r (omega arith) }

pub reply_forth : (u v : Trace) (i q : ℕ) → GoesOnFrom u v → Responded u i → q + 3 < length u
    → reply_clock_of u i ≡ Some q → reply_clock_of v i ≡ Some q
unfolding reply_clock_of
reply_forth u v i q g r l e =
    first_where-carried (is_live_reply_to u i) (is_live_reply_to v i) (length u) (length v) q
    (same_replies u v i q g r l) (omega (arith, g.agree.right)) e

pub reply_back : (u v : Trace) (i q : ℕ) → GoesOnFrom u v → Responded u i → q + 3 < length u
    → reply_clock_of v i ≡ Some q → reply_clock_of u i ≡ Some q
unfolding reply_clock_of
reply_back u v i q g r l e =
    first_where-carried (is_live_reply_to v i) (is_live_reply_to u i) (length v) (length u) q
    (record { same = λ c k. sym ((same_replies u v i q g r l).same c k) }) (omega arith) e

pub same_number : (u v : Trace) (q : ℕ) → GoesOnFrom u v → q + 3 < length u → live_number_of v q ≡ live_number_of u q
unfolding live_number_of
same_number u v q g l =
    count_where-same (is_live v) (is_live u) q
    (record { same = λ c k. sym (is_live-agree (length u) u v c g.agree (omega arith)) })

-- the parts of an answer
pub record Answer (w : Trace) (j i : ℕ) : Type 0 where
  pub deferred : is_deferred w i ≡ true
  pub clock : ℕ
  pub is_clock : reply_clock_of w i ≡ Some clock
  pub number : live_number_of w clock ≡ j

answer_clock : (w : Trace) (j : ℕ) (o : Option ℕ) → option_map (live_number_of w) o ≡ Some j
    → (q : ℕ) × (o ≡ Some q) × (live_number_of w q ≡ j)
answer_clock w j None e = absurd (let no : ⊥ = cc in no)
answer_clock w j (Some q) e = (q, refl, same_Some _ _ e)

pub answer_parts : (w : Trace) (j i : ℕ) → is_named_by_reply w j i ≡ true → Answer w j i
unfolding is_named_by_reply reply_number_of
answer_parts w j i t =
    let p = and_parts _ _ t in
    let c = answer_clock w j (reply_clock_of w i) (is_at-some _ j p.1) in
    record { deferred = p.0; clock = c.0; is_clock = c.1; number = c.2 }

pub answer_from : (w : Trace) (j i : ℕ) → Answer w j i → is_named_by_reply w j i ≡ true
unfolding is_named_by_reply reply_number_of
answer_from w j i a = and_from _ _ a.deferred (is_at-from _ j (rw a.is_clock (ap (λ k. Some k) a.number)))

pub answer_live : (w : Trace) (j i : ℕ) (a : Answer w j i) → live_clock_of w j ≡ Some a.clock
answer_live w j i a =
    let p = live_of_reply w i a.clock a.is_clock in
    subst (λ k. live_clock_of w k ≡ Some a.clock) a.number (live_clock_of-number w a.clock p.1 p.0)

pub reply_before : (w : Trace) (i q : ℕ) → reply_clock_of w i ≡ Some q
    → (r : ℕ) × (response_clock_of w i ≡ Some r) × (r < q)
unfolding reply_clock_of is_live_reply_to is_reply_to
reply_before w i q e =
    let p = first_where-found (is_live_reply_to w i) (length w) q e in
    is_before-parts (response_clock_of w i) q (and_parts _ _ (and_parts _ _ p.1).1).1

-- the request that a reply answers stays, where the reply responded
answers_forth : (u v : Trace) (j i : ℕ) → GoesOnFrom u v → Responded u j → is_named_by_reply u j i ≡ true
    → (i < live_count v) × (is_named_by_reply v j i ≡ true)
answers_forth u v j i g r t =
    let a = answer_parts u j i t in
    let d = deferred_response u i a.deferred in
    let k = responded u i d.0 g.orderly d.1 in
    let c = snoop_end_of-clock u j r.snoop r.is_snoop in
    let here : a.clock ≡ c.clock = same_Some _ _ (sym (answer_live u j i a) ∙ c.is_clock) in
    let early : a.clock + 3 < length u = omega (arith, here, c.above, r.early, r.below) in (
      live_after u v i g k,
      answer_from v j i (record {
        deferred = same_deferred u v i g k ∙ a.deferred;
        clock = a.clock;
        is_clock = reply_forth u v i a.clock g k early a.is_clock;
        number = same_number u v a.clock g early ∙ a.number;
      }),
    )

answers_back : (u v : Trace) (j i : ℕ) → GoesOnFrom u v → Responded u j → is_named_by_reply v j i ≡ true
    → (i < live_count u) × (is_named_by_reply u j i ≡ true)
answers_back u v j i g r t =
    let a = answer_parts v j i t in
    let c = snoop_end_of-clock u j r.snoop r.is_snoop in
    let soon : c.clock + 3 < length u = omega (arith, c.above, r.early, r.below) in
    let there = live_clock_of-stays (length u) u v j c.clock g.agree soon c.is_clock in
    let here : a.clock ≡ c.clock = same_Some _ _ (sym (answer_live v j i a) ∙ there) in
    let early : a.clock + 3 < length u = omega arith in
    let b = reply_before v i a.clock a.is_clock in
    let back = response_clock_of-stays (length u) v u i b.0 (AgreeTo-sym (length u) u v g.agree)
    (omega (arith, b.2)) b.1 in
    let k = responded u i b.0 g.orderly back in (
      live_below u i k,
      answer_from u j i (record {
        deferred = sym (same_deferred u v i g k) ∙ a.deferred;
        clock = a.clock;
        is_clock = reply_back u v i a.clock g k early a.is_clock;
        number = sym (same_number u v a.clock g early) ∙ a.number;
      }),
    )

pub same_namer : (u v : Trace) (j : ℕ) → GoesOnFrom u v → Responded u j → namer_of v j ≡ namer_of u j
unfolding namer_of
same_namer u v j g r =
    rw (same_request u v j g r)
    (ap (λ o. cond (is_reply (live_request_of u j)) o (Some j))
    (first_where-alike (is_named_by_reply v j) (is_named_by_reply u j) (live_count v) (live_count u)
    (λ i l t. answers_back u v j i g r t) (λ i l t. answers_forth u v j i g r t)))

-- the request that names the line and the chunk has responded
namer_cases : (u : Trace) (j i : ℕ) (b : Bool) → GoesOnFrom u u → Responded u j
    → cond b (first_where (is_named_by_reply u j) (live_count u)) (Some j) ≡ Some i → Responded u i
namer_cases u j i true g r e =
    let p = first_where-found (is_named_by_reply u j) (live_count u) i e in
    let a = answer_parts u j i p.1 in
    let d = deferred_response u i a.deferred in
    responded u i d.0 g.orderly d.1
namer_cases u j i false g r e = subst (Responded u) (same_Some _ _ e) r

same_u : (u : Trace) → AgreeTo (length u) u u
same_u u = record { left = omega arith; right = omega arith; same = λ c l. refl }

namer_responded : (u v : Trace) (j i : ℕ) → GoesOnFrom u v → Responded u j → namer_of u j ≡ Some i → Responded u i
unfolding namer_of
namer_responded u v j i g r e = namer_cases u j i (is_reply (live_request_of u j))
    (record { agree = same_u u; orderly = g.orderly }) r e

named_by : (u v : Trace) (j : ℕ) (o : Option ℕ) → GoesOnFrom u v → Responded u j → namer_of u j ≡ o
    → option_and_then (live_request_of v) o ≡ option_and_then (live_request_of u) o
named_by u v j None g r e = refl
named_by u v j (Some i) g r e = same_request u v i g (namer_responded u v j i g r e)

same_chunk_by : (u v : Trace) (j n : ℕ) → GoesOnFrom u v → Responded u j → chunk_moved_by v j n ≡ chunk_moved_by u j n
unfolding chunk_moved_by
same_chunk_by u v j n g r =
    ap (option_map (nth_chunk n)) (ap (option_and_then (live_request_of v)) (same_namer u v j g r)
    ∙ named_by u v j (namer_of u j) g r refl)

same_chunk_of : (u v : Trace) (j : ℕ) (o : Option ℕ) → GoesOnFrom u v → Responded u j
    → option_and_then (chunk_moved_by v j) o ≡ option_and_then (chunk_moved_by u j) o
same_chunk_of u v j None g r = refl
same_chunk_of u v j (Some n) g r = same_chunk_by u v j n g r

same_moved_by : (u v : Trace) (c : ℕ) (o : Option ℕ) → GoesOnFrom u v → c < length u → mover_at u c ≡ o
    → option_and_then (chunk_moved_at v c) o ≡ option_and_then (chunk_moved_at u c) o
unfolding chunk_moved_at
same_moved_by u v c None g l e = refl
same_moved_by u v c (Some j) g l e =
    let p = mover_parts u c j e in
    let r = data_responded u j p.0 c g.orderly p.1 in
    ap (option_and_then (chunk_moved_by v j)) (same_place u v c j g l) ∙ same_chunk_of u v j (data_place_at u c j) g r

pub same_moved : (u v : Trace) (c : ℕ) → GoesOnFrom u v → c < length u → moved_at v c ≡ moved_at u c
unfolding moved_at
same_moved u v c g l =
    ap (option_and_then (chunk_moved_at v c)) (same_mover u v c g l) ∙ same_moved_by u v c (mover_at u c) g l refl

same_from_by : (u v : Trace) (c : ℕ) (o : Option ℕ) → GoesOnFrom u v → c < length u → mover_at u c ≡ o
    → option_and_then (outcome_of v) o ≡ option_and_then (outcome_of u) o
same_from_by u v c None g l e = refl
same_from_by u v c (Some j) g l e =
    let p = mover_parts u c j e in same_outcome u v j g (data_responded u j p.0 c g.orderly p.1)

pub same_from : (u v : Trace) (c : ℕ) → GoesOnFrom u v → c < length u → is_from_memory v c ≡ is_from_memory u c
unfolding is_from_memory
same_from u v c g l =
    ap (λ o. is_some_and o does_come_from_memory)
    (ap (option_and_then (outcome_of v)) (same_mover u v c g l) ∙ same_from_by u v c (mover_at u c) g l refl)

-- the last of some clocks at which a test passes
pub last_where-same : (p q : ℕ → Bool) (n : ℕ) → ((k : ℕ) → k < n → p k ≡ q k) → last_where p n ≡ last_where q n
unfolding last_where
last_where-same p q zero e = refl
last_where-same p q (suc n) e =
    elim (cases_Bool (p n)) [
      | inl t ↦ last_where-passed p n t ∙ sym (last_where-passed q n (sym (e n (omega arith)) ∙ t))
      | inr f ↦
          last_where-failed p n f ∙ last_where-same p q n (λ k l. e k (omega arith))
          ∙ sym (last_where-failed q n (sym (e n (omega arith)) ∙ f))
    ]

pub same_latest : (u v : Trace) (chunk c : ℕ) → GoesOnFrom u v → c ≤ length u
    → latest_move v chunk c ≡ latest_move u chunk c
unfolding latest_move
same_latest u v chunk c g l =
    last_where-same (λ b. is_at (moved_at v b) chunk) (λ b. is_at (moved_at u b) chunk) c
    (λ b k. ap (λ o. is_at o chunk) (same_moved u v b g (omega arith)))

pub last_where-below : (p : ℕ → Bool) (n c : ℕ) → last_where p n ≡ Some c → c < n
unfolding last_where
last_where-below p zero c e = absurd (let no : ⊥ = cc in no)
last_where-below p (suc n) c e =
    elim (cases_Bool (p n)) [
      | inl t ↦ let same : n ≡ c = same_Some _ _ (sym (last_where-passed p n t) ∙ e) in omega arith
      | inr f ↦ let l : c < n = last_where-below p n c (sym (last_where-failed p n f) ∙ e) in omega arith
    ]

pub same_data : (u v : Trace) (c : ℕ) → GoesOnFrom u v → c < length u → data_at v c ≡ data_at u c
same_data u v c g l = rw (g.agree.same c l) refl

stale_by : (u v : Trace) (c chunk : ℕ) (o : Option ℕ) → GoesOnFrom u v → c < length u
    → latest_move u chunk c ≡ o → is_some_and o (λ b. not (have_same_data v b c))
    ≡ is_some_and o (λ b. not (have_same_data u b c))
unfolding is_some_and have_same_data latest_move
stale_by u v c chunk None g l e = refl
stale_by u v c chunk (Some b) g l e =
    let below = last_where-below (λ d. is_at (moved_at u d) chunk) c b e in
    let same_b : (data_at v b).bits ≡ (data_at u b).bits = ap (λ d. d.bits) (same_data u v b g (omega arith)) in
    let same_c : (data_at v c).bits ≡ (data_at u c).bits = ap (λ d. d.bits) (same_data u v c g l) in
    rw (same_b, same_c) refl

same_stale : (u v : Trace) (c chunk : ℕ) → GoesOnFrom u v → c < length u → is_stale v c chunk ≡ is_stale u c chunk
unfolding is_stale
same_stale u v c chunk g l =
    ap (λ o. is_some_and o (λ b. not (have_same_data v b c))) (same_latest u v chunk c g (omega arith))
    ∙ stale_by u v c chunk (latest_move u chunk c) g l refl

stale_of : (u v : Trace) (c : ℕ) (o : Option ℕ) → GoesOnFrom u v → c < length u
    → is_some_and o (is_stale v c) ≡ is_some_and o (is_stale u c)
unfolding is_some_and
stale_of u v c None g l = refl
stale_of u v c (Some chunk) g l = same_stale u v c chunk g l

pub same_foul : (u v : Trace) (c : ℕ) → GoesOnFrom u v → c < length u → is_foul_clock v c ≡ is_foul_clock u c
unfolding is_foul_clock
same_foul u v c g l =
    rw (same_from u v c g l, same_moved u v c g l)
    (ap (λ b. is_from_memory u c && b) (stale_of u v c (moved_at u c) g l))

pub same_foul_at : (u v : Trace) (c : ℕ) → GoesOnFrom u v → c < length u → foul_at v c ≡ foul_at u c
unfolding foul_at
same_foul_at u v c g l = rw (same_moved u v c g l) refl
