-- Rule 16: whose data are on the way at the new clock, and after it.
use Rattle.std.proofs.Common.{ℕ, suc, ◌+◌, ◌-◌, ◌<◌, ◌≤◌, ◌≡◌, Bool, true, false, cond, ◌&&◌, nat_lt, Option, Some, None}
use Rattle.std.proofs.Common.{[], ◌∷◌, ◌++◌, length, refl, sym, ap, subst, ◌∙◌, arith, inl, inr}
use Rattle.std.proofs.lemmas.Bool.{and_left, and_parts, and_right, cases_Bool, cases_eq, cases_lt, le-leb, le-ltb, lt-leb}
use Rattle.std.proofs.lemmas.Option.{same_Some}
use Rattle.fsb_count.specs.Clocks.{count_where, from_clock}
use Rattle.fsb_count.specs.Options.{is_some_and}
use Rattle.fsb_count.proofs.Interface.{any_where-at, any_where-off, count_where-mono, count_where-more, count_where-passed, nth_where-found}
use Rattle.fsb_signal.specs.declared.lines.TheConstants.Lines.{DRDY}
use Rattle.fsb_signal.specs.declared.sample.Sample.{Sample}
use Rattle.fsb_signal.specs.Samples.{has_line, line_at}
use Rattle.fsb_trace.specs.At.{Trace}
use Rattle.fsb_trace.specs.Requests.{is_live, live_clock_of, live_count, live_number_of}
use Rattle.fsb_trace.specs.Outcome.{moves_data, response_clock_of}
use Rattle.fsb_trace.specs.Response.{end_of}
use Rattle.fsb_trace.specs.Rules.{is_transferring, is_transferring_of}
use Rattle.fsb_trace.proofs.Interface.{end_of-moving, end_of-response, live_below_count, snoop_end_of-clock}
use Rattle.fsb_laws.specs.OneMore.{OneMore, responds}
use Rattle.fsb_laws.specs.Orderly.{Orderly}
use Rattle.fsb_laws.specs.Progress.{EndsTo, chunks_of, response_count, transfer_of}
use Rattle.fsb_laws.proofs.Interface.{chunks_of-form, count_where-none, end_of-kept, ends_to-moving, ends_to-still, line_at-new}
use Rattle.fsb_laws.proofs.Interface.{has_answer, live_clock_of-more, moves_data-old, one_more, response_clock_of-new, response_clock_of-old}
use Rattle.fsb_laws.proofs.Interface.{response_count-more, response_past, response_there, transfer_parts, transferring_form}
use Rattle.fsb_laws.proofs.LiveSteps.{not_cancelled}
use Rattle.fsb_owner_table.specs.declared.row.Row.{Row}
use Rattle.fsb_owner_table.specs.Rows.{row_at}
use Rattle.fsb_owner_table.proofs.Reached.{reached-live}
use Rattle.fsb_owner_feed.specs.Table.{SaysMoving as RowMoves}
use Rattle.fsb_reasons.specs.declared.reason.Concerned.{Concerned}
use Rattle.fsb_why_queue.specs.declared.data.Transfer.{Transfer}
use Rattle.fsb_why_queue.specs.Data.{HasNoData, IsMover, IsTransfer, IsUnderWay, SaysMover, SaysTransfer, SaysUnderWay}
use Rattle.fsb_why_queue.proofs.Ends.{chunk_now, chunks_before}

-- without a response, or where no data move, nothing is on the way
not_without : (w : Trace) (n i : ℕ) → response_clock_of w i ≡ None → is_transferring_of w n i ≡ false
unfolding is_transferring_of is_some_and
not_without w n i e = rw e (and_right _ _ refl)

unmoved : (w : Trace) (n i : ℕ) → moves_data w i ≡ false → is_transferring_of w n i ≡ false
unfolding is_transferring_of
unmoved w n i f = and_left _ _ f

-- where the end is below n the data came below n
enough : (w : Trace) (n i r e : ℕ) → response_clock_of w i ≡ Some r → moves_data w i ≡ true
    → end_of w i ≡ Some e → e < n → 4 ≤ count_where (from_clock r (line_at DRDY w)) n
enough w n i r e f t g l =
    let p = nth_where-found (from_clock r (line_at DRDY w)) 3 (length w) e (sym (end_of-moving w i r t f) ∙ g) in
    let one = count_where-passed (from_clock r (line_at DRDY w)) e p.1 in
    let more = count_where-mono (from_clock r (line_at DRDY w)) (e + 1) n (omega arith) in
    omega (arith, p.2, one, more)

ended_cases : (w : Trace) (n i e : ℕ) (b : Bool) → moves_data w i ≡ b → end_of w i ≡ Some e → e < n
    → is_transferring_of w n i ≡ false
ended_cases w n i e true t g l =
    let r = end_of-response w i e g in
    let four = enough w n i r.0 e r.1 t g l in
    transferring_form w n i r.0 r.1 ∙ and_right _ _ (le-ltb (count_where (from_clock r.0 (line_at DRDY w)) n) 4 four)
ended_cases w n i e false t g l = unmoved w n i t

one_at_most : (b : Bool) → cond b 1 0 ≤ 1
one_at_most true = omega arith
one_at_most false = omega arith

no_more : (a b : Bool) → (a && b) ≡ false → a ≡ true → b ≡ false
no_more true b f t = f
no_more false b f t = absurd (let no : ⊥ = cc in no)

module _ (h : Trace) (x : Sample) (o : Orderly h) where
  abbrev v : Trace
  v = h ++ x ∷ []

  m : OneMore h x (h ++ x ∷ [])
  m = one_more h x

  -- requests that have their end, and those that have not responded
  ended_off : (n i k : ℕ) → EndsTo h k → i < k → length h ≤ n → is_transferring_of v n i ≡ false
  ended_off n i k to l late =
      let p = to.reached i l in
      ended_cases v n i p.0 (moves_data v i) refl (end_of-kept h x v i p.0 m o p.1 p.2) (omega (arith, p.2, late))

  past_off : (n i : ℕ) → response_count h < i → is_transferring_of v n i ≡ false
  past_off n i l =
      let one = one_at_most (responds x) in
      let more = response_count-more h x v m in
      not_without v n i (response_past v i (omega (arith, l, one, more)))

  next_off : (n i : ℕ) → i ≡ response_count h → (responds x && moves_data v (response_count h)) ≡ false
      → is_transferring_of v n i ≡ false
  next_off n i e f =
      elim (cases_Bool (responds x)) [
        | inl t ↦ unmoved v n i (ap (moves_data v) e ∙ no_more (responds x) (moves_data v (response_count h)) f t)
        | inr quiet ↦
            let more : response_count v ≡ response_count h + 0 = response_count-more h x v m ∙ ap (λ b. response_count h + cond b 1 0) quiet in
            not_without v n i (response_past v i (omega (arith, e, more)))
      ]

  others_off : (n i k : ℕ) → EndsTo h k → (i < k → ⊥) → (responds x && moves_data v (response_count h)) ≡ false
      → response_count h ≤ i → is_transferring_of v n i ≡ false
  others_off n i k to late f l =
      elim (cases_lt (response_count h) i) [
        | inl past ↦ past_off n i past
        | inr here ↦ next_off n i (omega (arith, here, l)) f
      ]

  -- nothing is on the way after h, and nothing begins
  none_off : (n : ℕ) → transfer_of h ≡ None → (responds x && moves_data v (response_count h)) ≡ false → length h ≤ n
      → is_transferring v n ≡ false
  unfolding is_transferring
  none_off n e f late =
      any_where-off (is_transferring_of v n) (live_count v) (λ i l.
      elim (cases_lt i (response_count h)) [
        | inl less ↦ ended_off n i (response_count h) (ends_to-still h o e) less late
        | inr more ↦ others_off n i (response_count h) (ends_to-still h o e) (λ k. omega (arith, k, more)) f more
      ])

  pub no_data : transfer_of h ≡ None → (responds x && moves_data v (response_count h)) ≡ false → HasNoData v (length h)
  no_data e f = record {
    there = none_off (length h) e f (omega arith);
    after = none_off (length h + 1) e f (omega arith);
  }

  -- those of the request that responded last are
  by_last : (n k i : ℕ) (b : Bool) → transfer_of h ≡ Some k → response_count h ≡ suc i
      → (responds x && moves_data v (response_count h)) ≡ false → length h ≤ n → i < live_count v
      → is_transferring_of v n i ≡ b → is_transferring v n ≡ b
  unfolding is_transferring
  by_last n k i true e c f late within is_there = any_where-at (is_transferring_of v n) (live_count v) i within is_there
  by_last n k i false e c f late within is_there =
      any_where-off (is_transferring_of v n) (live_count v) (λ j l.
      elim (cases_eq j i) [
        | inl same ↦ subst (λ t. is_transferring_of v n t ≡ false) (sym same) is_there
        | inr other ↦
            elim (cases_lt j i) [
              | inl less ↦ ended_off n j i (ends_to-moving h k i o e c) less late
              | inr more ↦
                  others_off n j i (ends_to-moving h k i o e c) (λ t. omega (arith, t, more)) f (omega (arith, c, other, more))
            ]
      ])

  -- how many of its chunks came
  chunks_after : (r : ℕ) → r < length h → count_where (from_clock r (line_at DRDY v)) (length h + 1)
      ≡ count_where (from_clock r (line_at DRDY v)) (length h) + cond (has_line x DRDY) 1 0
  chunks_after r l =
      count_where-more (from_clock r (line_at DRDY v)) (length h)
      ∙ ap (λ b. count_where (from_clock r (line_at DRDY v)) (length h) + cond b 1 0) (chunk_now h x o r l)

  still_live : (i q : ℕ) → i < response_count h → live_clock_of h i ≡ Some q → live_clock_of v i ≡ Some q
  still_live i q l e =
      let r = response_there h i l in
      let a = has_answer h r.0 i (o.timely i r.0 r.1) in
      let c = snoop_end_of-clock h i a.snoop a.is_snoop in
      let there = c.is_clock in
      let same : c.clock ≡ q = cc in
      live_clock_of-more h x v i q m o.spaced e
      (not_cancelled x (length h) q (λ t. omega (arith, t, same, c.above, a.before, r.2)))

  pub coming_last : (coming : Transfer) → IsUnderWay coming h → (responds x && moves_data v (response_count h)) ≡ false
      → IsTransfer coming v (length h)
  coming_last coming g f =
      let i : ℕ = coming.request.number in
      let r : ℕ = coming.response in
      let p = transfer_parts h coming.chunks g.chunks in
      let same : p.0 ≡ i = (let a = p.1 in let b = g.last in omega (arith, a, b)) in
      let less : i < response_count h = (let b = g.last in omega (arith, b)) in
      let reached = response_there h i less in
      let low : r < length h = (let a = reached.1 in let b = g.response in let t : reached.0 ≡ r = cc in omega (arith, t, reached.2)) in
      let there = subst (λ j. is_transferring_of h (length h) j ≡ true) same p.2 in
      let parts = and_parts (moves_data h i) (nat_lt (count_where (from_clock r (line_at DRDY h)) (length h)) 4)
      (sym (transferring_form h (length h) i r g.response) ∙ there) in
      let count : count_where (from_clock r (line_at DRDY h)) (length h) ≡ coming.chunks =
      same_Some _ _ (sym (chunks_of-form h i r g.response) ∙ subst (λ j. chunks_of h j ≡ Some coming.chunks) same p.3) in
      let chunks : count_where (from_clock r (line_at DRDY v)) (length h) ≡ coming.chunks = chunks_before h x o r ∙ count in
      let moves : moves_data v i ≡ true = moves_data-old h x v i m o less ∙ parts.0 in
      let response : response_clock_of v i ≡ Some r = response_clock_of-old h x v i m less ∙ g.response in
      let clock = still_live i coming.request.clock less g.clock in
      let within = live_below_count v i coming.request.clock clock in
      let few : nat_lt coming.chunks 4 ≡ true = ap (λ n. nat_lt n 4) (sym count) ∙ parts.1 in
      let last : response_count h ≡ suc i = (let b = g.last in omega (arith, b)) in
      record {
        clock = clock;
        moves = moves;
        response = response;
        reached = omega (arith, low);
        chunks = sym chunks;
        there = by_last (length h) coming.chunks i true g.chunks last f (omega arith) within
            (transferring_form v (length h) i r response ∙ (rw (moves, chunks) few));
        after = by_last (length h + 1) coming.chunks i _ g.chunks last f (omega arith) within
            (transferring_form v (length h + 1) i r response
            ∙ (rw (moves, chunks_after r low, chunks, line_at-new DRDY h x v m) refl));
      }

  -- those of the request that responds with the sample are
  none_from : count_where (from_clock (length h) (line_at DRDY v)) (length h) ≡ 0
  unfolding from_clock
  none_from =
      count_where-none (from_clock (length h) (line_at DRDY v)) (length h) (λ c l. and_left _ _ (lt-leb (length h) c l))

  one_from : count_where (from_clock (length h) (line_at DRDY v)) (length h + 1) ≡ 0 + cond (has_line x DRDY) 1 0
  unfolding from_clock
  one_from =
      count_where-more (from_clock (length h) (line_at DRDY v)) (length h)
      ∙ (rw (none_from, le-leb (length h) (length h) (omega arith), line_at-new DRDY h x v m) refl)

  few_first : (b : Bool) → nat_lt (0 + cond b 1 0) 4 ≡ true
  few_first true = refl
  few_first false = refl

  pub coming_now : (request : Concerned) → IsMover request h x v
      → IsTransfer (record { request = request; response = length h; chunks = 0 }) v (length h)
  unfolding is_transferring
  coming_now request g =
      let response : response_clock_of v request.number ≡ Some (length h) =
      ap (response_clock_of v) g.number ∙ response_clock_of-new h x v m g.responds in
      let moves : moves_data v request.number ≡ true = ap (moves_data v) g.number ∙ g.moves in
      let within = live_below_count v request.number request.clock g.clock in
      record {
        clock = g.clock;
        moves = moves;
        response = response;
        reached = omega arith;
        chunks = sym none_from;
        there = any_where-at (is_transferring_of v (length h)) (live_count v) request.number within
            (transferring_form v (length h) request.number (length h) response ∙ (rw (moves, none_from) refl));
        after = any_where-at (is_transferring_of v (length h + 1)) (live_count v) request.number within
            (transferring_form v (length h + 1) request.number (length h) response
            ∙ (rw (moves, one_from) (few_first (has_line x DRDY))))
            ∙ sym (rw (line_at-new DRDY h x v m) (few_first (has_line x DRDY)));
      }

pub coming-kept : (h : Trace) (x : Sample) (n : ℕ) (k : Option Transfer) → Orderly h → n ≡ length h → SaysUnderWay h k
    → SaysMover h x (h ++ x ∷ []) None → SaysTransfer (h ++ x ∷ []) n k
coming-kept h x n None o e g f =
    subst (λ c. SaysTransfer (h ++ x ∷ []) c None) (sym e) (no_data h x o g f)
coming-kept h x n (Some coming) o e g f =
    subst (λ c. SaysTransfer (h ++ x ∷ []) c (Some coming)) (sym e) (coming_last h x o coming g f)

-- the row of the request that responded last
row_response : (h : Trace) (i q : ℕ) (row : Row) → live_clock_of h i ≡ Some q → row ≡ row_at h q
    → row.response ≡ response_clock_of h i
unfolding row_at live_clock_of live_number_of
row_response h i q row e is_row =
    let f = nth_where-found (is_live h) i (length h) q e in
    ap (λ r. r.response) is_row ∙ reached-live response_clock_of h q f.1 ∙ ap (response_clock_of h) f.2

pub moving-is : (h : Trace) (row : Row) (responses number response chunks : ℕ) → RowMoves h (Some row)
    → responses ≡ response_count h → number ≡ responses - 1 → row.response ≡ Some response → transfer_of h ≡ Some chunks
    → IsUnderWay (record {
      request = record { number = number; clock = row.seen.clock };
      response = response;
      chunks = chunks;
    }) h
moving-is h row responses number response chunks g is_count back is_response e =
    let i : ℕ = g.0 in
    let same : number ≡ i = (let a = g.1 in omega (arith, a, is_count, back)) in
    record {
      last = (let a = g.1 in omega (arith, a, same));
      clock = ap (live_clock_of h) same ∙ g.2.clock;
      response = ap (response_clock_of h) same
          ∙ (sym (row_response h i row.seen.clock row g.2.clock g.2.is) ∙ is_response);
      chunks = e;
    }

pub moved-none : (h : Trace) (row : Row) → RowMoves h (Some row) → row.response ≡ None → ⊥
moved-none h row g e =
    let i : ℕ = g.0 in
    let a = g.1 in
    let r = response_there h i (omega (arith, a)) in
    let there = r.1 in
    let none = sym (row_response h i row.seen.clock row g.2.clock g.2.is) ∙ e in
    let no : ⊥ = cc in no
