-- What a queue that stands for a history tells of its requests, and which are known with a new sample.
use Rattle.std.proofs.Common.{ℕ, zero, suc, ◌+◌, ◌-◌, ◌<◌, ◌≤◌, ◌≡◌, true, false, cond, Option, Some, nat_le}
use Rattle.std.proofs.Common.{None, is_some, is_none, length, slice_get, refl, sym, ap, ◌∙◌, arith, inl, inr, subst}
use Rattle.std.proofs.Common.{add-zero, not, ◌&&◌}
use Rattle.std.proofs.lemmas.Bool.{and_parts, both_ways, false_from_ne_true, le-leb, leb-true, cases_Bool}
use Rattle.std.proofs.lemmas.Bool.{and_left, and_right, and_from, eq-eqb}
use Rattle.std.proofs.Math.Bool.{and-true}
use Rattle.fsb_count.specs.Options.{is_some_and}
use Rattle.fsb_count.specs.Clocks.{count_where, nth_where}
use Rattle.fsb_count.proofs.Interface.{count_where-above, count_where-more, nth_where-at, nth_where-found}
use Rattle.fsb_count.proofs.Interface.{nth_where-there, count_where-same, count_where-passed, count_where-failed}
use Rattle.fsb_signal.specs.declared.lines.TheConstants.Lines.{ADS, AERR}
use Rattle.fsb_signal.specs.Samples.{line_at, has_line}
use Rattle.fsb_signal.specs.declared.sample.Sample.{Sample}
use Rattle.fsb_encode.specs.declared.request.Request.{Request}
use Rattle.fsb_trace.specs.At.{Trace, line_back, request_at}
use Rattle.fsb_trace.specs.Requests.{is_live, live_clock_of, live_count, live_number_of}
use Rattle.fsb_trace.specs.Snoop.{is_every_second_from, snoop_end_of, snoop_start_of}
use Rattle.fsb_trace.specs.Flight.{in_flight}
use Rattle.fsb_trace.proofs.Interface.{snoop_end_of-clock}
use Rattle.fsb_laws.specs.Orderly.{Orderly, Spaced}
use Rattle.fsb_laws.specs.Progress.{SnoopsTo, is_snoop_due, response_count, transfer_of, may_answer_next}
use Rattle.fsb_laws.proofs.Interface.{ends_to-moving, ends_to-still, in_flight-count, is_live-ads}
use Rattle.fsb_laws.proofs.Interface.{snoop_end_of-above, start_clock, transfer_parts}
use Rattle.fsb_laws.proofs.Interface.{is_cancelled-late, is_live-more, live_number_of-more, live_clock_of-more}
use Rattle.fsb_laws.proofs.Interface.{live_clock_of-less, request_at-old}
use Rattle.fsb_laws.specs.OneMore.{OneMore, cancels}
use Rattle.fsb_heads.specs.Heads.{snooped_count}
use Rattle.fsb_heads.proofs.Interface.{snoops_to}
use Rattle.fsb_rules.specs.declared.live.LiveRequest.{LiveRequest}
use Rattle.fsb_rules.specs.declared.live.Snooped.{Snooped}
use Rattle.fsb_rules.specs.declared.in_flight.InFlight.{InFlight}
use Rattle.fsb_rules.specs.Live.{live_from, IsLive, IsSnooped}
use Rattle.fsb_rules.specs.InFlight.{InFlightStands, known_count}
use Rattle.fsb_rules.proofs.Stretches.{stretch-head, stretch-end, stretch-size}
use Rattle.fsb_rules.proofs.LiveTests.{live-early}
use Rattle.fsb_rules.proofs.Lines.{line_back-none, line_back-some}

-- those below the count of known ones are known
pub known_clock : (h : Trace) (i : ℕ) → i < known_count h → (q : ℕ) × (live_clock_of h i ≡ Some q) × (q + 1 < length h)
unfolding known_count live_clock_of
known_clock h i l =
    let p = nth_where-there (is_live h) i (length h - 1) l in
    let f = nth_where-found (is_live h) i (length h - 1) p.0 p.1 in
    let below : p.0 < length h - 1 = f.0 in
    let at : nth_where (is_live h) (count_where (is_live h) p.0) (length h) ≡ Some p.0 =
    nth_where-at (is_live h) (length h) p.0 (omega arith) f.1 in
    (p.0, subst (λ k. nth_where (is_live h) k (length h) ≡ Some p.0) f.2 at, omega arith)

below_known : (h : Trace) (i q : ℕ) → live_clock_of h i ≡ Some q → q + 1 < length h → i < known_count h
unfolding known_count live_clock_of
below_known h i q e l =
    let f = nth_where-found (is_live h) i (length h) q e in
    let more = count_where-above (is_live h) q (length h - 1) (omega arith) f.1 in
    omega (arith, f.2)

-- a request that has its snoop end is known, and so are those that have a snoop clock now
pub snooped_known : (h : Trace) (i t : ℕ) → snoop_end_of h i ≡ Some t → i < known_count h
snooped_known h i t e =
    let c = snoop_end_of-clock h i t e in below_known h i c.clock c.is_clock (omega (arith, c.above, c.within))

pub snoops_known : (h : Trace) (s : ℕ) → SnoopsTo h s → s ≤ known_count h
snoops_known h zero to = omega arith
snoops_known h (suc i) to = let p = to.reached i (omega arith) in let k = snooped_known h i p.0 p.1 in omega arith

due_start : (n : ℕ) (o : Option ℕ) → is_some_and o (λ start. is_every_second_from start n) ≡ true
    → (start : ℕ) × (o ≡ Some start) × (start ≤ n)
unfolding is_some_and is_every_second_from
due_start n None t = absurd (let no : ⊥ = cc in no)
due_start n (Some start) t = (start, refl, leb-true start n (and_parts _ _ t).0)

pub due_known : (h : Trace) (s : ℕ) → is_snoop_due h s (length h) ≡ true → s < known_count h
unfolding is_snoop_due
due_known h s t =
    let p = due_start (length h) (snoop_start_of h s) t in
    let c = start_clock h s p.0 p.1 in
    below_known h s c.0 c.1 (omega (arith, c.2, p.2))

-- where no request begins at the last clock all live requests are known
quiet_last : (h : Trace) (n : ℕ) → length h ≡ suc n → line_back ADS h (length h) 1 ≡ false → is_live h n ≡ false
unfolding line_back
quiet_last h n e f =
    false_from_ne_true _ (λ t.
    let same : length h - 1 ≡ n = omega arith in
    let g : line_at ADS h n ≡ false = rw (le-leb 1 (length h) (omega arith), same) at f in
    both_ways _ g (is_live-ads h n t))

all_known : (h : Trace) (n : ℕ) → length h ≡ n → line_back ADS h (length h) 1 ≡ false → known_count h ≡ live_count h
unfolding known_count live_count
all_known h zero e f = ap (count_where (is_live h)) (omega arith)
all_known h (suc n) e f =
    let one : length h ≡ n + 1 = omega arith in
    let before : length h - 1 ≡ n = omega arith in
    ap (count_where (is_live h)) before
    ∙ sym (ap (count_where (is_live h)) one ∙ count_where-more (is_live h) n
    ∙ ap (λ b. count_where (is_live h) n + cond b 1 0) (quiet_last h n e f) ∙ add-zero _)

-- What a queue that stands for a history tells of it.

module _ {q : InFlight} {h : Trace} (st : InFlightStands q h) where
  -- with those that responded, the known ones and the one whose data are on the way
  pub queue-size : length q.asking.items + length q.waiting.items + response_count h ≡ known_count h
  queue-size =
      let asking = stretch-size (IsLive h) q.asking.items (snooped_count h) (known_count h) st.asking in
      let waiting = stretch-size (IsSnooped h) q.waiting.items (response_count h) (snooped_count h) st.waiting in
      omega arith

  flight_cases : (t : Option ℕ) → Orderly h → transfer_of h ≡ t → known_count h ≡ live_count h
      → length q.asking.items + length q.waiting.items + cond (is_some t) 1 0 ≡ length (in_flight h (length h))
  flight_cases None o e k =
      let count = in_flight-count h (response_count h) (ends_to-still h o e) in
      let size = queue-size in omega arith
  flight_cases (Some c) o e k =
      let p = transfer_parts h c e in
      let count = in_flight-count h p.0 (ends_to-moving h c p.0 o e p.1) in
      let size = queue-size in omega (arith, p.1)

  -- where none begins at the last clock the queue has those in flight
  pub queue-in_flight : Orderly h → line_back ADS h (length h) 1 ≡ false
      → length q.asking.items + length q.waiting.items + cond (is_some (transfer_of h)) 1 0
      ≡ length (in_flight h (length h))
  queue-in_flight o f = flight_cases (transfer_of h) o refl (all_known h (length h) refl f)

  -- there is room for a request that began at the last clock, and for one that has its snoop end
  pub room_asking : line_back ADS h (length h) 1 ≡ true → length q.asking.items < 8
  room_asking t =
      let few : known_count h + cond (is_some (transfer_of h)) 1 0 + 1 ≤ response_count h + 8 = rw t at st.few in
      let size = queue-size in omega arith

  pub room_waiting : 0 < length q.asking.items → length q.waiting.items < 8
  room_waiting l = let few = st.few in let size = queue-size in omega arith

  -- the first requests of the lists
  pub asks_first : {a : LiveRequest} → slice_get q.asking.items 0 ≡ Some a → IsLive h (snooped_count h) a
  asks_first e = stretch-head (IsLive h) q.asking.items _ _ _ st.asking e

  pub asks_none : slice_get q.asking.items 0 ≡ None → is_snoop_due h (snooped_count h) (length h) ≡ false
  asks_none e =
      let same = stretch-end (IsLive h) q.asking.items _ _ st.asking e in
      false_from_ne_true _ (λ t. let l = due_known h (snooped_count h) t in omega arith)

  pub waits_first : {w : Snooped} → slice_get q.waiting.items 0 ≡ Some w → IsSnooped h (response_count h) w
  waits_first e = stretch-head (IsSnooped h) q.waiting.items _ _ _ st.waiting e

  pub may_first : {w : Snooped} → slice_get q.waiting.items 0 ≡ Some w
      → may_answer_next h ≡ (nat_le (w.clock + 2) (length h) && is_none (transfer_of h))
  unfolding may_answer_next is_some_and
  may_first e = rw (waits_first e).end refl

  pub may_none : slice_get q.waiting.items 0 ≡ None → may_answer_next h ≡ false
  unfolding may_answer_next is_some_and
  may_none e =
      let same = stretch-end (IsSnooped h) q.waiting.items _ _ st.waiting e in
      rw (snoop_end_of-above h (snooped_count h) (response_count h) (snoops_to h) (omega arith)) refl

-- The live requests that are known, with a new sample.

live_last : (h : Trace) (n : ℕ) → length h ≡ suc n → is_live h n ≡ line_back ADS h (length h) 1
unfolding is_live line_back
live_last h n e =
    let same : length h - 1 ≡ n = omega arith in
    rw (is_cancelled-late h n (omega arith), le-leb 1 (length h) (omega arith), same) (and-true (line_at ADS h n))

no_count : (v h : Trace) → count_where (is_live v) 0 ≡ count_where (is_live h) 0 + 0
unfolding count_where
no_count v h = refl

module _ {h : Trace} {x : Sample} {v : Trace} (m : OneMore h x v) where
  -- where none is cancelled one more is known, if one began at the last clock
  same_live : (c : ℕ) → has_line x AERR ≡ false → c < length h → is_live v c ≡ is_live h c
  unfolding cancels
  same_live c f l = is_live-more h x v c m l
      ∙ ap (λ b. is_live h c && not b) (and_left _ _ f) ∙ and-true (is_live h c)

  count_cases : (n : ℕ) → has_line x AERR ≡ false → length h ≡ n
      → known_count v ≡ known_count h + cond (line_back ADS h (length h) 1) 1 0
  unfolding known_count
  count_cases zero f e =
      let a : length v - 1 ≡ 0 = omega (arith, m.size) in
      let b : length h - 1 ≡ 0 = omega arith in
      rw (a, b, line_back-none ADS h e) (no_count v h)
  count_cases (suc n) f e =
      let a : length v - 1 ≡ n + 1 = omega (arith, m.size) in
      let b : length h - 1 ≡ n = omega arith in
      ap (count_where (is_live v)) a ∙ count_where-more (is_live v) n
      ∙ ap (λ k. k + cond (is_live v n) 1 0)
      (count_where-same (is_live v) (is_live h) n (record { same = λ c l. same_live c f (omega arith) }))
      ∙ ap (λ t. count_where (is_live h) n + cond t 1 0) (same_live n f (omega arith) ∙ live_last h n e)
      ∙ ap (λ k. count_where (is_live h) k + cond (line_back ADS h (length h) 1) 1 0) (sym b)

  pub known_count-more : has_line x AERR ≡ false
      → known_count v ≡ known_count h + cond (line_back ADS h (length h) 1) 1 0
  known_count-more f = count_cases (length h) f refl

  -- where one is cancelled, one less: behind it none is live
  none_behind : (q c : ℕ) → Spaced h → q + 3 ≡ length h → line_at ADS h q ≡ true → q < c → c < length h
      → (is_live h c ≡ false) × (is_live v c ≡ false)
  none_behind q c s e t l k =
      let dead = false_from_ne_true _ (λ u. let far = s.apart q c l t (is_live-ads h c u) in omega arith) in
      (dead, is_live-more h x v c m k ∙ and_left _ _ dead)

  pub known_count-less : Spaced h → has_line x AERR ≡ true → line_back ADS h (length h) 3 ≡ true
      → known_count h ≡ known_count v + 1
  unfolding known_count live_number_of is_live line_back cancels
  known_count-less s t back =
      let p = and_parts _ _ back in
      let three = leb-true 3 (length h) p.0 in
      let q : ℕ = length h - 3 in
      let e : q + 3 ≡ length h = omega arith in
      let asks : line_at ADS h q ≡ true = p.1 in
      let old : length h - 1 ≡ q + 1 + 1 = omega arith in
      let new : length v - 1 ≡ q + 1 + 1 + 1 = omega (arith, m.size) in
      let live : is_live h q ≡ true = rw (asks, is_cancelled-late h q (omega arith)) refl in
      let dead : is_live v q ≡ false = is_live-more h x v q m (omega arith)
      ∙ and_right _ _ (ap not (and_from _ _ t (eq-eqb (q + 3) (length h) e))) in
      ap (count_where (is_live h)) old
      ∙ count_where-failed (is_live h) (q + 1) (none_behind q (q + 1) s e asks (omega arith) (omega arith)).0
      ∙ count_where-passed (is_live h) q live
      ∙ ap (λ k. k + 1) (live_number_of-more h x v q m s (omega arith) asks
      ∙ sym (count_where-failed (is_live v) q dead)
      ∙ sym (count_where-failed (is_live v) (q + 1) (none_behind q (q + 1) s e asks (omega arith) (omega arith)).1)
      ∙ sym (count_where-failed (is_live v) (q + 1 + 1)
      (none_behind q (q + 1 + 1) s e asks (omega arith) (omega arith)).1)
      ∙ sym (ap (count_where (is_live v)) new))

  -- a known request stays so, where it is known in the new trace
  kept_clock : (i q : ℕ) → Spaced h → live_clock_of h i ≡ Some q → i < known_count v → live_clock_of v i ≡ Some q
  kept_clock i q s e k =
      elim (cases_Bool (cancels x (length h) q)) [
        | inr f ↦ live_clock_of-more h x v i q m s e f
        | inl t ↦
            let p = known_clock v i k in
            let back = live_clock_of-less h x v i p.0 m s (omega (arith, p.2, m.size)) p.1 in
            let same : p.0 ≡ q = cc in
            let again : live_clock_of v i ≡ Some q = p.1 ∙ ap (λ c. Some c) same in again
      ]

  pub live_kept : {a : LiveRequest} (i : ℕ) → Spaced h → IsLive h i a → i < known_count v → IsLive v i a
  live_kept {a} i s l k =
      record {
        request = l.request;
        clock = kept_clock i a.clock s l.clock k;
        decoded = request_at-old h x v a.clock m (live-early l) ∙ l.decoded;
        same = l.same;
      }

  -- the request that began at the last clock is the next known one
  pub live_begun : (r : Request) → line_back ADS h (length h) 1 ≡ true → has_line x AERR ≡ false
      → request_at v (length h - 1) ≡ Some r → IsLive v (known_count h) (live_from (length h - 1) r)
  unfolding known_count live_clock_of live_from
  live_begun r t f e =
      let some = line_back-some h t in
      let live : is_live v (length h - 1) ≡ true = same_live (length h - 1) f (omega arith)
      ∙ live_last h (length h - 1) (omega arith) ∙ t in
      record {
        request = r;
        clock =
            rw (count_where-same (is_live h) (is_live v) (length h - 1)
            (record { same = λ c l. sym (same_live c f (omega arith)) }))
            (nth_where-at (is_live v) (length v) (length h - 1) (omega (arith, m.size)) live);
        decoded = e;
        same = refl;
      }
