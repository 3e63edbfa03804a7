-- The queue stands for the history with a new sample that breaks no rule.
use Rattle.std.proofs.Common.{ℕ, suc, ◌+◌, ◌-◌, ◌<◌, ◌≤◌, ◌≡◌, Bool, true, false, cond, ◌&&◌, Option, Some, not, nat_le}
use Rattle.std.proofs.Common.{None, is_some, List, [], ◌∷◌, ◌++◌, drop, length, slice_get, refl, sym, ap, ◌∙◌}
use Rattle.std.proofs.Common.{arith, inl, inr, subst, add-zero, IfSome}
use Rattle.std.specs.Option.{option_to_list}
use Rattle.std.proofs.lemmas.Bool.{cases_lt, and_parts, both_ways, false_from_ne_true, leb-true, le-leb, leb-false}
use Rattle.std.proofs.lemmas.Bool.{cases_Bool, not-false}
use Rattle.std.proofs.lemmas.Bool.{not-true, and_left}
use Rattle.std.proofs.lemmas.List.{append-nil}
use Rattle.fsb_count.specs.Clocks.{count_where}
use Rattle.fsb_count.proofs.Interface.{cond-most, is_none-none}
use Rattle.fsb_signal.specs.declared.lines.TheConstants.Lines.{ADS, AERR, HITM, DEFER, TRDY, DRDY}
use Rattle.fsb_signal.specs.declared.sample.Sample.{Sample}
use Rattle.fsb_signal.specs.Samples.{has_line, response_of}
use Rattle.fsb_encode.specs.declared.request.Request.{Request}
use Rattle.fsb_trace.specs.At.{Trace, line_back, request_at}
use Rattle.fsb_trace.specs.Flight.{in_flight}
use Rattle.fsb_trace.specs.Rules.{is_code_unlawful, is_error_alone, is_queue_full}
use Rattle.fsb_trace.specs.Outcome.{told_by, does_move}
use Rattle.fsb_trace.specs.Response.{ready_clock_of}
use Rattle.fsb_trace.specs.Snoop.{snoop_end_of}
use Rattle.fsb_trace.proofs.Interface.{snoop_end_of-clock}
use Rattle.fsb_laws.specs.OneMore.{OneMore, responds}
use Rattle.fsb_laws.specs.Orderly.{Spaced}
use Rattle.fsb_laws.specs.Progress.{SnoopsTo, ends_snoop_of, is_snoop_due, response_count, transfer_of}
use Rattle.fsb_laws.specs.Progress.{transfer_after, may_answer_next, chunk_step}
use Rattle.fsb_laws.proofs.Interface.{answered_below, has_answer, line_at-new, line_at-old, moves_new, one_more}
use Rattle.fsb_laws.proofs.Interface.{in_flight-now}
use Rattle.fsb_laws.proofs.Interface.{ready_clock_of-next, response_count-empty, response_count-kept}
use Rattle.fsb_laws.proofs.Interface.{response_count-more, response_there, snoop_end_of-above, snoop_end_of-old}
use Rattle.fsb_laws.proofs.Interface.{transfer_of-kept}
use Rattle.fsb_heads.specs.Heads.{snooped_count, MovesWith, Stands as HeadsStands}
use Rattle.fsb_heads.proofs.Interface.{last_snoop_end-more, snooped_count-more, snoops_count, snoops_to}
use Rattle.fsb_rules.specs.declared.live.LiveRequest.{LiveRequest}
use Rattle.fsb_rules.specs.declared.live.Snooped.{Snooped}
use Rattle.fsb_rules.specs.declared.in_flight.InFlight.{InFlight}
use Rattle.fsb_rules.specs.Live.{live_from, IsLive, IsSnooped}
use Rattle.fsb_rules.specs.Still.{is_quiet}
use Rattle.fsb_rules.specs.Stretch.{Stretch}
use Rattle.fsb_rules.specs.InFlight.{InFlightStands, KeepsLast, IsAt, InTime, Brings, known_count}
use Rattle.fsb_rules.specs.LeastRule.{begun_at}
use Rattle.fsb_rules.specs.QueueLists.{asking_after, waiting_after, without_last}
use Rattle.fsb_rules.proofs.Stretches.{stretch-init, stretch-push, stretch-same, stretch-tail}
use Rattle.fsb_rules.proofs.Queue.{asks_none, due_known, known_count-more, known_count-less, live_kept, live_begun}
use Rattle.fsb_rules.proofs.Queue.{snoops_known, queue-in_flight, queue-size, room_asking, room_waiting}
use Rattle.fsb_rules.proofs.QueueRules.{answers_in_time, ended_now, live_ended}
use Rattle.fsb_rules.proofs.Lines.{line_back-new}
use Rattle.fsb_rules.proofs.StillClocks.{stillness, silent}
use Rattle.fsb_rules.proofs.StartRules.{begun-none, begun-some, request_there, too_soon_not}

pub new_back : (h : Trace) (x : Sample) (v : Trace) → OneMore h x v → line_back ADS v (length v) 1 ≡ has_line x ADS
unfolding line_back
new_back h x v m =
    let e : length h + 1 - 1 ≡ length h = omega arith in
    rw (m.size, le-leb 1 (length h + 1) (omega arith), e) (line_at-new ADS h x v m)

snoop_below : (h : Trace) (s i t : ℕ) → SnoopsTo h s → snoop_end_of h i ≡ Some t → i < s
snoop_below h s i t to e =
    elim (cases_lt i s) [
      | inl l ↦ l
      | inr l ↦ let none = snoop_end_of-above h s i to l in absurd (let no : ⊥ = cc in no)
    ]

module _ {h : Trace} {x : Sample} {v : Trace} (m : OneMore h x v) where
  -- an address error comes three clocks after a request
  pub error_timed : is_error_alone v (length h) ≡ false → has_line x AERR ≡ true
      → line_back ADS h (length h) 3 ≡ true
  unfolding is_error_alone
  error_timed f t =
      let k : (true && not (line_back ADS v (length h) 3)) ≡ false = rw (line_at-new AERR h x v m ∙ t) at f in
      sym (line_back-new ADS h x v 3 m (omega arith)) ∙ not-false _ k

  -- the request of the last clock is begun with it
  pub begun_decoded : is_code_unlawful v (length h) ≡ false → line_back ADS h (length h) 1 ≡ true
      → (r : Request) × (request_at v (length h - 1) ≡ Some r)
      × (begun_at v (length h) ≡ Some (live_from (length h - 1) r))
  begun_decoded lawful t =
      let back : line_back ADS v (length h) 1 ≡ true = line_back-new ADS h x v 1 m (omega arith) ∙ t in
      let p = request_there v (length h) back lawful in
      (p.0, p.1, begun-some v (length h) p.0 back p.1)

  pub not_begun : line_back ADS h (length h) 1 ≡ false → begun_at v (length h) ≡ None
  not_begun t = begun-none v (length h) (line_back-new ADS h x v 1 m (omega arith) ∙ t)

-- a stretch and one thing more, or none
with_none : {A : Type 0} (is : ℕ → A → Type 0) (xs : List A) (o : Option A) (m n : ℕ) → o ≡ None → Stretch is xs m n
    → Stretch is (xs ++ option_to_list o) m n
with_none is xs o m n e w = subst (λ p. Stretch is (xs ++ option_to_list p) m n) (sym e)
    (subst (λ ys. Stretch is ys m n) (sym (append-nil xs)) w)

with_one : {A : Type 0} (is : ℕ → A → Type 0) (xs : List A) (o : Option A) (a : A) (m n : ℕ) → o ≡ Some a → is n a
    → Stretch is xs m n → Stretch is (xs ++ option_to_list o) m (n + 1)
with_one is xs o a m n e t w =
    subst (λ p. Stretch is (xs ++ option_to_list p) m (n + 1)) (sym e) (stretch-push is xs a m n w t)

kept_ready : (o : Option ℕ) (n : ℕ) (t b : Bool) → t ≡ false
    → o ≡ elim o [ Some y ↦ Some y | None ↦ cond (t && b) (Some n) None ]
kept_ready None n t b e = rw e refl
kept_ready (Some y) n t b e = refl

-- no more than that transfer is on the way where the sample is no response
no_more : (comes : Bool) (old new : Option ℕ) → new ≡ chunk_step comes old
    → cond (is_some new) 1 0 ≤ cond (is_some old) 1 0
unfolding chunk_step
no_more comes None new e = rw e (omega arith)
no_more comes (Some c) new e = cond-most (is_some new)

-- no request before the first clock
no_snoop : (i : ℕ) (o : Option ℕ) → snoop_end_of [] i ≡ o → snoop_end_of [] i ≡ None
no_snoop i None e = e
no_snoop i (Some t) e = let c = snoop_end_of-clock [] i t e in absurd (let l = c.within in omega arith)

pub new_queue : (q : InFlight) → q.asking.items ≡ [] → q.waiting.items ≡ [] → HeadsStands q.heads []
    → InFlightStands q []
unfolding known_count count_where line_back transfer_of transfer_after
new_queue q a w heads =
    let none : snooped_count [] ≡ 0 = snoops_count [] 0
    (record { reached = λ i l. absurd (omega arith); next = no_snoop 0 (snoop_end_of [] 0) refl }) in
    record {
      asking = rw (a, none) refl;
      waiting = rw (w, none) response_count-empty;
      heads = heads;
      last = record { kept = λ i e. let zero = response_count-empty in absurd (omega arith) };
      few = rw response_count-empty (omega arith);
    }

module _ {q : InFlight} {n : ℕ} {h : Trace} (a : IsAt q n h) (x : Sample) where
  -- what is kept of a request with its snoop end stays
  pub live_same : {r : LiveRequest} (i t : ℕ) → i < snooped_count h → snoop_end_of h i ≡ Some t → IsLive h i r
      → IsLive (h ++ x ∷ []) i r
  live_same i t l e r =
      live_ended (one_more h x) i t a.orderly.spaced r
      (snoop_end_of-old h x _ (snooped_count h) i (one_more h x) (snoops_to h) l ∙ e)

  snooped_same : {w : Snooped} (i : ℕ) → i < snooped_count h → IsSnooped h i w → IsSnooped (h ++ x ∷ []) i w
  snooped_same {w} i l s =
      let m = one_more h x in
      let within = (snoop_end_of-clock h i w.clock s.end).within in
      record {
        live = live_same i w.clock l s.end s.live;
        end = snoop_end_of-old h x _ (snooped_count h) i m (snoops_to h) l ∙ s.end;
        hitm = s.hitm ∙ sym (line_at-old HITM h x _ w.clock m within);
        defer = s.defer ∙ sym (line_at-old DEFER h x _ w.clock m within);
      }

  -- the request that has its snoop end with the sample
  pub snooped_new : {r : LiveRequest} {hitm defer : Bool} → ends_snoop_of h (snooped_count h) x ≡ true
      → IsLive h (snooped_count h) r → hitm ≡ has_line x HITM → defer ≡ has_line x DEFER
      → IsSnooped (h ++ x ∷ []) (snooped_count h) (record { request = r; clock = n; hitm = hitm; defer = defer })
  snooped_new {r} {hitm} {defer} t l e d =
      let m = one_more h x in
      let p = ended_now a x t l in
      subst (λ c. IsSnooped (h ++ x ∷ []) (snooped_count h)
      (record { request = r; clock = c; hitm = hitm; defer = defer })) (sym a.clock) (record {
        live = p.0;
        end = p.1;
        hitm = e ∙ sym (line_at-new HITM h x _ m);
        defer = d ∙ sym (line_at-new DEFER h x _ m);
      })

  pub ends_none : slice_get q.asking.items 0 ≡ None → ends_snoop_of h (snooped_count h) x ≡ false
  unfolding ends_snoop_of
  ends_none e = and_left _ _ (asks_none a.stands e)

module _ {q : InFlight} {n : ℕ} {x : Sample} {h : Trace} (t : InTime q n x h) where
  pub answers_below : responds x ≡ true → response_count h < snooped_count h
  answers_below r = answered_below h (snooped_count h) (snoops_to h) (answers_in_time t r)

  -- whether data move with the response that the sample is
  pub moves_told : (begins : Bool)
      → (responds x ≡ true → begins ≡ does_move (told_by h (response_count h) (response_of x)))
      → MovesWith x begins h
  moves_told begins f =
      record {
        orderly = t.here.orderly;
        timely = answers_in_time t;
        moves_is = λ r. f r
            ∙ sym (moves_new h x _ (snooped_count h) (one_more h x) (snoops_to h) (answers_below r) r);
      }

  -- the request that responded last
  pub last_new : {w : Snooped} → responds x ≡ true → IsSnooped h (response_count h) w
      → KeepsLast (Some w.request) (h ++ x ∷ [])
  last_new {w} r s =
      record {
        kept = λ i e.
            let more : response_count (h ++ x ∷ []) ≡ response_count h + 1 =
            rw r at (response_count-more h x _ (one_more h x)) in
            let same : response_count h ≡ i = omega arith in (
              w.request,
              refl,
              subst (λ j. IsLive (h ++ x ∷ []) j w.request) same
                  (live_same t.here x (response_count h) w.clock (answers_below r) s.end s.live),
            );
      }

  pub last_kept : responds x ≡ false → KeepsLast q.last (h ++ x ∷ [])
  last_kept f =
      record {
        kept = λ i e.
            let last : response_count h ≡ suc i = sym (response_count-kept h x _ (one_more h x) f) ∙ e in
            let k = t.here.stands.last.kept i last in
            let r = response_there h i (omega arith) in
            let s = has_answer h r.0 i (t.here.orderly.timely i r.0 r.1) in (
              k.0,
              k.1,
              live_same t.here x i s.snoop (snoop_below h (snooped_count h) i s.snoop (snoops_to h) s.is_snoop)
                  s.is_snoop k.2,
            );
      }

module _ {q : InFlight} {n : ℕ} {x : Sample} {b : Option LiveRequest} {h : Trace} (g : Brings q n x b h) where
  abbrev here : IsAt q n h
  here = g.in_time.here

  abbrev st : InFlightStands q h
  st = g.in_time.here.stands

  abbrev spaced : Spaced h
  spaced = g.in_time.here.orderly.spaced

  abbrev v : Trace
  v = h ++ x ∷ []

  m : OneMore h x (h ++ x ∷ [])
  m = one_more h x

  abbrev s : ℕ
  s = snooped_count h

  abbrev ends : Bool
  ends = ends_snoop_of h (snooped_count h) x

  timed : has_line x AERR ≡ true → line_back ADS h (length h) 3 ≡ true
  timed = error_timed m g.error

  count_next : snooped_count v ≡ s + cond ends 1 0
  count_next = snooped_count-more h x _ m spaced

  -- a request is cancelled where none began at the last clock
  error_quiet : has_line x AERR ≡ true → line_back ADS h (length h) 1 ≡ false
  unfolding line_back
  error_quiet t =
      let back = and_parts _ _ (timed t) in
      let three = leb-true 3 (length h) back.0 in
      false_from_ne_true _ (λ u.
      let one = and_parts _ _ u in
      let far = spaced.apart (length h - 3) (length h - 1) (omega arith) back.1 one.1 in
      omega arith)

  snoops_next : (e : Bool) → ends ≡ e → s + cond e 1 0 ≤ known_count v
  snoops_next e f =
      let l = snoops_known v _ (snoops_to v) in
      let c : snooped_count v ≡ s + cond e 1 0 = count_next ∙ ap (λ i. s + cond i 1 0) f in omega arith

  -- the requests without their snoop end: what is left of the old ones
  abbrev old_count : Bool → ℕ
  old_count error = cond error (known_count v) (known_count h)

  old_ones : (t : Bool) → has_line x AERR ≡ t
      → Stretch (IsLive v) (without_last t q.asking.items) s (old_count t)
  unfolding without_last
  old_ones true t =
      let less = known_count-less m spaced t (timed t) in
      let most = snoops_next ends refl in
      stretch-same (IsLive v) (IsLive h) _ s (known_count v)
      (stretch-init (IsLive h) q.asking.items s (known_count v)
      (subst (λ n. Stretch (IsLive h) q.asking.items s n) less st.asking) (omega arith))
      (λ i a low high l. live_kept m i spaced l high)
  old_ones false f =
      let more = known_count-more m f in
      stretch-same (IsLive v) (IsLive h) q.asking.items s (known_count h) st.asking
      (λ i a low high l. live_kept m i spaced l (omega arith))

  due_part : ends ≡ true → is_snoop_due h s (length h) ≡ true
  unfolding ends_snoop_of
  due_part t = (and_parts _ _ t).0

  ends_within : (t : Bool) → ends ≡ true → s < old_count t
  ends_within true e = let l = snoops_next true e in omega arith
  ends_within false e = due_known h s (due_part e)

  without_first : (t e : Bool) → has_line x AERR ≡ t → ends ≡ e
      → Stretch (IsLive v) (drop (cond e 1 0) (without_last t q.asking.items)) (s + cond e 1 0) (old_count t)
  without_first t true et ee =
      stretch-tail (IsLive v) (without_last t q.asking.items) s (old_count t) (old_ones t et)
      (ends_within t ee)
  without_first t false et ee =
      subst (λ i. Stretch (IsLive v) (without_last t q.asking.items) i (old_count t)) (sym (add-zero s))
      (old_ones t et)

  -- with the one that is begun
  none_begun : (t : Bool) → has_line x AERR ≡ t → line_back ADS h (length h) 1 ≡ false → old_count t ≡ known_count v
  none_begun true e f = refl
  none_begun false e f =
      sym (known_count-more m e ∙ ap (λ c. known_count h + cond c 1 0) f ∙ add-zero _)

  with_begun : (t e back : Bool) → has_line x AERR ≡ t → ends ≡ e → line_back ADS h (length h) 1 ≡ back
      → Stretch (IsLive v) (drop (cond e 1 0) (without_last t q.asking.items) ++ option_to_list b)
      (s + cond e 1 0) (known_count v)
  unfolding without_last
  with_begun t e false et ee eb =
      with_none (IsLive v) _ b (s + cond e 1 0) (known_count v) (g.begun_is ∙ not_begun m eb)
      (subst (λ n. Stretch (IsLive v) (drop (cond e 1 0) (without_last t q.asking.items)) (s + cond e 1 0) n)
      (none_begun t et eb) (without_first t e et ee))
  with_begun true e true et ee eb = absurd (both_ways _ (error_quiet et) eb)
  with_begun false e true et ee eb =
      let p = begun_decoded m g.lawful eb in
      let count : known_count v ≡ known_count h + 1 = known_count-more m et
      ∙ ap (λ c. known_count h + cond c 1 0) eb in
      subst (λ n. Stretch (IsLive v) (drop (cond e 1 0) q.asking.items ++ option_to_list b)
      (s + cond e 1 0) n)
      (sym count)
      (with_one (IsLive v) _ b (live_from (length h - 1) p.0) (s + cond e 1 0) (known_count h) (g.begun_is ∙ p.2)
      (live_begun m p.0 eb et p.1) (without_first false e et ee))

  asking_goes : Stretch (IsLive v) (asking_after q.asking.items (has_line x AERR) ends b)
      (snooped_count v) (known_count v)
  unfolding asking_after
  asking_goes =
      rw count_next (with_begun (has_line x AERR) ends (line_back ADS h (length h) 1) refl refl refl)

  -- the requests that wait for their response
  after_response : (t : Bool) → responds x ≡ t
      → Stretch (IsSnooped v) (drop (cond t 1 0) q.waiting.items) (response_count h + cond t 1 0) s
  after_response t e =
      let still = stretch-same (IsSnooped v) (IsSnooped h) q.waiting.items (response_count h) s st.waiting
      (λ i w low high k. snooped_same here x i high k) in
      elim t as (λ b. responds x ≡ b
      → Stretch (IsSnooped v) (drop (cond b 1 0) q.waiting.items) (response_count h + cond b 1 0) s) [
        | true ↦ λ r.
            stretch-tail (IsSnooped v) q.waiting.items (response_count h) s still (answers_below g.in_time r)
        | false ↦ λ r.
            subst (λ i. Stretch (IsSnooped v) q.waiting.items i s) (sym (add-zero (response_count h))) still
      ] e

  waiting_cases : (o : Option Snooped) → is_some o ≡ ends → IfSome o (IsSnooped v s)
      → Stretch (IsSnooped v) (drop (cond (responds x) 1 0) q.waiting.items ++ option_to_list o)
      (response_count h + cond (responds x) 1 0) (s + cond ends 1 0)
  waiting_cases (Some w) e k =
      rw (sym e) (with_one (IsSnooped v) _ (Some w) w (response_count h + cond (responds x) 1 0) s refl k
      (after_response (responds x) refl))
  waiting_cases None e k =
      rw (sym e) (subst (Stretch (IsSnooped v) _ (response_count h + cond (responds x) 1 0)) (sym (add-zero s))
      (with_none (IsSnooped v) _ None (response_count h + cond (responds x) 1 0) s refl
      (after_response (responds x) refl)))

  -- the room that is left
  room : has_line x ADS ≡ true → length (in_flight h (length h)) < 8
  unfolding is_queue_full
  room t =
      let f : (true && nat_le 8 (length (in_flight h (length h)))) ≡ false =
      rw (line_at-new ADS h x v m ∙ t, in_flight-now h x v m g.in_time.here.orderly) at g.room in
      leb-false 8 (length (in_flight h (length h))) f

  known_most : (t : Bool) → has_line x AERR ≡ t
      → known_count v ≤ known_count h + cond (line_back ADS h (length h) 1) 1 0
  known_most true e = let less = known_count-less m spaced e (timed e) in omega arith
  known_most false e = let more = known_count-more m e in omega arith

  answers_most : (t : Bool) → responds x ≡ t → cond (is_some (transfer_of v)) 1 0 + response_count h
      ≤ response_count v + cond (is_some (transfer_of h)) 1 0
  answers_most true e =
      let more : response_count v ≡ response_count h + 1 = rw e at (response_count-more h x v m) in
      let most = cond-most (is_some (transfer_of v)) in omega arith
  answers_most false e =
      let same = response_count-kept h x v m e in
      let most = no_more (has_line x DRDY) (transfer_of h) (transfer_of v)
      (transfer_of-kept h x v m g.in_time.here.orderly e) in omega arith

  few_left : (t : Bool) → has_line x ADS ≡ t
      → known_count v + cond (is_some (transfer_of v)) 1 0 + cond (line_back ADS v (length v) 1) 1 0
      ≤ response_count v + 8
  few_left true e =
      let quiet = (too_soon_not m g.in_time.apart e).0 in
      let known : known_count v ≤ known_count h + 0 = rw quiet at (known_most (has_line x AERR) refl) in
      let answers = answers_most (responds x) refl in
      let size = queue-size st in
      let held = queue-in_flight st g.in_time.here.orderly quiet in
      let free = room e in
      rw (new_back h x v m ∙ e) (omega arith)
  few_left false e =
      let known = known_most (has_line x AERR) refl in
      let answers = answers_most (responds x) refl in
      let few = st.few in
      rw (new_back h x v m ∙ e) (omega arith)

  -- the queue with what a sample leaves in it
  pub queue_follows : (new : InFlight) (o : Option Snooped) → is_some o ≡ ends → IfSome o (IsSnooped v s)
      → new.asking.items ≡ asking_after q.asking.items (has_line x AERR) (is_some o) b
      → new.waiting.items ≡ waiting_after q.waiting.items (responds x) o
      → HeadsStands new.heads v → KeepsLast new.last v → InFlightStands new v
  unfolding waiting_after
  queue_follows new o e k asking waiting heads last =
      record {
        asking = rw (asking ∙ ap (λ i. asking_after q.asking.items (has_line x AERR) i b) e) asking_goes;
        waiting = rw (waiting, response_count-more h x v m, count_next) (waiting_cases o e k);
        heads = heads;
        last = last;
        few = few_left (has_line x ADS) refl;
      }

  -- there is room for what comes
  pub begun_fits : is_some b ≡ true → length q.asking.items < 8
  begun_fits t =
      elim (cases_Bool (line_back ADS h (length h) 1)) [
        | inl back ↦ room_asking st back
        | inr quiet ↦ absurd (both_ways _ (ap (λ o. is_some o) (g.begun_is ∙ not_begun m quiet)) t)
      ]

  asking_some : (xs : List LiveRequest) → slice_get xs 0 ≡ slice_get q.asking.items 0 → ends ≡ true → 0 < length xs
  asking_some [] e t = absurd (both_ways _ (ends_none here x (sym e)) t)
  asking_some (y ∷ ys) e t = omega arith

  pub snooped_fits : ends ≡ true → length q.waiting.items < 8
  snooped_fits t = room_waiting st (asking_some q.asking.items refl t)

  -- a sample with which nothing happens
  heads_stay : is_quiet h x b ≡ true → ends ≡ false → HeadsStands q.heads v
  unfolding is_quiet chunk_step
  heads_stay k e =
      let p = and_parts _ _ (and_parts _ _ k).1 in
      let still = stillness x p.1 in
      let none = is_none-none _ p.0 in
      let quiet = silent x still in
      record {
        snooped = st.heads.snooped ∙ sym (last_snoop_end-more h x v m spaced ∙ (rw e refl));
        ready = st.heads.ready
            ∙ kept_ready (ready_clock_of h (response_count h)) (length h) (has_line x TRDY) (may_answer_next h)
            still.trdy
            ∙ sym (ready_clock_of-next h x v s m g.in_time.here.orderly (snoops_to h))
            ∙ ap (ready_clock_of v) (sym (response_count-kept h x v m quiet));
        chunks = st.heads.chunks ∙ none ∙ sym (transfer_of-kept h x v m g.in_time.here.orderly quiet ∙ (rw none refl));
      }

  pub queue_stays : (is_quiet h x b && not (is_snoop_due h s (length h))) ≡ true → InFlightStands q v
  unfolding is_quiet asking_after waiting_after without_last ends_snoop_of
  queue_stays k =
      let p = and_parts _ _ k in
      let none = is_none-none b (and_parts _ _ p.0).0 in
      let still = stillness x (and_parts _ _ (and_parts _ _ p.0).1).1 in
      let ended : ends ≡ false = and_left _ _ (not-true _ p.1) in
      queue_follows q None (sym ended) tt (rw (still.aerr, none) (sym (append-nil q.asking.items)))
      (rw (silent x still) (sym (append-nil q.waiting.items))) (heads_stay p.0 ended)
      (last_kept g.in_time (silent x still))
