-- The queue after a clock holds the requests in flight of the longer history.
use Rattle.std.proofs.Common.{ℕ, zero, suc, ◌+◌, ◌<◌, ◌≤◌, ◌≡◌, Bool, true, false, not, cond, ◌&&◌, Option, Some, None}
use Rattle.std.proofs.Common.{List, [], ◌∷◌, ◌++◌, map, filter, length, slice_index, refl, sym, ap, ◌∙◌, ◌⊎◌, inl, inr}
use Rattle.std.proofs.Common.{arith}
use Rattle.std.specs.List.{slice_get}
use Rattle.std.specs.Option.{option_map}
use Rattle.std.proofs.lemmas.Bool.{cases_Bool, cases_eq, cases_order, both_ways, and_parts}
use Rattle.std.proofs.lemmas.List.{map-append}
use Rattle.std.proofs.lemmas.Option.{slice_get-map}
use Rattle.fsb_count.specs.Options.{is_at}
use Rattle.fsb_count.proofs.Interface.{is_at-some}
use Rattle.fsb_signal.specs.declared.lines.TheConstants.Lines.{ADS, HITM}
use Rattle.fsb_signal.specs.declared.sample.Sample.{Sample}
use Rattle.fsb_signal.specs.Samples.{has_line, response_of}
use Rattle.fsb_trace.specs.declared.outcome.Outcome.{Outcome}
use Rattle.fsb_trace.specs.At.{Trace}
use Rattle.fsb_trace.specs.Requests.{live_clock_of, live_number_of}
use Rattle.fsb_trace.specs.Snoop.{snoop_end_of}
use Rattle.fsb_trace.specs.Outcome.{settled_by, settled_outcome_of}
use Rattle.fsb_trace.specs.Flight.{in_flight}
use Rattle.fsb_trace.proofs.Interface.{snoop_end_of-clock, live_request_of-stays, settled_outcome_of-ended}
use Rattle.fsb_laws.specs.OneMore.{OneMore, stalls}
use Rattle.fsb_laws.specs.Progress.{SnoopsTo, ends_snoop_of, is_snoop_due}
use Rattle.fsb_laws.specs.Leaving.{leaves}
use Rattle.fsb_laws.proofs.Interface.{one_more, line_at-old, in_flight-more, live_clock_of-new, snoop_end_of-above}
use Rattle.fsb_laws.proofs.Interface.{snoop_end_of-old, snoop_end_of-more}
use Rattle.fsb_heads.specs.Heads.{snooped_count}
use Rattle.fsb_queue.specs.declared.entry.Entry.{Entry}
use Rattle.fsb_queue.specs.Entries.{with_outcome}
use Rattle.fsb_phase.specs.declared.phases.Phases.{Phases}
use Rattle.fsb_phase.specs.Due.{rank_of}
use Rattle.fsb_phase.specs.Drive.{ends_snoop_at, drive_of}
use Rattle.fsb_phase.specs.FitQueue.{HoldsInFlight, is_too_soon}
use Rattle.fsb_phase.specs.Phases.{Stands, MayTake}
use Rattle.fsb_phase.proofs.Interface.{held, Placed, placed, snoop_at, has_snoop-at, snoop_elsewhere}
use Rattle.fsb_phase.proofs.Interface.{not_reached_from, ends_entry, number_stays, later_none, Step, step}
use Rattle.fsb_flight.specs.GoesOn.{settles, stays_in_flight, goes_on, TakesTurn}

-- elements of lists that are made of others
one_later : {X : Type 0} (z : X) (xs rest : List X) (k : ℕ) (y : X)
    → ((j : ℕ) (w : X) → slice_get rest j ≡ Some w → (i : ℕ) × (slice_get xs i ≡ Some w))
    → slice_get (z ∷ rest) k ≡ Some y → (j : ℕ) × (slice_get (z ∷ xs) j ≡ Some y)
one_later z xs rest zero y f e = (0, e)
one_later z xs rest (suc k) y f e = let r = f k y e in (suc r.0, r.1)

pub filter_from : {X : Type 0} (t : X → Bool) (xs : List X) (k : ℕ) (y : X) → slice_get (filter t xs) k ≡ Some y
    → (j : ℕ) × (slice_get xs j ≡ Some y)
filter_from t [] k y e = absurd (let none : ⊥ = cc in none)
filter_from t (z ∷ xs) k y e =
    elim (cases_Bool (t z)) [
      | inl p ↦ one_later z xs (filter t xs) k y (λ j w g. filter_from t xs j w g) (rw p at e)
      | inr f ↦ let r = filter_from t xs k y (rw f at e) in (suc r.0, r.1)
    ]

pub map_from : (f : Entry → Entry) (xs : List Entry) (k : ℕ) (y : Entry) (o : Option Entry) → slice_get xs k ≡ o
    → option_map f o ≡ Some y → (z : Entry) × (slice_get xs k ≡ Some z) × (f z ≡ y)
map_from f xs k y None e g = absurd (let none : ⊥ = cc in none)
map_from f xs k y (Some z) e g = (z, e, cc)

pub append_from : {X : Type 0} (xs ys : List X) (k : ℕ) (y : X) → slice_get (xs ++ ys) k ≡ Some y
    → (slice_get xs k ≡ Some y) ⊎ ((j : ℕ) × (slice_get ys j ≡ Some y))
append_from [] ys k y e = inr (k, e)
append_from (x ∷ xs) ys zero y e = inl e
append_from (x ∷ xs) ys (suc k) y e = append_from xs ys k y e

-- an entry keeps its clock
pub settles_clock : (h : Trace) (x : Sample) (o : Outcome) (e : Entry) → (settles h x o e).clock ≡ e.clock
unfolding settles
settles_clock h x o e =
    elim (cases_Bool (ends_snoop_at (h ++ x ∷ []) (length h) e)) [ inl t ↦ (rw t refl) | inr f ↦ (rw f refl) ]

clocks_settled : (h : Trace) (x : Sample) (o : Outcome) (es : List Entry)
    → map (λ e. e.clock) (map (settles h x o) es) ≡ map (λ e. e.clock) es
clocks_settled h x o [] = refl
clocks_settled h x o (e ∷ es) = rw (settles_clock h x o e, clocks_settled h x o es) refl

clocks_filtered : (r : ℕ → Bool) (es : List Entry)
    → map (λ e. e.clock) (filter (λ e. r e.clock) es) ≡ filter r (map (λ e. e.clock) es)
clocks_filtered r [] = refl
clocks_filtered r (e ∷ es) =
    elim (cases_Bool (r e.clock)) [
      | inl t ↦ rw t (ap (λ qs. e.clock ∷ qs) (clocks_filtered r es))
      | inr f ↦ rw f (clocks_filtered r es)
    ]

stayed : (h : Trace) (x : Sample) (es : List Entry)
    → map (λ e. e.clock) (filter (stays_in_flight h x) es) ≡ filter (λ q. not (leaves h x (h ++ x ∷ []) q))
    (map (λ e. e.clock) es)
unfolding stays_in_flight
stayed h x es = clocks_filtered (λ q. not (leaves h x (h ++ x ∷ []) q)) es

clocks_on : (h : Trace) (x : Sample) (o : Outcome) (queue : List Entry)
    → map (λ e. e.clock) (goes_on h x o queue) ≡ filter (λ q. not (leaves h x (h ++ x ∷ []) q))
    (map (λ e. e.clock) queue)
unfolding goes_on
clocks_on h x o queue =
    stayed h x (map (settles h x o) queue)
    ∙ ap (filter (λ q. not (leaves h x (h ++ x ∷ []) q))) (clocks_settled h x o queue)

-- the settled outcomes of the old requests stay
settled_stays : (h : Trace) (x : Sample) (v : Trace) (turn i t : ℕ) → OneMore h x v → t < length h
    → snoop_end_of h i ≡ Some t → settled_by v turn i t ≡ settled_by h turn i t
unfolding settled_by
settled_stays h x v turn i t m l e =
    sym (rw (sym (line_at-old HITM h x v t m l), live_request_of-stays (length h) h v i t m.agree l e) refl)

old_outcome : (h : Trace) (x : Sample) (v : Trace) (turns later : List ℕ) (s i : ℕ) → OneMore h x v
    → SnoopsTo h s → ((j : ℕ) → j < s → slice_index later j ≡ slice_index turns j) → i < s
    → settled_outcome_of h turns i ≡ settled_outcome_of v later i
unfolding settled_outcome_of
old_outcome h x v turns later s i m to same l =
    let r = to.reached i l in
    ap (option_map (settled_by h (slice_index turns i) i)) r.1
    ∙ ap (λ o. Some o) (ap (λ t. settled_by h t i r.0) (sym (same i l))
    ∙ sym (settled_stays h x v (slice_index later i) i r.0 m r.2 r.1))
    ∙ sym (ap (option_map (settled_by v (slice_index later i) i)) (snoop_end_of-old h x v s i m to l ∙ r.1))

no_outcome : (w : Trace) (turns : List ℕ) (i : ℕ) → snoop_end_of w i ≡ None → settled_outcome_of w turns i ≡ None
unfolding settled_outcome_of
no_outcome w turns i e = ap (option_map (settled_by w (slice_index turns i) i)) e

pub settles_not : (h : Trace) (x : Sample) (o : Outcome) (e : Entry)
    → ends_snoop_at (h ++ x ∷ []) (length h) e ≡ false → settles h x o e ≡ e
unfolding settles
settles_not h x o e f = rw f refl

pub settles_now : (h : Trace) (x : Sample) (o : Outcome) (e : Entry)
    → ends_snoop_at (h ++ x ∷ []) (length h) e ≡ true → settles h x o e ≡ with_outcome o e
unfolding settles
settles_now h x o e t = rw t refl

-- an entry whose snoop ends is the first live request without its snoop end
pub is_next : (p : Phases) (h : Trace) (x : Sample) (queue : List Entry) (e s j : ℕ) (y : Entry)
    → Step p h x (h ++ x ∷ []) queue e s → Placed h e j y → ends_snoop_at (h ++ x ∷ []) (length h) y ≡ true → e + j ≡ s
is_next p h x queue e s j y k here t =
    let due : snoop_at h (e + j) ≡ true =
    sym (has_snoop-at h y (e + j) here.number)
    ∙ (and_parts _ _
    (sym (ends_entry h x (h ++ x ∷ []) e s j y k.more k.stands.orderly.spaced k.meets.snoops here) ∙ t)).0 in
    elim (cases_eq (e + j) s) [
      | inl same ↦ same
      | inr other ↦ absurd (both_ways _ (snoop_elsewhere h s (e + j) k.meets.snoops other) due)
    ]

at_end : (h : Trace) (s : ℕ) (x : Sample) → SnoopsTo h s → ends_snoop_of h s x ≡ true
    → (snoop_at h s && not (stalls x)) ≡ true
unfolding ends_snoop_of is_snoop_due
at_end h s x to t = rw (not_reached_from h s s to (omega arith)) t

-- its snoop end is the new clock; and of another entry whose snoop end is not reached it is not
ends_now : (v : Trace) (y : Entry) (n i : ℕ) → rank_of v y ≡ i → ends_snoop_at v n y ≡ true → snoop_end_of v i ≡ Some n
unfolding ends_snoop_at
ends_now v y n i f t = is_at-some (snoop_end_of v i) n (ap (λ j. is_at (snoop_end_of v j) n) (sym f)
    ∙ (and_parts _ _ t).1)

not_now : (p : Phases) (h : Trace) (x : Sample) (queue : List Entry) (e s j : ℕ) (y : Entry) (b : Bool)
    → Step p h x (h ++ x ∷ []) queue e s → Placed h e j y → e + j ≡ s → ends_snoop_of h s x ≡ b
    → ends_snoop_at (h ++ x ∷ []) (length h) y ≡ false → snoop_end_of (h ++ x ∷ []) s ≡ None
not_now p h x queue e s j y false k here same b f =
    snoop_end_of-more h x (h ++ x ∷ []) s k.more k.stands.orderly.spaced k.meets.snoops
    ∙ ap (λ c. cond c (Some (length h)) None) b
not_now p h x queue e s j y true k here same b f =
    absurd (both_ways _ f
    (ends_entry h x (h ++ x ∷ []) e s j y k.more k.stands.orderly.spaced k.meets.snoops here
    ∙ ap (λ c. c && not (stalls x)) (has_snoop-at h y (e + j) here.number ∙ ap (snoop_at h) same)
    ∙ at_end h s x k.meets.snoops b))

kept_outcome : (p : Phases) (h : Trace) (x : Sample) (queue new : List Entry) (turns later : List ℕ)
    (outcome : Outcome) (e j : ℕ) (y : Entry) → Step p h x (h ++ x ∷ []) queue e (snooped_count h)
    → TakesTurn h x turns later outcome new → Placed h e j y → ends_snoop_at (h ++ x ∷ []) (length h) y ≡ false
    → settled_outcome_of h turns (e + j) ≡ settled_outcome_of (h ++ x ∷ []) later (e + j)
kept_outcome p h x queue new turns later outcome e j y k n here f =
    let v : Trace = h ++ x ∷ [] in
    let s : ℕ = snooped_count h in
    elim (cases_order (e + j) s) [
      | inl same ↦
          no_outcome h turns (e + j) (snoop_end_of-above h s (e + j) k.meets.snoops (omega arith))
          ∙ sym (no_outcome v later (e + j) (ap (snoop_end_of v) same
          ∙ not_now p h x queue e s j y (ends_snoop_of h s x) k here same refl f))
      | inr other ↦ elim other [
        | inl less ↦ old_outcome h x v turns later s (e + j) k.more k.meets.snoops n.same less
        | inr more ↦
            no_outcome h turns (e + j) (snoop_end_of-above h s (e + j) k.meets.snoops (omega arith))
            ∙ sym (no_outcome v later (e + j)
            (later_none h x v s (e + j) (ends_snoop_of h s x) k.more k.stands.orderly.spaced k.meets.snoops
            refl more))
      ]
    ]

-- each entry of the queue, after the sample
old_entry : (p : Phases) (h : Trace) (x : Sample) (queue new : List Entry) (turns later : List ℕ)
    (outcome : Outcome) (e j : ℕ) (y : Entry) → Step p h x (h ++ x ∷ []) queue e (snooped_count h)
    → HoldsInFlight queue turns h → TakesTurn h x turns later outcome new → slice_get queue j ≡ Some y
    → (settles h x outcome y).outcome ≡ settled_outcome_of (h ++ x ∷ []) later (rank_of (h ++ x ∷ []) y)
old_entry p h x queue new turns later outcome e j y k f n g =
    let v : Trace = h ++ x ∷ [] in
    let s : ℕ = snooped_count h in
    let here = placed h queue e j y k.meets.flight k.meets.ends g in
    let number : rank_of v y ≡ e + j = number_stays h x v e j y k.more k.stands.orderly.spaced here in
    elim (cases_Bool (ends_snoop_at v (length h) y)) [
      | inl t ↦
          let same : e + j ≡ s = is_next p h x queue e s j y k here t in
          let end : snoop_end_of v s ≡ Some (length h) = ends_now v y (length h) s (number ∙ same) t in
          ap (λ z. z.outcome) (settles_now h x outcome y t) ∙ ap (λ o. Some o) (n.outcome_is end)
          ∙ sym (ap (settled_outcome_of v later) (number ∙ same) ∙ settled_outcome_of-ended v later s (length h) end)
      | inr not ↦
          ap (λ z. z.outcome) (settles_not h x outcome y not) ∙ f.settled j y g
          ∙ ap (settled_outcome_of h turns) here.number
          ∙ kept_outcome p h x queue new turns later outcome e j y k n here not
          ∙ sym (ap (settled_outcome_of v later) number)
    ]

-- an entry that begins with the sample has no snoop end yet
begun_clock : (h : Trace) (n k : ℕ) (b : Bool) (new : List Entry) (y : Entry)
    → map (λ e. e.clock) new ≡ cond b (n ∷ []) [] → slice_get new k ≡ Some y → (b ≡ true) × (y.clock ≡ n)
begun_clock h n k b [] y e g = absurd (let none : ⊥ = cc in none)
begun_clock h n zero true (z ∷ zs) y e g =
    let same : z ≡ y = cc in
    let first : z.clock ≡ n = (let hd : Some z.clock ≡ Some n = ap (λ qs. slice_get qs 0) e in cc) in
    (refl, ap (λ w. w.clock) (sym same) ∙ first)
begun_clock h n (suc k) true (z ∷ []) y e g = absurd (let none : ⊥ = cc in none)
begun_clock h n (suc k) true (z ∷ w ∷ ws) y e g =
    absurd (let two : Some w.clock ≡ None = ap (λ qs. slice_get qs 1) e in (let none : ⊥ = cc in none))
begun_clock h n k false (z ∷ zs) y e g = absurd (let one : Some z.clock ≡ None = ap (λ qs. slice_get qs 0) e in
    (let none : ⊥ = cc in none))

not_snooped : (v : Trace) (i q : ℕ) (o : Option ℕ) → live_clock_of v i ≡ Some q → length v ≤ q + 4
    → snoop_end_of v i ≡ o → o ≡ None
not_snooped v i q None c l e = refl
not_snooped v i q (Some t) c l e =
    let k = snoop_end_of-clock v i t e in
    let same : k.clock ≡ q = (let one : Some k.clock ≡ Some q = sym k.is_clock ∙ c in cc) in
    absurd (omega (arith, k.above, k.within))

new_entry : (h : Trace) (x : Sample) (turns later : List ℕ) (outcome : Outcome) (new : List Entry) (k : ℕ)
    (y : Entry) → TakesTurn h x turns later outcome new → slice_get new k ≡ Some y
    → y.outcome ≡ settled_outcome_of (h ++ x ∷ []) later (rank_of (h ++ x ∷ []) y)
new_entry h x turns later outcome new k y n g =
    let v : Trace = h ++ x ∷ [] in
    let m : OneMore h x v = one_more h x in
    let b = begun_clock h (length h) k (has_line x ADS) new y n.begun g in
    let i : ℕ = live_number_of v (length h) in
    let clock : live_clock_of v i ≡ Some (length h) = live_clock_of-new h x v m b.0 in
    let none : snoop_end_of v i ≡ None =
    not_snooped v i (length h) (snoop_end_of v i) clock (omega (arith, m.size)) refl in
    n.unsettled k y g ∙ sym (ap (λ q. settled_outcome_of v later (live_number_of v q)) b.1 ∙ no_outcome v later i none)

each_entry : (p : Phases) (h : Trace) (x : Sample) (queue new : List Entry) (turns later : List ℕ)
    (outcome : Outcome) (e : ℕ) → Step p h x (h ++ x ∷ []) queue e (snooped_count h)
    → HoldsInFlight queue turns h → TakesTurn h x turns later outcome new → (k : ℕ) (y : Entry)
    → slice_get (goes_on h x outcome queue ++ new) k ≡ Some y
    → y.outcome ≡ settled_outcome_of (h ++ x ∷ []) later (rank_of (h ++ x ∷ []) y)
unfolding goes_on
each_entry p h x queue new turns later outcome e st f n k y g =
    elim (append_from (filter (stays_in_flight h x) (map (settles h x outcome) queue)) new k y g) [
      | inl old ↦
          let a = filter_from (stays_in_flight h x) (map (settles h x outcome) queue) k y old in
          let z = map_from (settles h x outcome) queue a.0 y (slice_get queue a.0) refl
          (sym (slice_get-map (settles h x outcome) queue a.0) ∙ a.1) in
          ap (λ w. w.outcome) (sym z.2) ∙ old_entry p h x queue new turns later outcome e a.0 z.0 st f n z.1
          ∙ ap (λ q. settled_outcome_of (h ++ x ∷ []) later (live_number_of (h ++ x ∷ []) q))
          (sym (settles_clock h x outcome z.0) ∙ ap (λ w. w.clock) z.2)
      | inr begun ↦ new_entry h x turns later outcome new begun.0 y n begun.1
    ]

-- the step
pub step_at : (p : Phases) (h : Trace) (x : Sample) (queue : List Entry) (turns : List ℕ) → Stands p h
    → HoldsInFlight queue turns h → response_of x ≡ (drive_of h queue).rs → is_too_soon h x ≡ false
    → (e : ℕ) × Step p h x (h ++ x ∷ []) queue e (snooped_count h)
step_at p h x queue turns k f c soon = step p h x (h ++ x ∷ []) queue (one_more h x) k (held queue turns h f) c soon

pub goes_on-holds : (p : Phases) (h : Trace) (clock : ℕ) (x : Sample) (queue new : List Entry)
    (turns later : List ℕ) (outcome : Outcome) → Stands p h → MayTake clock x queue turns h
    → TakesTurn h x turns later outcome new → HoldsInFlight (goes_on h x outcome queue ++ new) later (h ++ x ∷ [])
goes_on-holds p h clock x queue new turns later outcome k t n =
    let v : Trace = h ++ x ∷ [] in
    let st = step_at p h x queue turns k t.flight t.answers t.spaced in
    record {
      clocks =
          map-append (λ e. e.clock) (goes_on h x outcome queue) new
          ∙ ap (λ qs. qs ++ map (λ e. e.clock) new) (clocks_on h x outcome queue
          ∙ ap (filter (λ q. not (leaves h x v q))) t.flight.clocks)
          ∙ ap (λ qs. filter (λ q. not (leaves h x v q)) (in_flight h (length h)) ++ qs) n.begun
          ∙ sym (in_flight-more h x v (one_more h x) k.orderly st.1.orderly);
      settled = each_entry p h x queue new turns later outcome st.0 st.1 t.flight n;
      kept = n.kept;
    }
