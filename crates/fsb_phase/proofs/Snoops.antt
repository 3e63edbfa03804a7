-- The snoop clock that is due next, and the snoop end that the next sample is: of the first without its outcome.
use Rattle.std.proofs.Common.{ℕ, zero, suc, ◌+◌, ◌-◌, ◌<◌, ◌≤◌, ◌≡◌, Bool, true, false, not, cond, ◌&&◌, Option}
use Rattle.std.proofs.Common.{Some, None, List, length, is_some, is_none, refl, sym, ap, ◌∙◌, inl, inr, arith, subst}
use Rattle.std.specs.List.{slice_get, find}
use Rattle.std.specs.Option.{option_map}
use Rattle.std.proofs.lemmas.Bool.{cases_order, and_left, and_right, and_parts, ne_eqb, leb-true}
use Rattle.std.proofs.lemmas.Option.{slice_get-map}
use Rattle.std.proofs.Math.Bool.{and-true}
use Rattle.fsb_count.specs.Options.{is_some_and, is_at, greater_of}
use Rattle.fsb_count.specs.Clocks.{all_where, nth_where}
use Rattle.fsb_count.proofs.Interface.{is_at-if, is_at-off}
use Rattle.fsb_signal.specs.declared.sample.Sample.{Sample}
use Rattle.fsb_trace.specs.At.{Trace}
use Rattle.fsb_trace.specs.Requests.{is_live, live_clock_of}
use Rattle.fsb_trace.specs.Snoop.{is_every_second_from, start_after_clock, start_after_end, snoop_start_of}
use Rattle.fsb_trace.specs.Snoop.{snoop_end_of}
use Rattle.fsb_trace.specs.Timing.{is_stall_from}
use Rattle.fsb_laws.specs.OneMore.{OneMore, cancels, stalls}
use Rattle.fsb_laws.specs.Orderly.{Spaced}
use Rattle.fsb_laws.specs.Progress.{SnoopsTo, EndsTo, is_snoop_due, ends_snoop_of}
use Rattle.fsb_laws.proofs.Interface.{in_flight-live, is_live-ads, is_live-more, live_number_of-more}
use Rattle.fsb_laws.proofs.Interface.{snoop_end_of-above, snoop_end_of-old, snoop_end_of-more, snoops_to-ended}
use Rattle.fsb_laws.proofs.Interface.{snoops_to-kept, start_clock}
use Rattle.fsb_queue.specs.declared.entry.Entry.{Entry}
use Rattle.fsb_phase.specs.Due.{rank_of, has_snoop, is_stalled}
use Rattle.fsb_phase.specs.Drive.{ends_snoop_at}
use Rattle.fsb_phase.proofs.Finds.{find-at, find-from, find-off, find_same, found_none}
use Rattle.fsb_phase.proofs.Entries.{IsSettled, Held, Placed, placed, dropped}

-- the requests of a queue by their numbers: the live requests below e have their end, those below s their snoop end
pub record Meets (h : Trace) (queue : List Entry) (e s : ℕ) : Type 0 where
  pub ends : EndsTo h e
  pub snoops : SnoopsTo h s
  pub order : e ≤ s
  pub flight : Held queue h

-- an entry has its outcome exactly where its snoop end is reached
settled_none : (f : ℕ → Rattle.fsb_trace.specs.declared.outcome.Outcome.Outcome) (o : Option ℕ)
    → is_none (option_map f o) ≡ is_none o
settled_none f None = refl
settled_none f (Some t) = refl

pub outcome_reached : (h : Trace) (e : Entry) (turn i : ℕ) → IsSettled h e turn → rank_of h e ≡ i
    → is_none e.outcome ≡ is_none (snoop_end_of h i)
outcome_reached h e turn i s f =
    ap is_none s.outcome ∙ settled_none _ (snoop_end_of h (rank_of h e)) ∙ ap (λ k. is_none (snoop_end_of h k)) f

pub reached_before : (h : Trace) (s i : ℕ) → SnoopsTo h s → i < s → is_none (snoop_end_of h i) ≡ false
reached_before h s i to l = let v = to.reached i l in rw v.1 refl

pub not_reached_from : (h : Trace) (s i : ℕ) → SnoopsTo h s → s ≤ i → is_none (snoop_end_of h i) ≡ true
not_reached_from h s i to l = rw (snoop_end_of-above h s i to l) refl

-- what rests on a number that is not reached is not reached either, as the snoop start of a later one
pub after_none : (a o : Option ℕ) → o ≡ None → greater_of a o ≡ None
unfolding greater_of
after_none None o e = refl
after_none (Some a) None e = refl
after_none (Some a) (Some t) e = absurd (let none : ⊥ = cc in none)

later_start : (h : Trace) (s i : ℕ) → SnoopsTo h s → s < i → snoop_start_of h i ≡ None
unfolding snoop_start_of start_after_end
later_start h s zero to l = absurd (omega arith)
later_start h s (suc i) to l =
    after_none (start_after_clock h (suc i)) (option_map (λ t. t + 3) (snoop_end_of h i))
    (ap (option_map (λ t. t + 3)) (snoop_end_of-above h s i to (omega arith)))

-- whether live request i has a snoop clock at the next clock
abbrev pub snoop_at : Trace → ℕ → Bool
snoop_at h i = is_none (snoop_end_of h i) && is_some_and (snoop_start_of h i)
    (λ start. is_every_second_from start (length h))

pub has_snoop-at : (h : Trace) (e : Entry) (i : ℕ) → rank_of h e ≡ i → has_snoop h e ≡ snoop_at h i
unfolding has_snoop
has_snoop-at h e i f = ap (snoop_at h) f

no_clock : (h : Trace) (i : ℕ) → snoop_start_of h i ≡ None
    → is_some_and (snoop_start_of h i) (λ start. is_every_second_from start (length h)) ≡ false
unfolding is_some_and
no_clock h i e = rw e refl

pub snoop_elsewhere : (h : Trace) (s i : ℕ) → SnoopsTo h s → (i ≡ s → ⊥) → snoop_at h i ≡ false
snoop_elsewhere h s i to f =
    elim (cases_order i s) [
      | inl same ↦ absurd (f same)
      | inr other ↦ elim other [
        | inl less ↦ and_left _ _ (reached_before h s i to less)
        | inr more ↦ and_right (is_none (snoop_end_of h i)) _ (no_clock h i (later_start h s i to more))
      ]
    ]

at_next : (h : Trace) (s : ℕ) → SnoopsTo h s → snoop_at h s ≡ is_snoop_due h s (length h)
unfolding is_snoop_due
at_next h s to = rw (not_reached_from h s s to (omega arith)) refl

-- a request with a snoop clock began four clocks before, and so it is known to be live
due_clock : (h : Trace) (s n : ℕ) (o : Option ℕ) → snoop_start_of h s ≡ o
    → is_some_and o (λ start. is_every_second_from start n) ≡ true
    → (q : ℕ) × (live_clock_of h s ≡ Some q) × (q + 4 ≤ n)
unfolding is_some_and is_every_second_from
due_clock h s n None e t = absurd (let none : ⊥ = cc in none)
due_clock h s n (Some start) e t =
    let c = start_clock h s start e in
    let low = leb-true start n (and_parts _ _ t).0 in
    (c.0, c.1, omega (arith, c.2))

pub due_live : (h : Trace) (s n : ℕ) → is_snoop_due h s n ≡ true
    → (q : ℕ) × (live_clock_of h s ≡ Some q) × (q + 4 ≤ n)
unfolding is_snoop_due
due_live h s n t = due_clock h s n (snoop_start_of h s) refl t

snoop_late : (h : Trace) (i q : ℕ) → live_clock_of h i ≡ Some q → snoop_at h i ≡ true → q + 4 ≤ length h
snoop_late h i q c t =
    let d = due_clock h i (length h) (snoop_start_of h i) refl
    (and_parts (is_none (snoop_end_of h i)) _ t).1 in
    let same : d.0 ≡ q = (let one : Some d.0 ≡ Some q = sym d.1 ∙ c in cc) in
    omega (arith, d.2)

-- a live request that has not ended is in the queue
mapped : (queue : List Entry) (k q : ℕ) (o : Option Entry) → slice_get queue k ≡ o
    → option_map (λ y. y.clock) o ≡ Some q → (y : Entry) × (slice_get queue k ≡ Some y)
mapped queue k q None e f = absurd (let none : ⊥ = cc in none)
mapped queue k q (Some y) e f = (y, e)

pub queue_has : (h : Trace) (queue : List Entry) (e k q : ℕ) → Held queue h → EndsTo h e
    → live_clock_of h (e + k) ≡ Some q → (y : Entry) × (slice_get queue k ≡ Some y)
unfolding live_clock_of nth_where
queue_has h queue e k q f to c =
    mapped queue k q (slice_get queue k) refl
    (sym (slice_get-map (λ y. y.clock) queue k) ∙ ap (λ qs. slice_get qs k) (f.clocks ∙ in_flight-live h e to)
    ∙ dropped e k (all_where (is_live h) (length h)) ∙ c)

-- the entries with a snoop clock at the next clock, and the snoop that is to be stalled there
not_stalled : (h : Trace) (y : Entry) → has_snoop h y ≡ false → is_stalled h y ≡ false
unfolding is_stalled
not_stalled h y f = and_left _ _ f

stalled_from : (h : Trace) (y : Entry) (s start : ℕ) → rank_of h y ≡ s → snoop_start_of h s ≡ Some start
    → has_snoop h y ≡ true → is_stalled h y ≡ is_stall_from y.choice.stall (length h) start
unfolding is_stalled is_some_and
stalled_from h y s start e f t = rw (t, e, f) refl

if_some : (b : Bool) (o : Option Entry) (y : Entry) → cond b o None ≡ Some y → (b ≡ true) × (o ≡ Some y)
if_some true o y e = (refl, e)
if_some false o y e = absurd (let no : ⊥ = cc in no)

pub some_if : (b : Bool) (y : Entry) → is_some (cond b (Some y) None) ≡ b
some_if true y = refl
some_if false y = refl

module _ {h : Trace} {queue : List Entry} {e s : ℕ} (m : Meets h queue e s) where
  pub entry_open : (j : ℕ) (y : Entry) → slice_get queue j ≡ Some y
      → is_none y.outcome ≡ is_none (snoop_end_of h (e + j))
  entry_open j y g =
      let set = m.flight.settled j y g in
      outcome_reached h y set.0 (e + j) set.1 (placed h queue e j y m.flight m.ends g).number

  has_at : (j : ℕ) (y : Entry) → slice_get queue j ≡ Some y → has_snoop h y ≡ snoop_at h (e + j)
  has_at j y g = has_snoop-at h y (e + j) (placed h queue e j y m.flight m.ends g).number

  -- the first entry without an outcome is the first live request without its snoop end
  pub open_is : find (λ y. is_none y.outcome) queue ≡ slice_get queue (s - e)
  open_is =
      let low : e ≤ s = m.order in
      find-from (λ y. is_none y.outcome) queue (s - e)
      (λ j y l g. entry_open j y g ∙ reached_before h s (e + j) m.snoops (omega arith))
      (λ j y l g. entry_open j y g ∙ not_reached_from h s (e + j) m.snoops (omega arith))

  at_s : e + (s - e) ≡ s
  at_s = let low : e ≤ s = m.order in omega arith

  pub open_clock : (y : Entry) → slice_get queue (s - e) ≡ Some y → live_clock_of h s ≡ Some y.clock
  open_clock y g = ap (live_clock_of h) (sym at_s) ∙ (placed h queue e (s - e) y m.flight m.ends g).clock

  -- it alone may have a snoop clock at the next clock
  due_here : (y : Entry) → slice_get queue (s - e) ≡ Some y → has_snoop h y ≡ is_snoop_due h s (length h)
  due_here y g = has_at (s - e) y g ∙ ap (snoop_at h) at_s ∙ at_next h s m.snoops

  elsewhere : (j : ℕ) (y : Entry) → (j ≡ s - e → ⊥) → slice_get queue j ≡ Some y → has_snoop h y ≡ false
  elsewhere j y other g = has_at j y g ∙ snoop_elsewhere h s (e + j) m.snoops (λ same. other (omega arith))

  pub snooping_is : find (has_snoop h) queue ≡ cond (is_snoop_due h s (length h)) (slice_get queue (s - e)) None
  snooping_is = find-at (has_snoop h) queue (s - e) (is_snoop_due h s (length h)) due_here elsewhere

  pub snooping_at : (y : Entry) → find (has_snoop h) queue ≡ Some y
      → (is_snoop_due h s (length h) ≡ true) × (slice_get queue (s - e) ≡ Some y)
  snooping_at y f = if_some _ (slice_get queue (s - e)) y (sym snooping_is ∙ f)

  -- whether its snoop is to be stalled
  pub stalled_some : (y : Entry) (start : ℕ) → find (has_snoop h) queue ≡ Some y → snoop_start_of h s ≡ Some start
      → is_some (find (is_stalled h) queue) ≡ is_stall_from y.choice.stall (length h) start
  stalled_some y start f g =
      let k = snooping_at y f in
      ap is_some (find-at (is_stalled h) queue (s - e) (is_stall_from y.choice.stall (length h) start)
      (λ z at.
      let one : z ≡ y = (let same : Some z ≡ Some y = sym at ∙ k.1 in cc) in
      stalled_from h z s start ((placed h queue e (s - e) z m.flight m.ends at).number ∙ at_s) g
      (due_here z at ∙ k.0) ∙ ap (λ w. is_stall_from w.choice.stall (length h) start) one)
      (λ j z other at. not_stalled h z (elsewhere j z other at)))
      ∙ ap (λ o. is_some (cond (is_stall_from y.choice.stall (length h) start) o None)) k.1 ∙ some_if _ y

  pub stalled_none : find (has_snoop h) queue ≡ None → is_some (find (is_stalled h) queue) ≡ false
  stalled_none f =
      ap is_some (find-off (is_stalled h) queue
      (λ j y g. not_stalled h y (found_none (has_snoop h) queue f j y g)))

  -- there is one exactly where the next snoop is due
  due_cases : (b : Bool) → is_snoop_due h s (length h) ≡ b → is_some (cond b (slice_get queue (s - e)) None) ≡ b
  due_cases true t =
      let c = due_live h s (length h) t in
      ap is_some ((queue_has h queue e (s - e) c.0 m.flight m.ends (ap (live_clock_of h) at_s ∙ c.1)).1)
  due_cases false f = refl

  pub due_is : is_some (find (has_snoop h) queue) ≡ is_snoop_due h s (length h)
  due_is = ap is_some snooping_is ∙ due_cases _ refl

-- the snoops behind the next one have no snoop end yet
pub later_none : (h : Trace) (x : Sample) (v : Trace) (s i : ℕ) (b : Bool) → OneMore h x v → Spaced h
    → SnoopsTo h s → ends_snoop_of h s x ≡ b → s < i → snoop_end_of v i ≡ None
later_none h x v s i true m sp to t l = snoop_end_of-above v (s + 1) i (snoops_to-ended h x v s m sp to t) (omega arith)
later_none h x v s i false m sp to f l = snoop_end_of-above v s i (snoops_to-kept h x v s m sp to f) (omega arith)

-- whether the snoop of live request i ends at the new clock
not_at : (o : Option ℕ) (t n : ℕ) → o ≡ Some t → t < n → is_at o n ≡ false
unfolding is_at is_some_and
not_at o t n e l = rw e (ne_eqb t n (λ f. omega arith))

end_here : (h : Trace) (x : Sample) (v : Trace) (s i : ℕ) → OneMore h x v → Spaced h → SnoopsTo h s
    → is_at (snoop_end_of v i) (length h) ≡ (snoop_at h i && not (stalls x))
unfolding ends_snoop_of
end_here h x v s i m sp to =
    elim (cases_order i s) [
      | inl same ↦
          let here : is_at (snoop_end_of v s) (length h) ≡ (snoop_at h s && not (stalls x)) =
          ap (λ o. is_at o (length h)) (snoop_end_of-more h x v s m sp to) ∙ is_at-if (length h) (ends_snoop_of h s x)
          ∙ ap (λ b. b && not (stalls x)) (sym (at_next h s to)) in
          subst (λ j. is_at (snoop_end_of v j) (length h) ≡ (snoop_at h j && not (stalls x))) (sym same) here
      | inr other ↦ elim other [
        | inl less ↦
            let r = to.reached i less in
            not_at (snoop_end_of v i) r.0 (length h) (snoop_end_of-old h x v s i m to less ∙ r.1) r.2
            ∙ sym (and_left _ _ (snoop_elsewhere h s i to (λ f. omega arith)))
        | inr more ↦
            is_at-off (snoop_end_of v i) (length h) (later_none h x v s i (ends_snoop_of h s x) m sp to refl more)
            ∙ sym (and_left _ _ (snoop_elsewhere h s i to (λ f. omega arith)))
      ]
    ]

-- a request that began four clocks before stays live
apart : (x : Sample) (n q : ℕ) → q + 4 ≤ n → cancels x n q ≡ false
unfolding cancels
apart x n q l = and_right _ _ (ne_eqb (q + 3) n (λ e. omega arith))

pub live_after : (h : Trace) (x : Sample) (v : Trace) (q : ℕ) → OneMore h x v → is_live h q ≡ true
    → q + 4 ≤ length h → is_live v q ≡ true
live_after h x v q m t l = is_live-more h x v q m (omega arith) ∙ (rw (t, apart x (length h) q l) refl)

-- the number of an entry's request stays
pub number_stays : (h : Trace) (x : Sample) (v : Trace) (e j : ℕ) (y : Entry) → OneMore h x v → Spaced h
    → Placed h e j y → rank_of v y ≡ e + j
number_stays h x v e j y m sp here =
    sym (live_number_of-more h x v y.clock m sp here.within (is_live-ads h y.clock here.live)) ∙ here.number

ends_cases : (h : Trace) (x : Sample) (v : Trace) (e j : ℕ) (y : Entry) (b : Bool) → OneMore h x v
    → Placed h e j y → (snoop_at h (e + j) && not (stalls x)) ≡ b → (is_live v y.clock && b) ≡ b
ends_cases h x v e j y false m here t = and_right (is_live v y.clock) false refl
ends_cases h x v e j y true m here t =
    rw (live_after h x v y.clock m here.live (snoop_late h (e + j) y.clock here.clock (and_parts _ _ t).0)) refl

pub ends_entry : (h : Trace) (x : Sample) (v : Trace) (e s j : ℕ) (y : Entry) → OneMore h x v → Spaced h
    → SnoopsTo h s → Placed h e j y → ends_snoop_at v (length h) y ≡ (has_snoop h y && not (stalls x))
unfolding ends_snoop_at
ends_entry h x v e s j y m sp to here =
    ap (λ i. is_live v y.clock && is_at (snoop_end_of v i) (length h)) (number_stays h x v e j y m sp here)
    ∙ ap (λ b. is_live v y.clock && b) (end_here h x v s (e + j) m sp to)
    ∙ ends_cases h x v e j y (snoop_at h (e + j) && not (stalls x)) m here refl
    ∙ ap (λ b. b && not (stalls x)) (sym (has_snoop-at h y (e + j) here.number))

find_unless : (t : Entry → Bool) (b : Bool) (xs : List Entry) → find (λ y. t y && not b) xs ≡ cond b None (find t xs)
find_unless t true xs = find-off (λ y. t y && false) xs (λ j y e. and_right (t y) false refl)
find_unless t false xs = find_same (λ y. t y && true) t xs (λ j y e. and-true (t y))

unless : (b : Bool) (o : Option Entry) → is_some (cond b None o) ≡ (is_some o && not b)
unless true None = refl
unless true (Some y) = refl
unless false None = refl
unless false (Some y) = refl

module _ {h : Trace} {queue : List Entry} {e s : ℕ} (k : Meets h queue e s) {x : Sample} {v : Trace}
    (m : OneMore h x v) (sp : Spaced h) where
  -- the entry whose snoop ends with the sample
  pub snooped_is : find (ends_snoop_at v (length h)) queue ≡ cond (stalls x) None (find (has_snoop h) queue)
  snooped_is =
      find_same (ends_snoop_at v (length h)) (λ y. has_snoop h y && not (stalls x)) queue
      (λ j y g. ends_entry h x v e s j y m sp k.snoops (placed h queue e j y k.flight k.ends g))
      ∙ find_unless (has_snoop h) (stalls x) queue

  pub ends_is : is_some (find (ends_snoop_at v (length h)) queue) ≡ ends_snoop_of h s x
  unfolding ends_snoop_of
  ends_is = ap is_some snooped_is ∙ unless (stalls x) (find (has_snoop h) queue)
      ∙ ap (λ b. b && not (stalls x)) (due_is k)
