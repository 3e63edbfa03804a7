-- What the next sample brings: to the heads, the end that it is, and the clock from which the next request is answered.
use Rattle.std.proofs.Common.{ℕ, zero, suc, ◌+◌, ◌<◌, ◌≤◌, ◌≡◌, Bool, true, false, cond, ◌&&◌, ◌||◌, max, Option, Some}
use Rattle.std.proofs.Common.{None, List, [], ◌∷◌, ◌++◌, length, is_some, is_none, refl, sym, ap, ◌∙◌, inl, inr, arith}
use Rattle.std.proofs.Common.{subst}
use Rattle.std.specs.List.{slice_get, find}
use Rattle.std.specs.Option.{option_and_then}
use Rattle.std.proofs.lemmas.Bool.{cases_lt, and_right, and_parts, or_parts, eq-eqb, both_ways}
use Rattle.fsb_count.specs.Options.{is_some_and, is_at, greater_of}
use Rattle.fsb_count.proofs.Interface.{is_some-none}
use Rattle.fsb_signal.specs.declared.lines.TheConstants.Lines.{TRDY, DRDY}
use Rattle.fsb_signal.specs.declared.sample.Sample.{Sample}
use Rattle.fsb_signal.specs.Samples.{has_line, response_of}
use Rattle.fsb_trace.specs.At.{Trace}
use Rattle.fsb_trace.specs.Requests.{is_live, live_clock_of}
use Rattle.fsb_trace.specs.Snoop.{snoop_end_of}
use Rattle.fsb_trace.specs.Response.{end_of, two_after_snoop, answer_from}
use Rattle.fsb_trace.proofs.Interface.{snoop_end_of-clock}
use Rattle.fsb_laws.specs.OneMore.{OneMore, responds, stalls}
use Rattle.fsb_laws.specs.Orderly.{Spaced, Orderly}
use Rattle.fsb_laws.specs.Progress.{SnoopsTo, EndsTo, response_count, transfer_of, ends_snoop_of, is_snoop_due}
use Rattle.fsb_laws.specs.Progress.{chunk_step, may_answer_next}
use Rattle.fsb_laws.proofs.Interface.{has_answer, response_count-kept, orderly-more, ends_to-still, ends_to-moving}
use Rattle.fsb_laws.proofs.Interface.{end_of-old, end_of-kept, snoop_end_of-old, snoop_end_of-more, transfer_of-kept}
use Rattle.fsb_laws.proofs.Interface.{answered_below, one_more}
use Rattle.fsb_heads.specs.declared.heads.Next.{Next}
use Rattle.fsb_heads.specs.Heads.{snooped_count, BringsNext}
use Rattle.fsb_heads.proofs.Interface.{count_answered}
use Rattle.fsb_queue.specs.declared.entry.Entry.{Entry}
use Rattle.fsb_phase.specs.declared.phases.Phases.{Phases}
use Rattle.fsb_phase.specs.Due.{rank_of, has_snoop, is_moving}
use Rattle.fsb_phase.specs.FitQueue.{is_too_soon}
use Rattle.fsb_phase.specs.Drive.{drive_of, ends_snoop_at, has_end_at}
use Rattle.fsb_phase.specs.Phases.{Stands, IsNext, MayTake}
use Rattle.fsb_phase.proofs.Finds.{find-off, find-place}
use Rattle.fsb_phase.proofs.Entries.{Held, held, placed}
use Rattle.fsb_phase.proofs.Snoops.{Meets, entry_open, reached_before, not_reached_from, queue_has, ends_is}
use Rattle.fsb_phase.proofs.Snoops.{live_after, number_stays, due_live, snooped_is}
use Rattle.fsb_phase.proofs.Oldest.{Far, far, meets, no_answer-before, no_answer-snoop}
use Rattle.fsb_phase.proofs.Responses.{Answering, answering, moves_is, spaced_on}

-- the next sample, taken where it may be
pub record Step (p : Phases) (h : Trace) (x : Sample) (v : Trace) (queue : List Entry) (e s : ℕ) : Type 0 where
  pub more : OneMore h x v
  pub stands : Stands p h
  pub meets : Meets h queue e s
  pub far : Far h e
  pub answering : responds x ≡ true → Answering h queue e x
  pub orderly : Orderly v

pub step : (p : Phases) (h : Trace) (x : Sample) (v : Trace) (queue : List Entry) → OneMore h x v → Stands p h
    → Held queue h → response_of x ≡ (drive_of h queue).rs → is_too_soon h x ≡ false
    → (e : ℕ) × Step p h x v queue e (snooped_count h)
step p h x v queue m k f c soon =
    let w = far h k.orderly in
    let mt = meets h queue w.0 k.orderly f w.1 in
    let ans : responds x ≡ true → Answering h queue w.0 x = λ t. answering h queue w.0 x k.orderly f w.1 c t in (
      w.0,
      record {
        more = m;
        stands = k;
        meets = mt;
        far = w.1;
        answering = ans;
        orderly = orderly-more h x v (snooped_count h) m k.orderly mt.snoops (spaced_on h x v m k.orderly.spaced soon)
            (λ t. (ans t).may);
      },
    )

-- the oldest request has responded, with the sample or before
abbrev pub has_answered : Trace → Sample → Bool
has_answered h x = responds x || is_some (transfer_of h)

not_before : (h : Trace) (x : Sample) (v : Trace) (e t : ℕ) → OneMore h x v → Orderly h → EndsTo h e
    → end_of v e ≡ Some t → t < length v → t ≡ length h
not_before h x v e t m o to f l =
    elim (cases_lt t (length h)) [
      | inl before ↦ absurd (let g = end_of-old h x v e t m o f before in
          (let k = to.above e (omega arith) in (let none : ⊥ = cc in none)))
      | inr after ↦ omega (arith, m.size)
    ]

head_snooped : (h : Trace) (e s t : ℕ) → SnoopsTo h s → snoop_end_of h e ≡ Some t → suc e ≤ s
head_snooped h e s t to f =
    elim (cases_lt e s) [
      | inl l ↦ omega arith
      | inr l ↦ absurd (let g = not_reached_from h s e to l in both_ways (is_none (snoop_end_of h e)) (rw f refl) g)
    ]

-- an entry whose end is not reached does not end
pub no_end : (v : Trace) (n : ℕ) (y : Entry) → end_of v (rank_of v y) ≡ None → has_end_at v n y ≡ false
unfolding has_end_at is_at is_some_and
no_end v n y e = and_right (is_live v y.clock) _ (rw e refl)

head_is : (h : Trace) (queue : List Entry) (e s : ℕ) → Held queue h → EndsTo h e → SnoopsTo h s → suc e ≤ s
    → (y : Entry) × (slice_get queue 0 ≡ Some y) × (y.clock + 4 ≤ length h)
head_is h queue e s f to sn l =
    let r = sn.reached e (omega arith) in
    let c = snoop_end_of-clock h e r.0 r.1 in
    let first : live_clock_of h (e + 0) ≡ Some c.clock =
    ap (live_clock_of h) (let same : e + 0 ≡ e = omega arith in same) ∙ c.is_clock in
    let y = queue_has h queue e 0 c.clock f to first in
    let here = placed h queue e 0 y.0 f to y.1 in
    let same : y.0.clock ≡ c.clock = (let one : Some y.0.clock ≡ Some c.clock = sym here.clock ∙ first in cc) in
    (y.0, y.1, omega (arith, c.above, r.2))

ends_here : (v : Trace) (e n : ℕ) (y : Entry) → is_live v y.clock ≡ true → rank_of v y ≡ e
    → end_of v e ≡ Some n → has_end_at v n y ≡ true
unfolding has_end_at is_at is_some_and
ends_here v e n y l f g = rw (l, f, g) (eq-eqb n n refl)

-- the clock from which a request is answered
answer_now : (v : Trace) (i n : ℕ) → snoop_end_of v i ≡ Some n
    → ((j : ℕ) → i ≡ suc j → (t : ℕ) × (end_of v j ≡ Some t) × (t ≤ n)) → answer_from v i ≡ Some (n + 2)
unfolding answer_from two_after_snoop greater_of
answer_now v zero n e f = rw e refl
answer_now v (suc j) n e f =
    let r = f j refl in
    rw (e, r.1) (ap (λ m. Some m) (let same : max (n + 2) (r.0 + 1) ≡ n + 2 = omega (arith, r.2) in same))

answer_was : (v : Trace) (i t n : ℕ) → snoop_end_of v (suc i) ≡ Some t → t < n → end_of v i ≡ Some n
    → answer_from v (suc i) ≡ Some (n + 1)
unfolding answer_from two_after_snoop greater_of
answer_was v i t n e l f = rw (e, f) (ap (λ m. Some m) (let same : max (t + 2) (n + 1) ≡ n + 1 = omega arith in same))

answer_same : (h : Trace) (x : Sample) (v : Trace) (i s : ℕ) → OneMore h x v → Orderly h → EndsTo h i
    → SnoopsTo h s → i < s → answer_from v i ≡ answer_from h i
unfolding answer_from two_after_snoop
answer_same h x v zero s m o to sn l = rw (snoop_end_of-old h x v s 0 m sn l) refl
answer_same h x v (suc i) s m o to sn l =
    let r = to.reached i (omega arith) in
    rw (snoop_end_of-old h x v s (suc i) m sn l, end_of-kept h x v i r.0 m o r.1 r.2, r.1) refl

-- as an entry's outcome, the clock from which it is answered where it has one, and the snoop end that comes tell it
abbrev pub answer_to : Option ℕ → ℕ → Bool → Entry → Option ℕ
answer_to settled n ends y = cond (is_some y.outcome) settled (cond ends (Some (n + 2)) None)

open_none : {A : Type 0} (o : Option A) → is_none o ≡ true → is_some o ≡ false
open_none None e = refl
open_none (Some a) e = absurd (let none : ⊥ = cc in none)

settled_some : {A : Type 0} (o : Option A) → is_none o ≡ false → is_some o ≡ true
settled_some None e = absurd (let none : ⊥ = cc in none)
settled_some (Some a) e = refl

none_then : (f : Entry → Option ℕ) (o : Option Entry) → ((y : Entry) → o ≡ Some y → f y ≡ None)
    → option_and_then f o ≡ None
none_then f None g = refl
none_then f (Some y) g = g y refl

open_due : (h : Trace) (s : ℕ) (x : Sample) → ends_snoop_of h s x ≡ true → is_snoop_due h s (length h) ≡ true
unfolding ends_snoop_of
open_due h s x t = (and_parts _ _ t).0

open_ends : (h : Trace) (x : Sample) (v : Trace) (s : ℕ) (b : Bool) → OneMore h x v → Spaced h → SnoopsTo h s
    → ends_snoop_of h s x ≡ b → snoop_end_of v s ≡ cond b (Some (length h)) None
open_ends h x v s b m sp to t = snoop_end_of-more h x v s m sp to ∙ ap (λ c. cond c (Some (length h)) None) t

-- what the sample brings, by what the phases keep
module _ {p : Phases} {h : Trace} {x : Sample} {v : Trace} {queue : List Entry} {e s : ℕ}
    (k : Step p h x v queue e s) where
  -- the snoop end
  pub snooped : (o : Option Entry) (b : Bool) → o ≡ find (has_snoop h) queue → stalls x ≡ b
      → cond b None o ≡ find (ends_snoop_at v (length h)) queue
  snooped o b f t = rw (← t, f) (sym (snooped_is k.meets k.more k.stands.orderly.spaced))

  -- no response came and no transfer was on the way: the ends stay
  quiet_still : has_answered h x ≡ false → (transfer_of h ≡ None) × (response_count h ≡ e)
  quiet_still f =
      elim k.far.head [
        | inl still ↦ still
        | inr moving ↦ absurd (both_ways _ (or_parts _ _ f).1 (ap is_some moving.2))
      ]

  quiet_count : has_answered h x ≡ false → response_count v ≡ e
  quiet_count f = response_count-kept h x v k.more (or_parts _ _ f).0 ∙ (quiet_still f).1

  quiet_ends : has_answered h x ≡ false → EndsTo v e
  unfolding chunk_step
  quiet_ends f =
      let still : transfer_of v ≡ None = transfer_of-kept h x v k.more k.stands.orderly (or_parts _ _ f).0
      ∙ ap (chunk_step (has_line x DRDY)) (quiet_still f).0 in
      subst (EndsTo v) (quiet_count f) (ends_to-still v k.orderly still)

  -- the oldest request has answered: it ends with the sample where no transfer is on the way then, or its data go on
  answered_cases : (b : Bool) → responds x ≡ b → has_answered h x ≡ true → (response_count v ≡ suc e) × (suc e ≤ s)
  answered_cases true t a =
      let w = k.answering t in (
        count_answered h x v k.more t ∙ ap (λ n. suc n) w.count,
        (let below = answered_below h s k.meets.snoops w.may in omega (arith, w.count)),
      )
  answered_cases false f a =
      elim k.far.head [
        | inl still ↦ absurd (both_ways _ (ap (λ b. b || is_some (transfer_of h)) f ∙ ap is_some still.0) a)
        | inr moving ↦
            let w = has_answer h moving.1 e (k.stands.orderly.timely e moving.1 moving.4) in
            (response_count-kept h x v k.more f ∙ moving.3, head_snooped h e s w.snoop k.meets.snoops w.is_snoop)
      ]

  answered : has_answered h x ≡ true → (response_count v ≡ suc e) × (suc e ≤ s)
  answered a = answered_cases (responds x) refl a

  done_ends : has_answered h x ≡ true → transfer_of v ≡ None → EndsTo v (suc e)
  done_ends a t = subst (EndsTo v) (answered a).0 (ends_to-still v k.orderly t)

  done_end : has_answered h x ≡ true → transfer_of v ≡ None → end_of v e ≡ Some (length h)
  done_end a t =
      let r = (done_ends a t).reached e (omega arith) in
      r.1 ∙ ap (λ n. Some n) (not_before h x v e r.0 k.more k.stands.orderly k.meets.ends r.1 r.2)

  going_ends : (n : ℕ) → has_answered h x ≡ true → transfer_of v ≡ Some n → EndsTo v e
  going_ends n a t = ends_to-moving v n e k.orderly t (answered a).0

  -- so none but the oldest ends
  unended_cases : (b : Bool) (o : Option ℕ) → has_answered h x ≡ b → transfer_of v ≡ o → (i : ℕ) → e < i
      → end_of v i ≡ None
  unended_cases false o a t i l = (quiet_ends a).above i (omega arith)
  unended_cases true None a t i l = (done_ends a t).above i (omega arith)
  unended_cases true (Some n) a t i l = (going_ends n a t).above i (omega arith)

  pub unended_after : (i : ℕ) → e < i → end_of v i ≡ None
  unended_after i l = unended_cases (has_answered h x) (transfer_of v) refl refl i l

  none_ends : EndsTo v e → find (has_end_at v (length h)) queue ≡ None
  none_ends to =
      find-off (has_end_at v (length h)) queue (λ j y g.
      let here = placed h queue e j y k.meets.flight k.meets.ends g in
      no_end v (length h) y (ap (end_of v) (number_stays h x v e j y k.more k.stands.orderly.spaced here)
      ∙ to.above (e + j) (omega arith)))

  ended_cases : (b : Bool) (o : Option ℕ) → has_answered h x ≡ b → transfer_of v ≡ o
      → cond (b && is_none o) (slice_get queue 0) None ≡ find (has_end_at v (length h)) queue
  ended_cases false o a t = sym (none_ends (quiet_ends a))
  ended_cases true (Some n) a t = sym (none_ends (going_ends n a t))
  ended_cases true None a t =
      let y = head_is h queue e s k.meets.flight k.meets.ends k.meets.snoops (answered a).1 in
      let here = placed h queue e 0 y.0 k.meets.flight k.meets.ends y.1 in
      let number : rank_of v y.0 ≡ e = number_stays h x v e 0 y.0 k.more k.stands.orderly.spaced here
      ∙ (let same : e + 0 ≡ e = omega arith in same) in
      y.1 ∙ sym (find-place (has_end_at v (length h)) queue 0 y.0 y.1
      (ends_here v e (length h) y.0 (live_after h x v y.0.clock k.more here.live y.2) number (done_end a t))
      (λ j z l g. absurd (omega arith)))

  pub ended : (transfer : Option ℕ) (b : Bool) → transfer ≡ transfer_of v
      → (has_answered h x && is_none transfer) ≡ b
      → cond b (slice_get queue 0) None ≡ find (has_end_at v (length h)) queue
  ended transfer b f t =
      ap (λ c. cond c (slice_get queue 0) None) (sym t)
      ∙ (rw f (ended_cases (has_answered h x) (transfer_of v) refl refl))

  -- the clock from which the entry at a place is answered
  open_place : (j : ℕ) (f : Option ℕ) (b : Bool) → e + j ≡ s
      → ((i : ℕ) → e + j ≡ suc i → (t : ℕ) × (end_of v i ≡ Some t) × (t ≤ length h)) → ends_snoop_of h s x ≡ b
      → option_and_then (answer_to f (length h) b) (slice_get queue j) ≡ answer_from v (e + j)
  open_place j f true same before t =
      let c = due_live h s (length h) (open_due h s x t) in
      let y = queue_has h queue e j c.0 k.meets.flight k.meets.ends (ap (live_clock_of h) same ∙ c.1) in
      let none : is_none y.0.outcome ≡ true = entry_open k.meets j y.0 y.1
      ∙ not_reached_from h s (e + j) k.meets.snoops (omega arith) in
      ap (option_and_then (answer_to f (length h) true)) y.1
      ∙ ap (λ b. cond b f (Some (length h + 2))) (open_none y.0.outcome none)
      ∙ sym (answer_now v (e + j) (length h) (ap (snoop_end_of v) same
      ∙ open_ends h x v s true k.more k.stands.orderly.spaced k.meets.snoops t) before)
  open_place j f false same before t =
      none_then (answer_to f (length h) false) (slice_get queue j) (λ y g.
      ap (λ b. cond b f None) (open_none y.outcome (entry_open k.meets j y g
      ∙ not_reached_from h s (e + j) k.meets.snoops (omega arith))))
      ∙ sym (no_answer-snoop v (e + j) (ap (snoop_end_of v) same
      ∙ open_ends h x v s false k.more k.stands.orderly.spaced k.meets.snoops t))

  answer_place : (j : ℕ) (f : Option ℕ) (b : Bool) → b ≡ is_some (find (ends_snoop_at v (length h)) queue)
      → e + j ≤ s → (e + j < s → answer_from v (e + j) ≡ f)
      → ((i : ℕ) → e + j ≡ suc i → (t : ℕ) × (end_of v i ≡ Some t) × (t ≤ length h))
      → option_and_then (answer_to f (length h) b) (slice_get queue j) ≡ answer_from v (e + j)
  answer_place j f b g l settled before =
      elim (cases_lt (e + j) s) [
        | inl less ↦
            let r = k.meets.snoops.reached (e + j) less in
            let c = snoop_end_of-clock h (e + j) r.0 r.1 in
            let y = queue_has h queue e j c.clock k.meets.flight k.meets.ends c.is_clock in
            let some : is_none y.0.outcome ≡ false = entry_open k.meets j y.0 y.1
            ∙ reached_before h s (e + j) k.meets.snoops less in
            ap (option_and_then (answer_to f (length h) b)) y.1
            ∙ ap (λ a. cond a f (cond b (Some (length h + 2)) None)) (settled_some y.0.outcome some)
            ∙ sym (settled less)
        | inr none ↦
            open_place j f b (omega arith) before (sym (g ∙ ends_is k.meets k.more k.stands.orderly.spaced))
      ]

  -- that of the next request to respond
  pub from_quiet : (n : ℕ) (b : Bool) → n ≡ length h → b ≡ is_some (find (ends_snoop_at v (length h)) queue)
      → has_answered h x ≡ false
      → option_and_then (answer_to p.from n b) (slice_get queue 0) ≡ answer_from v (response_count v)
  from_quiet n b f g a =
      let none : e + 0 ≡ e = omega arith in
      rw f (answer_place 0 p.from b g (omega (arith, k.meets.order))
      (λ l. ap (answer_from v) none
      ∙ answer_same h x v e s k.more k.stands.orderly k.meets.ends k.meets.snoops (omega arith)
      ∙ sym (k.stands.from ∙ ap (answer_from h) (quiet_still a).1))
      (λ j same.
      let r = k.meets.ends.reached j (omega arith) in
      (r.0, end_of-kept h x v j r.0 k.more k.stands.orderly r.1 r.2, omega (arith, r.2)))
      ∙ ap (answer_from v) (none ∙ sym (quiet_count a)))

  pub from_done : (n m : ℕ) (b : Bool) (transfer : Option ℕ) → n ≡ length h → m ≡ n
      → b ≡ is_some (find (ends_snoop_at v (length h)) queue) → transfer ≡ transfer_of v
      → has_answered h x ≡ true → is_some transfer ≡ false
      → option_and_then (answer_to (Some (m + 1)) n b) (slice_get queue 1) ≡ answer_from v (response_count v)
  from_done n m b transfer f i g r a u =
      let d : transfer_of v ≡ None = sym r ∙ is_some-none transfer u in
      let one : e + 1 ≡ suc e = omega arith in
      rw (i, f) (answer_place 1 (Some (length h + 1)) b g (let low = (answered a).1 in omega arith)
      (λ l.
      let r = k.meets.snoops.reached (suc e) (omega arith) in
      ap (answer_from v) one
      ∙ answer_was v e r.0 (length h) (snoop_end_of-old h x v s (suc e) k.more k.meets.snoops (omega arith)
      ∙ r.1) r.2 (done_end a d))
      (λ j same.
      let last : j ≡ e = omega arith in
      (length h, ap (end_of v) last ∙ done_end a d, omega arith))
      ∙ ap (answer_from v) (one ∙ sym (answered a).0))

  pub from_going : (transfer : Option ℕ) → transfer ≡ transfer_of v → has_answered h x ≡ true
      → is_some transfer ≡ true → None ≡ answer_from v (response_count v)
  from_going None f a t = absurd (let no : ⊥ = cc in no)
  from_going (Some n) f a t =
      sym (ap (answer_from v) (answered a).0 ∙ no_answer-before v e ((going_ends n a (sym f)).above e (omega arith)))

-- the sample that a contract speaks of
pub taken : {p : Phases} {clock : ℕ} {x : Sample} {queue : List Entry} {turns : List ℕ} {h : Trace} → Stands p h
    → MayTake clock x queue turns h → (e : ℕ) × Step p h x (h ++ x ∷ []) queue e (snooped_count h)
taken {p} {clock} {x} {queue} {turns} {h} k t =
    step p h x (h ++ x ∷ []) queue (one_more h x) k (held queue turns h t.flight) t.answers t.spaced

pub next_of : {p : Phases} {clock : ℕ} {x : Sample} {queue : List Entry} {turns : List ℕ} {h : Trace} → Stands p h
    → MayTake clock x queue turns h → IsNext p clock queue turns h
next_of k t = record { stands = k; clock_is = t.clock_is; flight = t.flight }

-- and what it brings to the heads
pub takes : {p : Phases} {clock : ℕ} {x : Sample} {queue : List Entry} {turns : List ℕ} {h : Trace} → Stands p h
    → MayTake clock x queue turns h → (next : Next)
    → next.snoops ≡ is_some (find (ends_snoop_at (h ++ x ∷ []) (length h)) queue)
    → next.readies ≡ (has_line x TRDY && may_answer_next h) → next.moves ≡ is_some_and (slice_get queue 0) is_moving
    → BringsNext clock x next h
takes {p} {clock} {x} {queue} {turns} {h} k t next snoops readies moves =
    let s = (taken k t).1 in
    record {
      clock_is = t.clock_is;
      snoops_is = snoops ∙ ends_is s.meets s.more k.orderly.spaced;
      readies_is = readies;
      moves_with = record {
        orderly = k.orderly;
        timely = λ r. (s.answering r).may;
        moves_is = λ r. moves ∙ moves_is h x (h ++ x ∷ []) queue _ _ s.more s.meets.snoops s.meets.flight s.meets.ends
            (s.answering r) r;
      };
    }
