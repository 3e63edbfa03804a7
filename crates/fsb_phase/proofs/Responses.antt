-- Responses: where RS# is driven, the oldest request may respond; and what a response brings.
use Rattle.std.proofs.Common.{ℕ, zero, suc, ◌+◌, ◌<◌, ◌≡◌, true, false, ◌&&◌, ◌||◌, max, nat_le, Option}
use Rattle.std.proofs.Common.{Some, None, List, length, is_none, refl, sym, ap, ◌∙◌, inl, inr, arith, Bool, not}
use Rattle.std.proofs.Common.{cond, nat_eq}
use Rattle.std.specs.List.{slice_get}
use Rattle.std.specs.Option.{option_map, option_map_or}
use Rattle.std.proofs.lemmas.Bool.{and_right, cases_Bool, cases_lt, le-leb, lt-leb, or_parts, and_parts, and_from}
use Rattle.std.proofs.lemmas.Bool.{eqb-true}
use Rattle.std.proofs.lemmas.Bool.{both_ways}
use Rattle.std.proofs.Math.Bool.{and-true}
use Rattle.fsb_count.specs.Options.{is_some_and, greater_of, is_at}
use Rattle.fsb_count.proofs.Interface.{is_some_and-none}
use Rattle.fsb_signal.specs.declared.lines.TheConstants.Lines.{ADS}
use Rattle.fsb_signal.specs.declared.sample.Sample.{Sample}
use Rattle.fsb_signal.specs.Samples.{has_line, response_of}
use Rattle.fsb_trace.specs.At.{Trace, line_back}
use Rattle.fsb_trace.specs.Snoop.{snoop_end_of}
use Rattle.fsb_trace.specs.Outcome.{response_clock_of, does_move, moves_data, told_by}
use Rattle.fsb_trace.specs.Response.{two_after_snoop, answer_from, takes, ready_clock_of}
use Rattle.fsb_laws.specs.OneMore.{OneMore, responds}
use Rattle.fsb_laws.specs.Orderly.{Spaced, Orderly}
use Rattle.fsb_laws.specs.Progress.{SnoopsTo, EndsTo, response_count, transfer_of, may_answer_next}
use Rattle.fsb_laws.proofs.Interface.{may_answer_next-parts, spaced-more, moves_new}
use Rattle.fsb_laws.proofs.Interface.{response_clock_of-new, response_clock_of-old}
use Rattle.fsb_laws.proofs.Interface.{response_count-kept, answered_below, ends_to-still}
use Rattle.fsb_laws.proofs.Interface.{ends_to-moving, transfer_parts, has_ready, after_answer}
use Rattle.fsb_queue.specs.declared.entry.Entry.{Entry}
use Rattle.fsb_phase.specs.declared.phases.Phases.{Phases}
use Rattle.fsb_phase.specs.Due.{rank_of, is_moving, has_response}
use Rattle.fsb_phase.specs.FitQueue.{is_too_soon}
use Rattle.fsb_heads.specs.Heads.{value_before}
use Rattle.fsb_heads.proofs.Interface.{count_answered, value_before-same}
use Rattle.fsb_phase.specs.Phases.{Stands, last_response}
use Rattle.fsb_phase.proofs.Entries.{Held, placed}
use Rattle.fsb_phase.proofs.Settled.{told-is}
use Rattle.fsb_phase.proofs.Oldest.{no_answer-before, Far, idle-later}
use Rattle.fsb_trace.specs.Timing.{is_response_from}
use Rattle.fsb_phase.specs.Drive.{settled_code, drive_of}
use Rattle.fsb_phase.proofs.Finds.{if_passes, find-first}

-- a request that is not too soon keeps the distance
far_enough : (h : Trace) (x : Sample) → is_too_soon h x ≡ false → has_line x ADS ≡ true
    → (line_back ADS h (length h) 1 ≡ false) × (line_back ADS h (length h) 2 ≡ false)
unfolding is_too_soon
far_enough h x f t =
    let both : (has_line x ADS && (line_back ADS h (length h) 1 || line_back ADS h (length h) 2)) ≡ false = f in
    or_parts _ _ (rw t at both)

pub spaced_on : (h : Trace) (x : Sample) (v : Trace) → OneMore h x v → Spaced h → is_too_soon h x ≡ false → Spaced v
spaced_on h x v m sp f = spaced-more h x v m sp (far_enough h x f)

-- the last response clock
pub last_response-more : (h : Trace) (x : Sample) (v : Trace) (b : Bool) → OneMore h x v → responds x ≡ b
    → last_response v ≡ cond b (Some (length h)) (last_response h)
unfolding last_response value_before
last_response-more h x v true m t =
    ap (value_before (response_clock_of v)) (count_answered h x v m t) ∙ response_clock_of-new h x v m t
last_response-more h x v false m f =
    ap (value_before (response_clock_of v)) (response_count-kept h x v m f)
    ∙ value_before-same (response_count h) (λ i l. response_clock_of-old h x v i m l)

-- whether the next request may respond
late_first : (h : Trace) (o : Option ℕ)
    → is_some_and o (λ t. nat_le (t + 2) (length h)) ≡ is_some_and (option_map (λ s. s + 2) o)
    (λ f. nat_le f (length h))
unfolding is_some_and
late_first h None = refl
late_first h (Some s) = refl

late_next : (n t : ℕ) (o : Option ℕ) → t < n
    → is_some_and o (λ s. nat_le (s + 2) n) ≡ is_some_and
    (greater_of (option_map (λ s. s + 2) o) (Some (t + 1))) (λ f. nat_le f n)
unfolding is_some_and greater_of
late_next n t None l = refl
late_next n t (Some s) l =
    elim (cases_lt n (s + 2)) [
      | inl before ↦ lt-leb (s + 2) n before ∙ sym (lt-leb (max (s + 2) (t + 1)) n (omega arith))
      | inr after ↦ le-leb (s + 2) n after ∙ sym (le-leb (max (s + 2) (t + 1)) n (omega arith))
    ]

late_answer : (h : Trace) (i : ℕ) → Orderly h → transfer_of h ≡ None → response_count h ≡ i
    → is_some_and (snoop_end_of h i) (λ t. nat_le (t + 2) (length h))
    ≡ is_some_and (answer_from h i) (λ f. nat_le f (length h))
unfolding answer_from two_after_snoop
late_answer h zero o f c = late_first h (snoop_end_of h 0)
late_answer h (suc i) o f c =
    let r = (ends_to-still h o f).reached i (omega arith) in
    late_next (length h) r.0 (snoop_end_of h (suc i)) r.2
    ∙ ap (λ t. is_some_and (greater_of (option_map (λ s. s + 2) (snoop_end_of h (suc i))) t) (λ g. nat_le g (length h)))
    (sym (ap (option_map (λ t. t + 1)) r.1))

-- where no transfer is on the way
may_still : (h : Trace) → Orderly h → transfer_of h ≡ None
    → is_some_and (answer_from h (response_count h)) (λ f. nat_le f (length h)) ≡ may_answer_next h
unfolding may_answer_next
may_still h o f = sym (late_answer h (response_count h) o f refl) ∙ sym (rw f (and-true _))

none_from : (p : Phases) (h : Trace) (k : ℕ) → Stands p h → transfer_of h ≡ Some k → p.from ≡ None
none_from p h k st e =
    let parts = transfer_parts h k e in
    st.from ∙ ap (answer_from h) parts.1
    ∙ no_answer-before h parts.0 ((ends_to-moving h k parts.0 st.orderly e parts.1).above parts.0 (omega arith))

may_cases : (p : Phases) (h : Trace) (t : Option ℕ) → Stands p h → transfer_of h ≡ t
    → is_some_and p.from (λ f. nat_le f (length h)) ≡ may_answer_next h
unfolding may_answer_next
may_cases p h None k e = ap (λ o. is_some_and o (λ f. nat_le f (length h))) k.from ∙ may_still h k.orderly e
may_cases p h (Some n) k e =
    ap (λ o. is_some_and o (λ f. nat_le f (length h))) (none_from p h n k e) ∙ is_some_and-none _
    ∙ sym (and_right _ (is_none (transfer_of h)) (rw e refl))

pub may_is : (p : Phases) (h : Trace) → Stands p h
    → is_some_and p.from (λ f. nat_le f (length h)) ≡ may_answer_next h
may_is p h k = may_cases p h (transfer_of h) k refl

-- so it is where the next clock is the response clock of the next request to respond
waited : (g : ℕ → ℕ) (o : Option ℕ) (n : ℕ) → is_at (option_map g o) n ≡ true → (f : ℕ) × (o ≡ Some f) × (g f ≡ n)
unfolding is_at is_some_and
waited g None n t = absurd (let none : ⊥ = cc in none)
waited g (Some f) n t = (f, refl, eqb-true (g f) n t)

response_may : (h : Trace) (i w : ℕ) (t : Bool) → Orderly h → transfer_of h ≡ None → response_count h ≡ i
    → is_response_from t (answer_from h i) (ready_clock_of h i) w (length h) ≡ true → may_answer_next h ≡ true
unfolding is_response_from is_some_and may_answer_next
response_may h i w false o s c e =
    let k = waited (λ f. f + w) (answer_from h i) (length h) e in
    sym (may_still h o s) ∙ (rw (c, k.1) (le-leb k.0 (length h) (omega (arith, k.2))))
response_may h i w true o s c e =
    let k = waited (λ y. y + 2 + w) (ready_clock_of h i) (length h) e in
    let r = has_ready h i k.0 k.1 in
    let a = after_answer h i r.after r.is_after in
    rw (c, a.is_snoop, s)
    (and_from _ _ (le-leb (a.snoop + 2) (length h) (omega (arith, a.before, r.above, k.2))) refl)

-- the sample responds: the oldest request may respond, and the sample has its code
pub record Answering (h : Trace) (queue : List Entry) (e : ℕ) (x : Sample) : Type 0 where
  pub head : Entry
  pub at : slice_get queue 0 ≡ Some head
  pub code : response_of x ≡ settled_code head
  pub count : response_count h ≡ e
  pub may : may_answer_next h ≡ true

not_yet : (h : Trace) (e r : ℕ) → response_clock_of h e ≡ Some r → is_none (response_clock_of h e) ≡ true → ⊥
not_yet h e r f t = both_ways (is_none (response_clock_of h e)) (rw f refl) t

response_parts : (h : Trace) (y : Entry) (i : ℕ) → rank_of h y ≡ i → has_response h y ≡ true
    → (is_none (response_clock_of h i) ≡ true)
    × (is_response_from (takes h i) (answer_from h i) (ready_clock_of h i) y.choice.resp (length h) ≡ true)
unfolding has_response
response_parts h y i f t = and_parts _ _ (sym (ap (λ j. is_none (response_clock_of h j)
    && is_response_from (takes h j) (answer_from h j) (ready_clock_of h j) y.choice.resp (length h)) f) ∙ t)

-- the code that is driven is of the oldest, where it responds
code_of_head : (h : Trace) (o : Option Entry)
    → not (nat_eq (option_map_or settled_code (if_passes (has_response h) o) 0) 0) ≡ true
    → (y : Entry) × (o ≡ Some y) × (has_response h y ≡ true)
code_of_head h None t = absurd (let no : ⊥ = cc in no)
code_of_head h (Some y) t =
    elim (cases_Bool (has_response h y)) [
      | inl r ↦ (y, refl, r)
      | inr f ↦ absurd (let none : ⊥ = cc in none)
    ]

pub answering : (h : Trace) (queue : List Entry) (e : ℕ) (x : Sample) → Orderly h → Held queue h → Far h e
    → response_of x ≡ (drive_of h queue).rs → responds x ≡ true → Answering h queue e x
unfolding drive_of responds
answering h queue e x o f w c t =
    let first = find-first (has_response h) queue (λ j y l g. (idle-later h queue e j y f w l g).response) in
    let code = c ∙ ap (λ z. option_map_or settled_code z 0) first in
    let y = code_of_head h (slice_get queue 0) (sym (ap (λ n. not (nat_eq n 0)) code) ∙ t) in
    let here = placed h queue e 0 y.0 f w.ends y.1 in
    let number : rank_of h y.0 ≡ e = here.number ∙ (let same : e + 0 ≡ e = omega arith in same) in
    let parts = response_parts h y.0 e number y.2 in
    elim w.head [
      | inl still ↦ record {
        head = y.0;
        at = y.1;
        code = rw (y.1, y.2) at code;
        count = still.1;
        may = response_may h e y.0.choice.resp (takes h e) o still.0 still.1 parts.1;
      }
      | inr moving ↦ absurd (not_yet h e moving.1 moving.4 parts.0)
    ]

-- whether data move with the response
begins : (h : Trace) (queue : List Entry) (e : ℕ) (x : Sample) → Held queue h → EndsTo h e
    → Answering h queue e x → does_move (told_by h (response_count h) (response_of x))
    ≡ is_some_and (slice_get queue 0) is_moving
unfolding is_some_and
begins h queue e x f to a =
    let here = placed h queue e 0 a.head f to a.at in
    let number : rank_of h a.head ≡ e = here.number ∙ (let same : e + 0 ≡ e = omega arith in same) in
    let set = f.settled 0 a.head a.at in
    let p = may_answer_next-parts h a.may in
    told-is h a.head set.0 (response_count h) p.0 (response_of x) set.1 (number ∙ sym a.count) p.1 a.code
    ∙ sym (rw a.at refl)

pub moves_is : (h : Trace) (x : Sample) (v : Trace) (queue : List Entry) (e s : ℕ) → OneMore h x v
    → SnoopsTo h s → Held queue h → EndsTo h e → Answering h queue e x → responds x ≡ true
    → is_some_and (slice_get queue 0) is_moving ≡ moves_data v (response_count h)
moves_is h x v queue e s m to f ends a t =
    sym (moves_new h x v s m to (answered_below h s to a.may) t ∙ begins h queue e x f ends a)
