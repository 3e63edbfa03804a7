-- TRDY#, responses and data are due of the oldest request alone, and by what the phases keep.
use Rattle.std.proofs.Common.{ℕ, zero, suc, ◌+◌, ◌-◌, ◌<◌, ◌≤◌, ◌≡◌, Bool, true, false, ◌&&◌, cond, Option, Some, None}
use Rattle.std.proofs.Common.{List, length, is_some, is_none, refl, sym, ap, ◌∙◌, ◌⊎◌, inl, inr, arith}
use Rattle.std.specs.List.{slice_get}
use Rattle.std.specs.Option.{option_map}
use Rattle.std.proofs.lemmas.Bool.{cases_Bool, cases_lt, and_right}
use Rattle.fsb_count.specs.Options.{is_some_and, is_at, greater_of}
use Rattle.fsb_trace.specs.At.{Trace}
use Rattle.fsb_trace.specs.Snoop.{snoop_end_of}
use Rattle.fsb_trace.specs.Outcome.{response_clock_of}
use Rattle.fsb_trace.specs.Response.{takes, end_of, clock_after_snoop, ready_after, ready_clock_of, two_after_snoop}
use Rattle.fsb_trace.specs.Response.{answer_from}
use Rattle.fsb_trace.specs.Timing.{is_ready_from, is_response_from}
use Rattle.fsb_laws.specs.Orderly.{Orderly}
use Rattle.fsb_laws.specs.Progress.{SnoopsTo, EndsTo, response_count, transfer_of}
use Rattle.fsb_laws.proofs.Interface.{response_past, response_there, has_answer, ends_to-still, ends_to-moving}
use Rattle.fsb_laws.proofs.Interface.{transfer_parts}
use Rattle.fsb_queue.specs.declared.entry.Entry.{Entry}
use Rattle.fsb_phase.specs.declared.phases.Phases.{Phases}
use Rattle.fsb_phase.specs.Due.{rank_of, has_ready, has_response, response_to_now, is_moving, due_chunk, keeps_busy}
use Rattle.fsb_heads.specs.Heads.{value_before, snooped_count}
use Rattle.fsb_heads.proofs.Interface.{snoops_to}
use Rattle.fsb_phase.specs.Phases.{Stands, last_response}
use Rattle.fsb_phase.proofs.Entries.{IsSettled, Held, placed}
use Rattle.fsb_phase.proofs.Settled.{is_taking, taking-is}
use Rattle.fsb_phase.proofs.Snoops.{Meets, after_none}

-- where the request before has not ended, or there is no snoop end yet, a request is not answered and not ready
none_after : (o : Option ℕ) → greater_of None o ≡ None
unfolding greater_of
none_after o = refl

pub no_answer-before : (h : Trace) (i : ℕ) → end_of h i ≡ None → answer_from h (suc i) ≡ None
unfolding answer_from
no_answer-before h i e = after_none (two_after_snoop h (suc i)) (option_map (λ t. t + 1) (end_of h i))
    (ap (option_map (λ t. t + 1)) e)

no_ready-before : (h : Trace) (i : ℕ) → end_of h i ≡ None → ready_clock_of h (suc i) ≡ None
unfolding ready_clock_of ready_after
no_ready-before h i e = rw (after_none (clock_after_snoop h (suc i)) (end_of h i) e) refl

pub no_answer-snoop : (h : Trace) (i : ℕ) → snoop_end_of h i ≡ None → answer_from h i ≡ None
unfolding answer_from two_after_snoop
no_answer-snoop h zero e = rw e refl
no_answer-snoop h (suc i) e = rw e (none_after (option_map (λ t. t + 1) (end_of h i)))

no_ready-snoop : (h : Trace) (i : ℕ) → snoop_end_of h i ≡ None → ready_clock_of h i ≡ None
unfolding ready_clock_of ready_after clock_after_snoop
no_ready-snoop h zero e = rw e refl
no_ready-snoop h (suc i) e = rw (e, none_after (end_of h i)) refl

-- how far an orderly history has come: the live requests below e have their end, and either no transfer is on the way
-- and the oldest request is the next to respond, or it has responded and its transfer is on the way
pub record Far (h : Trace) (e : ℕ) : Type 0 where
  pub ends : EndsTo h e
  pub later : (i : ℕ) → e < i → response_clock_of h i ≡ None
  pub head : ((transfer_of h ≡ None) × (response_count h ≡ e))
      ⊎ ((k r : ℕ) × (transfer_of h ≡ Some k) × (response_count h ≡ suc e) × (response_clock_of h e ≡ Some r))
  pub within : e ≤ response_count h

far_by : (h : Trace) (t : Option ℕ) → Orderly h → transfer_of h ≡ t → (e : ℕ) × Far h e
far_by h None o f = (
  response_count h,
  record {
    ends = ends_to-still h o f;
    later = λ i l. response_past h i (omega arith);
    head = inl (f, refl);
    within = omega arith;
  },
)
far_by h (Some k) o f =
    let p = transfer_parts h k f in
    let i : ℕ = p.0 in
    let count : response_count h ≡ suc i = p.1 in
    let r = response_there h i (omega arith) in (
      i,
      record {
        ends = ends_to-moving h k i o f count;
        later = λ j l. response_past h j (omega arith);
        head = inr (k, r.0, f, count, r.1);
        within = omega arith;
      },
    )

pub far : (h : Trace) → Orderly h → (e : ℕ) × Far h e
far h o = far_by h (transfer_of h) o refl

responses_snooped : (h : Trace) (s : ℕ) → Orderly h → SnoopsTo h s → response_count h ≤ s
responses_snooped h s o to =
    elim (cases_lt s (response_count h)) [
      | inr l ↦ l
      | inl l ↦
          let r = response_there h s l in
          let a = has_answer h r.0 s (o.timely s r.0 r.1) in
          absurd (let f = a.is_snoop in (let g = to.next in (let none : ⊥ = cc in none)))
    ]

pub meets : (h : Trace) (queue : List Entry) (e : ℕ) → Orderly h → Held queue h → Far h e
    → Meets h queue e (snooped_count h)
meets h queue e o f w =
    let to = snoops_to h in
    let within : response_count h ≤ snooped_count h = responses_snooped h (snooped_count h) o to in
    let low : e ≤ response_count h = w.within in
    record { ends = w.ends; snoops = to; order = omega arith; flight = f }

-- nothing is due of a request that is not answered yet
not_ready : (wait c : ℕ) → is_ready_from None wait c ≡ false
unfolding is_ready_from is_at is_some_and
not_ready wait c = refl

not_response : (t : Bool) (wait c : ℕ) → is_response_from t None None wait c ≡ false
unfolding is_response_from is_at is_some_and
not_response true wait c = refl
not_response false wait c = refl

no_ready : (h : Trace) (y : Entry) (i : ℕ) → rank_of h y ≡ i → answer_from h i ≡ None → has_ready h y ≡ false
unfolding has_ready
no_ready h y i f g =
    and_right (is_none (response_clock_of h (rank_of h y)) && takes h (rank_of h y)) _
    (rw (f, g) (not_ready y.choice.trdy (length h)))

no_response : (h : Trace) (y : Entry) (i : ℕ) → rank_of h y ≡ i → answer_from h i ≡ None
    → ready_clock_of h i ≡ None → has_response h y ≡ false
unfolding has_response
no_response h y i f g r =
    and_right (is_none (response_clock_of h (rank_of h y))) _
    (rw (f, g, r) (not_response (takes h i) y.choice.resp (length h)))

to_form : (h : Trace) (y : Entry) (i : ℕ) (o : Option ℕ) → rank_of h y ≡ i → response_clock_of h i ≡ o
    → response_to_now h y ≡ elim o as (λ z. Option ℕ) [
      | Some r ↦ Some r
      | None ↦ cond (has_response h y) (Some (length h)) None
    ]
unfolding response_to_now
to_form h y i o f g =
    ap (λ (u : Option ℕ). elim u as (λ z. Option ℕ) [
      | Some r ↦ Some r
      | None ↦ cond (has_response h y) (Some (length h)) None
    ])
    (ap (response_clock_of h) f ∙ g)

-- of a request that is not the oldest nothing is due
pub record Idle (h : Trace) (y : Entry) : Type 0 where
  pub ready : has_ready h y ≡ false
  pub response : has_response h y ≡ false
  pub busy : keeps_busy h y ≡ false
  pub chunk : is_some (due_chunk h y) ≡ false

idle : (h : Trace) (y : Entry) → has_ready h y ≡ false → has_response h y ≡ false → response_to_now h y ≡ None
    → Idle h y
unfolding keeps_busy due_chunk is_some_and
idle h y ready response none = record {
  ready = ready;
  response = response;
  busy = and_right (is_moving y) _ (rw none refl);
  chunk = elim (cases_Bool (is_moving y)) [ inl t ↦ (rw (t, none) refl) | inr u ↦ (rw u refl) ];
}

pub idle-later : (h : Trace) (queue : List Entry) (e j : ℕ) (y : Entry) → Held queue h → Far h e → 0 < j
    → slice_get queue j ≡ Some y → Idle h y
idle-later h queue e j y f w l g =
    let here = placed h queue e j y f w.ends g in
    let i : ℕ = e + (j - 1) in
    let number : rank_of h y ≡ suc i = here.number ∙ (let same : e + j ≡ suc i = omega arith in same) in
    let before : end_of h i ≡ None = w.ends.above i (omega arith) in
    let response : has_response h y ≡ false =
    no_response h y (suc i) number (no_answer-before h i before) (no_ready-before h i before) in
    idle h y (no_ready h y (suc i) number (no_answer-before h i before)) response
    (to_form h y (suc i) None number (w.later (suc i) (omega arith)) ∙ (rw response refl))

-- what is due of the oldest request shows in its outcome, where its snoop end is reached
open_ready : (h : Trace) (y : Entry) (turn i : ℕ) (o : Option ℕ) → IsSettled h y turn → rank_of h y ≡ i
    → snoop_end_of h i ≡ o → (is_taking y && is_ready_from (answer_from h i) y.choice.trdy (length h))
    ≡ (takes h i && is_ready_from (answer_from h i) y.choice.trdy (length h))
open_ready h y turn i (Some s) k f g = rw (taking-is h y turn i s k f g) refl
open_ready h y turn i None k f g =
    and_right (is_taking y) _ (rw (no_answer-snoop h i g) (not_ready y.choice.trdy (length h)))
    ∙ sym (and_right (takes h i) _ (rw (no_answer-snoop h i g) (not_ready y.choice.trdy (length h))))

open_response : (h : Trace) (y : Entry) (turn i : ℕ) (o : Option ℕ) → IsSettled h y turn → rank_of h y ≡ i
    → snoop_end_of h i ≡ o → is_response_from (is_taking y) (answer_from h i) (ready_clock_of h i) y.choice.resp
    (length h) ≡ is_response_from (takes h i) (answer_from h i) (ready_clock_of h i) y.choice.resp (length h)
open_response h y turn i (Some s) k f g = rw (taking-is h y turn i s k f g) refl
open_response h y turn i None k f g =
    rw (no_answer-snoop h i g, no_ready-snoop h i g) (not_response (is_taking y) y.choice.resp (length h)
    ∙ sym (not_response (takes h i) y.choice.resp (length h)))

last_is : (h : Trace) (e r : ℕ) → response_count h ≡ suc e → response_clock_of h e ≡ Some r
    → last_response h ≡ Some r
unfolding last_response value_before
last_is h e r f g = rw f g

module _ {p : Phases} {h : Trace} {queue : List Entry} {y : Entry} (k : Stands p h) (f : Held queue h)
    (g : slice_get queue 0 ≡ Some y) where
  head_number : (e : ℕ) → Far h e → rank_of h y ≡ e
  head_number e w = (placed h queue e 0 y f w.ends g).number ∙ (let same : e + 0 ≡ e = omega arith in same)

  -- whether the next clock is its ready clock, and whether it is its response clock
  pub head_ready : (b : Bool) → is_taking y ≡ b
      → (b && is_ready_from p.from y.choice.trdy (length h)) ≡ has_ready h y
  unfolding has_ready
  head_ready b taking =
      let w = far h k.orderly in
      let e : ℕ = w.0 in
      let number : rank_of h y ≡ e = head_number e w.1 in
      let set = f.settled 0 y g in
      elim w.1.head [
        | inl still ↦
            rw (← taking, k.from, still.1, number, response_past h e (omega (arith, still.1)))
            (open_ready h y set.0 e (snoop_end_of h e) set.1 number refl)
        | inr moving ↦
            rw (k.from, moving.3, no_answer-before h e (w.1.ends.above e (omega arith)), number, moving.4)
            (and_right b _ (not_ready y.choice.trdy (length h)))
      ]

  pub head_response : is_response_from (is_taking y) p.from (ready_clock_of h (response_count h)) y.choice.resp
      (length h) ≡ has_response h y
  unfolding has_response
  head_response =
      let w = far h k.orderly in
      let e : ℕ = w.0 in
      let number : rank_of h y ≡ e = head_number e w.1 in
      let set = f.settled 0 y g in
      elim w.1.head [
        | inl still ↦
            rw (k.from, still.1, number, response_past h e (omega (arith, still.1)))
            (open_response h y set.0 e (snoop_end_of h e) set.1 number refl)
        | inr moving ↦
            let ended = w.1.ends.above e (omega arith) in
            rw (k.from, moving.3, no_answer-before h e ended, no_ready-before h e ended, number, moving.4)
            (not_response (is_taking y) y.choice.resp (length h))
      ]

  -- its response clock, up to the next clock
  pub head_moving : is_some (transfer_of h) ≡ true → p.response ≡ response_to_now h y
  head_moving t =
      let w = far h k.orderly in
      elim w.1.head [
        | inl still ↦ absurd (let wrong = rw still.0 at t in let no : ⊥ = cc in no)
        | inr moving ↦
            k.response ∙ last_is h w.0 moving.1 moving.3 moving.4
            ∙ sym (to_form h y w.0 (Some moving.1) (head_number w.0 w.1) moving.4)
      ]

  pub head_still : (b : Bool) → is_some (transfer_of h) ≡ false → has_response h y ≡ b
      → cond b (Some (length h)) None ≡ response_to_now h y
  head_still b t same =
      let w = far h k.orderly in
      elim w.1.head [
        | inl still ↦
            ap (λ a. cond a (Some (length h)) None) (sym same)
            ∙ sym (to_form h y w.0 None (head_number w.0 w.1) (response_past h w.0 (omega (arith, still.1))))
        | inr moving ↦ absurd (let wrong = rw moving.2 at t in let no : ⊥ = cc in no)
      ]
