-- The end that a bench hears at its clock, if there is one, is that of its run.
use Rattle.fsb_bench_run.proofs.Words
use Words.{ℕ, ◌+◌, ◌<◌, ◌≡◌, ◌⊎◌, Bool, true, false, Option, Some, None, List, [], ◌∷◌, ◌++◌, is_none, length, refl}
use Words.{sym, ap, subst, ◌∙◌, arith, inl, inr, find, slice_get, option_and_then, option_map, option_map_or, both_ways}
use Words.{Done, EndsFor, NothingEndsFor, is_at, is_some_and, Choice, get-there, has_end_at, phased_at, find-cases}
use Words.{find-off, find-place, ended-now, Entry, Reaches, ended-number, live-at, orderly-whole, HoldsRequests}
use Words.{is_end_at, GrowsTo, turns_in, SnoopEnd, Run, past_of, requests_below, snoop-tied, is_deferral}
use Words.{settled_outcome_of, Outcome, Ending, Served, SnoopSettled, step_answered, step_cancelled, step_decided}
use Words.{step_drive, step_ending, step_phased, step_snooped, answered_by, bus_answered, bus_snooped, ending_by}
use Words.{BenchView, BusView, next_clock_of, head_outcome, HasServed, IsServed, settled_entries}
use Rattle.fsb_phase.specs.declared.drive.Phased.{Phased}
use Rattle.fsb_bench_run.proofs.EndHeard.{IsEndHeard, end-heard}
use Rattle.fsb_bench_run.proofs.EndPlaces.{ending-of, head-ends}
use Rattle.fsb_bench_run.proofs.RunWith.{run_with}
use Rattle.fsb_bench_run.proofs.SameBus.{same-performed}
use Rattle.fsb_bench_run.proofs.StepWith.{IsStepWith}

snooped-queue : (bus : BusView) (o : Option SnoopSettled) → (option_map_or (bus_snooped bus) o bus).queue ≡ bus.queue
snooped-queue bus o = grind arith

answered-queue : (bus : BusView) (clock : ℕ) (o : Option Entry)
    → (option_map_or (bus_answered bus clock) o bus).queue ≡ bus.queue
answered-queue bus clock o = grind arith

pub queue-snooped : (v : BenchView) (hold : Bool) → (step_snooped v hold).queue ≡ v.bus.queue
queue-snooped v hold = grind (arith, snooped-queue, same-performed)

pub queue-answered : (v : BenchView) (hold : Bool) → (step_answered v hold).queue ≡ v.bus.queue
queue-answered v hold =
    answered-queue (step_snooped v hold) (next_clock_of v) (answered_by (step_snooped v hold) (step_drive v))
    ∙ queue-snooped v hold

snooped-served : (bus : BusView) (x : Served) (o : Option SnoopSettled) → slice_get bus.served 0 ≡ Some x
    → slice_get (option_map_or (bus_snooped bus) o bus).served 0 ≡ Some x
snooped-served bus x None e = e
snooped-served bus x (Some y) e = by bus.served e
  where
    by : (xs : List Served) → slice_get xs 0 ≡ Some x → slice_get (xs ++ y.served ∷ []) 0 ≡ Some x
    by [] f = absurd (let no : ⊥ = cc in no)
    by (z ∷ zs) f = f

pub served-cancelled : (v : BenchView) (hold : Bool) → (step_cancelled v hold).served ≡ v.bus.served
served-cancelled v hold = grind (arith, same-performed)

pub served-unanswered : (v : BenchView) (hold : Bool) → (step_answered v hold).served ≡ (step_snooped v hold).served
served-unanswered v hold = grind arith

served-answered : (v : BenchView) (hold : Bool) (x : Served) → slice_get v.bus.served 0 ≡ Some x
    → slice_get (step_answered v hold).served 0 ≡ Some x
served-answered v hold x e =
    ap (λ xs. slice_get xs 0) (served-unanswered v hold)
    ∙ snooped-served (step_cancelled v hold) x (step_decided v hold).snooped
    (ap (λ xs. slice_get xs 0) (served-cancelled v hold) ∙ e)

ending-there : (bus : BusView) (phased : Phased) (served : Served) (outcome : Outcome) → is_none phased.ended ≡ false
    → slice_get bus.served 0 ≡ Some served → head_outcome bus ≡ Some outcome
    → ending_by bus phased ≡ Some (record { served = served; outcome = outcome })
ending-there bus phased served outcome some first head = rw (some, first, head) refl

ending-none : (bus : BusView) (phased : Phased) → is_none phased.ended ≡ true → ending_by bus phased ≡ None
ending-none bus phased none = rw none refl

pub head-settled : (queue : List Entry) (e : Entry) (o : Outcome) → slice_get queue 0 ≡ Some e → e.outcome ≡ Some o
    → (slice_get (settled_entries queue) 0 ≡ Some e) × (0 < length (settled_entries queue))
head-settled [] e o at settled = absurd (let no : ⊥ = cc in no)
head-settled (y ∷ queue) e o at settled = grind arith

-- a request ends at the clock
pub record EndsHere (v : BenchView) (hold : Bool) (choice : Choice) (entries : List Done) : Type 0 where
  pub entry : Entry
  pub oldest : slice_get v.bus.queue 0 ≡ Some entry
  pub ends : has_end_at (run_with v hold choice entries).trace (next_clock_of v) entry ≡ true
  pub served : Served
  pub serves : IsServed v.run entry served
  pub heard : IsEndHeard (run_with v hold choice entries) (next_clock_of v) served entry.outcome
  pub ending : step_ending v hold ≡ Some (record { served = served; outcome = heard.end.outcome })

-- none does
pub record EndsNone (v : BenchView) (hold : Bool) (choice : Choice) (entries : List Done) : Type 0 where
  pub ending : step_ending v hold ≡ None
  pub off : (k : ℕ) (e : Entry) → slice_get v.bus.queue k ≡ Some e
      → has_end_at (run_with v hold choice entries).trace (next_clock_of v) e ≡ false
  pub nothing : (a : ℕ) → NothingEndsFor (past_of (run_with v hold choice entries)) a (next_clock_of v)

-- the record of the end of the oldest request, which was settled so
ends-here : (v : BenchView) (hold : Bool) (choice : Choice) (entries : List Done) (e : Entry) (o : Outcome)
    → HasServed v.bus.served v.bus.queue v.run
    → slice_get v.bus.queue 0 ≡ Some e → e.outcome ≡ Some o → is_none (step_phased v hold).ended ≡ false
    → has_end_at (run_with v hold choice entries).trace (next_clock_of v) e ≡ true
    → ((served : Served) → IsServed v.run e served
    → IsEndHeard (run_with v hold choice entries) (next_clock_of v) served e.outcome)
    → EndsHere v hold choice entries
ends-here v hold choice entries e o has head settled some ends heard =
    let first = head-settled v.bus.queue e o head settled in
    let low = first.1 in
    let count = has.count in
    let x = get-there v.bus.served 0 (omega (arith, low, count)) in
    let is = has.each 0 e x.0 first.0 x.1 in
    let k = heard x.0 is in
    let outcome = ap (λ queue. option_and_then (λ (y : Entry). y.outcome) (slice_get queue 0)) (queue-answered v hold)
    ∙ ap (option_and_then (λ (y : Entry). y.outcome)) head ∙ k.outcome in
    record {
      entry = e;
      oldest = head;
      ends = ends;
      served = x.0;
      serves = is;
      heard = k;
      ending = ending-there (step_answered v hold) (step_phased v hold) x.0 k.end.outcome some
          (served-answered v hold x.0 x.1) outcome;
    }

-- where no entry of the queue ends, nothing does
nothing-ends : (r s : Run) (queue : List Entry) (a : ℕ) → GrowsTo r s → Reaches s (length r.trace + 1)
    → HoldsRequests queue r → find (has_end_at s.trace (length r.trace)) queue ≡ None
    → NothingEndsFor (past_of s) a (length r.trace)
unfolding phased_at is_at is_some_and
nothing-ends r s queue a grows h f off =
    let n = length r.trace in
    let long = h.long in
    record {
      none = λ first end ends below.
          let i = ended-number s n first h.timely (omega arith) ends in
          let ads = (live-at s.trace i.0 first i.1.first).asks in
          let now = ended-now r s queue first grows f (orderly-whole s n h.timely (omega arith)) ads in
          let none = ap (λ o. is_at (option_map (λ (x : Entry). x.number) o) (requests_below s.trace first)) off in
          absurd (both_ways (is_end_at (past_of s) n first) (sym now ∙ none) ends);
    }

pub end-cases : (v : BenchView) (hold : Bool) (choice : Choice) (entries : List Done) → IsStepWith v hold choice entries
    → Reaches (run_with v hold choice entries) (next_clock_of v + 1)
    → EndsHere v hold choice entries ⊎ EndsNone v hold choice entries
unfolding phased_at
end-cases v hold choice entries k h =
    let r = v.run in
    let s = run_with v hold choice entries in
    let n = next_clock_of v in
    let queue = v.bus.queue in
    let f = k.bench.requests in
    let long = h.long in
    elim (find-cases (has_end_at s.trace n) queue) [
      | inl c ↦
          let e = c.item in
          let found = find-place (has_end_at s.trace n) queue c.place e c.at c.passes c.before in
          let head = head-ends r s queue c.place e k.grows h.timely f c.at c.passes in
          let d = ending-of r s queue c.place e k.grows h.timely f c.at c.passes in
          let told : e.outcome ≡ settled_outcome_of r.trace (turns_in (past_of r).moments) d.number = grind arith in
          let heard = λ (served : Served) (is : IsServed r e served).
          end-heard r s e served k.grows h k.bench.bounds d told (k.bench.entries.begun c.place e c.at) is in
          let tied = snoop-tied r d.number d.snoop d.settled in
          inl (ends-here v hold choice entries e tied.0.outcome k.bench.served head (told ∙ tied.1.outcome)
          (ap (λ o. is_none (option_map (λ (x : Entry). x.number) o)) found) c.passes heard)
      | inr g ↦
          let off = find-off (has_end_at s.trace n) queue g in
          inr (record {
            ending = ending-none (step_answered v hold) (step_phased v hold)
                (ap (λ o. is_none (option_map (λ (x : Entry). x.number) o)) off);
            off = g;
            nothing = λ a. nothing-ends r s queue a k.grows h f off;
          })
    ]

-- what a bench hears of an end is that of its run
pub ending-heard : (v : BenchView) (hold : Bool) (choice : Choice) (entries : List Done) (x : Ending)
    → IsStepWith v hold choice entries → Reaches (run_with v hold choice entries) (next_clock_of v + 1)
    → step_ending v hold ≡ Some x → is_deferral x.outcome ≡ false
    → (end : SnoopEnd) × (end.outcome ≡ x.outcome)
    × EndsFor (past_of (run_with v hold choice entries)) x.served.agent (next_clock_of v) x.served.first end
ending-heard v hold choice entries x k h e kept = elim (end-cases v hold choice entries k h) [
  | inl c ↦
      let same = one (record { served = c.served; outcome = c.heard.end.outcome }) x (sym c.ending ∙ e) in
      let outcome : c.heard.end.outcome ≡ x.outcome = ap (λ (y : Ending). y.outcome) same in
      let served : c.served ≡ x.served = ap (λ (y : Ending). y.served) same in (
        c.heard.end,
        outcome,
        subst (λ (y : Served). EndsFor (past_of (run_with v hold choice entries)) y.agent (next_clock_of v)
            y.first c.heard.end)
            served
            (record {
              first = c.heard.first;
              ends = c.heard.ends;
              snooped = c.heard.snooped;
              left = c.heard.left (ap is_deferral outcome ∙ kept);
            }),
      )
  | inr c ↦ absurd (none (step_ending v hold) x c.ending e)
]
  where
    one : (a b : Ending) → Some a ≡ Some b → a ≡ b
    one a b e = cc

    none : (o : Option Ending) (y : Ending) → o ≡ None → o ≡ Some y → ⊥
    none o y e f = cc

pub ending-nothing : (v : BenchView) (hold : Bool) (choice : Choice) (entries : List Done) (a : ℕ)
    → IsStepWith v hold choice entries → Reaches (run_with v hold choice entries) (next_clock_of v + 1)
    → step_ending v hold ≡ None → NothingEndsFor (past_of (run_with v hold choice entries)) a (next_clock_of v)
ending-nothing v hold choice entries a k h e = elim (end-cases v hold choice entries k h) [
  | inr c ↦ c.nothing a
  | inl c ↦ absurd (none (step_ending v hold) (record { served = c.served; outcome = c.heard.end.outcome }) e c.ending)
]
  where
    none : (o : Option Ending) (y : Ending) → o ≡ None → o ≡ Some y → ⊥
    none o y e f = cc
