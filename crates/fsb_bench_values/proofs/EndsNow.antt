-- The end of a bench's clock, if there is one: that of the oldest request, with its snoop end and what it serves.
use Rattle.fsb_bench_values.proofs.Words
use Words.{ℕ, ◌+◌, ◌≡◌, ◌⊎◌, Bool, true, false, List, [], ◌∷◌, ◌++◌, Option, Some, None, length, refl, sym, ap, subst}
use Words.{◌∙◌, inl, inr, arith, find, slice_get, option_and_then, option_map, option_map_or, both_ways}
use Words.{false_from_ne_true, is_at, is_some_and, Choice, get-there, has_end_at, phased_at, find-cases, find-off}
use Words.{find-place, HoldsRequests, ended-now, snooped-same, Entry, Reaches, ended-number, live-at, number-ended}
use Words.{orderly-whole, is_end_at, snooped_at, GrowsTo, SnoopEnd, Run, past_of, requests_below, IsSnoopOf, snoop-tied}
use Words.{Outcome, Starting, Served, SnoopSettled, step_answered, step_decided, step_ending, step_performed}
use Words.{step_phased, step_run, step_started, bus_answered, bus_cancelled, bus_snooped, bus_started, ending_by}
use Words.{BenchView, BusView, next_clock_of, head_outcome, IsBenchOf, IsEnding, ending-of, grows-to, head-ends}
use Words.{head-settled, queue-answered, reaches-step, same-performed}
use Rattle.std.proofs.Common.{is_none}
use Rattle.fsb_phase.specs.declared.drive.Phased.{Phased}
use Rattle.fsb_bench_values.proofs.ServesLine.{HasSnoopEnd, ServesLine, serves-line}

one-of : {X : Type 0} (a b : X) → Some a ≡ Some b → a ≡ b
one-of a b e = cc

-- what is served before an end: what was, and that of the snoop end
started-served : (bus : BusView) (clock : ℕ) (o : Option Starting)
    → (option_map_or (bus_started bus clock) o bus).served ≡ bus.served
started-served bus clock o = grind arith

cancelled-served : (bus : BusView) (o : Option Entry) → (option_map_or (bus_cancelled bus) o bus).served ≡ bus.served
cancelled-served bus o = grind arith

snooped-served : (bus : BusView) (x : Served) (o : Option SnoopSettled) → slice_get bus.served 0 ≡ Some x
    → slice_get (option_map_or (bus_snooped bus) o bus).served 0 ≡ Some x
snooped-served bus x None e = e
snooped-served bus x (Some y) e = by bus.served e
  where
    by : (xs : List Served) → slice_get xs 0 ≡ Some x → slice_get (xs ++ y.served ∷ []) 0 ≡ Some x
    by [] f = absurd (let no : ⊥ = cc in no)
    by (z ∷ zs) f = f

answered-served : (bus : BusView) (clock : ℕ) (o : Option Entry)
    → (option_map_or (bus_answered bus clock) o bus).served ≡ bus.served
answered-served bus clock o = grind arith

served-answered : (v : BenchView) (hold : Bool) (x : Served) → slice_get v.bus.served 0 ≡ Some x
    → slice_get (step_answered v hold).served 0 ≡ Some x
served-answered v hold x e =
    let before = cancelled-served (step_started v hold) (step_decided v hold).cancelled
    ∙ started-served (step_performed v) (next_clock_of v) (step_decided v hold).starting ∙ (same-performed v).served in
    grind (arith, answered-served, snooped-served)

ending-there : (bus : BusView) (phased : Phased) (served : Served) (outcome : Outcome) → is_none phased.ended ≡ false
    → slice_get bus.served 0 ≡ Some served → head_outcome bus ≡ Some outcome
    → ending_by bus phased ≡ Some (record { served = served; outcome = outcome })
ending-there bus phased served outcome some first head = rw (some, first, head) refl

ending-none : (bus : BusView) (phased : Phased) → is_none phased.ended ≡ true → ending_by bus phased ≡ None
ending-none bus phased none = rw none refl

-- the oldest request ends at the clock
pub record EndsNow (v : BenchView) (hold : Bool) (choice : Choice) : Type 0 where
  pub entry : Entry
  pub oldest : slice_get v.bus.queue 0 ≡ Some entry
  pub is : IsEnding v.run (step_run v hold choice) entry
  pub end : SnoopEnd
  pub tied : IsSnoopOf v.run is.number is.snoop end
  pub first : end.first ≡ entry.clock
  pub there : snooped_at (past_of (step_run v hold choice)) is.snoop ≡ Some end
  pub ends : is_end_at (past_of (step_run v hold choice)) (next_clock_of v) end.first ≡ true
  pub served : Served
  pub serves : ServesLine entry served end
  pub ending : step_ending v hold ≡ Some (record { served = served; outcome = end.outcome })

-- none does
pub record EndsNot (v : BenchView) (hold : Bool) (choice : Choice) : Type 0 where
  pub ending : step_ending v hold ≡ None
  pub none : (q : ℕ) → is_end_at (past_of (step_run v hold choice)) (next_clock_of v) q ≡ false

none-ends : (r s : Run) (queue : List Entry) (q : ℕ) → GrowsTo r s → Reaches s (length r.trace + 1)
    → HoldsRequests queue r → find (has_end_at s.trace (length r.trace)) queue ≡ None
    → is_end_at (past_of s) (length r.trace) q ≡ false
unfolding phased_at is_at is_some_and
none-ends r s queue q grows h f off =
    let n = length r.trace in
    let long = h.long in
    false_from_ne_true (is_end_at (past_of s) n q) (λ ends.
    let i = ended-number s n q h.timely (omega arith) ends in
    let ads = (live-at s.trace i.0 q i.1.first).asks in
    let now = ended-now r s queue q grows f (orderly-whole s n h.timely (omega arith)) ads in
    let none = ap (λ o. is_at (option_map (λ (x : Entry). x.number) o) (requests_below s.trace q)) off in
    both_ways (is_end_at (past_of s) n q) (sym now ∙ none) ends)

-- the end of this entry
ends-now : (v : BenchView) (hold : Bool) (choice : Choice) (e : Entry) → IsBenchOf v → slice_get v.bus.queue 0 ≡ Some e
    → (d : IsEnding v.run (step_run v hold choice) e) → is_none (step_phased v hold).ended ≡ false
    → EndsNow v hold choice
ends-now v hold choice e b head d some =
    let r = v.run in
    let s = step_run v hold choice in
    let n = next_clock_of v in
    let grows = grows-to v hold choice b in
    let h = reaches-step v hold choice b in
    let long = h.long in
    let before = d.before in
    let upto = d.upto in
    let tied = snoop-tied r d.number d.snoop d.settled in
    let first = one-of tied.0.first e.clock (sym tied.1.first ∙ d.old) in
    let there = sym (snooped-same r s d.snoop grows (omega arith)) ∙ tied.1.there in
    let told : e.outcome ≡ Some tied.0.outcome = grind arith in
    let place = head-settled v.bus.queue e tied.0.outcome head told in
    let low = place.1 in
    let count = b.served.count in
    let x = get-there v.bus.served 0 (omega (arith, low, count)) in
    let serving = b.served.each 0 e x.0 place.0 x.1 in
    let outcome = ap (λ queue. option_and_then (λ (y : Entry). y.outcome) (slice_get queue 0)) (queue-answered v hold)
    ∙ ap (option_and_then (λ (y : Entry). y.outcome)) head ∙ told in
    let has : HasSnoopEnd r e tied.0 = record {
      number = d.number;
      rank = d.rank;
      old = d.old;
      snoop = d.snoop;
      near = omega arith;
      above = d.above;
      tied = tied.1;
      first = first;
    } in
    record {
      entry = e;
      oldest = head;
      is = d;
      end = tied.0;
      tied = tied.1;
      first = first;
      there = there;
      ends = subst (λ q. is_end_at (past_of s) n q ≡ true) (sym first)
          (number-ended s d.number n e.clock (omega arith) (orderly-whole s n h.timely (omega arith))
          (record { end = d.end; first = d.first }));
      served = x.0;
      serves = serves-line r e x.0 tied.0 b.timely b.bounds has (b.entries.begun 0 e head) serving;
      ending = ending-there (step_answered v hold) (step_phased v hold) x.0 tied.0.outcome some
          (served-answered v hold x.0 x.1) outcome;
    }

pub ends-cases : (v : BenchView) (hold : Bool) (choice : Choice) → IsBenchOf v
    → EndsNow v hold choice ⊎ EndsNot v hold choice
unfolding phased_at
ends-cases v hold choice b =
    let r = v.run in
    let s = step_run v hold choice in
    let n = next_clock_of v in
    let queue = v.bus.queue in
    let f = b.requests in
    let grows = grows-to v hold choice b in
    let h = reaches-step v hold choice b in
    elim (find-cases (has_end_at s.trace n) queue) [
      | inl c ↦
          let e = c.item in
          let found = find-place (has_end_at s.trace n) queue c.place e c.at c.passes c.before in
          let head = head-ends r s queue c.place e grows h.timely f c.at c.passes in
          let d = ending-of r s queue c.place e grows h.timely f c.at c.passes in
          inl (ends-now v hold choice e b head d (ap (λ o. is_none (option_map (λ (x : Entry). x.number) o)) found))
      | inr g ↦
          let off = find-off (has_end_at s.trace n) queue g in
          inr (record {
            ending = ending-none (step_answered v hold) (step_phased v hold)
                (ap (λ o. is_none (option_map (λ (x : Entry). x.number) o)) off);
            none = λ q. none-ends r s queue q grows h f off;
          })
    ]
