-- What requests serve, after a bench's clock: that of the longer run.
use Rattle.fsb_bench_run.proofs.Words
use Words.{ℕ, zero, suc, ◌+◌, ◌<◌, ◌≤◌, ◌≡◌, Bool, true, false, Option, Some, None, List, [], ◌∷◌, ◌++◌, append-nil}
use Words.{drop, is_none, is_some, length, map, refl, sym, ap, subst, ◌∙◌, ◌⊎◌, arith, inl, inr, filter, slice_get}
use Words.{option_map, option_map_or, both_ways, false_from_ne_true, filter-append, goes_on, settles, stays_in_flight}
use Words.{begun_list, Choice, leaves, cancels, rank_of, ends_snoop_at, has_end_at, snooped_count, snoops_to}
use Words.{not_reached_from, HoldsRequests, Entry, Sample, snooped_at, GrowsTo, SnoopEnd, Run, past_of, Timely}
use Words.{snoop-tied, Trace, live_number_of, snoop_end_of, Outcome, snoop_end_of-clock, Starting, Served}
use Words.{bench_stepped, outcome_snooped, step_answered, step_begun, step_cancelled, step_decided, step_ended}
use Words.{step_entries, step_performed, step_queue, step_run, step_sample, bus_ended, bus_snooped, entry_started}
use Words.{BenchView, BusView, next_clock_of, HasServed, IsBenchOf, IsServed, clock_served, settled_entries}
use Rattle.fsb_queue.specs.Entries.{with_outcome}
use Rattle.fsb_bench_run.proofs.EndCases.{EndsHere, EndsNone, end-cases, served-cancelled, served-unanswered}
use Rattle.fsb_bench_run.proofs.EndPlaces.{head-ends}
use Rattle.fsb_bench_run.proofs.LogsNow.{reaches-step}
use Rattle.fsb_bench_run.proofs.NextRun.{grows-to}
use Rattle.fsb_bench_run.proofs.ServedStays.{served-now, served-stays}
use Rattle.fsb_bench_run.proofs.SettledLists.{AreServed, filter-has, filter-swap, map-same, passes-now, served-drop}
use Rattle.fsb_bench_run.proofs.SettledLists.{served-push, stay-all, stay-later}
use Rattle.fsb_bench_run.proofs.SnoopCases.{SnoopsHere, SnoopsNone, snoop-cases}
use Rattle.fsb_bench_run.proofs.SnoopEntry.{ends-told, held-here, outcome-none, rank-rises, snoop-rank}
use Rattle.fsb_bench_run.proofs.SnoopHeard.{hears-snoop}
use Rattle.fsb_bench_run.proofs.StepEntries.{step-with}
use Rattle.fsb_bench_run.proofs.WaitingSnooped.{told-of}

-- the request has its snoop end
abbrev is_settled : Entry → Bool
is_settled e = is_some e.outcome

some-none : {X : Type 0} (o : Option X) → is_some o ≡ true → is_none o ≡ false
some-none o h1 = grind arith

none-some : {X : Type 0} (o : Option X) → is_none o ≡ false → is_some o ≡ true
none-some o h1 = grind arith

none-off : {X : Type 0} (o : Option X) → is_none o ≡ true → is_some o ≡ false
none-off o h1 = grind arith

there-is : {X : Type 0} (o : Option X) → is_none o ≡ false → (x : X) × (o ≡ Some x)
there-is o h1 = grind arith

-- the snoop end of an entry that is settled
record IsSettledAt (r : Run) (e : Entry) : Type 0 where
  pub clock : ℕ
  pub reached : snoop_end_of r.trace (rank_of r.trace e) ≡ Some clock
  pub above : e.clock + 4 ≤ clock
  pub within : clock < length r.trace

settled-at : (r : Run) (queue : List Entry) (k : ℕ) (e : Entry) → HoldsRequests queue r → slice_get queue k ≡ Some e
    → is_settled e ≡ true → IsSettledAt r e
settled-at r queue k e f at settled =
    let i = rank_of r.trace e in
    let t = there-is (snoop_end_of r.trace i) (sym (outcome-none r queue k e f at) ∙ some-none e.outcome settled) in
    let c = snoop_end_of-clock r.trace i t.0 t.1 in
    let one : Some c.clock ≡ Some e.clock = sym c.is_clock ∙ (held-here r queue k e f at).first in
    let same : c.clock ≡ e.clock = cc in
    let above = c.above in
    record { clock = t.0; reached = t.1; above = omega (arith, same); within = c.within }

-- the requests that are settled after the clock: those that were, with the one whose snoop end it is
settles-not : (h : Trace) (x : Sample) (o : Outcome) (e : Entry) → ends_snoop_at (h ++ x ∷ []) (length h) e ≡ false
    → settles h x o e ≡ e
unfolding settles
settles-not h x o e f = rw f refl

settles-so : (h : Trace) (x : Sample) (o : Outcome) (e : Entry) → ends_snoop_at (h ++ x ∷ []) (length h) e ≡ true
    → settles h x o e ≡ with_outcome o e
unfolding settles
settles-so h x o e t = rw t refl

-- an entry other than the one that has a snoop clock has no snoop end at the clock
other-ends : (r s : Run) (queue : List Entry) (k j : ℕ) (e y : Entry) → GrowsTo r s → HoldsRequests queue r
    → slice_get queue k ≡ Some e → slice_get queue j ≡ Some y
    → ends_snoop_at s.trace (length r.trace) e ≡ true → (k < j) ⊎ (j < k)
    → ends_snoop_at s.trace (length r.trace) y ≡ false
other-ends r s queue k j e y grows f at there ends apart =
    false_from_ne_true (ends_snoop_at s.trace (length r.trace) y) (λ t.
    let a = ends-told r s queue k e grows f at ends in
    let b = ends-told r s queue j y grows f there t in
    let one : Some a.end ≡ Some b.end = sym a.is_end.there ∙ b.is_end.there in
    let same : a.end.first ≡ b.end.first = (let ends : a.end ≡ b.end = cc in ap (λ (x : SnoopEnd). x.first) ends) in
    let clock : e.clock ≡ y.clock = sym a.first ∙ same ∙ b.first in
    let rank : rank_of r.trace e ≡ rank_of r.trace y = ap (live_number_of r.trace) clock in
    elim apart [
      | inl l ↦ let rises = rank-rises r queue k j e y f l at there in omega (arith, rank, rises)
      | inr l ↦ let rises = rank-rises r queue j k y e f l there at in omega (arith, rank, rises)
    ])

-- an entry stays that began four clocks before or earlier, and does not end
stays-open : (h : Trace) (x : Sample) (e : Entry) → e.clock + 4 ≤ length h
    → has_end_at (h ++ x ∷ []) (length h) e ≡ false → stays_in_flight h x e ≡ true
unfolding stays_in_flight leaves cancels has_end_at
stays-open h x e low off = grind arith

stays-ended : (h : Trace) (x : Sample) (e : Entry) → has_end_at (h ++ x ∷ []) (length h) e ≡ true
    → stays_in_flight h x e ≡ false
unfolding stays_in_flight leaves has_end_at
stays-ended h x e ends = grind arith

stays-settled : (h : Trace) (x : Sample) (o : Outcome) (e : Entry) → stays_in_flight h x e ≡ true
    → filter (stays_in_flight h x) (with_outcome o e ∷ []) ≡ with_outcome o e ∷ []
unfolding stays_in_flight
stays-settled h x o e t = rw t refl

-- none but the oldest ends, if that does
later-stays : (r s : Run) (queue : List Entry) (k : ℕ) (z : Entry) → GrowsTo r s → Timely s → HoldsRequests queue r
    → slice_get queue (suc k) ≡ Some z → has_end_at s.trace (length r.trace) z ≡ false
later-stays r s queue k z grows timely f at =
    false_from_ne_true (has_end_at s.trace (length r.trace) z) (λ t.
    let head = head-ends r s queue (suc k) z grows timely f at t in
    let rises = rank-rises r queue 0 (suc k) z z f (omega arith) head at in
    omega (arith, rises))

-- what was served before the clock, in the longer run
old-served : (v : BenchView) (hold : Bool) (choice : Choice) → IsBenchOf v
    → AreServed v.bus.served (filter is_settled v.bus.queue) (step_run v hold choice)
old-served v hold choice b =
    let r = v.run in
    let s = step_run v hold choice in
    let queue = v.bus.queue in
    record {
      count = b.served.count;
      each = λ k e x at here.
          let p = filter-has is_settled queue k e at in
          let t = settled-at r queue p.0 e b.requests p.1 p.2 in
          let i = rank_of r.trace e in
          let tied = snoop-tied r i t.clock t.reached in
          let first = one-of tied.0.first e.clock (sym tied.1.first ∙ (held-here r queue p.0 e b.requests p.1).first) in
          served-stays r s i t.clock e x tied.0 (grows-to v hold choice b)
          (reaches-step v hold choice b) b.bounds tied.1 first
          t.within (b.entries.begun p.0 e p.1) (b.served.each k e x at here);
    }
  where
    one-of : (a b : ℕ) → Some a ≡ Some b → a ≡ b
    one-of a b e = cc

-- the entries that are settled after the snoop end of the clock, and what they serve
record IsSettledNext (v : BenchView) (hold : Bool) (choice : Choice) : Type 0 where
  pub more : List Entry
  pub settled : filter is_settled
      (map (settles v.run.trace (step_sample v hold) (outcome_snooped (step_decided v hold))) v.bus.queue)
      ≡ filter is_settled v.bus.queue ++ more
  pub kept : filter (stays_in_flight v.run.trace (step_sample v hold)) more ≡ more
  pub served : AreServed (step_answered v hold).served (filter is_settled v.bus.queue ++ more) (step_run v hold choice)

settled-here : (v : BenchView) (hold : Bool) (choice : Choice) → IsBenchOf v
    → ((k : ℕ) (y : Entry) → slice_get v.bus.queue k ≡ Some y → is_settled y ≡ false → y.clock + 4 ≤ next_clock_of v
    → stays_in_flight v.run.trace (step_sample v hold) y ≡ true)
    → SnoopsHere v hold choice (step_entries v hold) → IsSettledNext v hold choice
settled-here v hold choice b keeps c =
    let r = v.run in
    let s = step_run v hold choice in
    let h = r.trace in
    let n = next_clock_of v in
    let queue = v.bus.queue in
    let x = step_sample v hold in
    let o = outcome_snooped (step_decided v hold) in
    let f = b.requests in
    let y : Entry = c.now.entry in
    let k = step-with v hold choice b in
    let reaches = reaches-step v hold choice b in
    let to = snoops_to h in
    let rank = snoop-rank r y c.now.snoops in
    let settle = settles-so h x o y c.ends in
    let shut = none-off y.outcome
    (outcome-none r queue c.now.place y f c.now.at
    ∙ not_reached_from h (snooped_count h) (rank_of h y) to (omega (arith, rank))) in
    let others = passes-now is_settled (settles h x o) queue c.now.place y c.now.at shut (ap is_settled settle)
    (λ j z l at. settles-not h x o z (other-ends r s queue c.now.place j y z k.grows f c.now.at at c.ends (inr l)))
    (λ j z l at. settles-not h x o z (other-ends r s queue c.now.place j y z k.grows f c.now.at at c.ends (inl l)))
    (λ j z l at.
    let rises = rank-rises r queue c.now.place j y z f l c.now.at at in
    none-off z.outcome (outcome-none r queue j z f at
    ∙ not_reached_from h (snooped_count h) (rank_of h z) to (omega (arith, rank, rises)))) in
    let d = hears-snoop v hold choice (step_entries v hold) k reaches c in
    let t = told-of v hold choice (step_entries v hold) k c d.snooped [] y.who refl d.decided in
    let clock : d.snooped.entry.clock ≡ y.clock = ap (λ (e : Entry). e.clock) t.entry in
    let i = rank_of s.trace y in
    let first = c.told.is_end.first ∙ ap (λ q. Some q) c.told.first in
    let at_end = snoop_end_of-clock s.trace i n c.told.is_end.reached in
    let one : Some at_end.clock ≡ Some y.clock = sym at_end.is_clock ∙ first in
    let same : at_end.clock ≡ y.clock = cc in
    let above = at_end.above in
    let serves : IsServed s (with_outcome o y) d.snooped.served = record {
      first = subst (λ q. clock_served s q ≡ Some d.snooped.served.first) clock
          (served-now s n i d.snooped reaches d.heard c.told.is_end.reached (first ∙ ap (λ q. Some q) (sym clock)));
      begun = d.heard.begun;
    } in
    let before = step_cancelled v hold in
    let list : (step_answered v hold).served ≡ v.bus.served ++ d.snooped.served ∷ [] =
    served-unanswered v hold ∙ ap (λ o. (option_map_or (bus_snooped before) o before).served) d.decided
    ∙ ap (λ xs. xs ++ d.snooped.served ∷ []) (served-cancelled v hold) in
    record {
      more = with_outcome o y ∷ [];
      settled = others ∙ ap (λ e. filter is_settled queue ++ e ∷ []) settle;
      kept = stays-settled h x o y (keeps c.now.place y c.now.at shut (omega (arith, same, above)));
      served = subst (λ xs. AreServed xs (filter is_settled queue ++ with_outcome o y ∷ []) s) (sym list)
          (served-push s v.bus.served (filter is_settled queue) d.snooped.served (with_outcome o y)
          (old-served v hold choice b) serves);
    }

settled-none : (v : BenchView) (hold : Bool) (choice : Choice) → IsBenchOf v
    → SnoopsNone v hold choice (step_entries v hold) → IsSettledNext v hold choice
settled-none v hold choice b c =
    let r = v.run in
    let s = step_run v hold choice in
    let n = next_clock_of v in
    let queue = v.bus.queue in
    let x = step_sample v hold in
    let o = outcome_snooped (step_decided v hold) in
    let grows = grows-to v hold choice b in
    let same = map-same (settles r.trace x o) queue (λ k y at. settles-not r.trace x o y
    (false_from_ne_true (ends_snoop_at s.trace n y) (λ t.
    let now = ends-told r s queue k y grows b.requests at t in
    no-end (snooped_at (past_of s) n) now.end c.quiet now.is_end.there))) in
    let before = step_cancelled v hold in
    let list : (step_answered v hold).served ≡ v.bus.served =
    served-unanswered v hold ∙ ap (λ o. (option_map_or (bus_snooped before) o before).served) c.none
    ∙ served-cancelled v hold in
    record {
      more = [];
      settled = ap (filter is_settled) same ∙ sym (append-nil (filter is_settled queue));
      kept = refl;
      served = subst (λ xs. AreServed xs (filter is_settled queue ++ []) s) (sym list)
          (subst (λ es. AreServed v.bus.served es s) (sym (append-nil (filter is_settled queue)))
          (old-served v hold choice b));
    }
  where
    no-end : (o : Option SnoopEnd) (x : SnoopEnd) → o ≡ None → o ≡ Some x → ⊥
    no-end o x e f = cc

settled-next : (v : BenchView) (hold : Bool) (choice : Choice) → IsBenchOf v
    → ((k : ℕ) (y : Entry) → slice_get v.bus.queue k ≡ Some y → is_settled y ≡ false → y.clock + 4 ≤ next_clock_of v
    → stays_in_flight v.run.trace (step_sample v hold) y ≡ true)
    → IsSettledNext v hold choice
settled-next v hold choice b keeps =
    elim (snoop-cases v hold choice (step_entries v hold) (grows-to v hold choice b) b.requests) [
      | inl c ↦ settled-here v hold choice b keeps c
      | inr c ↦ settled-none v hold choice b c
    ]

-- the request that begins has no snoop end yet
begun-unsettled : (bus : BusView) (clock : ℕ) (choice : Choice) (o : Option Starting)
    → filter is_settled (begun_list (option_map (λ starting. entry_started bus clock starting choice) o)) ≡ []
unfolding begun_list
begun-unsettled bus clock choice o = grind arith

queue-settled : (v : BenchView) (hold : Bool) (choice : Choice)
    → settled_entries (step_queue v hold choice)
    ≡ filter (stays_in_flight v.run.trace (step_sample v hold))
    (filter is_settled
    (map (settles v.run.trace (step_sample v hold) (outcome_snooped (step_decided v hold))) v.bus.queue))
unfolding goes_on
queue-settled v hold choice =
    let h = v.run.trace in
    let x = step_sample v hold in
    let o = outcome_snooped (step_decided v hold) in
    let old = goes_on h x o v.bus.queue in
    filter-append is_settled old (begun_list (step_begun v hold choice))
    ∙ ap (λ es. filter is_settled old ++ es)
    (begun-unsettled (step_performed v) (next_clock_of v) choice (step_decided v hold).starting)
    ∙ append-nil (filter is_settled old)
    ∙ filter-swap is_settled (stays_in_flight h x) (map (settles h x o) v.bus.queue)

has-from : (s : Run) (queue entries : List Entry) (list served : List Served) → AreServed served entries s
    → list ≡ served
    → settled_entries queue ≡ entries → HasServed list queue s
has-from s queue entries list served are e f =
    let k = subst (λ xs. AreServed xs (settled_entries queue) s) (sym e)
    (subst (λ es. AreServed served es s) (sym f) are) in
    record { count = k.count; each = k.each }

-- what an end leaves
served-here : (v : BenchView) (hold : Bool) (choice : Choice) → IsBenchOf v
    → EndsHere v hold choice (step_entries v hold)
    → HasServed (bench_stepped v hold choice).bus.served (step_queue v hold choice) (step_run v hold choice)
served-here v hold choice b c =
    let r = v.run in
    let s = step_run v hold choice in
    let h = r.trace in
    let n = next_clock_of v in
    let queue = v.bus.queue in
    let x = step_sample v hold in
    let f = b.requests in
    let grows = grows-to v hold choice b in
    let reaches = reaches-step v hold choice b in
    let settled : is_settled c.entry ≡ true = ap (λ o. is_some o) c.heard.outcome in
    let later = λ (k : ℕ) (z : Entry) (at : slice_get queue (suc k) ≡ Some z).
    later-stays r s queue k z grows reaches.timely f at in
    let keeps = λ (k : ℕ) (y : Entry) (at : slice_get queue k ≡ Some y) (off : is_settled y ≡ false)
    (low : y.clock + 4 ≤ n).
    stays-open h x y low (unended k y at off c.oldest settled (λ j z here. later j z here)) in
    let next = settled-next v hold choice b keeps in
    let list = queue-settled v hold choice ∙ ap (filter (stays_in_flight h x)) next.settled
    ∙ stay-later is_settled (stays_in_flight h x) queue next.more c.entry c.oldest settled
    (stays-ended h x c.entry c.ends)
    (λ k z at done.
    let t = settled-at r queue (suc k) z f at done in
    let above = t.above in
    let within = t.within in
    stays-open h x z (omega (arith, above, within)) (later k z at))
    next.kept in
    let before = step_answered v hold in
    has-from s (step_queue v hold choice) (drop 1 (filter is_settled queue ++ next.more)) (step_ended v hold).served
    (drop 1 before.served) (served-drop s before.served (filter is_settled queue ++ next.more) next.served)
    (ap (λ o. (option_map_or (bus_ended before n) o before).served) c.ending) list
  where
    unended : (k : ℕ) (y : Entry) → slice_get v.bus.queue k ≡ Some y → is_settled y ≡ false
        → slice_get v.bus.queue 0 ≡ Some c.entry
        → is_settled c.entry ≡ true
        → ((j : ℕ) (z : Entry) → slice_get v.bus.queue (suc j) ≡ Some z
        → has_end_at (step_run v hold choice).trace (next_clock_of v) z ≡ false)
        → has_end_at (step_run v hold choice).trace (next_clock_of v) y ≡ false
    unended zero y at off head settled later =
        let same : c.entry ≡ y = cc in absurd (both_ways (is_settled y) off (ap is_settled (sym same) ∙ settled))
    unended (suc k) y at off head settled later = later k y at

served-none : (v : BenchView) (hold : Bool) (choice : Choice) → IsBenchOf v
    → EndsNone v hold choice (step_entries v hold)
    → HasServed (bench_stepped v hold choice).bus.served (step_queue v hold choice) (step_run v hold choice)
served-none v hold choice b c =
    let r = v.run in
    let s = step_run v hold choice in
    let h = r.trace in
    let n = next_clock_of v in
    let queue = v.bus.queue in
    let x = step_sample v hold in
    let next = settled-next v hold choice b (λ k y at off low. stays-open h x y low (c.off k y at)) in
    let list = queue-settled v hold choice ∙ ap (filter (stays_in_flight h x)) next.settled
    ∙ stay-all is_settled (stays_in_flight h x) queue next.more
    (λ k z at done.
    let t = settled-at r queue k z b.requests at done in
    let above = t.above in
    let within = t.within in
    stays-open h x z (omega (arith, above, within)) (c.off k z at))
    next.kept in
    let before = step_answered v hold in
    has-from s (step_queue v hold choice) (filter is_settled queue ++ next.more)
    (step_ended v hold).served before.served
    next.served (ap (λ o. (option_map_or (bus_ended before n) o before).served) c.ending) list

-- what is served after the clock is that of the longer run
pub served-next : (v : BenchView) (hold : Bool) (choice : Choice) → IsBenchOf v
    → HasServed (bench_stepped v hold choice).bus.served (step_queue v hold choice) (step_run v hold choice)
served-next v hold choice b =
    elim (end-cases v hold choice (step_entries v hold) (step-with v hold choice b) (reaches-step v hold choice b)) [
      | inl c ↦ served-here v hold choice b c
      | inr c ↦ served-none v hold choice b c
    ]
