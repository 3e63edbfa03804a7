-- The queue after a clock of a bench.
use Rattle.fsb_bench_run.proofs.Words
use Words.{ℕ, ◌≡◌, Bool, Option, Some, None, List, [], ◌∷◌, ◌++◌, length, map, is_some, if◌then◌else◌, refl, sym, ap}
use Words.{◌∙◌, arith, inl, inr, subst, slice_get, option_map, option_map_or, length-map, count_where}
use Words.{count_where-above, count_where-same, length-all_where, slice_get-end, IsLater, TakesTurn, goes_on}
use Words.{begun_list, goes_on-holds, rising-goes_on, Choice, Orderly, is_live-ads, orderly-empty, HoldsInFlight}
use Words.{last_snoop_end, snooped_count, response_count, transfer_of, Entry, ADS, line_at, Trace, answer_from}
use Words.{ready_clock_of, Failed, line_at-agree, snooped_at, GrowsTo, choice_at, turns_in, SnoopEnd, Run, past_of}
use Words.{requests_below, Timely, snoop-tied, orderly-whole, AreRequestsOf, HoldsRequests, agree-grown}
use Words.{outcome-settled, queue-goes-on, turn-same, write-back-kept, Starting, SnoopSettled, outcome_snooped}
use Words.{step_begun, step_decided, step_entries, step_performed, step_queue, step_run, step_sample, entry_started}
use Words.{BenchView, BusView, next_clock_of, HasFlightOf, MaySample, IsBenchOf}
use Rattle.fsb_phase.specs.Phases.{MayTake, Stands, last_response}
use Rattle.fsb_phase.specs.declared.phases.Phases.{Phases}
use Rattle.fsb_bench_run.proofs.DeferralsTold.{DeferralsTold}
use Rattle.fsb_bench_run.proofs.DrivenLines.{ads-driven}
use Rattle.fsb_bench_run.proofs.ResponsesDriven.{code-now, sample-grown}
use Rattle.fsb_bench_run.proofs.SameBus.{same-performed}
use Rattle.fsb_bench_run.proofs.SnoopCases.{snoop-cases}
use Rattle.fsb_bench_run.proofs.SnoopEntry.{held-here}
use Rattle.fsb_bench_run.proofs.SnoopTold.{snoop-told}

-- phases that stand for a trace
phases-of : Trace → Phases
phases-of h = record {
  heads = record {
    snooped = last_snoop_end h;
    ready = ready_clock_of h (response_count h);
    chunks = transfer_of h;
  };
  from = answer_from h (response_count h);
  response = last_response h;
}

pub orderly-run : (r : Run) → Timely r → Orderly r.trace
orderly-run r timely = by r.trace refl
  where
    by : (h : Trace) → r.trace ≡ h → Orderly r.trace
    by [] e = subst Orderly (sym e) orderly-empty
    by (x ∷ h) e = let size = ap length e in orderly-whole r 0 timely (omega (arith, size))

phases-stand : (r : Run) → Timely r → Stands (phases-of r.trace) r.trace
unfolding phases-of
phases-stand r timely = record {
  heads = record { snooped = refl; ready = refl; chunks = refl };
  from = refl;
  response = refl;
  orderly = orderly-run r timely;
}

begun-clocks : (bus : BusView) (clock : ℕ) (choice : Choice) (o : Option Starting)
    → map (λ (e : Entry). e.clock) (begun_list (option_map (λ starting. entry_started bus clock starting choice) o))
    ≡ (if is_some o then clock ∷ [] else [])
unfolding begun_list
begun-clocks bus clock choice o = grind arith

pub record IsNewEntry (bus : BusView) (clock : ℕ) (choice : Choice) (o : Option Starting) (e : Entry) : Type 0 where
  pub starting : Starting
  pub some : o ≡ Some starting
  pub same : e ≡ entry_started bus clock starting choice

pub begun-entry : (bus : BusView) (clock : ℕ) (choice : Choice) (o : Option Starting) (k : ℕ) (e : Entry)
    → slice_get (begun_list (option_map (λ starting. entry_started bus clock starting choice) o)) k ≡ Some e
    → IsNewEntry bus clock choice o e
unfolding begun_list
begun-entry bus clock choice o k e h1 = grind arith

-- the turns go on
turns-taken : (v : BenchView) (hold : Bool) (choice : Choice) → IsBenchOf v → DeferralsTold v (step_run v hold choice)
    → (grows : GrowsTo v.run (step_run v hold choice))
    → TakesTurn v.run.trace (step_sample v hold) (turns_in (past_of v.run).moments)
    (turns_in (past_of (step_run v hold choice)).moments) (outcome_snooped (step_decided v hold)) (begun_list
    (step_begun v hold choice))
turns-taken v hold choice b told grows =
    let r = v.run in
    let s = step_run v hold choice in
    let n = next_clock_of v in
    let entries = step_entries v hold in
    record {
      same = λ i l. turn-same r s i grows l;
      outcome_is = λ e. elim (snoop-cases v hold choice entries grows b.requests) [
        | inr g ↦ let tied = snoop-tied s (snooped_count r.trace) n e in none-some (snooped_at
            (past_of s) n) tied.0 g.quiet tied.1.there
        | inl k ↦
            let t = snoop-told v hold choice entries b told grows k in
            ap (λ o. option_map_or (λ (x : SnoopSettled). x.outcome) o Failed) t.decided ∙ sym t.outcome
            ∙ outcome-settled r s (snooped_count r.trace) k.told.end k.told.is_end.there e
      ];
      kept = λ i e. write-back-kept s i e;
      begun = begun-clocks (step_performed v) n choice (step_decided v hold).starting
          ∙ ap (λ c. if c then n ∷ [] else []) (sym (ads-driven (step_performed v) n r.plan.profile
          (step_decided v hold)));
      unsettled = λ k e f.
          ap (λ (x : Entry). x.outcome) (begun-entry (step_performed v) n choice
          (step_decided v hold).starting k e f).same;
    }
  where
    none-some : (o : Option SnoopEnd) (x : SnoopEnd) → o ≡ None → o ≡ Some x → {A : Type 0} → A
    none-some o x e f = absurd (let no : ⊥ = cc in no)

-- how many requests began below the new clock
count-grown : (r s : Run) → GrowsTo r s
    → requests_below s.trace (length r.trace) ≡ requests_below r.trace (length r.trace)
unfolding requests_below
count-grown r s grows = grind (arith, count_where-same, line_at-agree, agree-grown)

started-count : (v : BenchView) → IsBenchOf v → length v.bus.started ≡ requests_below v.run.trace (next_clock_of v)
unfolding requests_below
started-count v b = grind (arith, length-map, length-all_where)

choice-added : (choices : List Choice) (choice : Choice) (o : Option Starting) (starting : Starting) (w : Trace) (q : ℕ)
    → o ≡ Some starting → count_where (line_at ADS w) q ≡ length choices
    → choice ≡ choice_at (choices ++ option_map_or (λ (x : Starting). choice ∷ []) o []) w q
unfolding choice_at
choice-added choices choice o starting w q e f = grind (arith, slice_get-end)

-- the entry that begins has its choice and its number
new-requests : (v : BenchView) (hold : Bool) (choice : Choice) → IsBenchOf v
    → GrowsTo v.run (step_run v hold choice)
    → AreRequestsOf (begun_list (step_begun v hold choice)) (step_run v hold choice)
unfolding requests_below
new-requests v hold choice b grows =
    let r = v.run in
    let s = step_run v hold choice in
    let n = next_clock_of v in
    let bus = step_performed v in
    let o = (step_decided v hold).starting in
    let count = count-grown r s grows in
    let one = sym b.timely.one_choice in
    let same = same-performed v in
    record {
      chosen = λ k e f.
          let new = begun-entry bus n choice o k e f in
          ap (λ (x : Entry). x.choice) new.same
          ∙ choice-added r.choices choice o new.starting s.trace n new.some (count ∙ one)
          ∙ sym (ap (λ (x : Entry). choice_at s.choices s.trace x.clock) new.same);
      numbered = λ k e f.
          let new = begun-entry bus n choice o k e f in
          ap (λ (x : Entry). x.number) new.same ∙ ap length same.started ∙ started-count v b ∙ sym count
          ∙ sym (ap (λ (x : Entry). requests_below s.trace x.clock) new.same);
    }

-- its number is greater than those of the queue
new-later : (v : BenchView) (hold : Bool) (choice : Choice) → IsBenchOf v
    → IsLater (step_begun v hold choice) v.bus.queue
unfolding requests_below begun_list
new-later v hold choice b =
    let r = v.run in
    let n = next_clock_of v in
    let bus = step_performed v in
    let o = (step_decided v hold).starting in
    let same = same-performed v in
    record {
      later = λ e f j new at.
          let first = begun-entry bus n choice o 0 e (ap (λ x. slice_get (begun_list x) 0) new) in
          let here = held-here r v.bus.queue j f b.requests at in
          let less = count_where-above (line_at ADS r.trace) f.clock n here.within
          (is_live-ads r.trace f.clock here.live) in
          let number = b.requests.entries.numbered j f at in
          let mine : e.number ≡ count_where (line_at ADS r.trace) n = grind (arith, started-count) in
          omega arith;
    }

pub queue-next : (v : BenchView) (hold : Bool) (choice : Choice) → IsBenchOf v
    → DeferralsTold v (step_run v hold choice)
    → MaySample v hold → GrowsTo v.run (step_run v hold choice)
    → HoldsRequests (step_queue v hold choice) (step_run v hold choice)
queue-next v hold choice b told may grows =
    let r = v.run in
    let s = step_run v hold choice in
    let x = step_sample v hold in
    let new = begun_list (step_begun v hold choice) in
    let outcome = outcome_snooped (step_decided v hold) in
    let takes : MayTake (next_clock_of v) x v.bus.queue (turns_in (past_of r).moments) r.trace =
    record { clock_is = refl; flight = b.requests.flight; answers = code-now v hold; spaced = may.spaced } in
    let flight = goes_on-holds (phases-of r.trace) r.trace (next_clock_of v) x v.bus.queue new
    (turns_in (past_of r).moments)
    (turns_in (past_of s).moments) outcome (phases-stand r b.timely) takes (turns-taken v hold choice b told grows) in
    let same = sample-grown v hold choice (step_entries v hold) grows in
    subst (λ y. HoldsRequests (goes_on r.trace y outcome v.bus.queue ++ new) s) same
    (queue-goes-on r s v.bus.queue new outcome grows b.requests (new-requests v hold choice b grows)
    (subst (λ y. HoldsInFlight (goes_on r.trace y outcome v.bus.queue ++ new) (turns_in
    (past_of s).moments) s.trace) (sym same) flight))

-- its numbers rise
pub flight-next : (v : BenchView) (hold : Bool) (choice : Choice) → IsBenchOf v
    → DeferralsTold v (step_run v hold choice)
    → MaySample v hold → GrowsTo v.run (step_run v hold choice)
    → HasFlightOf (step_queue v hold choice) (step_run v hold choice)
flight-next v hold choice b told may grows = record {
  flight = (queue-next v hold choice b told may grows).flight;
  rising = rising-goes_on v.run.trace (step_sample v hold) (outcome_snooped (step_decided v hold))
      (step_begun v hold choice) v.bus.queue b.flight.rising (new-later v hold choice b);
}
