-- Each entry of the queue after a bench's clock is of the request that began at its clock.
use Rattle.fsb_bench_run.proofs.Words
use Words.{◌≡◌, Bool, map, refl, sym, ap, subst, ◌∙◌, inl, inr, arith, slice_get-map, goes_on, settles, stays_in_flight}
use Words.{begun_list, append_from, filter_from, map_from, Choice, Entry, Sample, Run, Trace, Outcome, outcome_snooped}
use Words.{step_begun, step_decided, step_entries, step_performed, step_queue, step_run, step_sample, entry_started}
use Words.{BenchView, next_clock_of, HasBegun, IsBegunAt, IsBenchOf}
use Rattle.std.proofs.Common.{slice_get}
use Rattle.fsb_bench_run.proofs.BegunStays.{begun-stays}
use Rattle.fsb_bench_run.proofs.NextRun.{grows-to}
use Rattle.fsb_bench_run.proofs.QueueNext.{begun-entry}
use Rattle.fsb_bench_run.proofs.SnoopEntry.{held-here}
use Rattle.fsb_bench_run.proofs.StartingNow.{starting-begins}
use Rattle.fsb_bench_run.proofs.StepEntries.{step-with}

-- two entries are of one request
record IsSameRequest (e z : Entry) : Type 0 where
  pub clock : e.clock ≡ z.clock
  pub who : e.who ≡ z.who
  pub request : e.request ≡ z.request

-- an entry that is settled stays that of its request
settled-same : (h : Trace) (x : Sample) (o : Outcome) (e : Entry) → IsSameRequest (settles h x o e) e
unfolding settles
settled-same h x o e = grind arith

begun-same : (s : Run) (e z : Entry) → IsSameRequest e z → IsBegunAt s z.clock z.who z.request
    → IsBegunAt s e.clock e.who e.request
begun-same s e z same b = grind arith

pub entries-next : (v : BenchView) (hold : Bool) (choice : Choice) → IsBenchOf v
    → HasBegun (step_queue v hold choice) (step_run v hold choice)
unfolding goes_on
entries-next v hold choice b =
    let r = v.run in
    let s = step_run v hold choice in
    let n = next_clock_of v in
    let queue = v.bus.queue in
    let x = step_sample v hold in
    let outcome = outcome_snooped (step_decided v hold) in
    let settle : Entry → Entry = settles r.trace x outcome in
    let grows = grows-to v hold choice b in
    record {
      begun = λ k e at.
          elim (append_from (goes_on r.trace x outcome queue) (begun_list (step_begun v hold choice)) k e at) [
            | inl old ↦
                let j = filter_from (stays_in_flight r.trace x) (map settle queue) k e old in
                let z = map_from settle queue j.0 e (slice_get queue j.0) refl (sym (slice_get-map settle queue j.0)
                ∙ j.1) in
                let same = subst (λ y. IsSameRequest y z.0) z.2 (settled-same r.trace x outcome z.0) in
                let here = held-here r queue j.0 z.0 b.requests z.1 in
                begun-same s e z.0 same
                (begun-stays r s z.0.clock z.0.who z.0.request grows here.within (b.entries.begun j.0 z.0 z.1))
            | inr new ↦
                let k = begun-entry (step_performed v) n choice (step_decided v hold).starting new.0 e new.1 in
                let begins = starting-begins v hold choice (step_entries v hold) k.starting
                (step-with v hold choice b) k.some in
                begun-same s e (entry_started (step_performed v) n k.starting choice) (record {
                  clock = ap (λ (y : Entry). y.clock) k.same;
                  who = ap (λ (y : Entry). y.who) k.same;
                  request = ap (λ (y : Entry). y.request) k.same;
                }) begins
          ];
    }
