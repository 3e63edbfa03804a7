-- The request that began last, and those that have begun, after the clock.
use Rattle.fsb_bench_run.proofs.Words
use Words.{◌≡◌, Bool, true, false, Option, Some, None, is_some, length, refl, sym, subst, ◌∙◌, arith, last_where}
use Words.{Choice, ADS, line_at, GrowsTo, Run, Latest, Starting, bench_stepped, step_decided, step_entries, step_run}
use Words.{BenchView, IsBegunAt, IsBenchOf, IsLatestOf}
use Rattle.fsb_bench_run.proofs.AdsGrown.{last-below, last-more}
use Rattle.fsb_bench_run.proofs.BegunStays.{begun-stays}
use Rattle.fsb_bench_run.proofs.NextRun.{begins-now, grows-to}
use Rattle.fsb_bench_run.proofs.StartingNow.{starting-begins}
use Rattle.fsb_bench_run.proofs.StepEntries.{step-with}
use Rattle.fsb_bench_run.proofs.StepFields.{latest-stepped, latest_after}

-- the request that began last is the last one of the longer run
latest-by : (r s : Run) (latest : Option Latest) (o : Option Starting) → GrowsTo r s → IsLatestOf latest r
    → line_at ADS s.trace (length r.trace) ≡ is_some o
    → ((starting : Starting) → o ≡ Some starting → IsBegunAt s (length r.trace) starting.who starting.request)
    → IsLatestOf (latest_after (length r.trace) o latest) s
latest-by r s latest (Some x) grows k ads begins = record {
  clock = sym (last-more r s true grows ads);
  begun = λ last e.
      let clock : length r.trace ≡ last.clock = cc in
      let who : x.who ≡ last.who = cc in
      let request : x.request ≡ last.request = cc in
      let b = begins x refl in
      let one = subst (λ c. IsBegunAt s c x.who x.request) clock b in
      let two = subst (λ w. IsBegunAt s last.clock w x.request) who one in
      subst (λ q. IsBegunAt s last.clock last.who q) request two;
}
latest-by r s latest None grows k ads begins = record {
  clock = k.clock ∙ sym (last-more r s false grows ads);
  begun = λ last e.
      let there : last_where (line_at ADS r.trace) (length r.trace) ≡ Some last.clock = grind arith in
      begun-stays r s last.clock last.who last.request grows
      (last-below (line_at ADS r.trace) (length r.trace) last.clock there)
      (k.begun last e);
}

pub latest-next : (v : BenchView) (hold : Bool) (choice : Choice) → IsBenchOf v
    → IsLatestOf (bench_stepped v hold choice).bus.latest (step_run v hold choice)
latest-next v hold choice b =
    subst (λ latest. IsLatestOf latest (step_run v hold choice)) (sym (latest-stepped v hold choice))
    (latest-by v.run (step_run v hold choice) v.bus.latest (step_decided v hold).starting
    (grows-to v hold choice b) b.latest
    (begins-now v hold choice)
    (λ starting e. starting-begins v hold choice (step_entries v hold) starting (step-with v hold choice b) e))
