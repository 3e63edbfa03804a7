-- The words that a bench has for its next clock come from lawful requests.
use Rattle.fsb_bench_run.proofs.Words
use Words.{◌<◌, ◌≡◌, true, Some, sym, ap, ◌∙◌, arith, slice_get_within, Request, are_lawful_fields, is_lawful_request}
use Words.{get-there, ads_before_end, Symmetric, Served, step_performed, BenchView, HasLawfulWords, IsBenchOf}
use Words.{settled_entries}
use Rattle.std.proofs.Common.{slice_get}
use Rattle.fsb_bench_run.proofs.BegunStays.{begun-lawful}
use Rattle.fsb_bench_run.proofs.SameBus.{same-performed}

lawful-chunk : (request : Request) → is_lawful_request request ≡ true → request.chunk < 4
unfolding is_lawful_request are_lawful_fields
lawful-chunk request e = grind arith

-- what is served first has begun
served-lawful : (v : BenchView) (served : Served) → IsBenchOf v → slice_get v.bus.served 0 ≡ Some served
    → is_lawful_request served.request ≡ true
served-lawful v served b at =
    let r = v.run in
    let within = slice_get_within v.bus.served 0 served at in
    let count = b.served.count in
    let e = get-there (settled_entries v.bus.queue) 0 (omega (arith, within, count)) in
    let is = b.served.each 0 e.0 served e.1 at in
    begun-lawful r served.first (Symmetric served.agent) served.request b.bounds
    (ads_before_end r.trace served.first is.begun.begins) is.begun

pub words-lawful : (v : BenchView) → IsBenchOf v → HasLawfulWords (step_performed v)
words-lawful v b =
    let same = same-performed v in
    record {
      latest = λ latest e.
          let begun = b.latest.begun latest (sym same.latest ∙ e) in
          begun-lawful v.run latest.clock latest.who latest.request b.bounds
          (ads_before_end v.run.trace latest.clock begun.begins) begun;
      served = λ served e.
          lawful-chunk served.request (served-lawful v served b (ap (λ xs. slice_get xs 0) (sym same.served) ∙ e));
    }
