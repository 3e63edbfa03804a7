-- What a bench cancels may be cancelled: its agent may give it up.
use Rattle.fsb_bench_run.proofs.Words
use Words.{◌≡◌, Bool, Some, length, ap, ◌∙◌, arith, option_map, cancelled-seen, Choice, Entry, winner-four}
use Words.{step_decided, step_entries, step_performed, step_run, step_started, BenchView, next_clock_of, MayCancel}
use Words.{IsBenchOf}
use Rattle.fsb_bench_run.proofs.AgentsSound.{sound-started, views-started}
use Rattle.fsb_bench_run.proofs.ArrivalsTold.{started-many}
use Rattle.fsb_bench_run.proofs.BegunEvents.{begun-claim, cancelled-entry, cancelled-now}
use Rattle.fsb_bench_run.proofs.LogsNow.{reaches-step}
use Rattle.fsb_bench_run.proofs.StartsMay.{own-begun, performed-four}
use Rattle.fsb_bench_run.proofs.StepEntries.{step-with}

pub cancel-may : (v : BenchView) (hold : Bool) (choice : Choice) (e : Entry) → IsBenchOf v
    → (step_decided v hold).cancelled ≡ Some e → MayCancel (step_started v hold) e
cancel-may v hold choice e b is =
    let s = step_run v hold choice in
    let n = next_clock_of v in
    let entries = step_entries v hold in
    let k = step-with v hold choice b in
    let h = reaches-step v hold choice b in
    let long = h.long in
    let four : length (step_started v hold).agents ≡ 4 =
    started-many (step_performed v) n (step_decided v hold).starting ∙ performed-four v b in
    let begun = cancelled-entry v hold choice entries e k is in
    let low = begun.0 in
    let sound = sound-started v hold choice b in
    let views = views-started v hold choice b in
    let cancelled = cancelled-now v hold choice entries k ∙ ap (option_map (λ (x : Entry). x.clock)) is in
    record {
      known = λ agent own.
          let few = winner-four s.trace e.clock agent (own-begun s e.clock agent e.who e.request own begun.1).winner in
          omega (arith, few, four);
      gives_up = λ agent own w at.
          let c = begun-claim s e.clock agent e.request (omega arith)
          (own-begun s e.clock agent e.who e.request own begun.1) in
          cancelled-seen s agent n e.clock c.0 w h cancelled c.1 c.2 (sound agent w at) (views agent w at);
    }
