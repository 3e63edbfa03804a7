-- What a bench begins may begin: it is a lawful request, and its agent may send it.
use Rattle.fsb_bench_run.proofs.Words
use Words.{ℕ, ◌+◌, ◌≡◌, Bool, Some, List, length, subst, arith, Done, send-may, Request, Choice, Reaches, winner-four}
use Words.{Run, Who, Symmetric, Starting, step_decided, step_performed, BenchView, next_clock_of, MayStart, IsBegunAt}
use Words.{IsBenchOf}
use Rattle.fsb_bench_run.proofs.AgentsNow.{length-told}
use Rattle.fsb_bench_run.proofs.BegunEvents.{begun-claim}
use Rattle.fsb_bench_run.proofs.BegunStays.{begun-lawful}
use Rattle.fsb_bench_run.proofs.RunWith.{run_with}
use Rattle.fsb_bench_run.proofs.StartingNow.{starting-begins}
use Rattle.fsb_bench_run.proofs.StepWith.{IsStepWith}

pub performed-four : (v : BenchView) → IsBenchOf v → length (step_performed v).agents ≡ 4
performed-four v b = grind (arith, length-told)

pub own-begun : (s : Run) (n a : ℕ) (who : Who) (request : Request) → who ≡ Symmetric a → IsBegunAt s n who request
    → IsBegunAt s n (Symmetric a) request
own-begun s n a who request e k = subst (λ w. IsBegunAt s n w request) e k

pub start-may : (v : BenchView) (hold : Bool) (choice : Choice) (entries : List Done) (x : Starting)
    → IsStepWith v hold choice entries → Reaches (run_with v hold choice entries) (next_clock_of v + 1)
    → (step_decided v hold).starting ≡ Some x → MayStart (step_performed v) (next_clock_of v) x
start-may v hold choice entries x k h e =
    let s = run_with v hold choice entries in
    let n = next_clock_of v in
    let long = h.long in
    let begun = starting-begins v hold choice entries x k e in
    let four = performed-four v k.bench in
    record {
      lawful = begun-lawful s n x.who x.request h.bounds (omega arith) begun;
      known = λ agent own.
          let few = winner-four s.trace n agent (own-begun s n agent x.who x.request own begun).winner in
          omega (arith, few, four);
      sends = λ agent own w at.
          let c = begun-claim s n agent x.request (omega arith) (own-begun s n agent x.who x.request own begun) in
          send-may s agent n c.0 w h c.1 c.2 (k.hits.after agent w at);
    }
