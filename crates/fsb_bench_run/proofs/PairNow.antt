-- The address and REQ words of the clock are those that are due.
use Rattle.fsb_bench_run.proofs.Words
use Words.{ℕ, ◌≡◌, Bool, true, Some, List, refl, sym, subst, arith, is_some_and, Pair, Choice, Run, past_of}
use Words.{drives_pair, pair_due, known_pair_at, step_decided, pair_driven, BenchView, next_clock_of, Done}
use Rattle.fsb_encode.specs.Decoded.{is_pair}
use Rattle.fsb_bench_run.proofs.PairWords.{IsPairDue, pair-due-by, pair-shown, step_pair}
use Rattle.fsb_bench_run.proofs.StartingNow.{starting-begins}
use Rattle.fsb_bench_run.proofs.StepFields.{performed-begun}
use Rattle.fsb_bench_run.proofs.RunWith.{run_with}
use Rattle.fsb_bench_run.proofs.StepWith.{IsStepWith, begins-with}

pub pair-due-now : (v : BenchView) (hold : Bool) (choice : Choice) (entries : List Done)
    → IsStepWith v hold choice entries
    → IsPairDue (run_with v hold choice entries) (next_clock_of v) (step_pair v hold)
pair-due-now v hold choice entries b =
    subst (λ latest. IsPairDue (run_with v hold choice entries) (next_clock_of v)
    (pair_driven latest (next_clock_of v) (step_decided v hold).starting))
    (sym (performed-begun v).latest)
    (pair-due-by v.run (run_with v hold choice entries) v.bus.latest (step_decided v hold).starting
    b.bench.bounds b.grows b.bench.latest
    (begins-with v hold choice entries) (λ starting e. starting-begins v hold choice entries starting b e))

due-shown : (s : Run) (n : ℕ) (pair : Pair) → pair_due s (past_of s) n ≡ Some pair
    → known_pair_at s.trace n ≡ Some pair → drives_pair s (past_of s) n ≡ true
unfolding drives_pair is_some_and is_pair
due-shown s n pair e f = grind arith

-- the words are as they must be
pub drives-pair-now : (v : BenchView) (hold : Bool) (choice : Choice) (entries : List Done)
    → IsStepWith v hold choice entries
    → drives_pair (run_with v hold choice entries) (past_of (run_with v hold choice entries)) (next_clock_of v) ≡ true
drives-pair-now v hold choice entries b =
    let k = pair-due-now v hold choice entries b in
    due-shown (run_with v hold choice entries) (next_clock_of v) (step_pair v hold) k.due
    (pair-shown v hold choice entries (step_pair v hold) k.fits refl)
