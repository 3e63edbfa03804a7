-- The request that begins at the clock is a locked one exactly where the run says so.
use Rattle.fsb_bench_run.proofs.Words
use Words.{ℕ, ◌<◌, ◌≡◌, Bool, true, nat_eq, Option, Some, None, length, if◌then◌else◌, sym, ap, ◌∙◌, arith, List, Want}
use Words.{is_some_and, Choice, longer, ADS, line_at, winner-four, is_begun_by, is_locked_request, wants_lock, begun_at}
use Words.{agent_at, claim_at, Claim, Past, Run, past_of, past_to, begun-told, Trace, winner_at, Who, Symmetric}
use Words.{Priority, Starting, step_decided, step_performed, was_held_at, asked_by, starting_for, want_in, BenchView}
use Words.{next_clock_of, Done}
use Rattle.fsb_bench_run.proofs.AskedNow.{locked-told}
use Rattle.fsb_bench_run.proofs.StartingNow.{starting-parts, wanted-parts, winner-grown}
use Rattle.fsb_bench_run.proofs.ThisClock.{past-now}
use Rattle.fsb_bench_run.proofs.RunWith.{run_with}
use Rattle.fsb_bench_run.proofs.StepWith.{IsStepWith}

claim-there : (w : Trace) (q : ℕ) (claim : Claim) (b : Bool) → (if b then claim_at w q else None) ≡ Some claim
    → claim_at w q ≡ Some claim
claim-there w q claim b h1 = grind arith

winner-of : (w : Trace) (q a : ℕ) (o : Option Claim) → o ≡ (if line_at ADS w q then claim_at w q else None)
    → is_some_and o (λ (claim : Claim). nat_eq claim.agent a) ≡ true → winner_at w q ≡ Some (Symmetric a)
unfolding is_some_and claim_at agent_at
winner-of w q a o h1 h2 = grind arith

-- an agent that begins a request is the winner
pub begun-by-agent : (r : Run) (a q : ℕ) → q < length r.trace → is_begun_by (past_of r) a q ≡ true
    → winner_at r.trace q ≡ Some (Symmetric a)
unfolding is_begun_by
begun-by-agent r a q l e = winner-of r.trace q a (begun_at (past_of r) q) (begun-told r q l) e

locked-if : (p q : Past) (a c : ℕ) → is_begun_by p a c ≡ true → past_to p c ≡ q
    → is_locked_request p a c ≡ wants_lock q a c
unfolding is_locked_request
locked-if p q a c begun e = rw (begun, is_locked_request) (ap (λ p. wants_lock p a c) e)

-- what begins is a locked request of its agent exactly where the run says so
locked-for : (v : BenchView) (hold : Bool) (choice : Choice) (entries : List Done) (starting : Starting) (a : ℕ)
    (who : Who) → IsStepWith v hold choice entries
    → winner_at v.run.trace (next_clock_of v) ≡ Some who → who ≡ Symmetric a
    → starting_for (step_performed v) (step_decided v hold).asked who ≡ Some starting
    → starting.locked ≡ wants_lock (past_of (run_with v hold choice entries)) a (next_clock_of v)
locked-for v hold choice entries starting a Priority b win e f = absurd (let no : ⊥ = cc in no)
locked-for v hold choice entries starting a (Symmetric x) b win e f =
    let same : x ≡ a = cc in
    let parts = wanted-parts (step_performed v) x (want_in (step_decided v hold).asked x) starting f in
    let want : Want = parts.0 in
    let few = winner-four v.run.trace (next_clock_of v) x win in
    sym (ap (λ (s : Starting). s.locked) parts.3) ∙ locked-told v hold choice entries x want b few parts.1
    ∙ ap (λ a. wants_lock (past_of (run_with v hold choice entries)) a (next_clock_of v)) same

pub locked-start : (v : BenchView) (hold : Bool) (choice : Choice) (entries : List Done) (starting : Starting)
    (a : ℕ) → IsStepWith v hold choice entries
    → (step_decided v hold).starting ≡ Some starting
    → is_begun_by (past_of (run_with v hold choice entries)) a (next_clock_of v) ≡ true
    → starting.locked ≡ is_locked_request (past_of (run_with v hold choice entries)) a (next_clock_of v)
locked-start v hold choice entries starting a b e begun =
    let r = v.run in
    let s = run_with v hold choice entries in
    let grows = b.grows in
    let size = longer r s grows in
    let parts = starting-parts (step_performed v) (winner_at r.trace (next_clock_of v)) (next_clock_of v)
    (asked_by (step_performed v) (next_clock_of v)) (was_held_at r.holds (next_clock_of v)) starting e in
    let win = begun-by-agent s a (next_clock_of v) (omega arith) begun in
    let one : Some parts.1 ≡ Some (Symmetric a) = sym parts.2 ∙ sym (winner-grown r s grows) ∙ win in
    let same : parts.1 ≡ Symmetric a = cc in
    locked-for v hold choice entries starting a parts.1 b parts.2 same parts.3
    ∙ sym (locked-if (past_of s) (past_of s) a (next_clock_of v) begun (past-now r s grows))
