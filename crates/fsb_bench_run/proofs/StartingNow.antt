-- What begins at the clock is what the winner of the run would begin there.
use Rattle.fsb_bench_run.proofs.Words
use Words.{ℕ, ◌≡◌, Bool, true, false, Option, Some, is_some, length, sym, ap, subst, ◌∙◌, arith, List, option_and_then}
use Words.{option_map, Want, Deferral, IsDeferralOf, IsThatOf, Request, Choice, agree-grown, GrowsTo, Run, past_of}
use Words.{past_to, run_to, due_number, reply_to, would_begin, want_of, run-ends, winner-four, winner_at, Who}
use Words.{Symmetric, Priority, winner_at-agree, Starting, step_decided, step_performed, was_held_at, asked_by}
use Words.{is_kept_from, may_start, starting_by, starting_for, starting_reply, starting_want, want_in, BenchView}
use Words.{BusView, next_clock_of, IsBegunAt, Done}
use Rattle.fsb_bench_view.specs.declared.decided.AskedFor.{AskedFor}
use Rattle.fsb_bench_run.proofs.AskedNow.{due-told, wants-told}
use Rattle.fsb_bench_run.proofs.ThisClock.{past-now}
use Rattle.fsb_bench_run.proofs.RunWith.{run_with}
use Rattle.fsb_bench_run.proofs.StepWith.{IsStepWith, begins-with}

pub and-some : {X Y : Type 0} (f : X → Option Y) (o : Option X) (y : Y) → option_and_then f o ≡ Some y
    → (x : X) × (o ≡ Some x) × (f x ≡ Some y)
and-some f o y h1 = grind arith

pub mapped-some : {X Y : Type 0} (f : X → Y) (o : Option X) (y : Y) → option_map f o ≡ Some y
    → (x : X) × (o ≡ Some x) × (f x ≡ y)
mapped-some f o y h1 = grind arith

-- it begins only where it may, and there is a winner
pub starting-parts : (bus : BusView) (winner : Option Who) (clock : ℕ) (asked : AskedFor) (held : Bool)
    (starting : Starting)
    → starting_by bus winner clock asked held ≡ Some starting
    → (may_start bus clock held ≡ true) × (who : Who) × (winner ≡ Some who)
    × (starting_for bus asked who ≡ Some starting)
starting-parts bus winner clock asked held starting e = grind arith

-- an agent's want begins
pub wanted-parts : (bus : BusView) (agent : ℕ) (o : Option Want) (starting : Starting)
    → option_and_then (starting_want bus agent) o ≡ Some starting
    → (want : Want) × (o ≡ Some want) × (is_kept_from bus agent want ≡ false)
    × (record { who = Symmetric agent; request = want.request; locked = want.locked } ≡ starting)
wanted-parts bus agent o starting h1 = grind arith

-- the winner of the longer run is that of the run
pub winner-grown : (r s : Run) → GrowsTo r s → winner_at s.trace (length r.trace) ≡ winner_at r.trace (length r.trace)
winner-grown r s grows = grind (arith, winner_at-agree, agree-grown)

-- what an agent would begin at the clock
would-symmetric : (r s : Run) (a : ℕ) (request : Request) → GrowsTo r s
    → want_of (past_of s) a (length r.trace) ≡ Some request
    → would_begin (run_to s (length r.trace)) (past_to (past_of s) (length r.trace)) (length r.trace)
    (Symmetric a) ≡ Some request
unfolding would_begin
would-symmetric r s a request grows e = ap (λ p. want_of p a (length r.trace)) (past-now r s grows) ∙ e

would-priority : (r s : Run) (i : ℕ) (deferral : Deferral) → GrowsTo r s
    → due_number s (past_of s) (length r.trace) ≡ Some i → IsDeferralOf s.trace deferral i
    → would_begin (run_to s (length r.trace)) (past_to (past_of s) (length r.trace)) (length r.trace) Priority
    ≡ Some (reply_to deferral.request)
unfolding would_begin
would-priority r s i deferral grows e k = grind (arith, run-ends, past-now)

-- the bench's due deferral is that of this request
due-of : (v : BenchView) (hold : Bool) (choice : Choice) (entries : List Done) (deferral : Deferral)
    → IsStepWith v hold choice entries
    → (step_decided v hold).asked.due ≡ Some deferral
    → (i : ℕ) × (due_number (run_with v hold choice entries) (past_of (run_with v hold choice entries))
    (next_clock_of v) ≡ Some i)
    × IsDeferralOf (run_with v hold choice entries).trace deferral i
due-of v hold choice entries deferral b e =
    subst (λ o. IsThatOf (run_with v hold choice entries).trace o
    (due_number (run_with v hold choice entries) (past_of (run_with v hold choice entries)) (next_clock_of v)))
    e (due-told v hold choice entries b)

abbrev begun_now : BenchView → Bool → Choice → List Done → Starting → Type 0
begun_now v hold choice entries starting =
    IsBegunAt (run_with v hold choice entries) (next_clock_of v) starting.who starting.request

begun-for : (v : BenchView) (hold : Bool) (choice : Choice) (entries : List Done) (starting : Starting)
    (who : Who) → IsStepWith v hold choice entries
    → (step_decided v hold).starting ≡ Some starting → winner_at v.run.trace (next_clock_of v) ≡ Some who
    → starting_for (step_performed v) (step_decided v hold).asked who ≡ Some starting
    → begun_now v hold choice entries starting
begun-for v hold choice entries starting (Symmetric a) b e win f =
    let r = v.run in
    let s = run_with v hold choice entries in
    let grows = b.grows in
    let parts = wanted-parts (step_performed v) a (want_in (step_decided v hold).asked a) starting f in
    let want : Want = parts.0 in
    let few = winner-four r.trace (next_clock_of v) a win in
    let told = sym (wants-told v hold choice entries a b few)
    ∙ ap (option_map (λ (want : Want). want.request)) parts.1 in
    let who = ap (λ (x : Starting). x.who) parts.3 in
    let request = ap (λ (x : Starting). x.request) parts.3 in
    subst (λ x. begun_now v hold choice entries x) parts.3 (record {
      begins = begins-with v hold choice entries ∙ ap is_some e;
      winner = winner-grown r s grows ∙ win;
      wanted = would-symmetric r s a want.request grows told;
    })
begun-for v hold choice entries starting Priority b e win f =
    let r = v.run in
    let s = run_with v hold choice entries in
    let grows = b.grows in
    let parts = mapped-some starting_reply (step_decided v hold).asked.due starting f in
    let deferral : Deferral = parts.0 in
    let due = due-of v hold choice entries deferral b parts.1 in
    subst (λ x. begun_now v hold choice entries x) parts.2 (record {
      begins = begins-with v hold choice entries ∙ ap is_some e;
      winner = winner-grown r s grows ∙ win;
      wanted = would-priority r s due.0 deferral grows due.1 due.2;
    })

pub starting-begins : (v : BenchView) (hold : Bool) (choice : Choice) (entries : List Done)
    (starting : Starting) → IsStepWith v hold choice entries
    → (step_decided v hold).starting ≡ Some starting
    → IsBegunAt (run_with v hold choice entries) (next_clock_of v) starting.who starting.request
starting-begins v hold choice entries starting b e =
    let parts = starting-parts (step_performed v) (winner_at v.run.trace (next_clock_of v)) (next_clock_of v)
    (asked_by (step_performed v) (next_clock_of v)) (was_held_at v.run.holds (next_clock_of v)) starting e in
    begun-for v hold choice entries starting parts.1 b e parts.2 parts.3
